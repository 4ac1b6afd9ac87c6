use Rattle.std.proofs.Common.{sym, ap, ◌∙◌}
use Rattle.std.specs.List.{list_any}
use Rattle.mdb_model.specs.Sessions.{same_place}
use Rattle.record_locks.proofs.TablePlaces.{keys_in, any-key, same-key, other-place}
use Rattle.record_locks.proofs.place_set.has_key.Goals as goal

pub returns-in-Some : goal.returns-in-Some
returns-in-Some c =
    let t = c.args.table in
    let es = c.args.tables.now.entries in
    let key = c.args.key.now in
    c.contains.ensures
    ∙ same-key t.0 key c.in-Some.keys.now.keys
    ∙ ap (λ o. list_any (λ k. same_place (t.0, key) (t.0, k)) (keys_in o)) c.in-Some.ensures.value
    ∙ sym (any-key t (same_place (t.0, key)) (other-place t.0 key) es c.requires)

pub returns-in-None : goal.returns-in-None
returns-in-None c =
    let t = c.args.table in
    let es = c.args.tables.now.entries in
    let key = c.args.key.now in
    ap (λ o. list_any (λ k. same_place (t.0, key) (t.0, k)) (keys_in o)) c.in-None.ensures.value
    ∙ sym (any-key t (same_place (t.0, key)) (other-place t.0 key) es c.requires)
