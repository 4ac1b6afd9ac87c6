use Rattle.std.proofs.Common.{sym, ap, ◌∙◌, ◌==◌}
use Rattle.std.specs.List.{list_any}
use Rattle.record_locks.proofs.TablePlaces.{keys_in, any-key, any-of_table}
use Rattle.record_locks.proofs.place_set.has_keys.Goals as goal

pub returns-in-Some : goal.returns-in-Some
returns-in-Some c =
    let t = c.args.table in
    let es = c.args.tables.now.entries in
    any-of_table t.0 c.in-Some.keys.now c.is_empty.result c.is_empty.ensures
    ∙ ap (λ o. list_any (λ k. t.0 == t.0) (keys_in o)) c.in-Some.ensures.value
    ∙ sym (any-key t (λ place. t.0 == place.0) (λ place other. other) es c.requires)

pub returns-in-None : goal.returns-in-None
returns-in-None c =
    let t = c.args.table in
    let es = c.args.tables.now.entries in
    ap (λ o. list_any (λ k. t.0 == t.0) (keys_in o)) c.in-None.ensures.value
    ∙ sym (any-key t (λ place. t.0 == place.0) (λ place other. other) es c.requires)
