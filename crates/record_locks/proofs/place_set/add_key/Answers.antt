use Rattle.std.proofs.Common.{sym, ap, ◌∙◌, ◌||◌, is_some}
use Rattle.std.specs.List.{list_any}
use Rattle.record_locks.specs.LockedPlaces.{all_places}
use Rattle.record_locks.proofs.Answering.{on_ok-more, on_err-more}
use Rattle.record_locks.proofs.TablePlaces.{keys_in, any-set, same-set}
use Rattle.record_locks.proofs.place_set.add_key.Goals as goal

pub returns-in-Some-clause-ok : goal.returns-in-Some-clause-ok
returns-in-Some-clause-ok c =
    let now = c.insert_key.new.keys in
    on_ok-more _ _ c.insert_key.result (λ adds test.
    ap (λ tables. list_any test (all_places tables)) (c.get_mut.follows.holds now).0
    ∙ any-set c.args.table now c.args.key test c.args.tables.now.entries
    (sym (ap is_some c.in-Some.ensures.value)) (λ any.
    adds any ∙ ap (λ keys. list_any any (keys_in keys) || any c.args.key) c.in-Some.ensures.value))
    c.insert_key.ensures.ok

pub returns-in-Some-clause-err : goal.returns-in-Some-clause-err
returns-in-Some-clause-err c =
    let now = c.insert_key.new.keys in
    on_err-more _ _ c.insert_key.result (λ same.
    ap (λ tables. all_places tables) (c.get_mut.follows.holds now).0
    ∙ same-set c.args.table now c.args.tables.now.entries
    (same ∙ ap keys_in c.in-Some.ensures.value)) c.insert_key.ensures.err
