use Rattle.std.proofs.Common.{ap, ◌∙◌, ◌||◌}
use Rattle.std.specs.List.{list_any}
use Rattle.record_locks.specs.LockedPlaces.{all_places}
use Rattle.record_locks.proofs.TablePlaces.{any-put}
use Rattle.record_locks.proofs.place_set.add_table.Goals as goal

pub returns-in-Ok-clause-ok : goal.returns-in-Ok-clause-ok
returns-in-Ok-clause-ok c = λ test.
    ap (λ tables. list_any test (all_places tables)) c.in-Ok.ensures.entries
    ∙ any-put c.args.table c.insert_key.new.keys c.args.key test (λ any.
    c.in_ok-insert_key.ensures.ok any
    ∙ ap (λ ks. list_any any ks || any c.args.key) c.new-keys.ensures.empty)
    c.args.tables.now.entries c.requires.absent
