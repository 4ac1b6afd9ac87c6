use Rattle.std.proofs.Common.{ap, ◌∙◌}
use Rattle.std.specs.List.{list_any}
use Rattle.record_locks.proofs.Answering.{on_ok, failed}
use Rattle.record_locks.proofs.TablePlaces.{any-insert_key}
use Rattle.record_locks.proofs.place_set.insert_key.Goals as goal
use Rattle.record_locks.proofs.place_set.insert_key.Goals.{in-Ok, in-Err}

pub returns-clause-ok : goal.returns-clause-ok
returns-clause-ok c =
    elim c.match-insert.branch [
      | in-Ok w ↦ on_ok _ c.match-insert.result (λ test.
          ap (list_any test) w.in-Ok.ensures.keys
          ∙ any-insert_key test c.args.keys.now.keys c.args.key)
      | in-Err w ↦ failed _ c.match-insert.result _ w.result-is
    ]
