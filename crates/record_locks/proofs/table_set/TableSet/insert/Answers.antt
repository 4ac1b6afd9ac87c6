use Rattle.std.proofs.Common.{sym, ap, ◌∙◌, ◌||◌, ◌==◌, ℕ, List, map}
use Rattle.std.specs.List.{list_any}
use Rattle.record_locks.specs.LockedTables.{table_number}
use Rattle.record_locks.proofs.Answering.{on_ok, on_err, failed, passed}
use Rattle.record_locks.proofs.TablePlaces.{any-insert_table, any-number}
use Rattle.record_locks.proofs.table_set.TableSet.insert.Goals as goal
use Rattle.record_locks.proofs.table_set.TableSet.insert.Goals.{in-Ok, in-Err}

pub returns-clause-ok : goal.returns-clause-ok
returns-clause-ok c =
    elim c.match-insert.branch [
      | in-Ok w ↦ on_ok _ c.match-insert.result (λ test.
          ap (λ ts. list_any test (map table_number ts)) w.in-Ok.ensures.keys
          ∙ any-insert_table test c.self.inside.tables.keys c.args.table
          ∙ ap (λ (tables : List ℕ). list_any test tables || test c.args.table.0) c.self.view_is)
      | in-Err w ↦ failed _ c.match-insert.result _ w.result-is
    ]

pub returns-clause-wanting : goal.returns-clause-wanting
returns-clause-wanting c =
    elim c.match-insert.branch [
      | in-Ok w ↦ passed _ c.match-insert.result _ w.result-is
      | in-Err w ↦ on_err _ c.match-insert.result
          (ap (λ (tables : List ℕ). list_any (λ other. c.args.table.0 == other) tables) (sym c.self.view_is)
          ∙ sym (any-number c.args.table c.self.inside.tables.keys)
          ∙ w.in-Err.ensures.absent)
    ]
