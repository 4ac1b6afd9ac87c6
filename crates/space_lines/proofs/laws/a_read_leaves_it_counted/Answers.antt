use Rattle.std.proofs.Common.{refl}
use Rattle.mdb_model.specs.declared.script.Command.TheVariants.{GetRow, ScanTable}
use Rattle.mdb_model.specs.Worlds.{ShareKey, ShareTable}
use Rattle.space_lines.proofs.LocksOnly.{entry_counted}
use Rattle.space_lines.proofs.laws.a_read_leaves_it_counted.Goals as goal

pub returns-clause-row : goal.returns-clause-row
returns-clause-row c known w after session table key answer is inside counted entry =
    entry_counted known (GetRow session table key) session.0 (ShareKey (table.0, key)) (record { done_is = λ u facts. refl; no_medium = λ u facts. refl; no_restart = refl }) is w after answer inside counted entry

pub returns-clause-table : goal.returns-clause-table
returns-clause-table c known w after session table answer is inside counted entry =
    entry_counted known (ScanTable session table) session.0 (ShareTable table.0) (record { done_is = λ u facts. refl; no_medium = λ u facts. refl; no_restart = refl }) is w after answer inside counted entry
