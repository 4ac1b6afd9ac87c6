use Rattle.std.proofs.Common.{sym, subst}
use Rattle.redo_ring.specs.declared.open.LogStart.{LogStart}
use Rattle.db_kernel.specs.Reading.{IsLowStart}
use Rattle.db_kernel.proofs.Numbers.{low_start, low_numbers}
use Rattle.db_kernel.proofs.records.log_start.Goals as goal

pub returns-clause-low : goal.returns-clause-low
returns-clause-low c =
    subst (λ (start : LogStart). IsLowStart start) (sym c.start_by.ensures) (low_start c.args.restart.now c.args.info.now c.requires.pages (sym c.if-records_are_past.ensures))

pub returns-clause-numbers : goal.returns-clause-numbers
returns-clause-numbers c = low_numbers c.args.restart.now c.args.info.now (sym c.if-records_are_past.ensures)
