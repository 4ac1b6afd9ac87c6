use Rattle.std.proofs.Common.{arith}
use Rattle.leaf_runs.proofs.Gets.{table_limits, table_run}
use Rattle.leaf_runs.proofs.PageBound.{entry_cost}
use Rattle.leaf_runs.proofs.NewRuns.{run_small}
use Rattle.leaf_runs.proofs.Places.{catalogue_some}
use Rattle.leaf_runs.proofs.reading.cost.Goals as goal

pub returns-clause-cost : goal.returns-clause-cost
returns-clause-cost g c = λ known r.
    let m = g.P.Pages.pages c.args.pages.now in
    let t = table_limits c.args.table.0 c.requires in
    entry_cost m r c.args.table.0 c.in_ok-entry.entry t.0 t.1 (table_run m c.args.table.0 c.in_ok-entry.entry r t.0 t.1 (c.in_ok-entry.ensures.entry known (catalogue_some m r)))

pub returns-clause-small : goal.returns-clause-small
returns-clause-small g c = λ known r.
    let m = g.P.Pages.pages c.args.pages.now in
    let t = table_limits c.args.table.0 c.requires in
    let small = run_small m c.args.table.0 c.in_ok-entry.entry (r.runs c.args.table.0) (table_run m c.args.table.0 c.in_ok-entry.entry r t.0 t.1 (c.in_ok-entry.ensures.entry known (catalogue_some m r))) in
    omega (arith, small.1)
