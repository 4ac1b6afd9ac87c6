use Rattle.leaf_runs.proofs.Gets.{table_limits, table_run}
use Rattle.leaf_runs.proofs.PageBound.{page_bound}
use Rattle.leaf_runs.proofs.Places.{catalogue_some}
use Rattle.leaf_runs.proofs.reading.pages.Goals as goal

pub returns-clause-bound : goal.returns-clause-bound
returns-clause-bound g c = λ known r.
    let m = g.P.Pages.pages c.args.pages.now in
    let t = table_limits c.args.table.0 c.requires in
    page_bound m r c.args.table.0 c.in_ok-entry.entry t.0 t.1 (table_run m c.args.table.0 c.in_ok-entry.entry r t.0 t.1 (c.in_ok-entry.ensures.entry known (catalogue_some m r)))

pub returns-clause-count : goal.returns-clause-count
returns-clause-count g c = λ known r.
    let m = g.P.Pages.pages c.args.pages.now in
    let t = table_limits c.args.table.0 c.requires in
    (table_run m c.args.table.0 c.in_ok-entry.entry r t.0 t.1 (c.in_ok-entry.ensures.entry known (catalogue_some m r))).count
