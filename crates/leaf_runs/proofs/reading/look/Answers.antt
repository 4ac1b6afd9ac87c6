use Rattle.leaf_runs.proofs.Places.{leaf_there, run_leaf_here}
use Rattle.leaf_runs.proofs.reading.look.Goals as goal

pub returns-clause-seen : goal.returns-clause-seen
returns-clause-seen g c = λ known has.
    let m = g.P.Pages.pages c.args.pages.now in
    let there = c.in_ok-bytes.ensures.bytes known in
    let l = run_leaf_here m c.args.table.0 c.args.page c.in_ok-bytes.bytes.now there has in
    (l.leaf, leaf_there m c.args.page c.in_ok-bytes.bytes.now l.leaf there l.there, c.see.ensures l.leaf l.there l.has_rows)
