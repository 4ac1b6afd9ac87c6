use Rattle.std.proofs.Common.{rules}
use Rattle.leaf_runs.proofs.Places.{leaf_there, named_here}
use Rattle.leaf_runs.proofs.PageSteps.{sets_leaf}
use Rattle.leaf_runs.proofs.writing.take_off_leaf.Goals as goal

pub returns-clause-taken : goal.returns-clause-taken
returns-clause-taken g c = λ known has.
    let m = g.P.Pages.pages c.args.pages.now in
    let there = c.in_ok-bytes.ensures.bytes known in
    let l = named_here m c.args.table.0 c.args.page c.in_ok-bytes.bytes.now there has in
    let n = l.1 in
    let w = (c.write.follows.holds _ (search rules)).0 in
    let d = c.del_row.ensures l.0 n.0 in (
      l.0,
      leaf_there m c.args.page c.in_ok-bytes.bytes.now l.0 there n.0,
      d.0,
      sets_leaf m _ c.args.page _ _ (w.written known).1 d.1,
    )
