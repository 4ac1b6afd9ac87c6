use Rattle.std.proofs.Common.{rules}
use Rattle.leaf_runs.proofs.Places.{leaf_there, named_here}
use Rattle.leaf_runs.proofs.PageSteps.{put_on}
use Rattle.leaf_runs.proofs.writing.put_on_leaf.Goals as goal

pub returns-clause-put : goal.returns-clause-put
returns-clause-put g c = λ known has.
    let m = g.P.Pages.pages c.args.pages.now in
    let there = c.in_ok-bytes.ensures.bytes known in
    let l = named_here m c.args.table.0 c.args.page c.in_ok-bytes.bytes.now there has in
    let n = l.1 in
    let w = (c.write.follows.holds _ (search rules)).0 in (
      l.0,
      leaf_there m c.args.page c.in_ok-bytes.bytes.now l.0 there n.0,
      put_on c.put_row.result m _ c.args.page _ l.0 c.args.key.now c.args.value.now (w.written known).1 (c.put_row.ensures l.0 n.0),
    )
