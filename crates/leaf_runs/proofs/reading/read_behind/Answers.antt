use Rattle.leaf_runs.proofs.LeafLaw.{leaf_page_of}
use Rattle.leaf_runs.proofs.LeafReads.{next_is}
use Rattle.leaf_runs.proofs.Places.{leaf_there, run_leaf_here}
use Rattle.leaf_runs.proofs.reading.read_behind.Goals as goal

pub returns-clause-found : goal.returns-clause-found
returns-clause-found g c = λ known has.
    let m = g.P.Pages.pages c.args.pages.now in
    let there = c.in_ok-bytes.ensures.bytes known in
    let l = run_leaf_here m c.args.table.0 c.args.page c.in_ok-bytes.bytes.now there has in (
      l.leaf,
      leaf_there m c.args.page c.in_ok-bytes.bytes.now l.leaf there l.there,
      next_is c.in_ok-bytes.bytes.now l.leaf (leaf_page_of _ _ l.there) _ c.next_of.ensures,
      c.copy_behind.ensures l.leaf l.there,
    )
