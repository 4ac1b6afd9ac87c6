use Rattle.std.proofs.Common.{◌∙◌}
use Rattle.leaf_runs.proofs.LeafLaw.{leaf_page_of}
use Rattle.leaf_runs.proofs.LeafReads.{next_is}
use Rattle.leaf_runs.proofs.LeafEdits.{page_cost}
use Rattle.leaf_runs.proofs.Places.{leaf_there, named_here}
use Rattle.leaf_runs.proofs.settling.used_and_next.Goals as goal

pub returns-clause-filled : goal.returns-clause-filled
returns-clause-filled g c = λ known has.
    let m = g.P.Pages.pages c.args.pages.now in
    let there = c.in_ok-bytes.ensures.bytes known in
    let l = named_here m c.args.table.0 c.args.page c.in_ok-bytes.bytes.now there has in
    let n = l.1 in
    let p = leaf_page_of c.in_ok-bytes.bytes.now l.0 n.0 in (
      l.0,
      (leaf_there m c.args.page c.in_ok-bytes.bytes.now l.0 there n.0, n.1, n.2),
      c.used_of.ensures.used p.page ∙ page_cost c.in_ok-bytes.bytes.now l.0 p,
      next_is c.in_ok-bytes.bytes.now l.0 p _ c.next_of.ensures,
    )
