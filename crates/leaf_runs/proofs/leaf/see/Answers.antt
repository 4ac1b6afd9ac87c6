use Rattle.leaf_runs.proofs.LeafLaw.{leaf_page_of}
use Rattle.leaf_runs.proofs.LeafReads.{next_is}
use Rattle.leaf_runs.proofs.leaf.see.Goals as goal

pub returns : goal.returns
returns c = λ leaf there some. (c.stands_here.ensures leaf there some, next_is c.args.page.now leaf (leaf_page_of _ _ there) _ c.next_of.ensures)
