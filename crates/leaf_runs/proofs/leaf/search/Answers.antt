use Rattle.leaf_runs.proofs.LeafLaw.{leaf_page_of}
use Rattle.leaf_runs.proofs.LeafReads.{found_at}
use Rattle.leaf_runs.proofs.leaf.search.Goals as goal

pub returns : goal.returns
returns c = λ leaf there. let p = leaf_page_of c.args.page.now leaf there in found_at c.args.page.now leaf p c.args.key.now c.find.result (c.find.ensures p.page)
