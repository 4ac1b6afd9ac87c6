use Rattle.leaf_runs.proofs.LeafLaw.{run_leaf_head}
use Rattle.leaf_runs.proofs.leaf.may_be_run_leaf.Goals as goal

pub returns-then-is_leaf_head : goal.returns-then-is_leaf_head
returns-then-is_leaf_head c = λ l. let h = run_leaf_head c.args.table.0 c.args.number c.args.page.now c.page_head-head.result c.page_head-head.ensures.row_leaf l in c.names.ensures.1 h.1

pub returns-else-is_leaf_head : goal.returns-else-is_leaf_head
returns-else-is_leaf_head c = λ l. let h = run_leaf_head c.args.table.0 c.args.number c.args.page.now c.page_head-head.result c.page_head-head.ensures.row_leaf l in c.is_leaf_head.ensures.1 h.0
