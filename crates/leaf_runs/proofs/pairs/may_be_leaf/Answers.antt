use Rattle.leaf_runs.proofs.LeafEdits.{named_leaf_head}
use Rattle.leaf_runs.proofs.pairs.may_be_leaf.Goals as goal

pub returns-then-is_leaf_head : goal.returns-then-is_leaf_head
returns-then-is_leaf_head c = λ leaf named.
    let h = named_leaf_head c.args.table.0 c.args.number c.args.page.now c.page_head-head.result c.page_head-head.ensures.row_leaf leaf named in c.is_named.ensures.1 h.1

pub returns-else-is_leaf_head : goal.returns-else-is_leaf_head
returns-else-is_leaf_head c = λ leaf named.
    let h = named_leaf_head c.args.table.0 c.args.number c.args.page.now c.page_head-head.result c.page_head-head.ensures.row_leaf leaf named in c.is_leaf_head.ensures.1 h.0
