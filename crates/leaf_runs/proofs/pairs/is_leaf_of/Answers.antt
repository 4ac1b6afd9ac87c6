use Rattle.mdb_bytes.proofs.Booleans.{refused, passed}
use Rattle.leaf_runs.proofs.LeafEdits.{leaf_named_by, no_leaf_named}
use Rattle.leaf_runs.proofs.pairs.is_leaf_of.Goals as goal

pub returns-then-not-check_row_leaf : goal.returns-then-not-check_row_leaf
returns-then-not-check_row_leaf c = no_leaf_named c.args.table.0 c.args.number c.args.page.now (refused c.check_row_leaf.ensures c.if-not-check_row_leaf.true)

pub returns : goal.returns
returns c =
    leaf_named_by c.args.table.0 c.args.number c.args.page.now c.page_head.result c.is_named.result
    (passed c.check_row_leaf.ensures c.if-not-check_row_leaf.false) c.page_head.ensures.row_leaf c.is_named.ensures
