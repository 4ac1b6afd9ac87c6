use Rattle.mdb_bytes.proofs.Booleans.{refused, passed}
use Rattle.leaf_runs.proofs.LeafLaw.{run_leaf_by, no_run_leaf}
use Rattle.leaf_runs.proofs.leaf.is_run_leaf.Goals as goal

pub returns-then-not-check_row_leaf : goal.returns-then-not-check_row_leaf
returns-then-not-check_row_leaf c = no_run_leaf c.args.table.0 c.args.number c.args.page.now (refused c.check_row_leaf.ensures c.if-not-check_row_leaf.true)

pub returns : goal.returns
returns c =
    run_leaf_by c.args.table.0 c.args.number c.args.page.now c.page_head.result c.names.result
    (passed c.check_row_leaf.ensures c.if-not-check_row_leaf.false) c.page_head.ensures.row_leaf c.names.ensures
