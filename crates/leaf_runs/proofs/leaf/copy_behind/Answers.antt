use Rattle.std.proofs.Common.{[], arith}
use Rattle.leaf_runs.proofs.LeafLaw.{leaf_page_of}
use Rattle.leaf_runs.proofs.LeafReads.{count_is}
use Rattle.leaf_runs.proofs.Scans.{behind_at, behind_none}
use Rattle.leaf_runs.proofs.leaf.copy_behind.Goals as goal

pub returns : goal.returns
returns c = λ leaf there.
    let p = leaf_page_of c.args.page.now leaf there in
    let n = count_is _ _ p in
    let count = c.count_of.ensures.count p.page in
    behind_at leaf.rows c.args.after.now c.first_behind-at.result _ _ (c.first_behind-at.ensures leaf there) (c.copy_row.ensures leaf there (omega arith))

pub returns-then-at-count_of : goal.returns-then-at-count_of
returns-then-at-count_of c = λ leaf there.
    let p = leaf_page_of c.args.page.now leaf there in
    let n = count_is _ _ p in
    let count = c.count_of.ensures.count p.page in
    behind_none leaf.rows c.args.after.now c.first_behind-at.result [] [] (c.first_behind-at.ensures leaf there) (omega arith)
