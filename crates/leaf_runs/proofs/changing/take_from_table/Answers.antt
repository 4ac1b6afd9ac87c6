use Rattle.leaf_runs.proofs.Causes.{if_ok}
use Rattle.leaf_runs.proofs.NewRuns.{new_after}
use Rattle.leaf_runs.proofs.changing.take_from_table.Goals as goal

pub returns-clause-made : goal.returns-clause-made
returns-clause-made g c = λ known leaves whole found.
    let t = c.in_ok-left.ensures.taken known leaves whole found in
    let k = c.in_ok-left.ensures.known known in
    if_ok _ _ c.drop_if_empty.result
    (λ entry n. new_after (g.P.Pages.pages c.args.pages.now) (g.P.Pages.pages c.take_from_leaves.new.pages) _ c.args.table.0 _ c.in_ok-left.left entry t n)
    (c.drop_if_empty.ensures.left k c.args.table.0 t.leaves t.settled)
