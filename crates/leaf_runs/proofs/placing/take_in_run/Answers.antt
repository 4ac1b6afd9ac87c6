use Rattle.std.proofs.Common.{arith}
use Rattle.leaf_runs.proofs.Causes.{cause_through}
use Rattle.leaf_runs.proofs.PlacedRows.{taken_run, has_here, here_leaf}
use Rattle.leaf_runs.proofs.placing.take_in_run.Goals as goal

pub returns-in_err-take_off_leaf-clause-cause : goal.returns-in_err-take_off_leaf-clause-cause
returns-in_err-take_off_leaf-clause-cause g c =
    let h = c.in_err-take_off_leaf.ensures.cause in
    cause_through (g.P.Pages.faults c.args.pages.now) (g.P.Pages.faults c.args.pages.now) (g.P.Pages.faults c.take_off_leaf.new.pages) c.in_err-take_off_leaf.field-0.0 c.from_residual.result
    c.from_residual.ensures.1 (omega arith) h.later h.failed (λ k. h.whole (k.0, has_here (g.P.Pages.pages c.args.pages.now) c.args.table.0 c.args.page k.1))

pub returns-clause-taken : goal.returns-clause-taken
returns-clause-taken g c = λ known front here back run same.
    let t = c.in_ok-take_off_leaf.ensures.taken known (here_leaf (g.P.Pages.pages c.args.pages.now) c.args.table.0 c.args.page front here back run same) in
    taken_run (g.P.Pages.pages c.args.pages.now) c.args.table.0 c.args.page front here back run same (g.P.Pages.pages c.take_off_leaf.new.pages) t.0 c.args.key.now t.1 t.3
