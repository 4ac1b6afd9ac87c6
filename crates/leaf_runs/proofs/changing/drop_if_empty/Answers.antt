use Rattle.std.proofs.Common.{refl, ◌≡◌, ◌<◌, arith}
use Rattle.leaf_runs.proofs.NewRuns.{new_kept, new_dropped, only_run, many_cost}
use Rattle.leaf_runs.proofs.changing.drop_if_empty.Goals as goal
use Rattle.leaf_runs.proofs.changing.drop_if_empty.Goals.{then-entry-gt1-via-then-entry-gt1, then-entry-gt1-via-else-entry-gt1+then-entry-gt0}

pub returns-then-entry-gt1-clause-left : goal.returns-then-entry-gt1-clause-left
returns-then-entry-gt1-clause-left g c = λ known table leaves run.
    let some : 0 < c.args.entry.cost =
    elim c.then-entry-gt1.branch [
      | then-entry-gt1-via-then-entry-gt1 w ↦ many_cost (g.P.Pages.pages c.args.pages.now) table c.args.entry leaves run w.if-entry-gt1.true
      | then-entry-gt1-via-else-entry-gt1+then-entry-gt0 w ↦ w.if-entry-gt0.true
    ] in
    new_kept (g.P.Pages.pages c.args.pages.now) table c.args.entry leaves run some

pub returns-clause-left : goal.returns-clause-left
returns-clause-left g c = λ known table leaves run.
    let none : c.args.entry.cost ≡ 0 = omega (arith, c.if-entry-gt0.false) in
    let only = only_run (g.P.Pages.pages c.args.pages.now) table c.args.entry leaves run none in
    new_dropped (g.P.Pages.pages c.args.pages.now) (g.P.Pages.pages c.drop_leaf.new.pages) table c.args.entry _ leaves run none
    (c.in_ok-drop_leaf.ensures.dropped known table only.0 only.1 only.2) refl
