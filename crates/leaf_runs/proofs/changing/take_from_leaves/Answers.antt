use Rattle.std.proofs.Common.{arith}
use Rattle.leaf_runs.proofs.Causes.{cause_through}
use Rattle.leaf_runs.proofs.NewRuns.{here_run, has_here, taken_here, taken_changed, taken_ends}
use Rattle.leaf_runs.proofs.changing.take_from_leaves.Goals as goal

pub returns-in_err-take_in_run-clause-cause : goal.returns-in_err-take_in_run-clause-cause
returns-in_err-take_in_run-clause-cause g c =
    let h = c.in_err-take_in_run.ensures.cause in
    cause_through (g.P.Pages.faults c.args.pages.now) (g.P.Pages.faults c.args.pages.now) (g.P.Pages.faults c.take_in_run.new.pages) c.in_err-take_in_run.field-0.0 c.from_residual.result
    c.from_residual.ensures.1 (omega arith) h.later h.failed
    (λ k.
    let m = g.P.Pages.pages c.args.pages.now in
    let f = k.1 in
    h.whole (k.0, has_here m c.args.table.0 c.args.entry f.0 f.1 c.args.key.now c.args.found.spot.before c.args.found.spot.page f.2.spot))

pub returns-in_err-joined-clause-cause : goal.returns-in_err-joined-clause-cause
returns-in_err-joined-clause-cause g c =
    let h = c.in_err-joined.ensures.cause in
    cause_through (g.P.Pages.faults c.args.pages.now) (g.P.Pages.faults c.take_in_run.new.pages) (g.P.Pages.faults c.settle.new.pages) c.in_err-joined.field-0.0 c.from_residual-in_err-joined.result
    c.from_residual-in_err-joined.ensures.1 c.take_in_run.ensures.cause.later h.later h.failed
    (λ k.
    let m = g.P.Pages.pages c.args.pages.now in
    let m1 = g.P.Pages.pages c.take_in_run.new.pages in
    let f = k.1 in
    let spot = f.2.spot in
    let run = here_run m c.args.table.0 c.args.entry f.0 f.1 c.args.key.now c.args.found.spot.before c.args.found.spot.page spot in
    let rewrites = c.in_ok-take_in_run.ensures.taken k.0 spot.front spot.here spot.back run spot.page_is in
    h.whole (
      c.in_ok-take_in_run.ensures.known k.0,
      (
        spot.front,
        taken_here m c.args.table.0 c.args.entry f.0 f.1 c.args.key.now c.args.found.spot.before c.args.found.spot.page spot m1 rewrites,
        spot.back,
        taken_changed m c.args.table.0 c.args.entry f.0 f.1 c.args.key.now c.args.found.spot.before c.args.found.spot.page spot m1 rewrites,
      ),
    ))

pub returns-clause-taken : goal.returns-clause-taken
returns-clause-taken g c = λ known leaves whole found.
    let m = g.P.Pages.pages c.args.pages.now in
    let m1 = g.P.Pages.pages c.take_in_run.new.pages in
    let m2 = g.P.Pages.pages c.settle.new.pages in
    let spot = found.spot in
    let run = here_run m c.args.table.0 c.args.entry leaves whole c.args.key.now c.args.found.spot.before c.args.found.spot.page spot in
    let rewrites = c.in_ok-take_in_run.ensures.taken known spot.front spot.here spot.back run spot.page_is in
    let changed = taken_changed m c.args.table.0 c.args.entry leaves whole c.args.key.now c.args.found.spot.before c.args.found.spot.page spot m1 rewrites in
    let settled =
    c.in_ok-joined.ensures.settled (c.in_ok-take_in_run.ensures.known known) spot.front
    (taken_here m c.args.table.0 c.args.entry leaves whole c.args.key.now c.args.found.spot.before c.args.found.spot.page spot m1 rewrites) spot.back changed in
    taken_ends m m1 m2 c.args.table.0 c.args.entry c.recount.result leaves whole c.args.key.now c.args.found.spot.before c.args.found.spot.page c.args.found.cost found rewrites c.in_ok-joined.joined settled c.recount.ensures.root c.recount.ensures.pages
    c.recount.ensures.cost
