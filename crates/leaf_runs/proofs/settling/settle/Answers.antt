use Rattle.std.proofs.Common.{◌+◌, ◌++◌, arith}
use Rattle.leaf_runs.proofs.Causes.{cause_through}
use Rattle.leaf_runs.proofs.SettledRuns.{other_here, half_here, before_here, half_tried, whole_tried, settled_by}
use Rattle.leaf_runs.proofs.settling.settle.Goals as goal

pub returns-in_err-behind-clause-cause : goal.returns-in_err-behind-clause-cause
returns-in_err-behind-clause-cause g c =
    let m = g.P.Pages.pages c.args.pages.now in
    let h = c.in_err-behind.ensures.cause in
    cause_through (g.P.Pages.faults c.args.pages.now) (g.P.Pages.faults c.args.pages.now) (g.P.Pages.faults c.join_some.new.pages) c.in_err-behind.field-0.0 c.from_residual.result c.from_residual.ensures.1
    (omega arith) h.later h.failed
    (λ k. (let r = k.1 in h.whole (k.0, other_here m c.args.table.0 r.0 r.1 r.2 c.args.before c.args.page c.args.other r.3)))

pub returns-in_err-here-clause-cause : goal.returns-in_err-here-clause-cause
returns-in_err-here-clause-cause g c =
    let m = g.P.Pages.pages c.args.pages.now in
    let m1 = g.P.Pages.pages c.join_some.new.pages in
    let h = c.in_err-here.ensures.cause in
    cause_through (g.P.Pages.faults c.args.pages.now) (g.P.Pages.faults c.join_some.new.pages) (g.P.Pages.faults c.join_some-2.new.pages) c.in_err-here.field-0.0 c.from_residual-in_err-here.result
    c.from_residual-in_err-here.ensures.1 c.join_some.ensures.cause.later h.later h.failed
    (λ k. (let r = k.1 in
    let half = half_tried m m1 c.args.table.0 r.0 r.1 r.2 c.args.before c.args.page c.args.other c.in_ok-behind.behind r.3 (c.in_ok-behind.ensures.tried k.0) in
    h.whole (c.in_ok-behind.ensures.known k.0, half_here m m1 c.args.table.0 r.0 r.1 r.2 c.args.page c.in_ok-behind.behind half)))

pub returns-in_err-ahead-clause-cause : goal.returns-in_err-ahead-clause-cause
returns-in_err-ahead-clause-cause g c =
    let m = g.P.Pages.pages c.args.pages.now in
    let m1 = g.P.Pages.pages c.join_some.new.pages in
    let m2 = g.P.Pages.pages c.join_some-2.new.pages in
    let h = c.in_err-ahead.ensures.cause in
    cause_through (g.P.Pages.faults c.args.pages.now) (g.P.Pages.faults c.join_some-2.new.pages) (g.P.Pages.faults c.join_some-3.new.pages) c.in_err-ahead.field-0.0 c.from_residual-in_err-ahead.result
    c.from_residual-in_err-ahead.ensures.1 (omega (arith, c.join_some.ensures.cause.later, c.join_some-2.ensures.cause.later)) h.later h.failed
    (λ k. (let r = k.1 in
    let known = c.in_ok-behind.ensures.known k.0 in
    let half = half_tried m m1 c.args.table.0 r.0 r.1 r.2 c.args.before c.args.page c.args.other c.in_ok-behind.behind r.3 (c.in_ok-behind.ensures.tried k.0) in
    let whole = whole_tried m m1 c.args.table.0 r.0 r.1 r.2 c.args.page c.in_ok-behind.behind half m2 c.in_ok-here.here (c.in_ok-here.ensures.tried known) in
    h.whole (c.in_ok-here.ensures.known known, before_here m m2 c.args.table.0 r.0 (r.1 ++ r.2) c.args.before (c.in_ok-behind.behind + c.in_ok-here.here) r.3.before_is whole)))

pub returns-in_err-ahead-clause-follows : goal.returns-in_err-ahead-clause-follows
returns-in_err-ahead-clause-follows g c =
    g.P.Pages.follows_on _ _ _ (g.P.Pages.follows_on _ _ _ c.join_some.ensures.follows c.join_some-2.ensures.follows) c.join_some-3.ensures.follows

pub returns-clause-settled : goal.returns-clause-settled
returns-clause-settled g c = λ known front parts back changed.
    let m = g.P.Pages.pages c.args.pages.now in
    let m1 = g.P.Pages.pages c.join_some.new.pages in
    let m2 = g.P.Pages.pages c.join_some-2.new.pages in
    let m3 = g.P.Pages.pages c.join_some-3.new.pages in
    let known1 = c.in_ok-behind.ensures.known known in
    let known2 = c.in_ok-here.ensures.known known1 in
    let half = half_tried m m1 c.args.table.0 front parts back c.args.before c.args.page c.args.other c.in_ok-behind.behind changed (c.in_ok-behind.ensures.tried known) in
    let whole = whole_tried m m1 c.args.table.0 front parts back c.args.page c.in_ok-behind.behind half m2 c.in_ok-here.here (c.in_ok-here.ensures.tried known1) in
    settled_by m m2 c.args.table.0 m3 (parts ++ back) (c.in_ok-behind.behind + c.in_ok-here.here) c.in_ok-ahead.ahead front c.args.before changed.filled_front changed.before_is whole
    (c.in_ok-ahead.ensures.tried known2)

pub returns-clause-follows : goal.returns-clause-follows
returns-clause-follows g c =
    g.P.Pages.follows_on _ _ _ (g.P.Pages.follows_on _ _ _ c.join_some.ensures.follows c.join_some-2.ensures.follows) c.join_some-3.ensures.follows
