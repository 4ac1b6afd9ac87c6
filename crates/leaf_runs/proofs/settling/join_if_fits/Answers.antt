use Rattle.std.proofs.Common.{◌∙◌, sym, subst, arith}
use Rattle.mdb_bytes.specs.Paged.{PageBytes}
use Rattle.leaf_runs.specs.Steps.{HasLeaf, MayJoin}
use Rattle.leaf_runs.specs.Tries.{IsFilled}
use Rattle.leaf_runs.proofs.Causes.{cause_through}
use Rattle.leaf_runs.proofs.JoinedRuns.{JoinsTo, run_leaf, next_leaf, next_apart, may_join, try_alone, try_full, try_joined}
use Rattle.leaf_runs.proofs.settling.join_if_fits.Goals as goal

pub returns-in_err-here-clause-cause : goal.returns-in_err-here-clause-cause
returns-in_err-here-clause-cause g c =
    let m = g.P.Pages.pages c.args.pages.now in
    let h = c.in_err-here.ensures.cause in
    cause_through (g.P.Pages.faults c.args.pages.now) (g.P.Pages.faults c.args.pages.now) (g.P.Pages.faults c.used_and_next.new.pages) c.in_err-here.field-0.0 c.from_residual.result c.from_residual.ensures.1
    (omega arith) h.later h.failed (λ k. h.whole (k.0, run_leaf m c.args.table.0 c.args.first k.1.front k.1.here k.1.page_is k.1.back k.1.run))

pub returns-then-here-eq0-clause-joined : goal.returns-then-here-eq0-clause-joined
returns-then-here-eq0-clause-joined g c = λ known front here back run page_is filling.
    let m = g.P.Pages.pages c.args.pages.now in
    try_alone m c.args.table.0 c.args.first front here page_is c.in_ok-here.here (c.in_ok-here.ensures.filled known (run_leaf m c.args.table.0 c.args.first front here page_is back run)) back run c.if-here-eq0.true (g.P.Pages.pages c.used_and_next.new.pages)
    (c.in_ok-here.ensures.same known).1

pub returns-in_err-there-clause-cause : goal.returns-in_err-there-clause-cause
returns-in_err-there-clause-cause g c =
    let m = g.P.Pages.pages c.args.pages.now in
    let h = c.in_err-there.ensures.cause in
    cause_through (g.P.Pages.faults c.args.pages.now) (g.P.Pages.faults c.used_and_next.new.pages) (g.P.Pages.faults c.used_and_next-2.new.pages) c.in_err-there.field-0.0 c.from_residual-in_err-there.result
    c.from_residual-in_err-there.ensures.1 c.used_and_next.ensures.cause.later h.later h.failed
    (λ k. (let s = c.in_ok-here.ensures.same k.0 in
    let filled = c.in_ok-here.ensures.filled k.0 (run_leaf m c.args.table.0 c.args.first k.1.front k.1.here k.1.page_is k.1.back k.1.run) in
    h.whole (
      s.0,
      subst (λ (p : PageBytes). HasLeaf p c.args.table.0 c.in_ok-here.here.next) (sym s.1)
          (next_leaf m c.args.table.0 c.args.first k.1.front k.1.here k.1.page_is c.in_ok-here.here filled c.if-here-eq0.false k.1.back k.1.run),
    )))

pub returns-then-here-there-gt-PAGE_ROOM-clause-joined : goal.returns-then-here-there-gt-PAGE_ROOM-clause-joined
returns-then-here-there-gt-PAGE_ROOM-clause-joined g c = λ known front here back run page_is filling.
    let m = g.P.Pages.pages c.args.pages.now in
    let s = c.in_ok-here.ensures.same known in
    let t = c.in_ok-there.ensures.same s.0 in
    try_full m c.args.table.0 c.args.first front here page_is c.in_ok-here.here (c.in_ok-here.ensures.filled known (run_leaf m c.args.table.0 c.args.first front here page_is back run)) c.if-here-eq0.false c.in_ok-there.there
    (subst (λ (p : PageBytes). IsFilled p c.args.table.0 c.in_ok-here.here.next c.in_ok-there.there) s.1 (c.in_ok-there.ensures.filled s.0 (subst (λ (p : PageBytes). HasLeaf p c.args.table.0 c.in_ok-here.here.next) (sym s.1) (next_leaf m c.args.table.0 c.args.first front here page_is c.in_ok-here.here (c.in_ok-here.ensures.filled known (run_leaf m c.args.table.0 c.args.first front here page_is back run)) c.if-here-eq0.false back run)))) back run filling c.if-here-there-gt-PAGE_ROOM.true
    (g.P.Pages.pages c.used_and_next-2.new.pages) (t.1 ∙ s.1)

pub returns-then-here-first-clause-cause : goal.returns-then-here-first-clause-cause
returns-then-here-first-clause-cause g c =
    let m = g.P.Pages.pages c.args.pages.now in
    record {
      later = omega (arith, c.used_and_next.ensures.cause.later, c.used_and_next-2.ensures.cause.later);
      failed = λ e. absurd (c.broken.ensures e);
      whole = λ k. absurd (next_apart m c.args.table.0 c.args.first k.1.front k.1.here k.1.page_is c.in_ok-here.here (c.in_ok-here.ensures.filled k.0 (run_leaf m c.args.table.0 c.args.first k.1.front k.1.here k.1.page_is k.1.back k.1.run)) c.if-here-eq0.false k.1.back k.1.run c.if-here-first.true);
    }

pub returns-in_err-join_leaves-clause-cause : goal.returns-in_err-join_leaves-clause-cause
returns-in_err-join_leaves-clause-cause g c =
    let m = g.P.Pages.pages c.args.pages.now in
    let h = c.in_err-join_leaves.ensures.cause in
    cause_through (g.P.Pages.faults c.args.pages.now) (g.P.Pages.faults c.used_and_next-2.new.pages) (g.P.Pages.faults c.join_leaves.new.pages) c.in_err-join_leaves.field-0.0 c.from_residual-in_err-join_leaves.result
    c.from_residual-in_err-join_leaves.ensures.1 (omega (arith, c.used_and_next.ensures.cause.later, c.used_and_next-2.ensures.cause.later)) h.later h.failed
    (λ k. (let s = c.in_ok-here.ensures.same k.0 in
    let t = c.in_ok-there.ensures.same s.0 in
    let filled2 = subst (λ (p : PageBytes). IsFilled p c.args.table.0 c.in_ok-here.here.next c.in_ok-there.there) s.1 (c.in_ok-there.ensures.filled s.0 (subst (λ (p : PageBytes). HasLeaf p c.args.table.0 c.in_ok-here.here.next) (sym s.1) (next_leaf m c.args.table.0 c.args.first k.1.front k.1.here k.1.page_is c.in_ok-here.here (c.in_ok-here.ensures.filled k.0 (run_leaf m c.args.table.0 c.args.first k.1.front k.1.here k.1.page_is k.1.back k.1.run)) c.if-here-eq0.false k.1.back k.1.run))) in
    h.whole (
      t.0,
      subst (λ (p : PageBytes). MayJoin p c.args.table.0 c.args.first c.in_ok-here.here.next) (sym (t.1 ∙ s.1))
          (may_join m c.args.table.0 c.args.first k.1.front k.1.here k.1.page_is c.in_ok-here.here (c.in_ok-here.ensures.filled k.0 (run_leaf m c.args.table.0 c.args.first k.1.front k.1.here k.1.page_is k.1.back k.1.run)) c.if-here-eq0.false c.in_ok-there.there filled2
          c.if-here-there-gt-PAGE_ROOM.false k.1.back k.1.run),
    )))

pub returns-in_err-join_leaves-clause-follows : goal.returns-in_err-join_leaves-clause-follows
returns-in_err-join_leaves-clause-follows g c =
    g.P.Pages.follows_on _ _ _ (g.P.Pages.follows_on _ _ _ c.used_and_next.ensures.follows c.used_and_next-2.ensures.follows) c.join_leaves.ensures.follows

pub returns-clause-joined : goal.returns-clause-joined
returns-clause-joined g c = λ known front here back run page_is filling.
    let m = g.P.Pages.pages c.args.pages.now in
    let m3 = g.P.Pages.pages c.join_leaves.new.pages in
    let s = c.in_ok-here.ensures.same known in
    let t = c.in_ok-there.ensures.same s.0 in
    try_joined m c.args.table.0 c.args.first front here page_is c.in_ok-here.here (c.in_ok-here.ensures.filled known (run_leaf m c.args.table.0 c.args.first front here page_is back run)) c.if-here-eq0.false c.in_ok-there.there
    (subst (λ (p : PageBytes). IsFilled p c.args.table.0 c.in_ok-here.here.next c.in_ok-there.there) s.1 (c.in_ok-there.ensures.filled s.0 (subst (λ (p : PageBytes). HasLeaf p c.args.table.0 c.in_ok-here.here.next) (sym s.1) (next_leaf m c.args.table.0 c.args.first front here page_is c.in_ok-here.here (c.in_ok-here.ensures.filled known (run_leaf m c.args.table.0 c.args.first front here page_is back run)) c.if-here-eq0.false back run)))) c.if-here-there-gt-PAGE_ROOM.false back run filling m3
    (subst (λ (p : PageBytes). JoinsTo p m3 c.args.table.0 c.args.first c.in_ok-here.here.next) (t.1 ∙ s.1) (c.in_ok-join_leaves.ensures.joined t.0))

pub returns-clause-follows : goal.returns-clause-follows
returns-clause-follows g c =
    g.P.Pages.follows_on _ _ _ (g.P.Pages.follows_on _ _ _ c.used_and_next.ensures.follows c.used_and_next-2.ensures.follows) c.join_leaves.ensures.follows
