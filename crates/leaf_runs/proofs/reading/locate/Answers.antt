use Rattle.std.proofs.Common.{subst, sym, ◌∙◌, rules, arith}
use Rattle.mdb_bytes.specs.Paged.{PageBytes}
use Rattle.leaf_runs.specs.Runs.{HasRunLeaf, IsSeen}
use Rattle.leaf_runs.proofs.Causes.{cause_through}
use Rattle.leaf_runs.proofs.Walks.{walk_leaf, walk_ends, walk_on, walk_over}
use Rattle.leaf_runs.proofs.reading.locate.Goals as goal

pub returns-in_err-sight-clause-cause : goal.returns-in_err-sight-clause-cause
returns-in_err-sight-clause-cause g c =
    let h = c.in_err-sight.ensures.cause in
    cause_through (g.P.Pages.faults c.args.pages.now) (g.P.Pages.faults c.loop.pages) (g.P.Pages.faults c.look.new.pages) c.in_err-sight.field-0.0 c.from_residual.result
    c.from_residual.ensures.1 c.loop.invariant.faults h.later h.failed
    (λ k. (let s = c.loop.invariant.same k.0 in
    let leaves = k.1 in
    let here = walk_leaf (g.P.Pages.pages c.args.pages.now) c.args.table.0 c.args.entry leaves.0 c.args.key.now leaves.1 c.loop.before c.loop.page c.loop.counter
    (c.loop.invariant.walk leaves.0 leaves.1 leaves.2 k.0) in
    h.whole (s.0, subst (λ (p : PageBytes). HasRunLeaf p c.args.table.0 c.loop.page) (sym s.1) here)))

pub returns-then-sight-clause-found : goal.returns-then-sight-clause-found
returns-then-sight-clause-found g c = λ known leaves run some.
    let s = c.loop.invariant.same known in
    let walk = c.loop.invariant.walk leaves run some known in
    let here = walk_leaf (g.P.Pages.pages c.args.pages.now) c.args.table.0 c.args.entry leaves c.args.key.now run c.loop.before c.loop.page c.loop.counter walk in
    let has = subst (λ (p : PageBytes). HasRunLeaf p c.args.table.0 c.loop.page) (sym s.1) here in
    walk_ends (g.P.Pages.pages c.args.pages.now) c.args.table.0 c.args.entry leaves c.args.key.now run c.loop.before c.loop.page c.loop.counter
    (c.loop.invariant.walk leaves run some known) c.in_ok-sight.sight (subst (λ (p : PageBytes). IsSeen p c.loop.page c.args.key.now c.in_ok-sight.sight) s.1 (c.in_ok-sight.ensures.seen s.0 has)) c.if-sight.true

pub loop-preserved : goal.loop-preserved
loop-preserved g c = record {
  same = λ known. (let s = c.loop.invariant.same known in let t = c.in_ok-sight.ensures.same s.0 in (t.0, t.1 ∙ s.1));
  walk = λ leaves run some known. (let s = c.loop.invariant.same known in
      let here = walk_leaf (g.P.Pages.pages c.args.pages.now) c.args.table.0 c.args.entry leaves c.args.key.now run c.loop.before c.loop.page c.loop.counter (c.loop.invariant.walk leaves run some known) in
      let has = subst (λ (p : PageBytes). HasRunLeaf p c.args.table.0 c.loop.page) (sym s.1) here in
      walk_on (g.P.Pages.pages c.args.pages.now) c.args.table.0 c.args.entry leaves c.args.key.now run c.loop.before c.loop.page c.loop.counter
      (c.loop.invariant.walk leaves run some known) c.in_ok-sight.sight (subst (λ (p : PageBytes). IsSeen p c.loop.page c.args.key.now c.in_ok-sight.sight) s.1 (c.in_ok-sight.ensures.seen s.0 has)) c.if-sight.false);
  spare = omega (arith, c.loop.invariant.spare, c.look.ensures.spare);
  faults = omega (arith, c.loop.invariant.faults, c.look.ensures.cause.later);
  follows = search rules;
}

pub returns-clause-cause : goal.returns-clause-cause
returns-clause-cause g c = record {
  later = c.loop.invariant.faults;
  failed = λ e. absurd (c.broken.ensures e);
  whole = λ k. absurd (let leaves = k.1 in
      walk_over (g.P.Pages.pages c.args.pages.now) c.args.table.0 c.args.entry leaves.0 c.args.key.now leaves.1 c.loop.before c.loop.page c.loop.counter
      (c.loop.invariant.walk leaves.0 leaves.1 leaves.2 k.0) (omega (arith, c.min-end.ensures, c.loop-test.false)));
}
