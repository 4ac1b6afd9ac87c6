use Rattle.std.proofs.Common.{◌≡◌, ◌∙◌, ℕ, Option, Some, sym, ap, subst, refl, arith}
use Rattle.std.specs.Prelude.{unwrap_or}
use Rattle.mdb_model.specs.Tables.{with_commits}
use Rattle.restart.specs.Redone.{IsNextRedone, IsNextDone, commits_upto}
use Rattle.std.proofs.lemmas.Option.{same_Some}
use Rattle.restart.proofs.Steps.{cause_passed, on_passed}
use Rattle.restart.proofs.LeftToRedo.{last_or, first_last, step_rows, step_last, step_behind, reached, behind_all, set_first, set_on, part_on, ready_on, fits_step}
use Rattle.restart.proofs.redoing.redo.Given.{Over}
use Rattle.restart.proofs.redoing.redo.Goals as goal

pub loop-count-init : goal.loop-count-init
loop-count-init g c =
    let old = c.args.ground.now in
    record {
      known = λ k. k;
      rows = λ k. refl;
      undo = λ k. refl;
      last = λ k. first_last (g.G.Held.held old).log.after (commits_upto c.args.until (g.G.Held.held old).log);
      number = λ k n is. absurd (let wrong = is in cc);
      count = λ k. omega arith;
      few = λ k some. absurd (omega arith);
      behind = λ k. refl;
      set = λ k. set_first (g.G.Held.held old);
      kept = λ k s ready fits. ((g.met.G.Ground.keeps_by_calls old old (g.G.Held.follows_itself old) s).0, (s, refl, ready, fits));
      ready = c.requires.ready;
      numbers = omega arith;
      told = refl;
      comes = g.met.G.Ground.comes_by_calls old old (g.G.Held.follows_itself old);
      faults = omega arith;
    }

step : (g : Over) (c : goal.In-Some g) → g.G.Held.is_known c.args.ground.now
    → IsNextRedone (Some c.in-Some.number) c.args.until (g.G.Held.held c.loop-count.ground) (g.G.Held.held c.redo_next.new.ground)
step g c k =
    let next = c.in_ok-number.ensures.next (c.loop-count.invariant.known k) in
    subst (λ (o : Option ℕ). IsNextRedone o c.args.until (g.G.Held.held c.loop-count.ground) (g.G.Held.held c.redo_next.new.ground)) c.in-Some.is next.1

pub loop-count-preserved : goal.loop-count-preserved
loop-count-preserved g c =
    let inv = c.loop-count.invariant in
    let old = c.args.ground.now in
    let mid = c.loop-count.ground in
    let new = c.redo_next.new.ground in
    record {
      known = λ k. (c.in_ok-number.ensures.next (inv.known k)).0;
      rows = λ k. step_rows c.args.until c.in-Some.number (g.G.Held.held mid) (g.G.Held.held new) (step g c k) ∙ inv.rows k;
      undo = λ k. let s = step g c k in s.7 ∙ inv.undo k;
      last = λ k. step_last c.args.until c.loop-count.last c.in-Some.number (g.G.Held.held mid) (g.G.Held.held new) (step g c k) ∙ inv.last k;
      number = λ k n is. let s = step g c k in sym (same_Some _ _ is) ∙ sym s.5;
      count = λ k. let s = step g c k in let e = s.2 in let f = s.5 in let l = inv.count k in omega arith;
      few = λ k some. let s = step g c k in let e = s.3 in let f = s.5 in omega arith;
      behind = λ k. step_behind c.args.until c.in-Some.number (g.G.Held.held mid) (g.G.Held.held new) (step g c k) ∙ inv.behind k;
      set = λ k. set_on (g.G.Held.held old) (g.G.Held.held mid) (g.G.Held.held new) c.args.until c.in-Some.number (inv.set k) (step g c k);
      kept = λ k s ready fits.
          let was = inv.kept k s ready fits in
          let at = was.1 in
          let on = c.in_ok-number.ensures.kept (inv.known k) at.0 at.2 at.3 in
          let left = subst (λ (o : Option ℕ). IsNextDone o (g.G.Ground.undone mid) (g.G.Ground.undone new) (g.G.Held.held new).log) c.in-Some.is on.1.2 in (
            g.met.G.Ground.kept_on old mid new was.0 at.1 on.0,
            (
              on.1.0,
              on.1.1 ∙ at.1,
              ready_on _ _ _ _ _ _ (g.G.Held.held mid) (g.G.Held.held new) c.args.until c.in-Some.number at.2 (step g c k) on.1.1 left
                  (subst (λ (o : Option ℕ). g.G.Ground.last_done new ≡ unwrap_or o (g.G.Ground.last_done mid)) c.in-Some.is c.in_ok-number.ensures.told),
              fits_step (g.G.Ground.fits new) (g.G.Held.held mid) (g.G.Held.held new) c.args.until c.in-Some.number (g.met.G.Ground.fits_rest new) (step g c k) (at.2.left) left
                  (g.met.G.Ground.fits_on mid new c.redo_next.ensures.comes _ _ at.3),
            ),
          );
      ready = c.in_ok-number.ensures.ready;
      numbers = omega (arith, inv.numbers, c.redo_next.ensures.numbers);
      told = subst (λ (o : Option ℕ). g.G.Ground.last_done new ≡ unwrap_or o (g.G.Ground.last_done mid)) c.in-Some.is c.in_ok-number.ensures.told;
      comes = g.met.G.Ground.comes_on old mid new inv.comes c.redo_next.ensures.comes;
      faults = omega (arith, inv.faults, c.redo_next.ensures.cause.later);
    }

pub returns-then-is_reached-clause-rows : goal.returns-then-is_reached-clause-rows
returns-then-is_reached-clause-rows g c = λ k.
    let inv = c.loop-count.invariant in
    let held = g.G.Held.held c.loop-count.ground in
    let none = reached c.args.until c.loop-count.last held.log (inv.number k) c.if-is_reached.ensures in
    (inv.known k, ap (λ cs. with_commits cs held.rows) (sym none) ∙ inv.rows k, inv.undo k)

pub returns-then-is_reached-clause-kept : goal.returns-then-is_reached-clause-kept
returns-then-is_reached-clause-kept g c = λ k s ready fits.
    let inv = c.loop-count.invariant in
    let held = g.G.Held.held c.loop-count.ground in
    let none = reached c.args.until c.loop-count.last held.log (inv.number k) c.if-is_reached.ensures in
    let was = inv.kept k s ready fits in
    (was.0, (was.1.0, was.1.1, was.1.2.left ∙ sym (behind_all c.args.until held.log none) ∙ inv.behind k))

pub returns-then-is_reached-clause-last : goal.returns-then-is_reached-clause-last
returns-then-is_reached-clause-last g c = λ k.
    let inv = c.loop-count.invariant in
    let held = g.G.Held.held c.loop-count.ground in
    let none = reached c.args.until c.loop-count.last held.log (inv.number k) c.if-is_reached.ensures in
    ap (last_or c.loop-count.last held.log.after) (sym none) ∙ inv.last k

pub returns-in-None-clause-rows : goal.returns-in-None-clause-rows
returns-in-None-clause-rows g c = λ k.
    let inv = c.loop-count.invariant in
    let mid = c.loop-count.ground in
    let new = c.redo_next.new.ground in
    let next = c.in_ok-number.ensures.next (inv.known k) in
    let end = subst (λ (o : Option ℕ). IsNextRedone o c.args.until (g.G.Held.held mid) (g.G.Held.held new)) c.in-None.is next.1 in
    (next.0, end.0 ∙ ap (λ cs. with_commits cs (g.G.Held.held mid).rows) (sym end.2) ∙ inv.rows k, end.1 ∙ inv.undo k)

pub returns-in-None-clause-kept : goal.returns-in-None-clause-kept
returns-in-None-clause-kept g c = λ k s ready fits.
    let inv = c.loop-count.invariant in
    let old = c.args.ground.now in
    let mid = c.loop-count.ground in
    let new = c.redo_next.new.ground in
    let next = c.in_ok-number.ensures.next (inv.known k) in
    let end = subst (λ (o : Option ℕ). IsNextRedone o c.args.until (g.G.Held.held mid) (g.G.Held.held new)) c.in-None.is next.1 in
    let was = inv.kept k s ready fits in
    let at = was.1 in
    let on = c.in_ok-number.ensures.kept (inv.known k) at.0 at.2 at.3 in
    let left = subst (λ (o : Option ℕ). IsNextDone o (g.G.Ground.undone mid) (g.G.Ground.undone new) (g.G.Held.held new).log) c.in-None.is on.1.2 in
    (g.met.G.Ground.kept_on old mid new was.0 at.1 on.0, (on.1.0, on.1.1 ∙ at.1, left ∙ at.2.left ∙ sym (behind_all c.args.until (g.G.Held.held mid).log end.2) ∙ inv.behind k))

pub returns-in-None-clause-last : goal.returns-in-None-clause-last
returns-in-None-clause-last g c = λ k.
    let inv = c.loop-count.invariant in
    let mid = c.loop-count.ground in
    let new = c.redo_next.new.ground in
    let next = c.in_ok-number.ensures.next (inv.known k) in
    let end = subst (λ (o : Option ℕ). IsNextRedone o c.args.until (g.G.Held.held mid) (g.G.Held.held new)) c.in-None.is next.1 in
    ap (last_or c.loop-count.last (g.G.Held.held mid).log.after) (sym end.2) ∙ inv.last k

pub returns-in_err-number-clause-kept : goal.returns-in_err-number-clause-kept
returns-in_err-number-clause-kept g c = λ k s ready fits.
    let inv = c.loop-count.invariant in
    let old = c.args.ground.now in
    let mid = c.loop-count.ground in
    let new = c.redo_next.new.ground in
    let was = inv.kept k s ready fits in
    let at = was.1 in
    (g.met.G.Ground.kept_on old mid new was.0 at.1 (c.in_err-number.ensures.kept (inv.known k) at.0 at.2 at.3).0, on_passed _ c.in_err-number.field-0.0 c.from_residual.result c.from_residual.ensures.1)

pub returns-in-None-clause-told : goal.returns-in-None-clause-told
returns-in-None-clause-told g c =
    let mid = c.loop-count.ground in
    let new = c.redo_next.new.ground in
    subst (λ (o : Option ℕ). g.G.Ground.last_done new ≡ unwrap_or o (g.G.Ground.last_done mid)) c.in-None.is c.in_ok-number.ensures.told ∙ c.loop-count.invariant.told

pub returns-in_err-number-clause-cause : goal.returns-in_err-number-clause-cause
returns-in_err-number-clause-cause g c =
    let inv = c.loop-count.invariant in
    let old = c.args.ground.now in
    let mid = c.loop-count.ground in
    cause_passed _ _ _ c.in_err-number.field-0.0 c.from_residual.result c.from_residual.ensures.1 inv.faults inv.known
    (λ k short. (short.0, g.met.G.Ground.comes_on old mid short.0 inv.comes short.1, short.2, part_on (g.G.Held.held old) (g.G.Held.held mid) (g.G.Held.held short.0).rows (inv.set k) short.3, short.4))
    c.in_err-number.ensures.cause

pub returns-clause-rows : goal.returns-clause-rows
returns-clause-rows g c = λ k.
    let inv = c.loop-count.invariant in
    let past = c.loop-count-test.false in
    let few = inv.few k (omega arith) in
    let count = inv.count k in
    absurd (omega arith)

pub returns-clause-kept : goal.returns-clause-kept
returns-clause-kept g c = λ k s ready fits.
    let inv = c.loop-count.invariant in
    let past = c.loop-count-test.false in
    let few = inv.few k (omega arith) in
    let count = inv.count k in
    absurd (omega arith)

pub returns-clause-last : goal.returns-clause-last
returns-clause-last g c = λ k.
    let inv = c.loop-count.invariant in
    let past = c.loop-count-test.false in
    let few = inv.few k (omega arith) in
    let count = inv.count k in
    absurd (omega arith)
