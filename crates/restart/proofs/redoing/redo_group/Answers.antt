use Rattle.std.proofs.Common.{◌∙◌, ℕ, List, length, ap, sym, subst, refl, arith}
use Rattle.mdb_bytes.specs.Fields.{Spells}
use Rattle.mdb_bytes.specs.Groups.{group_format}
use Rattle.restart.proofs.Making.{making_first, making_on, making_all}
use Rattle.restart.proofs.Steps.{on_the_way, part_made, cause_passed, on_passed}
use Rattle.restart.proofs.redoing.redo_group.Goals as goal

pub loop-change-init : goal.loop-change-init
loop-change-init g c =
    let old = c.args.ground.now in
    record {
      known = λ k. k;
      making = λ k name number changes spelled.
          making_first c.changes_of-changes.result (g.G.Held.held old) changes
          (c.changes_of-changes.ensures.has (record { name = name; number = number; changes = changes })
          (subst (λ (bs : List ℕ). Spells group_format (record { name = name; number = number; changes = changes }) bs) (sym c.bytes.ensures.bytes) spelled));
      kept = λ k s next room. g.met.G.Ground.keeps_by_calls old old (g.G.Held.follows_itself old) s;
      ready = c.requires.ready;
      numbers = omega (arith, c.changes_of-changes.ensures.within, ap (λ (bs : List ℕ). length bs) c.bytes.ensures.bytes);
      left = omega arith;
      last = refl;
      comes = g.met.G.Ground.comes_by_calls old old (g.G.Held.follows_itself old);
      faults = omega arith;
    }

pub loop-change-preserved : goal.loop-change-preserved
loop-change-preserved g c =
    let inv = c.loop-change.invariant in
    let old = c.args.ground.now in
    let mid = c.loop-change.ground in
    let new = c.redo_change.new.ground in
    record {
      known = λ k. (c.in_ok-redo_change.ensures.made (inv.known k)).0;
      making = λ k name number changes spelled.
          making_on _ _ _ _ _ changes c.in-Some.change (inv.making k name number changes spelled) c.in-Some.ensures.gives (c.in_ok-redo_change.ensures.made (inv.known k)).1;
      kept = λ k s next room.
          let was = inv.kept k s next room in
          let at = was.1 in
          let on = c.in_ok-redo_change.ensures.kept (inv.known k) at.0
          (on_the_way (g.G.Ground.fits mid) _ _ _ _ (g.G.Held.held old) (g.G.Held.held mid) _ _ next (inv.making k next.name next.number next.commit.changes next.spells) at.1 at.2 (g.met.G.Ground.fits_on old mid inv.comes _ _ room)) in
          (g.met.G.Ground.kept_on old mid new was.0 at.1 on.0, (on.1.0, on.1.1 ∙ at.1, on.1.2 ∙ at.2));
      ready = c.in_ok-redo_change.ensures.ready;
      numbers = omega (arith, inv.numbers, c.redo_change.ensures.numbers, c.in-Some.ensures.shorter);
      left = omega (arith, inv.left, c.redo_change.ensures.left);
      last = c.redo_change.ensures.last ∙ inv.last;
      comes = g.met.G.Ground.comes_on old mid new inv.comes c.redo_change.ensures.comes;
      faults = omega (arith, inv.faults, c.redo_change.ensures.cause.later);
    }

pub returns-clause-made : goal.returns-clause-made
returns-clause-made g c = λ k.
    let inv = c.loop-change.invariant in
    (inv.known k, λ name number changes spelled. making_all c.loop-change.changes c.next.new.self _ _ changes (inv.making k name number changes spelled) c.in_default.ensures.gives)

pub returns-in_err-redo_change-clause-kept : goal.returns-in_err-redo_change-clause-kept
returns-in_err-redo_change-clause-kept g c = λ k s next room.
    let inv = c.loop-change.invariant in
    let old = c.args.ground.now in
    let mid = c.loop-change.ground in
    let new = c.redo_change.new.ground in
    let was = inv.kept k s next room in
    let at = was.1 in
    let on = c.in_err-redo_change.ensures.kept (inv.known k) at.0
    (on_the_way (g.G.Ground.fits mid) _ _ _ _ (g.G.Held.held old) (g.G.Held.held mid) _ _ next (inv.making k next.name next.number next.commit.changes next.spells) at.1 at.2 (g.met.G.Ground.fits_on old mid inv.comes _ _ room)) in
    (g.met.G.Ground.kept_on old mid new was.0 at.1 on.0, on_passed _ c.in_err-redo_change.field-0.0 c.from_residual.result c.from_residual.ensures.1)

pub returns-in_err-redo_change-clause-cause : goal.returns-in_err-redo_change-clause-cause
returns-in_err-redo_change-clause-cause g c =
    let inv = c.loop-change.invariant in
    let old = c.args.ground.now in
    let mid = c.loop-change.ground in
    cause_passed _ _ _ c.in_err-redo_change.field-0.0 c.from_residual.result c.from_residual.ensures.1 inv.faults inv.known
    (λ k short. (mid, inv.comes, inv.known k, λ name number changes spelled. part_made (g.G.Held.held old) (g.G.Held.held mid) _ changes (inv.making k name number changes spelled), short))
    c.in_err-redo_change.ensures.cause
