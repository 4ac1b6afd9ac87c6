use Rattle.std.proofs.Common.{rules, ◌≡◌, ◌∙◌, sym, subst, ap, ℕ, ◌≤◌, length, arith}
use Rattle.mdb_model.specs.declared.fault.Device.TheVariants.{Data}
use Rattle.mdb_model.specs.declared.fault.Rule.TheVariants.{Size}
use Rattle.mdb_model.specs.declared.script.Refusal.{Refusal}
use Rattle.mdb_model.specs.declared.script.Refusal.TheVariants.{Damaged}
use Rattle.db_kernel.specs.Damages.{RefusesInFront, whole_damage}
use Rattle.creation.proofs.Sums.{sum_all}
use Rattle.db_kernel.proofs.Volumes.{too_few}
use Rattle.db_kernel.proofs.records.check_volumes.Goals as goal

pub returns-then-blocks-lt512-clause-refuses : goal.returns-then-blocks-lt512-clause-refuses
returns-then-blocks-lt512-clause-refuses g c told has =
    let image = (g.H.Host.disk c.args.host.now).seen in
    let all : c.loop-volume.volume ≡ length c.args.restart.now.volumes.items = omega (arith, c.loop-volume-test.false, c.loop-volume.auto.volume-end, c.len-volume-end.ensures.value) in
    let some : 1 ≤ length c.args.restart.now.volumes.items = search rules in
    subst (λ (r : Refusal). RefusesInFront image r) (sym (c.damaged.ensures ∙ ap (λ (n : ℕ). Damaged (whole_damage (Data n) Size)) c.len.ensures.value))
    (too_few image c.args.restart.now has some (omega (arith, c.if-blocks-lt512.true, c.loop-volume.invariant.blocks, sum_all c.loop-volume.volume c.args.restart.now.volumes.items all)))

pub returns-clause-blocks : goal.returns-clause-blocks
returns-clause-blocks g c =
    let all : c.loop-volume.volume ≡ length c.args.restart.now.volumes.items = omega (arith, c.loop-volume-test.false, c.loop-volume.auto.volume-end, c.len-volume-end.ensures.value) in
    record {
      is = c.loop-volume.invariant.blocks ∙ sum_all c.loop-volume.volume c.args.restart.now.volumes.items all;
      least = c.if-blocks-lt512.false;
      most = c.loop-volume.invariant.small;
    }

pub returns-clause-fits : goal.returns-clause-fits
returns-clause-fits g c told volume inside = c.loop-volume.invariant.fits told volume (omega (arith, inside, c.loop-volume-test.false, c.len-volume-end.ensures.value))

pub returns-clause-least : goal.returns-clause-least
returns-clause-least g c volume inside = c.loop-volume.invariant.least volume (omega (arith, inside, c.loop-volume-test.false, c.len-volume-end.ensures.value))
