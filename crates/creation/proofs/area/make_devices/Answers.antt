use Rattle.std.proofs.Common.{◌≡◌, ◌∙◌, ℕ, List, sym, subst, ap, length, get_or, arith}
use Rattle.creation.specs.Making.{Each, HasZeroVolumes}
use Rattle.creation.proofs.Fresh.{any_on}
use Rattle.creation.proofs.area.make_devices.Goals as goal

pub make_volume-requires-clause-absent : goal.make_volume-requires-clause-absent
make_volume-requires-clause-absent g c told image left = (c.loop-i.invariant.fresh told 0 image left).absent c.loop-i.i (omega arith) (omega (arith, c.loop-i-test.true, c.len-i-end.ensures.fits))

pub loop-i-init : goal.loop-i-init
loop-i-init g c = record {
  fresh = λ told birth. c.in_ok-make_log.ensures.made told birth c.args.volumes.now.items;
  goes = c.make_log.ensures.goes;
  faults = c.make_log.ensures.cause.later;
  say_faults = c.make_log.ensures.say_faults;
}

pub returns-in_err-make_volume-clause-goes : goal.returns-in_err-make_volume-clause-goes
returns-in_err-make_volume-clause-goes g c told = any_on (g.H.Host.disk c.args.host.now) (g.H.Host.disk c.loop-i.host) (g.H.Host.disk c.make_volume.new.host) (c.loop-i.invariant.goes told) (c.make_volume.ensures.goes told)

pub loop-i-preserved : goal.loop-i-preserved
loop-i-preserved g c = record {
  fresh = λ told birth. c.in_ok-make_volume.ensures.made told (record { birth = birth; volumes = c.args.volumes.now.items; log_pages = c.args.log_pages }) (ap (λ (xs : List ℕ). get_or xs c.loop-i.i 0) (sym c.deref.ensures.0)) (c.loop-i.invariant.fresh told birth);
  goes = λ told. any_on (g.H.Host.disk c.args.host.now) (g.H.Host.disk c.loop-i.host) (g.H.Host.disk c.make_volume.new.host) (c.loop-i.invariant.goes told) (c.make_volume.ensures.goes told);
  faults = omega (arith, c.make_volume.ensures.cause.later, c.loop-i.invariant.faults);
  say_faults = c.make_volume.ensures.say_faults ∙ c.loop-i.invariant.say_faults;
}

pub returns-clause-made : goal.returns-clause-made
returns-clause-made g c told birth =
    let all : c.loop-i.i ≡ length c.args.volumes.now.items = omega (arith, c.loop-i-test.false, c.loop-i.auto.i-end, c.len-i-end.ensures.value) in
    subst (λ (n : ℕ). Each (g.H.Host.disk c.loop-i.host) (HasZeroVolumes (record { birth = birth; volumes = c.args.volumes.now.items; log_pages = c.args.log_pages }) n)) all (c.loop-i.invariant.fresh told birth)
