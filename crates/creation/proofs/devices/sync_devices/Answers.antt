use Rattle.std.proofs.Common.{◌∙◌, subst, arith}
use Rattle.mdb_model.specs.declared.fault.Device.{Device}
use Rattle.mdb_host.specs.Disk.{Synced}
use Rattle.gate_slots.proofs.Forces.{agree_on}
use Rattle.creation.proofs.Syncing.{synced_more}
use Rattle.creation.proofs.devices.sync_devices.Goals as goal

pub returns-in_err-sync_device-clause-calm : goal.returns-in_err-sync_device-clause-calm
returns-in_err-sync_device-clause-calm g c told =
    agree_on (g.H.Host.disk c.args.host.now) (g.H.Host.disk c.loop-number.host) (g.H.Host.disk c.sync_device.new.host) (c.loop-number.invariant.calm told) (c.sync_device.ensures.calm told)

pub loop-number-preserved : goal.loop-number-preserved
loop-number-preserved g c = record {
  calm = λ told. agree_on (g.H.Host.disk c.args.host.now) (g.H.Host.disk c.loop-number.host) (g.H.Host.disk c.sync_device.new.host) (c.loop-number.invariant.calm told) (c.sync_device.ensures.calm told);
  seen = λ told e. c.sync_device.ensures.seen told e ∙ c.loop-number.invariant.seen told e;
  synced = λ told. synced_more (g.H.Host.disk c.loop-number.host) (g.H.Host.disk c.sync_device.new.host) c.loop-number.number (c.sync_device.ensures.calm told) (c.sync_device.ensures.seen told) (c.loop-number.invariant.synced told)
      (subst (λ (d : Device). Synced (g.H.Host.disk c.sync_device.new.host) d) c.device.ensures (c.in_ok-sync_device.ensures.synced told));
  faults = omega (arith, c.sync_device.ensures.cause.later, c.loop-number.invariant.faults);
  say_faults = c.sync_device.ensures.say_faults ∙ c.loop-number.invariant.say_faults;
}
