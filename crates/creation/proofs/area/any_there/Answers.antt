use Rattle.std.proofs.Common.{arith}
use Rattle.mdb_host.specs.Disk.{IsThere}
use Rattle.mdb_model.specs.declared.fault.Device.{Device}
use Rattle.std.proofs.Common.{subst}
use Rattle.creation.proofs.Fresh.{some_there}
use Rattle.creation.proofs.area.any_there.Goals as goal

pub returns-then-is_some-clause-there : goal.returns-then-is_some-clause-there
returns-then-is_some-clause-there g c is told = (
  c.loop-number.number,
  omega (arith, c.loop-number-test.true),
  subst (λ (d : Device). IsThere (g.H.Host.disk c.args.host.now).seen d) c.device.ensures
      (some_there ((g.H.Host.disk c.args.host.now).seen c.device.result) c.size.result c.if-is_some.ensures (c.size.ensures.whole told)),
)
