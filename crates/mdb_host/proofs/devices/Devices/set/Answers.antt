use Rattle.std.proofs.Common.{arith}
use Rattle.mdb_host.proofs.Slots.{set_image}
use Rattle.mdb_host.proofs.devices.Devices.set.Goals as goal

pub returns : goal.returns
returns c = set_image c.args.self.now.slots.items c.args.device c.slot_of.result c.args.bytes c.slot_of.ensures.slot (omega (arith, c.slot_of.ensures.below, c.args.self.now.full))
