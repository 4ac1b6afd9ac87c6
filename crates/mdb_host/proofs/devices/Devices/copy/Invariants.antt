use Rattle.std.proofs.Common.{◌≡◌, length}
use Rattle.mdb_host.proofs.Slots.{SameTo}
use Rattle.mdb_host.proofs.devices.Devices.copy.Given as goal

abbrev pub invariant-loop-slot : goal.invariant-loop-slot
invariant-loop-slot l = record { length : length l.slots.items ≡ l.slot-index; same : SameTo l.slot-index l.self.slots.items l.slots.items }
