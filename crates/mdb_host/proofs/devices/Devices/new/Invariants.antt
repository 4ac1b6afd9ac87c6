use Rattle.std.proofs.Common.{◌≡◌, length}
use Rattle.mdb_host.proofs.Slots.{AllAbsent}
use Rattle.mdb_host.proofs.devices.Devices.new.Given as goal

abbrev pub invariant-loop : goal.invariant-loop
invariant-loop l = record { length : length l.slots.items ≡ l.counter; absent : AllAbsent l.slots.items }
