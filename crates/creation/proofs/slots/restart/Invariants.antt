use Rattle.std.proofs.Common.{◌≡◌, take}
use Rattle.creation.proofs.slots.restart.Given as goal

abbrev pub invariant-loop-i : goal.invariant-loop-i
invariant-loop-i l = record { sizes : l.sizes.items ≡ take l.i l.fn.volumes.items }
