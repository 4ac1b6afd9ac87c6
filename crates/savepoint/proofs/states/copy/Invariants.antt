use Rattle.std.proofs.Common.{◌≡◌, take}
use Rattle.savepoint.proofs.states.copy.Given as goal

abbrev pub invariant-loop-x : goal.invariant-loop-x
invariant-loop-x g l = l.own.items ≡ take l.x-index l.from.items
