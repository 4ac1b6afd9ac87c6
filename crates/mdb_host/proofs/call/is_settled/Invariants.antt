use Rattle.std.proofs.Common.{◌≡◌, length}
use Rattle.mdb_host.specs.Memory.{any_settles}
use Rattle.mdb_host.proofs.call.is_settled.Given as goal

abbrev pub invariant-loop-call : goal.invariant-loop-call
invariant-loop-call l = any_settles l.left l.device ≡ any_settles l.fn.calls l.device

abbrev pub decreases-loop-call : goal.decreases-loop-call
decreases-loop-call l = length l.left
