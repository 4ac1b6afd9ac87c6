use Rattle.std.proofs.Common.{◌+◌, take, map}
use Rattle.restore_chain.specs.Links.{link_of}
use Rattle.restore_chain.specs.Following.{IsReached}
use Rattle.restore_chain.proofs.planning.reached_by.Given as goal

abbrev pub invariant-loop-i : goal.invariant-loop-i
invariant-loop-i l = IsReached (map link_of (take (l.i + 1) l.headers)) l.reached
