use Rattle.record_locks.specs.Holders.{IsBound}
use Rattle.record_locks.proofs.locks.highest_from.Given as goal

abbrev pub invariant-loop-highest : goal.invariant-loop-highest
invariant-loop-highest l = IsBound l.fn.sessions l.highest

abbrev pub decreases-loop-highest : goal.decreases-loop-highest
decreases-loop-highest l = l.highest
