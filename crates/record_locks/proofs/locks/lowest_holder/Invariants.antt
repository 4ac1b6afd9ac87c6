use Rattle.std.proofs.Common.{◌≡◌, ℕ, ◌<◌, ◌≤◌, false}
use Rattle.record_locks.specs.Holding.{wanted_lock}
use Rattle.record_locks.proofs.Found.{keeps}
use Rattle.record_locks.proofs.locks.lowest_holder.Given as goal

-- none of the sessions so far keeps the lock
abbrev pub invariant-loop-number : goal.invariant-loop-number
invariant-loop-number l = (k : ℕ) → 1 ≤ k → k < l.number → keeps l.fn.sessions l.fn.session.0 (wanted_lock l.fn.wanted) k ≡ false
