use Rattle.std.proofs.Common.{◌≡◌, ℕ, ◌+◌, ◌<◌}
use Rattle.converter.specs.Maps.{entry_at}
use Rattle.converter.proofs.kept.same_run.Given as goal

abbrev pub invariant-loop-k : goal.invariant-loop-k
invariant-loop-k l = (k : ℕ) → k < l.k → entry_at l.one (l.at + k) ≡ entry_at l.two (l.at + k)
