use Rattle.std.proofs.Common.{◌≡◌, ℕ, ◌+◌, ◌<◌, length}
use Rattle.converter.specs.Maps.{entry_at}
use Rattle.converter.proofs.kept.run_of.Given as goal

abbrev pub invariant-loop-k : goal.invariant-loop-k
invariant-loop-k l = record { long : length l.run ≡ 600; same : (k : ℕ) → k < l.k → entry_at l.run k ≡ entry_at l.map (l.at + k) }
