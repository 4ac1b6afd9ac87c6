use Rattle.std.proofs.Common.{◌≡◌, ℕ, ◌<◌, ◌≤◌}
use Rattle.mdb_bytes.specs.Firsts.{no_entry}
use Rattle.converter.specs.Maps.{entry_at}
use Rattle.converter.proofs.load.none_from.Given as goal

abbrev pub invariant-loop-k : goal.invariant-loop-k
invariant-loop-k l = (j : ℕ) → j < l.k → l.from ≤ j → entry_at l.entries j ≡ no_entry
