use Rattle.std.proofs.Common.{◌≡◌, ℕ, ◌+◌, ◌<◌, length, get_or}
use Rattle.converter.specs.Maps.{block_of}
use Rattle.converter.proofs.maps.Converter.leaf_blocks.Given as goal

abbrev pub invariant-loop-i : goal.invariant-loop-i
invariant-loop-i l = record { long : length l.blocks.items ≡ l.i; same : (k : ℕ) → k < l.i → get_or l.blocks.items k 0 ≡ block_of l.self.frozen (k + 1) }
