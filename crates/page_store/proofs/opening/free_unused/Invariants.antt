use Rattle.std.proofs.Common.{◌≡◌, ◌<◌, ℕ, length}
use Rattle.free_blocks.specs.Free.{IsFree}
use Rattle.converter.specs.Maps.{IsUsed}
use Rattle.page_store.proofs.opening.free_unused.Given as goal

abbrev pub invariant-loop-block : goal.invariant-loop-block
invariant-loop-block l = record {
  long : length l.free ≡ l.blocks;
  unused : (k : ℕ) → IsFree l.free k → (1 < k) × (k < l.block) × (IsUsed l.converter k → ⊥);
  freed : (k : ℕ) → 1 < k → k < l.block → (IsUsed l.converter k → ⊥) → IsFree l.free k;
}
