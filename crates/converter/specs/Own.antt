-- What writing the converter's own pages changes.
--     OwnOnly, Fewer, TakesForFrozen, OneOwn      of the maps and of the free blocks
--     HasLeavesBytes, SavedLeaves      the leaves that stand on their blocks
use Rattle.std.specs.Prelude.{◌≡◌, ◌≢◌, ◌⊎◌, ℕ, ◌+◌, ◌<◌, ◌≤◌, List, Bool, length}
use Rattle.free_blocks.specs.Free.{IsFree, free_count}
use Rattle.converter.specs.Maps.{Maps, entry_at, block_of, AreUnused}
use Rattle.converter.specs.Tree.{HasLeafBytes}

-- only own pages of the frozen and the present map changed
pub record OwnOnly (old new : Maps) : Type 0 where
  pub conv : new.conv ≡ old.conv
  pub saved : new.saved ≡ old.saved
  pub frozen_at : new.frozen_at ≡ old.frozen_at
  pub area : length new.owner ≡ length old.owner
  pub pages : (q : ℕ) → old.conv ≤ q → entry_at new.frozen q ≡ entry_at old.frozen q
  pub present : (q : ℕ) → old.conv ≤ q → entry_at new.present q ≡ entry_at old.present q

-- at most n blocks fewer are free
pub record Fewer (old new : List Bool) (n : ℕ) : Type 0 where
  pub long : length new ≡ length old
  pub only : (b : ℕ) → IsFree new b → IsFree old b
  pub count : free_count old ≤ free_count new + n

-- each block that was free is free still, or the frozen map has it at a place from one on
abbrev pub TakesForFrozen : (from : ℕ) (old new : List Bool) (m : Maps) → Type 0
TakesForFrozen from old new m =
    (b : ℕ) → IsFree old b → IsFree new b ⊎ ((q : ℕ) × (from ≤ q) × (block_of m.frozen q ≡ b))

-- own page q may have a block that was free, and nothing else changed
pub record OneOwn (old new : Maps) (flags next : List Bool) (q : ℕ) : Type 0 where
  pub own : OwnOnly old new
  pub fewer : Fewer flags next 1
  pub unused : AreUnused new next
  pub others : (p : ℕ) → p ≢ q → entry_at new.frozen p ≡ entry_at old.frozen p
  pub taken : (b : ℕ) → IsFree flags b → IsFree next b ⊎ (block_of new.frozen q ≡ b)

-- the first n leaves of the frozen map stand on their blocks
abbrev pub HasLeavesBytes : Maps → ℕ → (ℕ → List ℕ) → Type 0
HasLeavesBytes m n row =
    (i : ℕ) → i < n → HasLeafBytes m.frozen m.conv i (row (block_of m.frozen (i + 1)))

-- the leaves of the last savepoint's map stand on their blocks, those that it has
abbrev pub SavedLeaves : Maps → (ℕ → List ℕ) → Type 0
SavedLeaves m row =
    (i : ℕ) → i + 1 < m.conv → 0 < block_of m.saved (i + 1)
    → HasLeafBytes m.saved m.conv i (row (block_of m.saved (i + 1)))
