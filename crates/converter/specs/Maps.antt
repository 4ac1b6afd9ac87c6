-- The maps from pages to blocks. A map is one list of entries: first the converter's own pages, the
-- root and then the leaves, and after them the logical pages.
--     entry_at, block_of      the entry of a place
--     Maps      the present map, that of the last savepoint, the frozen one, and a table of their
--         blocks
--     IsKept, IsUsed, IsOpenTo      which maps have a block
--     IsSoundMaps      what holds of the maps at any time
--     AreUnused      no free block is one that a map has
--     Leaves, FreesLeaving      what a settled savepoint frees
--     empty_maps, with_own, with_loaded, frozen_as_saved      maps after a call
--     shown_frozen, IsTracked, IsFollowed      how maps are kept in memory
use Rattle.std.specs.Prelude.{◌≡◌, ◌≢◌, ◌⊎◌, ℕ, ◌+◌, ◌*◌, ◌/◌, ◌<◌, ◌≤◌, ◌^◌}
use Rattle.std.specs.Prelude.{List, length, get_or, replicate, Option, None, Some, Bool, true}
use Rattle.std.specs.Prelude.{false, IsTrue, slice_set}
use Rattle.free_blocks.specs.Free.{IsFree}
use Rattle.free_blocks.specs.Marked.{IsMarked}
use Rattle.mdb_bytes.specs.ConverterPages.{converter_entry_fits}
use Rattle.mdb_bytes.specs.declared.converter_pages.ConverterEntry.{ConverterEntry}
use Rattle.mdb_bytes.specs.Firsts.{no_entry}

-- the entry of a place
abbrev pub entry_at : List ConverterEntry → ℕ → ConverterEntry
entry_at m q = get_or m q no_entry

-- its block, or 0
abbrev pub block_of : List ConverterEntry → ℕ → ℕ
block_of m q = (get_or m q no_entry).block

-- The present map, that of the last savepoint, the frozen one, and for each block the one place at
-- which any of them may have it.
pub record Maps : Type 0 where
  -- how many pages the converter has itself
  pub conv : ℕ
  pub present : List ConverterEntry
  pub saved : List ConverterEntry
  pub frozen : List ConverterEntry
  pub owner : List ℕ
  -- the savepoint number that the frozen map was given
  pub frozen_at : Option ℕ

-- the last savepoint's or the frozen map has block b at place q
abbrev pub KeepsAt : Maps → ℕ → ℕ → Type 0
KeepsAt m q b = (block_of m.saved q ≡ b) ⊎ (block_of m.frozen q ≡ b)

-- one of the three has it there
abbrev pub HasAt : Maps → ℕ → ℕ → Type 0
HasAt m q b = (block_of m.present q ≡ b) ⊎ KeepsAt m q b

-- the last savepoint's or the frozen map has block b
abbrev pub IsKept : Maps → ℕ → Type 0
IsKept m b = (q : ℕ) × KeepsAt m q b

-- one of the three has it
abbrev pub IsUsed : Maps → ℕ → Type 0
IsUsed m b = (q : ℕ) × HasAt m q b

-- block b may be set at place p: no map has it elsewhere
abbrev pub IsOpenTo : Maps → ℕ → ℕ → Type 0
IsOpenTo m b p = (q : ℕ) → HasAt m q b → q ≡ p

-- blocks below n, stamps within the format, and an entry of a page as the format has it
abbrev pub AreSmall : (conv n : ℕ) → List ConverterEntry → Type 0
AreSmall conv n m =
    (q : ℕ)
    → (block_of m q < n) × ((entry_at m q).stamp < 2 ^ 62)
    × (conv ≤ q → IsTrue (converter_entry_fits (entry_at m q)))

-- the map whose own pages the present map has: the frozen one, or that of the last savepoint
abbrev pub own_of : Option ℕ → List ConverterEntry → List ConverterEntry → List ConverterEntry
own_of None saved frozen = saved
own_of (Some n) saved frozen = frozen

-- three maps of one length, in which each block has one place; the numbers are those of src/maps.rt
pub record IsSoundMaps (m : Maps) : Type 0 where
  -- (1)
  pub some : 0 < length m.owner
  pub bound : length m.owner ≤ 65536
  pub leaves : m.conv ≡ 1 + (length m.owner + 599) / 600
  -- (2)
  pub present_long : length m.present ≡ m.conv + length m.owner
  pub saved_long : length m.saved ≡ m.conv + length m.owner
  pub frozen_long : length m.frozen ≡ m.conv + length m.owner
  -- (3)
  pub present_small : AreSmall m.conv (length m.owner) m.present
  pub saved_small : AreSmall m.conv (length m.owner) m.saved
  pub frozen_small : AreSmall m.conv (length m.owner) m.frozen
  -- (4)
  pub own : (q : ℕ) → q < m.conv
      → entry_at m.present q ≡ entry_at (own_of m.frozen_at m.saved m.frozen) q
  -- (5)
  pub high : (q b : ℕ) → 0 < b → HasAt m q b → 1 < b
  -- (6)
  pub owned : (q b : ℕ) → 0 < b → HasAt m q b → get_or m.owner b 0 ≡ q

-- no free block is one of the first two or one that a map has
abbrev pub AreUnused : Maps → List Bool → Type 0
AreUnused m flags = (b : ℕ) → IsFree flags b → (1 < b) × (IsUsed m b → ⊥)

-- block b, which place k had at the last savepoint, serves no map that stays
pub record LeavesIn (present saved frozen : List ConverterEntry) (marks : List (List Bool))
    (k b : ℕ) : Type 0 where
  pub is : block_of saved k ≡ b
  pub some : 0 < b
  pub changed : block_of present k ≢ b
  pub thawed : block_of frozen k ≢ b
  pub unmarked : IsMarked marks b → ⊥

-- the same of maps
abbrev pub Leaves : Maps → List (List Bool) → ℕ → ℕ → Type 0
Leaves m marks = LeavesIn m.present m.saved m.frozen marks

-- those were freed that leave at a place from `at` on, up to `end`
pub record FreesLeaving (leaves : ℕ → ℕ → Type 0) (at end : ℕ) (old new : List Bool) : Type 0 where
  pub long : length new ≡ length old
  pub stays : (b : ℕ) → IsFree old b → IsFree new b
  pub given : (k b : ℕ) → at ≤ k → k < end → leaves k b → IsFree new b
  pub only : (b : ℕ) → IsFree new b → IsFree old b ⊎ ((k : ℕ) × (at ≤ k) × (k < end) × leaves k b)

-- Maps after a call

-- no page in any
abbrev pub empty_maps : (blocks : ℕ) (owner : List ℕ) → Maps
empty_maps blocks owner =
    let conv = 1 + (blocks + 599) / 600 in
    let none = replicate (conv + blocks) no_entry in
    record {
      conv = conv;
      present = none;
      saved = none;
      frozen = none;
      owner = owner;
      frozen_at = None;
    }

-- own page q was given this entry
abbrev pub with_own : Maps → ℕ → ConverterEntry → Maps
with_own m q e =
    record m {
      present = slice_set m.present q e;
      frozen = slice_set m.frozen q e;
      owner = slice_set m.owner e.block q;
    }

-- place q of the present and the last savepoint's map was given this entry
abbrev pub with_loaded : Maps → ℕ → ConverterEntry → Maps
with_loaded m q e =
    record m {
      present = slice_set m.present q e;
      saved = slice_set m.saved q e;
      owner = slice_set m.owner e.block q;
    }

-- the frozen map is that of the last savepoint
abbrev pub frozen_as_saved : Maps → Maps
frozen_as_saved m =
    record m { saved = m.frozen; frozen = replicate (length m.frozen) no_entry; frozen_at = None }

-- In memory

-- the frozen map: none where no map is frozen, whatever the room for it holds
abbrev pub shown_frozen : Option ℕ → List ConverterEntry → List ConverterEntry
shown_frozen None room = replicate (length room) no_entry
shown_frozen (Some n) room = room

-- where no flag says that a leaf is behind, the map has there what the present one has
abbrev pub IsTracked : (conv : ℕ) (present kept : List ConverterEntry) (behind : List Bool) → Type 0
IsTracked conv present kept behind =
    (i k : ℕ) → k < 600 → get_or behind i true ≡ false
    → entry_at kept (conv + 600 * i + k) ≡ entry_at present (conv + 600 * i + k)

-- what is kept of the maps in memory
pub record IsFollowed (m : Maps) (room : List ConverterEntry)
    (saved_behind room_behind : List Bool) : Type 0 where
  pub sound : IsSoundMaps m
  pub saved_flags : length saved_behind ≡ 110
  pub room_flags : length room_behind ≡ 110
  pub room_long : length room ≡ m.conv + length m.owner
  -- (7)
  pub saved : IsTracked m.conv m.present m.saved saved_behind
  pub stored : IsTracked m.conv m.present room room_behind
