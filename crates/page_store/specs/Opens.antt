-- What opening a store answers.
--     FreesUnused      which blocks are free at first
--     IsStoreOpened      the store as it is opened
--     OpenFaultReports, opening_fault      what a fault says of the bytes
--     own_pages      the pages of the converter
use Rattle.std.specs.Prelude.{◌≡◌, ℕ, ◌+◌, ◌/◌, ◌<◌}
use Rattle.std.specs.Prelude.{List, Bool, false, length, replicate, sum, None}
use Rattle.mdb_model.specs.declared.fault.Damage.{Damage}
use Rattle.mdb_model.specs.declared.fault.OpenFault.{OpenFault}
use Rattle.mdb_model.specs.declared.fault.OpenFault.TheVariants.{Memory, Failed, Damaged}
use Rattle.mdb_model.specs.declared.fault.PageFault.{PageFault}
use Rattle.mdb_model.specs.declared.fault.PageFault.TheVariants.{Failed as PageFailed}
use Rattle.mdb_model.specs.declared.fault.PageFault.TheVariants.{Damaged as PageDamaged}
use Rattle.free_blocks.specs.Free.{IsFree}
use Rattle.converter.specs.Maps.{Maps, IsUsed, empty_maps}
use Rattle.page_store.specs.Store.{Store}

-- free are the blocks from 2 on that no map has
pub record FreesUnused (m : Maps) (blocks : ℕ) (flags : List Bool) : Type 0 where
  pub long : length flags ≡ blocks
  pub unused : (b : ℕ) → IsFree flags b → (1 < b) × (b < blocks) × (IsUsed m b → ⊥)
  pub freed : (b : ℕ) → 1 < b → b < blocks → (IsUsed m b → ⊥) → IsFree flags b

-- The present map is that of the last savepoint. No block has a frame or a mark, and no map is
-- pinned.
pub record IsStoreOpened (s : Store) (sizes : List ℕ) (savepoint : ℕ) : Type 0 where
  pub maps : s.maps
      ≡ record (empty_maps (sum sizes) s.maps.owner)
      { present = s.maps.saved; saved = s.maps.saved }
  pub free : FreesUnused s.maps (sum sizes) s.free
  pub marks : s.marks ≡ replicate (sum sizes) (replicate 16 false)
  pub sizes_are : s.sizes ≡ sizes
  pub frames : s.frames ≡ replicate (sum sizes) None
  pub changed : s.changed ≡ replicate (sum sizes) false
  pub next : s.next ≡ savepoint + 1
  pub pinned : s.pinned ≡ None

abbrev pub OpenFaultReports : (Damage → Type 0) → OpenFault → Type 0
OpenFaultReports broken Memory = Unit {0}
OpenFaultReports broken Failed = Unit {0}
OpenFaultReports broken (Damaged damage) = broken damage

-- the fault of an opening that a fault of pages is
abbrev pub opening_fault : PageFault → OpenFault
opening_fault PageFailed = Failed
opening_fault (PageDamaged damage) = Damaged damage

-- how many pages the converter of n blocks has itself
abbrev pub own_pages : ℕ → ℕ
own_pages n = 1 + (n + 599) / 600
