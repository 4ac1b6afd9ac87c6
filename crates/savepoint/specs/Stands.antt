-- What an image stands for.
--     restart_place      where the two slots of the restart record stand
--     HoldsMap      a map stands on its blocks
--     HasSavepoint      and the record in force names its root
--     IsMapPlaced, NoneFree      a map none of whose blocks is a slot, or is free
--     KeepsSlots, KeepsMapBlocks      what writes to free blocks leave
--     AtSwitch      what a switch starts from
use Rattle.std.specs.Prelude.{◌≡◌, ℕ, ◌+◌, ◌<◌, ◌≤◌, List, get_or, sum, Bool, Some}
use Rattle.mdb_model.specs.declared.fault.Device.TheVariants.{Data}
use Rattle.mdb_model.specs.Images.{Image}
use Rattle.mdb_host.specs.Disk.{Disk}
use Rattle.mdb_bytes.specs.declared.converter_pages.ConverterEntry.{ConverterEntry}
use Rattle.mdb_bytes.specs.declared.restart_record.RestartRecord.{RestartRecord}
use Rattle.free_blocks.specs.Free.{IsFree}
use Rattle.volume_disk.specs.Blocks.{block_at}
use Rattle.gate_slots.specs.declared.body.SlotBody.{SlotBody}
use Rattle.gate_slots.specs.declared.body.SlotBody.TheVariants.{Restart}
use Rattle.gate_slots.specs.declared.place.SlotPlace.{SlotPlace}
use Rattle.gate_slots.specs.declared.slots.Slots.{Slots}
use Rattle.gate_slots.specs.Slots.{in_force, IsReady}
use Rattle.converter.specs.Maps.{block_of}
use Rattle.converter.specs.Tree.{HasTree}

-- the first two blocks of the area
abbrev pub restart_place : SlotPlace
restart_place = record { device = Data 1; page = 0 }

-- a map on its blocks: root, leaves and the bytes of each page
pub record HoldsMap (sizes : List ℕ) (m : List ConverterEntry) (conv : ℕ) (pages : ℕ → List ℕ)
    (image : Image) : Type 0 where
  pub tree : HasTree m conv (block_at sizes image)
  pub page : (p : ℕ) → 0 < block_of m (conv + p)
      → block_at sizes image (block_of m (conv + p)) ≡ pages p

-- this record is in force, and names the root of this map
pub record HasSavepoint (sizes : List ℕ) (restart : RestartRecord) (m : List ConverterEntry)
    (conv : ℕ) (pages : ℕ → List ℕ) (image : Image) : Type 0 where
  pub force : in_force image restart_place ≡ Some (Restart restart)
  pub root : restart.root ≡ block_of m 0
  pub map : HoldsMap sizes m conv pages image

-- a map with a block for each of the converter's own pages, none of whose blocks is one of the
-- first two or past the area
pub record IsMapPlaced (sizes : List ℕ) (m : List ConverterEntry) (conv : ℕ) : Type 0 where
  pub some : 0 < conv
  pub own : (q : ℕ) → q < conv → 1 < block_of m q
  pub high : (q : ℕ) → 0 < block_of m q → 1 < block_of m q
  pub below : (q : ℕ) → block_of m q < sum sizes

-- no block of the map is free
abbrev pub NoneFree : List Bool → List ConverterEntry → Type 0
NoneFree flags m = (q : ℕ) → IsFree flags (block_of m q) → ⊥

-- the slots of the restart record are as they were
pub record KeepsSlots (old new : Image) : Type 0 where
  pub force : in_force new restart_place ≡ in_force old restart_place
  pub ready : (slots : Slots) (body : SlotBody) → slots.place ≡ restart_place
      → IsReady slots body old → IsReady slots body new

-- What writes to free blocks leave: the slots, each map that has no free block, and so what an
-- image stands for.
pub record KeepsMapBlocks (sizes : List ℕ) (flags : List Bool) (old new : Image) : Type 0 where
  pub slots : 2 ≤ get_or sizes 0 0 → KeepsSlots old new
  pub holds : (m : List ConverterEntry) (conv : ℕ) (pages : ℕ → List ℕ) → IsMapPlaced sizes m conv
      → NoneFree flags m → HoldsMap sizes m conv pages old → HoldsMap sizes m conv pages new
  pub stands : (restart : RestartRecord) (m : List ConverterEntry) (conv : ℕ) (pages : ℕ → List ℕ)
      → 2 ≤ get_or sizes 0 0 → IsMapPlaced sizes m conv → NoneFree flags m
      → HasSavepoint sizes restart m conv pages old → HasSavepoint sizes restart m conv pages new

-- each image has the slots as they are known, with a record that names the root of the old map, and
-- holds the old map and the new one
pub record AtSwitch (disk : Disk) (sizes : List ℕ) (slots : Slots) (was : RestartRecord)
    (old new : List ConverterEntry) (conv : ℕ) (before after : ℕ → List ℕ) : Type 0 where
  pub both_slots : 2 ≤ get_or sizes 0 0
  pub old_placed : IsMapPlaced sizes old conv
  pub new_placed : IsMapPlaced sizes new conv
  pub root : was.root ≡ block_of old 0
  pub ready : (image : Image) → disk.may_leave disk.now image → IsReady slots (Restart was) image
  pub old_holds : (image : Image) → disk.may_leave disk.now image
      → HoldsMap sizes old conv before image
  pub new_holds : (image : Image) → disk.may_leave disk.now image
      → HoldsMap sizes new conv after image
