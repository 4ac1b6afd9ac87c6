-- A whole savepoint.
--     saved_page, present_page      what stands on a page of the last savepoint's map, and of the
-- present one
--     next_record      the record that follows on one
--     IsBeside      the blocks that are written before the switch
--     AreStanding, CanSave      what a savepoint needs
--     IsInArea      the blocks of a map are of the area, and each serves one place
--     HasNextMap, WritesThenSwitches, Saves      what images stand for while it is made
--     IsSameArea      the area stays
--     IsWritten, IsSaved      the store before the switch, and after a savepoint
--     count_below, live_below, spare_after      how many pages live, and how many are spare after a
-- savepoint
use Rattle.std.specs.Prelude.{◌≡◌, ◌≢◌, ◌⊎◌, ℕ, zero, suc, ◌+◌, ◌-◌, ◌<◌, ◌≤◌, List, length, get_or, Some, None, Bool, false, nat_lt, if◌then◌else◌}
use Rattle.mdb_model.specs.Images.{Image}
use Rattle.mdb_bytes.specs.declared.restart_record.RestartRecord.{RestartRecord}
use Rattle.mdb_bytes.specs.declared.converter_pages.ConverterEntry.{ConverterEntry}
use Rattle.mdb_bytes.specs.Parts.{KeepsLimits}
use Rattle.mdb_bytes.specs.SlotRecords.{restart_format}
use Rattle.mdb_host.specs.Disk.{Disk, Goes, Agree}
use Rattle.free_blocks.specs.Free.{free_count}
use Rattle.free_blocks.specs.Marked.{IsMarked}
use Rattle.volume_disk.specs.Blocks.{Writes, block_at}
use Rattle.gate_slots.specs.declared.slots.Slots.{Slots}
use Rattle.gate_slots.specs.declared.body.SlotBody.TheVariants.{Restart}
use Rattle.gate_slots.specs.Slots.{IsReady}
use Rattle.gate_slots.specs.Steps.{Switches}
use Rattle.converter.specs.Maps.{block_of, entry_at}
use Rattle.savepoint.specs.Stands.{HasSavepoint, IsMapPlaced, restart_place}
use Rattle.page_store.specs.Store.{Store, block_count, page_block, block_bytes, IsKnown}
use Rattle.page_store.specs.Steps.{is_unwritten}

-- what stands on a page of the last savepoint's map
abbrev pub saved_page : Store → Image → ℕ → List ℕ
saved_page s seen page = block_at s.sizes seen (block_of s.maps.saved (s.maps.conv + page))

-- what stands on a page now
abbrev pub present_page : Store → Image → ℕ → List ℕ
present_page s seen page = block_bytes s seen (page_block s page)

-- the record that follows on one: it names another map
abbrev pub next_record : RestartRecord → (savepoint commit position root : ℕ) → RestartRecord
next_record was savepoint commit position root = record was {
  slot = was.slot
      + 1;
  savepoint = savepoint;
  commit = commit;
  position = position;
  root = root;
}

-- No slot, no block of the last savepoint's map, and none with a mark.
pub record IsBeside (s : Store) (b : ℕ) : Type 0 where
  pub high : 1 < b
  pub unsaved : (q : ℕ) → block_of s.maps.saved q ≢ b
  pub unmarked : IsMarked s.marks b → ⊥

-- Each image that a stop may leave has the slots, with this record, and the map of the last
-- savepoint whole. What stands on the
-- pages is known.
pub record AreStanding (tells : Type 0) (slots : Slots) (restart : RestartRecord) (s : Store)
    (d : Disk) : Type 0 where
  pub known : IsKnown tells s d.seen
  pub ready : (image : Image) → d.may_leave d.now image → IsReady slots (Restart restart) image
  pub stands : (image : Image) → d.may_leave d.now image
      → HasSavepoint s.sizes restart s.maps.saved s.maps.conv (saved_page s d.seen) image

-- What a savepoint needs beside small numbers: nothing is frozen or pinned and no block has a mark,
-- there is room for the converter, and the record is the one on which the next follows.
pub record CanSave (tells : Type 0) (slots : Slots) (restart : RestartRecord) (s : Store)
    (d : Disk) : Type 0 where
  pub place : slots.place ≡ restart_place
  pub number : restart.slot ≡ slots.number
  pub keeps : KeepsLimits restart_format restart
  pub next : s.next ≡ restart.savepoint + 1
  pub thawed : s.maps.frozen_at ≡ None
  pub unpinned : s.pinned ≡ None
  pub unmarked : (b : ℕ) → IsMarked s.marks b → ⊥
  pub fits : s.maps.conv ≤ free_count s.free
  pub placed : IsMapPlaced s.sizes s.maps.saved s.maps.conv
  pub big : 2 ≤ get_or s.sizes 0 0
  pub standing : tells → AreStanding tells slots restart s d

-- A map of an area of n blocks: each page of the converter has a block, no block is one of the
-- first two or past the area, and none serves two places.
pub record IsInArea (conv n : ℕ) (m : List ConverterEntry) : Type 0 where
  pub long : length m ≡ conv + n
  pub own : (q : ℕ) → q < conv → 0 < block_of m q
  pub high : (q : ℕ) → 0 < block_of m q → 1 < block_of m q
  pub below : (q : ℕ) → block_of m q < n
  pub apart : (p q : ℕ) → 0 < block_of m p → block_of m p ≡ block_of m q → p ≡ q

-- The image stands for the record that follows and its map, which has the pages of the store.
pub record HasNextMap (s : Store) (seen : Image) (was : RestartRecord) (commit position : ℕ)
    (map : List ConverterEntry) (image : Image) : Type 0 where
  pub placed : IsMapPlaced s.sizes map s.maps.conv
  pub area : IsInArea s.maps.conv (block_count s) map
  pub entries : (q : ℕ) → s.maps.conv ≤ q → entry_at map q ≡ entry_at s.maps.present q
  pub stands : HasSavepoint s.sizes (next_record was s.next commit position (block_of map 0)) map
      s.maps.conv (present_page s seen) image

-- Blocks beside the last savepoint's map were written, and then nothing, or this record on the
-- slots.
pub record WritesThenSwitches (s : Store) (slots : Slots) (next : RestartRecord) (old new : Image) :
    Type 0
  where
    pub mid : Image
    pub written : Writes s.sizes (IsBeside s) old mid
    pub behind : Agree mid new ⊎ Switches slots (Restart next) mid new

-- At each moment each image stands for the last record and its map, or for the one that follows. So
-- after a failed switch it is
-- one of the two. It comes from one before by writes beside the last map, and then the switch
-- alone.
pub record Saves (s : Store) (slots : Slots) (was : RestartRecord) (commit position : ℕ)
    (old new : Disk) : Type 0 where
  pub map : List ConverterEntry
  pub each : Goes old new (λ before image. HasSavepoint s.sizes was s.maps.saved s.maps.conv
      (saved_page s old.seen) image ⊎ HasNextMap s old.seen was commit position map image)
  pub steps : Goes old new (WritesThenSwitches s slots
      (next_record was s.next commit position (block_of map 0)))

-- the volumes and the converter are as long as they were
pub record IsSameArea (old new : Store) : Type 0 where
  pub sizes : new.sizes ≡ old.sizes
  pub conv : new.maps.conv ≡ old.maps.conv
  pub area : block_count new ≡ block_count old

-- The frozen map is written: it has the present pages as they were when it was frozen.
pub record IsWritten (old new : Store) : Type 0 where
  pub same : new ≡ record old {
    maps = new.maps;
    free = new.free;
    changed = new.changed;
    next =
        old.next + 1;
  }
  pub conv : new.maps.conv ≡ old.maps.conv
  pub saved : new.maps.saved ≡ old.maps.saved
  pub frozen_at : new.maps.frozen_at ≡ Some old.next
  pub area : block_count new ≡ block_count old
  pub frozen : (q : ℕ) → old.maps.conv ≤ q
      → entry_at new.maps.frozen q ≡ entry_at old.maps.present q
  pub present : (q : ℕ) → old.maps.conv ≤ q
      → entry_at new.maps.present q ≡ entry_at old.maps.present q
  pub placed : IsMapPlaced old.sizes new.maps.frozen old.maps.conv
  pub done : (page : ℕ) → is_unwritten new page ≡ false

-- The present map is the last savepoint's, and its pages are those of the old one.
pub record IsSaved (old new : Store) : Type 0 where
  pub next : new.next ≡ old.next + 1
  pub conv : new.maps.conv ≡ old.maps.conv
  pub area : block_count new ≡ block_count old
  pub sizes : new.sizes ≡ old.sizes
  pub marks : new.marks ≡ old.marks
  pub saved : (q : ℕ) → old.maps.conv ≤ q → entry_at new.maps.saved q ≡ entry_at old.maps.present q
  pub present : (q : ℕ) → old.maps.conv ≤ q
      → entry_at new.maps.present q ≡ entry_at old.maps.present q

-- how many of the first n numbers pass a test
abbrev pub count_below : (ℕ → Bool) → ℕ → ℕ
count_below test zero = 0
count_below test (suc n) = count_below test n + (if test n then 1 else 0)

-- how many of the first n pages live
abbrev pub live_below : Store → ℕ → ℕ
live_below s n = count_below (λ page. nat_lt 0 (page_block s page)) n

-- the blocks but for the slots, the pages, and twice the converter
abbrev pub spare_after : Store → ℕ
spare_after s = (block_count s - (2 + s.maps.conv + live_below s (block_count s))) - s.maps.conv
