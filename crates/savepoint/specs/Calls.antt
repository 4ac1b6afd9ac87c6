-- What the calls of a savepoint ask and do.
--     MayWriteConverter, WritesConverter      the changed leaves and the root of the frozen map are
--         written to free blocks
--     MaySwitch, SwitchesOver      the record of a savepoint is put in force
use Rattle.std.specs.Prelude.{◌≡◌, ◌⊎◌, ℕ, ◌+◌, ◌<◌, ◌≤◌, List, Bool, length, sum}
use Rattle.std.specs.Prelude.{Option, Some, Result, OnOk, OnErr}
use Rattle.mdb_model.specs.Images.{Image}
use Rattle.mdb_host.specs.Disk.{Disk, Goes, Arrives}
use Rattle.mdb_bytes.specs.declared.converter_pages.ConverterEntry.{ConverterEntry}
use Rattle.mdb_bytes.specs.declared.restart_record.RestartRecord.{RestartRecord}
use Rattle.mdb_bytes.specs.Parts.{KeepsLimits}
use Rattle.mdb_bytes.specs.SlotRecords.{restart_format}
use Rattle.free_blocks.specs.Free.{IsFree}
use Rattle.volume_disk.specs.Blocks.{IsArea, Writes, block_at}
use Rattle.gate_slots.specs.declared.body.SlotBody.TheVariants.{Restart}
use Rattle.gate_slots.specs.declared.slots.Slots.{Slots}
use Rattle.gate_slots.specs.Slots.{IsReady}
use Rattle.gate_slots.specs.Steps.{SlotsTorn, Switches, HasSwitched}
use Rattle.converter.specs.Maps.{Maps, entry_at, block_of, AreUnused}
use Rattle.converter.specs.Own.{OwnOnly, Fewer, TakesForFrozen, SavedLeaves}
use Rattle.savepoint.specs.declared.states.Mark.{Mark}
use Rattle.savepoint.specs.Stands.{restart_place, HasSavepoint, AtSwitch, IsMapPlaced}

-- The map is frozen for this savepoint, its own pages are those of the last one still, and the
-- leaves of that stand on their blocks.
pub record MayWriteConverter (tells : Type 0) (sizes : List ℕ) (m : Maps) (free : List Bool)
    (savepoint : ℕ) (seen : Image) : Type 0 where
  pub frozen : m.frozen_at ≡ Some savepoint
  pub area : (length free ≡ length m.owner) × (sum sizes ≡ length m.owner)
  pub unused : AreUnused m free
  pub later : (q : ℕ) → q < m.conv → entry_at m.frozen q ≡ entry_at m.saved q
  pub there : tells → IsArea sizes seen
  pub saved : tells → SavedLeaves m (block_at sizes seen)

-- Blocks that were free are written, and the frozen map has some of them for own pages: all of
-- these after a call that went well. No block is lost: what is not free any more is such a page.
pub record WritesConverter {T E : Type 0} (tells : Type 0) (sizes : List ℕ) (old new : Maps)
    (free free2 : List Bool) (before now : Disk) (result : Result T E) : Type 0 where
  pub placed : OnOk result (IsMapPlaced sizes new.frozen new.conv)
  pub own : OwnOnly old new
  pub fewer : Fewer free free2 old.conv
  pub unused : AreUnused new free2
  pub taken : TakesForFrozen 0 free free2 new
  pub goes : tells → Goes before now (Writes sizes (IsFree free))
  pub seen : tells → Writes sizes (IsFree free) before.seen now.seen

-- the record names this root and this savepoint, and is the next one of the slots
pub record MaySwitch (slots : Slots) (block : ℕ) (made : Mark) (restart : RestartRecord)
    : Type 0 where
  pub place : slots.place ≡ restart_place
  pub root : restart.root ≡ block
  pub mark : (restart.savepoint ≡ made.savepoint) × (restart.commit ≡ made.commit)
      × (restart.position ≡ made.position)
  pub number : restart.slot ≡ slots.number + 1
  pub keeps : KeepsLimits restart_format restart

-- At each moment every image stands for the last record's map or for the new one, and after a call
-- that went well for the new one, with the slots ready for the next record.
pub record SwitchesOver {T E : Type 0} (tells : Type 0) (before now : Disk) (slots slots2 : Slots)
    (root : ℕ) (restart : RestartRecord) (result : Result T E) : Type 0 where
  pub any_moment : tells → Goes before now (Switches slots (Restart restart))
  pub there : OnOk result (tells → Arrives before now (HasSwitched slots slots2 (Restart restart)))
  pub seen : tells → SlotsTorn slots.place before.seen now.seen
  pub crash : tells → (sizes : List ℕ) (was : RestartRecord) (old new : List ConverterEntry)
      (conv : ℕ) (pages pages2 : ℕ → List ℕ)
      → AtSwitch before sizes slots was old new conv pages pages2 → root ≡ block_of new 0
      → Goes before now (λ _ image. HasSavepoint sizes was old conv pages image
      ⊎ HasSavepoint sizes restart new conv pages2 image)
  pub put : OnOk result
      (tells → (sizes : List ℕ) (was : RestartRecord) (old new : List ConverterEntry)
      (conv : ℕ) (pages pages2 : ℕ → List ℕ)
      → AtSwitch before sizes slots was old new conv pages pages2 → root ≡ block_of new 0
      → (image : Image) → now.may_leave now.now image
      → HasSavepoint sizes restart new conv pages2 image × IsReady slots2 (Restart restart) image)
  pub number : OnOk result ((slots2.place ≡ slots.place) × (slots2.number ≡ restart.slot))
  pub same : OnErr result (slots2 ≡ slots)
