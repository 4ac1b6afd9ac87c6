-- A log backup, which the log info keeps track of.
--     log_slots      where the log info stands
--     pending_info, saved_info      the log info while the backup is written, and after it
--     LogAndMediumTorn      the log info and the medium may be others
--     BacksUp, BackedUp      what a log backup makes of an image
use Rattle.std.specs.Prelude.{◌≡◌, ◌⊎◌, ℕ, ◌+◌, ◌*◌, ◌≤◌, Some}
use Rattle.mdb_model.specs.declared.fault.Device.{Device}
use Rattle.mdb_model.specs.declared.fault.Device.TheVariants.{Log, Medium}
use Rattle.mdb_model.specs.Backups.{Backup}
use Rattle.mdb_model.specs.Images.{Image, size_of, byte_at}
use Rattle.mdb_bytes.specs.declared.log_info.LogInfo.{LogInfo}
use Rattle.mdb_bytes.specs.declared.medium_pages.MediumHeader.{MediumHeader}
use Rattle.mdb_bytes.specs.Parts.{page_len}
use Rattle.gate_slots.specs.declared.body.SlotBody.TheVariants.{Log as LogBody}
use Rattle.gate_slots.specs.declared.place.SlotPlace.{SlotPlace}
use Rattle.gate_slots.specs.declared.slots.Slots.{Slots}
use Rattle.gate_slots.specs.Slots.{in_force, IsReady}
use Rattle.medium_file.specs.Media.{IsBlankMedium}
use Rattle.log_backup.specs.Saving.{HoldsBackup}

-- the first two pages of the log volume
abbrev pub log_slots : SlotPlace
log_slots = record { device = Log; page = 0 }

-- the log info while the backup with this header is written to a medium
abbrev pub pending_info : LogInfo → (medium : ℕ) → MediumHeader → LogInfo
pending_info info medium header =
    record info {
      slot = info.slot + 1;
      pending_medium = medium;
      pending_commit = header.last;
      pending_position = header.end_position;
    }

-- the log info once it is written: the log is saved up to its end, and nothing is pending
abbrev pub saved_info : LogInfo → MediumHeader → LogInfo
saved_info info header =
    record info {
      slot = info.slot + 2;
      saved_commit = header.last;
      saved_position = header.end_position;
      pending_medium = 0;
      pending_commit = 0;
      pending_position = 0;
    }

-- the slots of the log info and so many pages of a medium hold anything, all else is as before
pub record LogAndMediumTorn (medium pages : ℕ) (old new : Image) : Type 0 where
  pub others : (e : Device) → (e ≡ Log → ⊥) → (e ≡ Medium medium → ⊥) → new e ≡ old e
  pub log_size : size_of (new Log) ≡ size_of (old Log)
  pub ring : (k : ℕ) → 16384 ≤ k → byte_at (new Log) k ≡ byte_at (old Log) k
  pub medium_size : size_of (new (Medium medium)) ≡ size_of (old (Medium medium))
  pub behind : (k : ℕ) → page_len * pages ≤ k
      → byte_at (new (Medium medium)) k ≡ byte_at (old (Medium medium)) k

-- Where this log info was in force: it is, or the pending one, and the medium is blank; or the
-- pending one is, or the saved one, and the medium holds the backup.
pub record BacksUp (slots : Slots) (info : LogInfo) (medium pages : ℕ) (header : MediumHeader)
    (backup : Backup) (old new : Image) : Type 0 where
  pub torn : LogAndMediumTorn medium pages old new
  pub stands : IsReady slots (LogBody info) old
      → (IsBlankMedium new medium × ((in_force new slots.place ≡ Some (LogBody info))
      ⊎ (in_force new slots.place ≡ Some (LogBody (pending_info info medium header)))))
      ⊎ (HoldsBackup new medium header.end_position backup
      × ((in_force new slots.place ≡ Some (LogBody (pending_info info medium header)))
      ⊎ (in_force new slots.place ≡ Some (LogBody (saved_info info header)))))

-- the medium holds the backup, and the saved log info is in force, as the slots say now
pub record BackedUp (slots now : Slots) (info : LogInfo) (medium pages : ℕ)
    (header : MediumHeader) (backup : Backup) (old new : Image) : Type 0 where
  pub torn : LogAndMediumTorn medium pages old new
  pub holds : HoldsBackup new medium header.end_position backup
  pub ready : IsReady slots (LogBody info) old → IsReady now (LogBody (saved_info info header)) new
