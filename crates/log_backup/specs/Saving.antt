-- A backup of the log.
--     log_backup      the backup of the commits that follow a reader
--     IsToSave      the log has the commits of the backup that a header is for
--     IsLeft      what is left to pack, with what was packed, is what was to be packed
--     HoldsBackup      a medium begins with the bytes of a backup
--     BackupTorn, Saves, Saved      what saving makes of an image
use Rattle.std.specs.Prelude.{◌≡◌, ◌⊎◌, ℕ, ◌+◌, ◌*◌, ◌<◌, ◌≤◌, List, ◌++◌, length, Some}
use Rattle.mdb_model.specs.declared.change.Commit.{Commit}
use Rattle.mdb_model.specs.declared.fault.Device.TheVariants.{Medium}
use Rattle.mdb_model.specs.Backups.{Backup, LogGroups}
use Rattle.mdb_model.specs.Images.{Image}
use Rattle.mdb_host.specs.Disk.{Disk, Torn}
use Rattle.mdb_bytes.specs.declared.medium_pages.MediumHeader.{MediumHeader}
use Rattle.mdb_bytes.specs.LogReading.{IsLog, log_bytes}
use Rattle.mdb_bytes.specs.Parts.{page_len}
use Rattle.mdb_bytes.specs.Rings.{ring_byte}
use Rattle.mdb_bytes.specs.WholeBackups.{groups_spelled, header_for, backup_bytes}
use Rattle.medium_file.specs.Media.{IsBlankMedium}
use Rattle.redo_ring.specs.declared.reader.RingReader.{RingReader}
use Rattle.log_backup.specs.declared.packing.Packing.{Packing}
use Rattle.log_backup.specs.Packing.{Packs}

-- the backup of the commits that follow a reader
abbrev pub log_backup : RingReader → MediumHeader → List Commit → Backup
log_backup reader header commits =
    LogGroups reader.name (reader.number + 1) header.last commits header.blocks

-- From where the reader stands the log has these commits, and perhaps more after them, and the
-- header is that of their backup.
pub record IsToSave (reader : RingReader) (image : Image) (header : MediumHeader)
    (commits : List Commit) : Type 0 where
  pub more : List Commit
  pub log : IsLog (ring_byte reader.size image) reader.name reader.position reader.number
      (commits ++ more)
  pub room : reader.position + log_bytes (commits ++ more) < reader.start + reader.size
  pub last : header.last ≡ reader.number + length commits
  pub ends : header.end_position ≡ reader.position + log_bytes commits
  pub header_is : header ≡ header_for header.end_position (log_backup reader header commits)

-- The groups of some commits are left, up to the header's last one. With what was packed their
-- bytes are all that the backup has, and they have room on the medium.
pub record IsLeft (reader : RingReader) (packing : Packing) (page : List ℕ) (disk : Disk)
    (header : MediumHeader) (all : List ℕ) : Type 0 where
  pub rest : List Commit
  pub more : List Commit
  pub packed : List ℕ
  pub log : IsLog (ring_byte reader.size disk.seen) reader.name reader.position reader.number
      (rest ++ more)
  pub room : reader.position + log_bytes (rest ++ more) < reader.start + reader.size
  pub last : header.last ≡ reader.number + length rest
  pub ends : header.end_position ≡ reader.position + log_bytes rest
  pub bytes : header.group_bytes ≡ length packed + log_bytes rest
  pub fits : page_len + header.group_bytes ≤ page_len * packing.writer.pages
  pub packs : Packs packing page packed disk
  pub whole : packed ++ groups_spelled reader.name (reader.number + 1) rest ≡ all

-- Media

-- the medium begins with the bytes of this backup, which ends there in the log
abbrev pub HoldsBackup : Image → (medium end : ℕ) → Backup → Type 0
HoldsBackup image medium end backup =
    (rest : List ℕ) × (image (Medium medium) ≡ Some (backup_bytes end backup ++ rest))

-- of a medium so many pages hold anything, all else is as before
abbrev pub BackupTorn : (medium pages : ℕ) → Image → Image → Type 0
BackupTorn medium pages = Torn (Medium medium) 0 (page_len * pages)

-- at most these pages are others, and the medium is blank or holds the backup
pub record Saves (medium pages end : ℕ) (backup : Backup) (old new : Image) : Type 0 where
  pub torn : BackupTorn medium pages old new
  pub holds : IsBlankMedium new medium ⊎ HoldsBackup new medium end backup

-- at most these pages are others, and the medium holds the backup
pub record Saved (medium pages end : ℕ) (backup : Backup) (old new : Image) : Type 0 where
  pub torn : BackupTorn medium pages old new
  pub holds : HoldsBackup new medium end backup
