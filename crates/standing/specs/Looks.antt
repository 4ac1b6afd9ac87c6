-- What an image shows: all that is read of it to say which world it stands for. Bytes that are not
-- part of this may be anything: the other slot, blocks of no kept map, the ring behind a closed
-- gate, media that are blank.
--     record_in, log_info_in      the restart record and the log info in force
--     LogPoint      a place in the log
--     base_in_force, saved_in_force      the base savepoint, and up to where the log is saved, with
--         what is pending
--     Look, look      what an image shows
--     IsUnused      no kept map of a look uses a block of a set
use Rattle.std.specs.Prelude.{◌≡◌, ◌≢◌, ℕ, ◌<◌, List, [], Bool, true, false, not, ◌&&◌, ◌==◌, nat_lt, if◌then◌else◌, map, sum, take, Option, Some, None, option_map, option_and_then, unwrap_or}
use Rattle.std.specs.List.{AllByRecursion}
use Rattle.mdb_model.specs.declared.change.Commit.{Commit}
use Rattle.mdb_model.specs.declared.fault.Device.{Device}
use Rattle.mdb_model.specs.declared.fault.Device.TheVariants.{Medium}
use Rattle.mdb_model.specs.declared.name.Name.{Name}
use Rattle.mdb_model.specs.declared.script.BackupKind.{BackupKind}
use Rattle.mdb_model.specs.declared.script.BackupKind.TheVariants.{OfPages, OfLog}
use Rattle.mdb_model.specs.Backups.{same_name}
use Rattle.mdb_model.specs.Images.{Image, size_of, byte_at}
use Rattle.mdb_model.specs.Script.{is_medium}
use Rattle.mdb_bytes.specs.declared.medium_pages.MediumHeader.{MediumHeader}
use Rattle.mdb_bytes.specs.declared.log_info.LogInfo.{LogInfo}
use Rattle.mdb_bytes.specs.declared.restart_record.RestartRecord.{RestartRecord}
use Rattle.mdb_bytes.specs.declared.restart_record.SnapshotEntry.{SnapshotEntry}
use Rattle.mdb_bytes.specs.Fields.{decoded}
use Rattle.mdb_bytes.specs.Groups.{open_gate}
use Rattle.mdb_bytes.specs.SlotRecords.{slot_len}
use Rattle.mdb_bytes.specs.MediumPages.{medium_header_format}
use Rattle.mdb_bytes.specs.KeptMaps.{KeptMap, kept_map}
use Rattle.mdb_bytes.specs.LogReading.{log_from}
use Rattle.mdb_bytes.specs.Rings.{ring_byte, ring_size}
use Rattle.gate_slots.specs.declared.body.SlotBody.{SlotBody}
use Rattle.gate_slots.specs.declared.body.SlotBody.TheVariants.{Restart, Log as LogBody}
use Rattle.gate_slots.specs.Slots.{in_force}
use Rattle.volume_disk.specs.Blocks.{block_at}
use Rattle.standing.specs.Standing.{data_slots, log_slots}

-- Slots

-- the restart record that a slot holds
abbrev pub record_of : SlotBody → Option RestartRecord
record_of (Restart r) = Some r
record_of (LogBody info) = None

-- the log info that a slot holds
abbrev pub log_info_of : SlotBody → Option LogInfo
log_info_of (Restart r) = None
log_info_of (LogBody info) = Some info

-- the restart record in force
abbrev pub record_in : Image → Option RestartRecord
record_in image = option_and_then record_of (in_force image data_slots)

-- the log info in force
abbrev pub log_info_in : Image → Option LogInfo
log_info_in image = option_and_then log_info_of (in_force image log_slots)

-- Media. One whose gate is closed is blank, whatever it holds.

-- the bytes of a medium, of 1 to 99, whose gate is open
abbrev pub open_medium : Image → ℕ → Option (List ℕ)
open_medium image medium =
    if is_medium medium && byte_at (image (Medium medium)) slot_len == open_gate
    then image (Medium medium) else None

-- the header that bytes spell
unfoldable pub header_of : List ℕ → Option MediumHeader
header_of bytes = decoded medium_header_format bytes

-- the header on a medium that is named, where 0 names none
abbrev pub header_on : (ℕ → Option (List ℕ)) → ℕ → Option MediumHeader
header_on media medium =
    if medium == 0 then None else option_and_then (λ bytes. header_of (take slot_len bytes))
    (media medium)

-- Pending backups

-- whether a backup holds groups of the log
abbrev pub is_of_log : BackupKind → Bool
is_of_log (OfPages kind) = false
is_of_log OfLog = true

-- the data backup that a record names as pending has ended, as the medium shows
abbrev pub data_backup_ended : RestartRecord → (ℕ → Option (List ℕ)) → Bool
data_backup_ended r media =
    unwrap_or
    (option_map (λ h. not (is_of_log h.kind) && same_name h.name r.name
    && h.savepoint == r.pending_savepoint) (header_on media r.pending_medium))
    false

-- the log backup that a log info names as pending has ended, as the medium shows
abbrev pub log_backup_ended : LogInfo → (ℕ → Option (List ℕ)) → Bool
log_backup_ended info media =
    unwrap_or
    (option_map (λ h. is_of_log h.kind && same_name h.name info.name
    && h.last == info.pending_commit
    && h.end_position == info.pending_position) (header_on media info.pending_medium))
    false

-- the savepoint of the last data backup that has ended
abbrev pub base_in_force : RestartRecord → (ℕ → Option (List ℕ)) → Option ℕ
base_in_force r media =
    if data_backup_ended r media then Some r.pending_savepoint
    else (if r.base == 0 then None else Some r.base)

-- behind a commit, and the position there
pub record LogPoint : Type 0 where
  pub commit : ℕ
  pub position : ℕ

-- up to where the log info says that the log is saved
abbrev pub point_of_info : LogInfo → (ℕ → Option (List ℕ)) → LogPoint
point_of_info info media =
    if log_backup_ended info media
    then record { commit = info.pending_commit; position = info.pending_position }
    else record { commit = info.saved_commit; position = info.saved_position }

-- where the log begins that a restart reads
abbrev pub redo_point : RestartRecord → LogPoint
redo_point r = record { commit = r.commit; position = r.position }

-- Up to where the log is saved. A log info of an earlier generation than the record tells nothing:
-- all up to the record is saved then.
abbrev pub saved_in_force : Option RestartRecord → Option LogInfo → (ℕ → Option (List ℕ)) → LogPoint
saved_in_force restart None media = record { commit = 0; position = 0 }
saved_in_force None (Some info) media = point_of_info info media
saved_in_force (Some r) (Some info) media =
    if nat_lt info.name.generation r.name.generation then redo_point r else point_of_info info media

-- the database that an image with this log info is of
abbrev pub name_in_force : Option RestartRecord → LogInfo → Name
name_in_force (Some r) info = r.name
name_in_force None info = info.name

-- The look

-- what is read of an image
pub record Look : Type 0 where
  -- the bytes that each device has, as a number
  pub sizes : Device → Option ℕ
  -- the restart record and the log info in force
  pub restart : Option RestartRecord
  pub log_info : Option LogInfo
  -- the bytes of each medium whose gate is open
  pub media : ℕ → Option (List ℕ)
  -- the record's map where its root is not 0, and each snapshot's map
  pub kept : Option KeptMap
  pub snapshots : List (SnapshotEntry × Option KeptMap)
  -- the commits from the saved and from the record's position on, each up to the first closed gate
  pub saved_log : Option (List Commit)
  pub redo_log : Option (List Commit)

-- the map under a root on a block, of the area of a record
abbrev pub map_under : Image → RestartRecord → ℕ → Option KeptMap
map_under image r root = kept_map (block_at r.volumes.items image) (sum r.volumes.items) root

-- the map of a record, or none where it names no root
abbrev pub map_of_record : Image → RestartRecord → Option KeptMap
map_of_record image r = if r.root == 0 then None else map_under image r r.root

-- the map of each snapshot of a record
abbrev pub snapshot_maps : Image → Option RestartRecord → List (SnapshotEntry × Option KeptMap)
snapshot_maps image None = []
snapshot_maps image (Some r) = map (λ e. (e, map_under image r e.root)) r.snapshots.items

-- the commits of a database in the log, from a point on
abbrev pub log_after : Image → LogInfo → Name → LogPoint → Option (List Commit)
log_after image info name point =
    log_from (ring_byte (ring_size info.pages) image) name (ring_size info.pages) point.position
    point.commit

-- the commits from the record's position on
abbrev pub redo_after : Image → Option LogInfo → Option RestartRecord → Option (List Commit)
redo_after image info restart =
    option_and_then (λ info. option_and_then (λ r. log_after image info r.name (redo_point r))
    restart) info

-- the commits from the saved position on
abbrev pub saved_after : Image → Option LogInfo → Option RestartRecord → Option (List Commit)
saved_after image info restart =
    option_and_then (λ found. log_after image found (name_in_force restart found)
    (saved_in_force restart info (open_medium image))) info

-- what an image shows
abbrev pub look : Image → Look
look image =
    let restart = record_in image in
    let info = log_info_in image in
    record {
      sizes = λ device. size_of (image device);
      restart = restart;
      log_info = info;
      media = open_medium image;
      kept = option_and_then (map_of_record image) restart;
      snapshots = snapshot_maps image restart;
      saved_log = saved_after image info restart;
      redo_log = redo_after image info restart;
    }

-- up to where the log is saved, by a look
abbrev pub saved_point : Look → LogPoint
saved_point l = saved_in_force l.restart l.log_info l.media

-- What does not show

-- no block of the set serves the map, whose blocks are of the area
abbrev pub IsUnusedBy : (set : ℕ → Type 0) → (blocks : ℕ) → KeptMap → Type 0
IsUnusedBy set blocks kept =
    AllByRecursion (λ block. (block < blocks) × (set block → ⊥)) kept.converter
    × AllByRecursion (λ e. (e.1.block < blocks) × (set e.1.block → ⊥)) kept.places

-- no block of the set serves a kept map, and no kept map has a converter out of its form
pub record IsUnused (l : Look) (r : RestartRecord) (set : ℕ → Type 0) : Type 0 where
  pub rec : r.root ≢ 0 → (kept : KeptMap) × (l.kept ≡ Some kept)
      × IsUnusedBy set (sum r.volumes.items) kept
  pub snapshots : AllByRecursion (λ e. (kept : KeptMap) × (e.1 ≡ Some kept)
      × IsUnusedBy set (sum r.volumes.items) kept) l.snapshots
