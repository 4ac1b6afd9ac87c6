-- The restart record and the log info, each the body of a slot: a page without its last byte.
--     log_info_format, restart_format, snapshot_format      formats
use Rattle.std.specs.Prelude.{ℕ, ◌-◌, List, [], ◌∷◌, ◌++◌, Bool, ◌&&◌, ◌||◌, ◌==◌, nat_le, nat_lt, length, min, map, if◌then◌else◌, drop, codes}
use Rattle.std.specs.List.{list_all}
use Rattle.mdb_bytes.specs.declared.log_info.LogInfo.{LogInfo}
use Rattle.mdb_bytes.specs.declared.restart_record.AreaState.{AreaState}
use Rattle.mdb_bytes.specs.declared.restart_record.AreaState.TheVariants.{Normal, RestoreOpen}
use Rattle.mdb_bytes.specs.declared.restart_record.SnapshotEntry.{SnapshotEntry}
use Rattle.mdb_bytes.specs.declared.restart_record.RestartRecord.{RestartRecord}
use Rattle.mdb_bytes.specs.Fields.{Field, Four, Eight, Zeros, Text, Format, number_at, read_run}
use Rattle.mdb_bytes.specs.Parts.{table_fields, word_format, ascend_from}

-- the bytes of a body
abbrev pub slot_len : ℕ
slot_len = 8191

-- The log info

-- the fields of a log info, in order
abbrev pub log_info_fields : LogInfo → List Field
log_info_fields v =
    Text (codes "MDBKLOGI") ∷ Four v.format ∷ Zeros 4 ∷ Eight v.slot ∷ Eight v.name.birth
    ∷ Eight v.name.generation ∷ Eight v.saved_commit
    ∷ Eight v.saved_position ∷ Four v.pending_medium ∷ Four v.pages ∷ Eight v.pending_commit
    ∷ Eight v.pending_position ∷ Zeros (slot_len - 80) ∷ []

-- the limits of a log info beside the room of its fields
abbrev pub log_info_fits : LogInfo → Bool
log_info_fits v = v.format == 1 && nat_le v.pending_medium 99

-- what stands at the places of a log info
abbrev pub log_info_reads : List ℕ → LogInfo
log_info_reads bytes = record {
  format = number_at 4 8 bytes;
  slot = number_at 8 16 bytes;
  name = record { birth = number_at 8 24 bytes; generation = number_at 8 32 bytes };
  saved_commit = number_at 8 40 bytes;
  saved_position = number_at 8 48 bytes;
  pending_medium = number_at 4 56 bytes;
  pages = number_at 4 60 bytes;
  pending_commit = number_at 8 64 bytes;
  pending_position = number_at 8 72 bytes;
}

-- the format of a log info
abbrev pub log_info_format : Format LogInfo
log_info_format = record { fits = log_info_fits; fields = log_info_fields; reads = log_info_reads }

-- Snapshot entries

-- the fields of a snapshot entry, in order
abbrev pub snapshot_fields : SnapshotEntry → List Field
snapshot_fields v =
    Four v.number ∷ Four v.root ∷ Eight v.commit ∷ Four v.size ∷ Zeros 4 ∷ Eight v.savepoint ∷ []

-- the limits of a snapshot entry beside the room of its fields
abbrev pub snapshot_fits : SnapshotEntry → Bool
snapshot_fits v = nat_le 1 v.number && nat_le v.number 8

-- what stands at the places of a snapshot entry
abbrev pub snapshot_reads : List ℕ → SnapshotEntry
snapshot_reads bytes = record {
  number = number_at 4 0 bytes;
  root = number_at 4 4 bytes;
  commit = number_at 8 8 bytes;
  size = number_at 4 16 bytes;
  savepoint = number_at 8 24 bytes;
}

-- the format of a snapshot entry
abbrev pub snapshot_format : Format SnapshotEntry
snapshot_format = record { fits = snapshot_fits; fields = snapshot_fields; reads = snapshot_reads }

-- The restart record

-- the number of a state
abbrev pub state_number : AreaState → ℕ
state_number Normal = 0
state_number RestoreOpen = 1

-- the state of a number
abbrev pub area_state_of : ℕ → AreaState
area_state_of number = if number == 0 then Normal else RestoreOpen

-- the first 72 bytes, up to the number of volumes
abbrev pub restart_front : RestartRecord → List Field
restart_front v =
    Text (codes "MDBKREST") ∷ Four v.format ∷ Four (state_number v.state) ∷ Eight v.slot
    ∷ Eight v.name.birth ∷ Eight v.name.generation ∷ Eight v.savepoint
    ∷ Eight v.commit ∷ Eight v.position ∷ Four v.root ∷ Four (length v.volumes.items) ∷ []

-- the 24 bytes between the volumes and the snapshots
abbrev pub restart_middle : RestartRecord → List Field
restart_middle v =
    Eight v.base ∷ Four v.pending_medium ∷ Four (length v.snapshots.items)
    ∷ Eight v.pending_savepoint ∷ []

-- the fields of a restart record, in order
abbrev pub restart_fields : RestartRecord → List Field
restart_fields v =
    (restart_front v ++ table_fields word_format.fields 4 32 v.volumes.items)
    ++ (restart_middle v ++ table_fields snapshot_fields 32 (slot_len - 128) v.snapshots.items)

-- there is no root only while a restore is open
abbrev pub restart_numbers_fit : RestartRecord → Bool
restart_numbers_fit v =
    v.format == 1 && nat_le 1 v.name.birth && nat_le 1 v.name.generation
    && (nat_lt 0 v.root || state_number v.state == 1) && nat_le v.pending_medium 99

-- 1 to 8 volumes, and up to 8 snapshots by ascending number
abbrev pub restart_tables_fit : RestartRecord → Bool
restart_tables_fit v =
    nat_le 1 (length v.volumes.items) && nat_le (length v.volumes.items) 8
    && nat_le (length v.snapshots.items) 8
    && list_all snapshot_fits v.snapshots.items
    && ascend_from 0 (map (λ e. e.number) v.snapshots.items)

-- the limits of a restart record beside the room of its fields
abbrev pub restart_fits : RestartRecord → Bool
restart_fits v = restart_numbers_fit v && restart_tables_fit v

-- what stands at the places of a restart record
abbrev pub restart_reads : List ℕ → RestartRecord
restart_reads bytes = record {
  format = number_at 4 8 bytes;
  state = area_state_of (number_at 4 12 bytes);
  slot = number_at 8 16 bytes;
  name = record { birth = number_at 8 24 bytes; generation = number_at 8 32 bytes };
  savepoint = number_at 8 40 bytes;
  commit = number_at 8 48 bytes;
  position = number_at 8 56 bytes;
  root = number_at 4 64 bytes;
  volumes =
      record {
        items = read_run word_format.reads (λ n. 4) (min (number_at 4 68 bytes) 8)
            (drop 72 bytes);
      };
  base = number_at 8 104 bytes;
  pending_medium = number_at 4 112 bytes;
  pending_savepoint = number_at 8 120 bytes;
  snapshots =
      record {
        items = read_run snapshot_reads (λ e. 32) (min (number_at 4 116 bytes) 8)
            (drop 128 bytes);
      };
}

-- the format of a restart record
abbrev pub restart_format : Format RestartRecord
restart_format = record { fits = restart_fits; fields = restart_fields; reads = restart_reads }
