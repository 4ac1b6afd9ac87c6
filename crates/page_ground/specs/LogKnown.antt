-- What is left of the log on the ring, and what calls leave of it.
--     left_in      the commits that a reader has still to read
--     held_in      what a store and a reader hold
--     IsLogKnown      the log from a reader on is there, and ends within a turn of the ring
--     ReadsOn      a reader stands further on in the same log
use Rattle.std.specs.Prelude.{◌≡◌, ◌+◌, ◌<◌, ◌≤◌, List, [], length, unwrap_or}
use Rattle.std.specs.FinMap.{empty}
use Rattle.mdb_model.specs.Images.{Image}
use Rattle.mdb_model.specs.declared.change.Commit.{Commit}
use Rattle.mdb_bytes.specs.Held.{Holding}
use Rattle.mdb_bytes.specs.LogReading.{IsLog, log_from, log_bytes}
use Rattle.mdb_bytes.specs.Rings.{HasRing, ring_byte}
use Rattle.page_store.specs.Store.{Store}
use Rattle.store_rows.specs.StoredRows.{stored_rows}
use Rattle.redo_ring.specs.declared.reader.RingReader.{RingReader}

-- the commits of the log from the reader's position on, or none where no log stands there
abbrev pub left_in : RingReader → Image → List Commit
left_in reader seen =
    unwrap_or
    (log_from (ring_byte reader.size seen) reader.name reader.size reader.position reader.number)
    []

-- the rows on the pages, no undo files, and what is left of the log
abbrev pub held_in : Store → RingReader → Image → Holding
held_in store reader seen = record {
  rows = stored_rows store seen;
  undo = empty;
  log = record { name = reader.name; after = reader.number; commits = left_in reader seen };
}

-- The host tells, the log volume is there, and a whole log stands in it from the reader's position
-- on. It ends less than a turn of the ring after the reader's start.
pub record IsLogKnown (tells : Type 0) (reader : RingReader) (seen : Image) : Type 0 where
  pub told : tells
  pub ring : HasRing reader.size seen
  pub log : IsLog (ring_byte reader.size seen) reader.name reader.position reader.number
      (left_in reader seen)
  pub room : reader.position + log_bytes (left_in reader seen) < reader.start + reader.size

-- The reader is of the same log and stands no earlier in it. Where the log was known it still is,
-- and it ends where it ended, with the same last number.
pub record ReadsOn (tells : Type 0) (old new : RingReader) (before after : Image) : Type 0 where
  pub name : new.name ≡ old.name
  pub size : new.size ≡ old.size
  pub start : new.start ≡ old.start
  pub on : old.position ≤ new.position
  pub known : IsLogKnown tells old before → IsLogKnown tells new after
  pub ends : IsLogKnown tells old before
      → new.position + log_bytes (left_in new after) ≡ old.position + log_bytes (left_in old before)
  pub count : IsLogKnown tells old before
      → new.number + length (left_in new after) ≡ old.number + length (left_in old before)
