-- The data area and the log of a database that a restart has read, before its log is redone.
--     start_of      where the log begins, by the records
--     IsFound      the records that were read, of an image that stands for a world
--     AwaitsRedo      the devices stand for a world, and the rows are those of its record
--     reader_from      a reader of the log from the record on
--     OpenLeaves      what a restart leaves of the world
--     IsRedone      what setting all commits of the log leaves
use Rattle.std.specs.Prelude.{◌≡◌, ℕ, ◌<◌, List, Option, Some, Result, Ok, Err, OnOk, IfErr}
use Rattle.mdb_model.specs.declared.change.Commit.{Commit}
use Rattle.mdb_model.specs.declared.fault.OpenFault.{OpenFault}
use Rattle.mdb_model.specs.declared.fault.OpenFault.TheVariants.{Memory, Failed as NotOpened, Damaged}
use Rattle.mdb_model.specs.declared.fault.PageFault.{PageFault}
use Rattle.mdb_model.specs.declared.fault.PageFault.TheVariants.{Failed}
use Rattle.mdb_model.specs.History.{tables_of}
use Rattle.mdb_model.specs.Images.{Image}
use Rattle.mdb_model.specs.Tables.{with_commits}
use Rattle.mdb_model.specs.Worlds.{World}
use Rattle.mdb_host.specs.Disk.{Disk}
use Rattle.mdb_bytes.specs.declared.log_info.LogInfo.{LogInfo}
use Rattle.mdb_bytes.specs.declared.restart_record.RestartRecord.{RestartRecord}
use Rattle.mdb_bytes.specs.LogReading.{IsLog, log_bytes}
use Rattle.mdb_bytes.specs.Rings.{ring_byte, ring_size}
use Rattle.gate_slots.specs.declared.body.SlotBody.TheVariants.{Restart}
use Rattle.gate_slots.specs.declared.slots.Slots.{Slots}
use Rattle.gate_slots.specs.Slots.{in_force}
use Rattle.page_store.specs.declared.record.RecordInForce.{RecordInForce}
use Rattle.page_store.specs.Opens.{own_pages}
use Rattle.page_store.specs.Store.{Store, block_count}
use Rattle.redo_ring.specs.declared.open.LogStart.{LogStart}
use Rattle.redo_ring.specs.declared.reader.RingReader.{RingReader}
use Rattle.redo_ring.specs.declared.ring.Ring.{Ring}
use Rattle.store_rows.specs.StoredRows.{stored_rows, HasRows}
use Rattle.standing.specs.Looks.{LogPoint, look, log_info_in, saved_point}
use Rattle.standing.specs.Standing.{data_slots}
use Rattle.standing.specs.WholeStanding.{StandsWhole}
use Rattle.kept_worlds.specs.InService.{IsInService, AllStand, AtEachMoment, EndsAt, IsPlain, HasRoomToSet}
use Rattle.page_ground.specs.LogKnown.{left_in, IsLogKnown}
use Rattle.page_ground.specs.Aims.{rows_shown, StandsForWorld, KeepsWorlds}
use Rattle.page_ground.specs.SetGroups.{HasTheseRows, RedoesAll, set_at}
use Rattle.live_area.specs.declared.area.LiveArea.{LiveArea}
use Rattle.live_area.specs.Serving.{saved_by}

-- where a restart begins to read, and from where the log is not saved
abbrev pub start_of : RestartRecord → LogInfo → (saved : LogPoint) → LogStart
start_of r info saved = record {
  name = r.name;
  pages = info.pages;
  position = r.position;
  commit = r.commit;
  saved_position = saved.position;
  saved_commit = saved.commit;
}

-- What a read gives stands for the world, and a crash now leaves the same, as far as it shows. The
-- records were read.
pub record IsFound (r : RestartRecord) (start : LogStart) (d : Disk) (w : World) : Type 0 where
  pub info : LogInfo
  pub stands : StandsWhole d.seen w
  pub synced : (image : Image) → d.may_leave d.now image → look image ≡ look d.seen
  pub restart : in_force d.seen data_slots ≡ Some (Restart r)
  pub log_info : log_info_in d.seen ≡ Some info
  pub begins : start ≡ start_of r info (saved_point (look d.seen))

-- Each image that a crash now may leave stands for the world, and the database is in service. The
-- rows become those of the world with the commits of the log after the record, for which there is
-- room.
pub record AwaitsRedo (tells : Type 0) (slots : Slots) (r : RestartRecord) (s : Store)
    (ring : Ring) (d : Disk) (w : World) : Type 0 where
  pub stand : AllStand w d
  pub plain : IsPlain w
  pub info : LogInfo
  pub log : List Commit
  pub service : IsInService tells slots r info (saved_by ring) log s d
  pub rows : HasRows tells s d.seen
  pub aimed : with_commits log (stored_rows s d.seen) ≡ tables_of w.history
  pub room : HasRoomToSet w.blocks log (stored_rows s d.seen)
  pub blocks : w.blocks ≡ block_count s
  pub ends : EndsAt r log ring.end_position ring.last_commit
  pub name : ring.name ≡ r.name
  pub size : ring.size ≡ ring_size info.pages
  -- the log stands in the ring
  pub there : IsLog (ring_byte ring.size d.seen) r.name r.position r.commit log
  pub short : log_bytes log < ring.size

-- a reader of the ring from a record on
abbrev pub reader_from : Ring → RestartRecord → RingReader
reader_from ring r = record {
  name = ring.name;
  size = ring.size;
  start = r.position;
  position = r.position;
  number = r.commit;
}

-- At each moment each image stands for the world. What was opened serves it, and damage never
-- comes.
abbrev pub OpenLeaves : (old new : Disk) → World → (serves : LiveArea → Type 0)
    → Result LiveArea OpenFault → Type 0
OpenLeaves old new w serves (Ok area) =
    AtEachMoment old new (λ image. StandsWhole image w) × serves area
OpenLeaves old new w serves (Err Memory) = AtEachMoment old new (λ image. StandsWhole image w)
OpenLeaves old new w serves (Err NotOpened) = AtEachMoment old new (λ image. StandsWhole image w)
OpenLeaves old new w serves (Err (Damaged damage)) = ⊥

-- what setting all commits that a reader has left leaves, as redo_log of page_ground says it
pub record IsRedone (tells : Type 0) (reader : RingReader) (s t : Store)
    (was now : RecordInForce) (d e : Disk) (result : Result (Option ℕ) PageFault) : Type 0 where
  pub rows : HasRows tells s d.seen → IsLogKnown tells reader d.seen
      → OnOk result (HasTheseRows tells t e.seen
      (with_commits (left_in reader d.seen) (stored_rows s d.seen)))
  pub kept : HasRows tells s d.seen → IsLogKnown tells reader d.seen
      → StandsForWorld tells was.slots was.record reader (set_at reader) s d
      → with_commits (left_in reader d.seen) (stored_rows s d.seen) ≡ rows_shown (look d.seen)
      → HasRoomToSet (block_count s) (left_in reader d.seen) (stored_rows s d.seen)
      → KeepsWorlds d e × OnOk result (RedoesAll tells now.slots now.record reader t d e)
  pub whole : HasRows tells s d.seen → IsLogKnown tells reader d.seen
      → HasRoomToSet (block_count s) (left_in reader d.seen) (stored_rows s d.seen)
      → s.maps.conv ≡ own_pages (block_count s)
      → IfErr result (λ fault. fault ≡ Failed)
