-- What the devices of a ground stand for.
--     rows_shown      the rows that an image stands for, by what it shows
--     undone_in      the commits of the log that are not set
--     StandsForWorld      the devices stand for a world, whose rows are reached by these commits
--     KeepsWorlds      at each moment each image stands for what all stood for at first
use Rattle.std.specs.Prelude.{◌≡◌, ◌+◌, ◌^◌, ◌<◌, List, [], ◌++◌, length, unwrap_or, option_and_then}
use Rattle.std.specs.FinMap.{empty}
use Rattle.mdb_model.specs.declared.change.Commit.{Commit}
use Rattle.mdb_model.specs.Images.{Image}
use Rattle.mdb_model.specs.Pages.{committed}
use Rattle.mdb_model.specs.Tables.{Tables, with_commits}
use Rattle.mdb_model.specs.Worlds.{World}
use Rattle.mdb_host.specs.Disk.{Disk}
use Rattle.mdb_bytes.specs.declared.log_info.LogInfo.{LogInfo}
use Rattle.mdb_bytes.specs.declared.restart_record.RestartRecord.{RestartRecord}
use Rattle.mdb_bytes.specs.Forms.{reading}
use Rattle.mdb_bytes.specs.LogReading.{log_from, log_bytes}
use Rattle.mdb_bytes.specs.Rings.{ring_byte, ring_size}
use Rattle.gate_slots.specs.declared.slots.Slots.{Slots}
use Rattle.page_store.specs.Store.{Store}
use Rattle.redo_ring.specs.declared.reader.RingReader.{RingReader}
use Rattle.standing.specs.Looks.{Look, LogPoint}
use Rattle.standing.specs.WholeStanding.{StandsWhole}
use Rattle.kept_worlds.specs.InService.{IsInService, AllStand, AtEachMoment, EndsAt, IsPlain}
use Rattle.page_ground.specs.declared.set_point.SetPoint.{SetPoint}
use Rattle.page_ground.specs.LogKnown.{left_in, IsLogKnown}

-- the rows of the record's map, with the commits after the record
unfoldable pub rows_shown : Look → Tables
rows_shown l =
    with_commits (unwrap_or l.redo_log [])
    (unwrap_or (option_and_then (λ kept. committed reading kept.pages) l.kept) empty)

-- the commits after those that are set
unfoldable pub undone_in : RingReader → SetPoint → Image → List Commit
undone_in reader set seen =
    unwrap_or
    (log_from (ring_byte reader.size seen) reader.name reader.size set.position set.commit)
    []

-- The devices stand for a world, and the database is in service for it. The commits after the
-- record are done up to the point that is set; the others are not. The reader is of the same log,
-- which ends at one place for both.
pub record StandsForWorld (tells : Type 0) (slots : Slots) (r : RestartRecord)
    (reader : RingReader) (set : SetPoint) (s : Store) (d : Disk) : Type 0 where
  pub world : World
  pub stand : AllStand world d
  pub plain : IsPlain world
  pub info : LogInfo
  pub saved : LogPoint
  pub done : List Commit
  pub service : IsInService tells slots r info saved (done ++ undone_in reader set d.seen) s d
  pub ends : EndsAt r done set.position set.commit
  pub name : reader.name ≡ r.name
  pub size : reader.size ≡ ring_size info.pages
  pub known : IsLogKnown tells reader d.seen
  pub same_end : reader.position + log_bytes (left_in reader d.seen)
      ≡ set.position + log_bytes (undone_in reader set d.seen)
  pub same_number : reader.number + length (left_in reader d.seen)
      ≡ set.commit + length (undone_in reader set d.seen)
  pub low_end : set.position + log_bytes (undone_in reader set d.seen) < 2 ^ 62
  pub low_number : set.commit + length (undone_in reader set d.seen) < 2 ^ 62

-- at each moment each image stands for the world that all stood for at first
pub record KeepsWorlds (old new : Disk) : Type 0 where
  pub each_world : (w : World) → AllStand w old → IsPlain w
      → AtEachMoment old new (λ image. StandsWhole image w)
