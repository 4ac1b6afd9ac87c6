-- A store that was opened at a restart, and what it starts with.
--     IsOpenedOn      a store on the record in force, where what a read gives stands for a world
--     StartsService      the database is in service for the world, with commits to be redone
use Rattle.std.specs.Prelude.{◌≡◌, ℕ, ◌+◌, ◌-◌, ◌<◌, List, length, Some}
use Rattle.mdb_model.specs.declared.change.Commit.{Commit}
use Rattle.mdb_model.specs.History.{last, tables_of}
use Rattle.mdb_model.specs.Images.{Image}
use Rattle.mdb_model.specs.Tables.{with_commits}
use Rattle.mdb_model.specs.Worlds.{World}
use Rattle.mdb_host.specs.Disk.{Disk}
use Rattle.mdb_bytes.specs.declared.log_info.LogInfo.{LogInfo}
use Rattle.mdb_bytes.specs.declared.restart_record.RestartRecord.{RestartRecord}
use Rattle.mdb_bytes.specs.LogReading.{IsLog, log_bytes}
use Rattle.mdb_bytes.specs.Rings.{ring_byte, ring_size}
use Rattle.gate_slots.specs.declared.body.SlotBody.TheVariants.{Restart}
use Rattle.gate_slots.specs.declared.slots.Slots.{Slots}
use Rattle.gate_slots.specs.Slots.{HasBody, IsReady, in_force}
use Rattle.volume_disk.specs.Blocks.{IsDurable, block_at}
use Rattle.converter.specs.Loads.{IsRead}
use Rattle.converter.specs.Maps.{IsSoundMaps, block_of}
use Rattle.savepoint.specs.Stands.{restart_place}
use Rattle.page_store.specs.Opens.{IsStoreOpened}
use Rattle.page_store.specs.Store.{Store, IsStore, IsKnown, block_count}
use Rattle.store_rows.specs.StoredRows.{stored_rows, HasRows}
use Rattle.standing.specs.Looks.{LogPoint, look, log_info_in}
use Rattle.standing.specs.Standing.{data_slots}
use Rattle.standing.specs.WholeStanding.{StandsWhole}
use Rattle.kept_worlds.specs.InService.{IsInService, AllStand, IsPlain, HasRoomToSet}

-- A store that was opened on the record in force, over devices that are synced, where what a read
-- gives stands for a world.
pub record IsOpenedOn (tells : Type 0) (slots : Slots) (r : RestartRecord) (info : LogInfo)
    (s : Store) (d : Disk) (w : World) : Type 0 where
  pub told : tells
  pub stands : StandsWhole d.seen w
  -- a crash now leaves what a read gives, as far as it shows
  pub synced : (image : Image) → d.may_leave d.now image → look image ≡ look d.seen
  -- the records were read, with the slots of the first
  pub restart : in_force d.seen data_slots ≡ Some (Restart r)
  pub log_info : log_info_in d.seen ≡ Some info
  pub slots_read : HasBody restart_place slots (Restart r)
  pub ready : (image : Image) → d.may_leave d.now image → IsReady slots (Restart r) image
  pub durable : IsDurable r.volumes.items d
  -- the store was opened on the record, and its map was read
  pub opened : IsStoreOpened s r.volumes.items r.savepoint
  pub sound : IsSoundMaps s.maps
  pub store : IsStore s
  pub known : IsKnown tells s d.seen
  pub read : IsRead s.maps.conv (block_count s) r.root (block_at r.volumes.items d.seen)
      (s.maps.conv - 1) s.maps.saved
  pub own : (q : ℕ) → q < s.maps.conv → 1 < block_of s.maps.saved q

-- The database is in service for the world: with these commits to be redone, for which there is
-- room, its rows become those of the world.
pub record StartsService (tells : Type 0) (slots : Slots) (r : RestartRecord) (info : LogInfo)
    (s : Store) (d : Disk) (w : World) : Type 0 where
  pub log : List Commit
  pub saved : LogPoint
  pub service : IsInService tells slots r info saved log s d
  pub plain : IsPlain w
  pub stand : AllStand w d
  pub rows : HasRows tells s d.seen
  pub aimed : with_commits log (stored_rows s d.seen) ≡ tables_of w.history
  pub room : HasRoomToSet w.blocks log (stored_rows s d.seen)
  pub blocks : w.blocks ≡ block_count s
  -- the log stands in the ring, and ends with the last commit of the world
  pub there : IsLog (ring_byte (ring_size info.pages) d.seen) r.name r.position r.commit log
  pub short : log_bytes log < ring_size info.pages
  pub number : r.commit + length log ≡ last w.history
