-- What reading the records of a restart finds.
--     VolumeFits      a data volume is as the record says
--     IsAreaSize      how many blocks the volumes of the record have together
--     IsLowStart      where a log begins
--     FindsRecords      what the records say
use Rattle.std.specs.Prelude.{◌≡◌, ℕ, ◌+◌, ◌*◌, ◌^◌, ◌<◌, ◌≤◌, get_or, sum, false, Some}
use Rattle.mdb_model.specs.declared.fault.Device.TheVariants.{Data}
use Rattle.mdb_model.specs.Images.{Image, size_of}
use Rattle.mdb_bytes.specs.declared.restart_record.AreaState.TheVariants.{Normal}
use Rattle.mdb_bytes.specs.declared.log_info.LogInfo.{LogInfo}
use Rattle.mdb_bytes.specs.declared.restart_record.RestartRecord.{RestartRecord}
use Rattle.redo_ring.specs.declared.open.LogStart.{LogStart}
use Rattle.db_kernel.specs.declared.opening.Found.{Found}
use Rattle.db_kernel.specs.Damages.{HasRestart, HasLogInfo, log_start_of, is_past_end}

-- a data volume has the pages that the record says, and no fewer than a volume may have
pub record VolumeFits (restart : RestartRecord) (volume : ℕ) (image : Image) : Type 0 where
  pub size : size_of (image (Data (volume + 1)))
      ≡ Some (get_or restart.volumes.items volume 0 * 8192)
  pub least : 64 ≤ get_or restart.volumes.items volume 0

-- the volumes have so many blocks together, within the limits of a data area
pub record IsAreaSize (restart : RestartRecord) (blocks : ℕ) : Type 0 where
  pub is : blocks ≡ sum restart.volumes.items
  pub least : 512 ≤ blocks
  pub most : blocks ≤ 65536

-- where a log begins whose records have no number past the end
pub record IsLowStart (start : LogStart) : Type 0 where
  pub pages : (4 ≤ start.pages) × (start.pages ≤ 65536)
  pub position : start.position < 2 ^ 61
  pub commit : start.commit < 2 ^ 61
  pub saved_position : start.saved_position < 2 ^ 61
  pub saved_commit : start.saved_commit < 2 ^ 61
  pub birth : start.name.birth < 2 ^ 61
  pub generation : start.name.generation < 2 ^ 61

-- what is found are the start of the log and the blocks, by the records in force
pub record FindsRecords (found : Found) (image : Image) : Type 0 where
  pub restart : RestartRecord
  pub has_restart : HasRestart image restart
  pub info : LogInfo
  pub has_info : HasLogInfo image info
  pub is : found.in_force.record ≡ restart
  pub start : found.start ≡ log_start_of restart info
  pub blocks : found.blocks ≡ sum restart.volumes.items
  -- no restore is open, and no number is past the end
  pub normal : restart.state ≡ Normal
  pub low : is_past_end restart info ≡ false
