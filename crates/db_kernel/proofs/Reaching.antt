-- What each image has of the records once all devices are synced: what was read of them.
use Rattle.std.proofs.Common.{◌≡◌, ◌∙◌, true, arith}
use Rattle.mdb_model.specs.declared.fault.Device.TheVariants.{Data, Log}
use Rattle.mdb_model.specs.declared.script.Command.{Command}
use Rattle.mdb_model.specs.Images.{Image}
use Rattle.mdb_host.specs.Disk.{Disk, Agree}
use Rattle.gate_slots.proofs.Kept.{force_device}
use Rattle.creation.specs.Devices.{device_count, SyncedUpTo}
use Rattle.standing.specs.Standing.{data_slots, log_slots}
use Rattle.db_kernel.specs.declared.opening.Found.{Found}
use Rattle.db_kernel.specs.Damages.{IsPastEnd, IsInReach, past_end_in, are_past_end}
use Rattle.open_database.specs.Stretch.{EachLeft}
use Rattle.db_kernel.specs.Reading.{FindsRecords}

module _ (d0 d1 : Disk) (seen : Agree d0.seen d1.seen) (synced : SyncedUpTo device_count d1) where
  data_left : (image : Image) → d1.may_leave d1.now image → image (Data 1) ≡ d0.seen (Data 1)
  data_left image left = synced 0 (omega arith) image left ∙ seen (Data 1)

  log_left : (image : Image) → d1.may_leave d1.now image → image Log ≡ d0.seen Log
  log_left image left = synced 8 (omega arith) image left ∙ seen Log

  pub each_in_reach : (found : Found) → FindsRecords found d0.seen → EachLeft d1 IsInReach
  each_in_reach found is image left = record {
    restart = is.restart;
    has_restart = force_device data_slots d0.seen image (data_left image left) ∙ is.has_restart;
    info = is.info;
    has_info = force_device log_slots d0.seen image (log_left image left) ∙ is.has_info;
    normal = is.normal;
    low = is.low;
  }

  pub each_past_end : IsPastEnd d0.seen → (line : Command) → EachLeft d1 (λ image. past_end_in line image ≡ true)
  each_past_end (restart, has_restart, (info, has_info, past)) line image left =
      let area = force_device data_slots d0.seen image (data_left image left) ∙ has_restart in
      let log = force_device log_slots d0.seen image (log_left image left) ∙ has_info in
      (λ i. are_past_end (area i) (log i)) ∙ past
