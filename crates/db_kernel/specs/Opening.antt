-- A database that was opened by its records.
--     IsSoundFound      the records that were found fit each other
--     OpensSynced, OpensWorld      what opening leaves of the world, of devices that are synced and
--         of any
--     IsBehindRecords      what an opening may be refused for once the records are in order
use Rattle.std.specs.Prelude.{◌≡◌, ◌⊎◌, ℕ, ◌^◌, ◌<◌, ◌≤◌, length, get_or, sum, Result, Ok, Err}
use Rattle.mdb_model.specs.Images.{Image}
use Rattle.mdb_model.specs.Worlds.{World}
use Rattle.mdb_model.specs.declared.script.Refusal.{Refusal}
use Rattle.mdb_model.specs.declared.script.Refusal.TheVariants.{Damaged, DeviceFailed, MemoryWanting, NumberEnd}
use Rattle.mdb_host.specs.Disk.{Disk}
use Rattle.mdb_bytes.specs.Parts.{KeepsLimits}
use Rattle.mdb_bytes.specs.SlotRecords.{restart_format}
use Rattle.gate_slots.specs.declared.body.SlotBody.TheVariants.{Restart}
use Rattle.gate_slots.specs.Slots.{HasBody}
use Rattle.savepoint.specs.Stands.{restart_place}
use Rattle.kept_worlds.specs.InService.{AtEachMoment}
use Rattle.open_database.specs.declared.database.Access.{Access}
use Rattle.open_database.specs.declared.database.Database.{Database}
use Rattle.open_database.specs.Opened.{opened_world}
use Rattle.open_database.specs.Outside.{StandsFor}
use Rattle.open_database.specs.Saving.{HasAllRows}
use Rattle.open_database.specs.Serving.{Serves}
use Rattle.open_database.specs.Stretch.{EachLeft}
use Rattle.db_kernel.specs.declared.opening.Found.{Found}
use Rattle.db_kernel.specs.Reading.{IsAreaSize}

-- the records that were found fit each other, and no number of them is past the end
pub record IsSoundFound (found : Found) : Type 0 where
  pub body : HasBody restart_place found.in_force.slots (Restart found.in_force.record)
  pub keeps : KeepsLimits restart_format found.in_force.record
  pub blocks : IsAreaSize found.in_force.record found.blocks
  pub few : length found.in_force.record.volumes.items ≤ 8
  pub big : 64 ≤ get_or found.in_force.record.volumes.items 0 0
  pub savepoint : found.in_force.record.savepoint < 2 ^ 61
  pub slot : found.in_force.record.slot < 2 ^ 61
  pub position : found.start.position ≡ found.in_force.record.position
  pub commit : found.start.commit ≡ found.in_force.record.commit

-- At each moment each image stands for the world, or is one that might have been left before. What
-- was opened serves the world, and each image has its rows; no other refusal is possible than that
-- memory ran out, a device failed, or a number is past the end, and then each image stands for the
-- world.
abbrev pub MayBeBefore : Disk → World → Image → Type 0
MayBeBefore old w image = old.may_leave old.now image ⊎ StandsFor image w

abbrev pub OpensWorld : (tells : Type 0) → (old new : Disk) → World → Access
    → Result Database Refusal → Type 0
OpensWorld tells old new w access (Ok database) =
    AtEachMoment old new (MayBeBefore old w)
    × Serves tells database new (opened_world access w) × EachLeft new (HasAllRows w)
OpensWorld tells old new w access (Err DeviceFailed) = AtEachMoment old new (MayBeBefore old w)
OpensWorld tells old new w access (Err MemoryWanting) = AtEachMoment old new (MayBeBefore old w)
OpensWorld tells old new w access (Err NumberEnd) =
    AtEachMoment old new (MayBeBefore old w) × EachLeft new (λ image. StandsFor image w)
OpensWorld tells old new w access (Err _) = ⊥

-- the same of devices that are synced: each image stands for the world
abbrev pub OpensSynced : (tells : Type 0) → (old new : Disk) → World → Access
    → Result Database Refusal → Type 0
OpensSynced tells old new w access (Ok database) =
    AtEachMoment old new (λ image. StandsFor image w)
    × Serves tells database new (opened_world access w) × EachLeft new (HasAllRows w)
OpensSynced tells old new w access (Err DeviceFailed) =
    AtEachMoment old new (λ image. StandsFor image w)
OpensSynced tells old new w access (Err MemoryWanting) =
    AtEachMoment old new (λ image. StandsFor image w)
OpensSynced tells old new w access (Err _) = ⊥

-- once the records are in order, memory may run out, a device fail, or pages or the log be damaged
abbrev pub IsBehindRecords : Refusal → Type 0
IsBehindRecords DeviceFailed = Unit {0}
IsBehindRecords MemoryWanting = Unit {0}
IsBehindRecords (Damaged damage) = Unit {0}
IsBehindRecords _ = ⊥
