-- What the call of the program keeps.
--     RunPromise, NewPromise      of a run of a script; of making a database
--     EndsRun, EndsCreate      the statuses of each
--     HasDevice      a device that a database may have is there
--     touches_nothing      the statuses of a call that did nothing
use Rattle.std.specs.Prelude.{ℕ, ◌<◌, Bool, true, false, List, Option}
use Rattle.mdb_model.specs.declared.status.Status.{Status}
use Rattle.mdb_model.specs.declared.status.Status.TheVariants.{Done, Usage, Memory, DeviceFault, Exists}
use Rattle.mdb_model.specs.Agreement.{Ages}
use Rattle.mdb_model.specs.Headline.{CanStart, CreatePromise}
use Rattle.mdb_model.specs.Worlds.{World}
use Rattle.mdb_host.specs.Disk.{Disk, IsThere}
use Rattle.mdb_host.specs.Places.{device_at}
use Rattle.creation.specs.Devices.{device_count}
use Rattle.script_run.specs.Along.{KeepsSerialRun}
use Rattle.open_database.specs.Outside.{page_reading, StandsFor}

-- of each start, by what a crash at the entry may leave: the promise of a call. Of the source are
-- given the bytes that it tells before and after, where it tells them
abbrev pub RunPromise : (old new : Disk) → (faults_before faults : ℕ) → Status
    → (left_before left : Option (List ℕ)) → Type 0
RunPromise old new faults_before faults status left_before left =
    (from : List (World × Ages))
    → CanStart page_reading old.said old.may_leave StandsFor old.now from
    → KeepsSerialRun page_reading StandsFor old new faults_before faults from status left_before
    left

-- of a database of this birth, with volumes of so many pages
abbrev pub NewPromise : (old new : Disk) → Status → (birth log_pages : ℕ) → (data_pages : List ℕ)
    → Type 0
NewPromise old new status birth log_pages data_pages =
    CreatePromise page_reading new.said new.may_leave StandsFor status old.now new.now birth
    log_pages data_pages

abbrev pub EndsRun : Status → Type 0
EndsRun Usage = ⊥
EndsRun DeviceFault = ⊥
EndsRun Exists = ⊥
EndsRun _ = Unit {0}

abbrev pub EndsCreate : Status → Type 0
EndsCreate Done = Unit {0}
EndsCreate Memory = Unit {0}
EndsCreate DeviceFault = Unit {0}
EndsCreate Exists = Unit {0}
EndsCreate _ = ⊥

abbrev pub HasDevice : Disk → Type 0
HasDevice disk = (number : ℕ) × (number < device_count) × IsThere disk.seen (device_at number)

abbrev pub touches_nothing : Status → Bool
touches_nothing Usage = true
touches_nothing Memory = true
touches_nothing Exists = true
touches_nothing _ = false
