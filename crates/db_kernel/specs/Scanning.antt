-- The next row of an open scan, as it is asked for. A row that is read may call a device.
--     FaultHasCause      why a row could not be read, and what that leaves
--     TakesRow      what is kept, over a host that tells what it holds or does not
--     IsGiven, ReadsRow      over worlds that the kernel fits: a row or the end comes, as it is in
--         the rows; or a device failed
use Rattle.std.specs.Prelude.{◌≡◌, ℕ, ◌≤◌, List, Option, None}
use Rattle.mdb_model.specs.declared.name.Session.{Session}
use Rattle.mdb_model.specs.declared.name.Table.{Table}
use Rattle.mdb_model.specs.declared.script.Next.{Next}
use Rattle.mdb_model.specs.declared.script.Next.TheVariants.{Row, End, Fault}
use Rattle.mdb_model.specs.declared.script.Refusal.TheVariants.{Damaged, DeviceFailed}
use Rattle.mdb_model.specs.declared.script.Reply.TheVariants.{Refused}
use Rattle.mdb_model.specs.Causes.{Rose}
use Rattle.mdb_model.specs.Images.{Image}
use Rattle.mdb_model.specs.Worlds.{World}
use Rattle.mdb_host.specs.Disk.{Disk, Keeps}
use Rattle.open_database.specs.declared.database.Database.{Database}
use Rattle.open_database.specs.Stretch.{StandsForOneOf}
use Rattle.db_kernel.specs.Kept.{IsSoundKernel, greatest_in, FitsWorlds, NextIs, scanned_rows}

-- a device failed in a call since, or bytes broke a rule; the kernel is off then
abbrev pub FaultHasCause : (failed failed_after : ℕ) → (after : Option Database) → Next → Type 0
FaultHasCause failed failed_after after (Fault (Refused DeviceFailed)) =
    Rose failed failed_after × (after ≡ None)
FaultHasCause failed failed_after after (Fault (Refused (Damaged damage))) = after ≡ None
FaultHasCause failed failed_after after (Fault _) = ⊥
FaultHasCause failed failed_after after _ = Unit {0}

-- The disk and the count of failed calls are those before and after the row; what is said of the
-- disk holds where the host tells what it holds.
pub record TakesRow (tells : Type 0) (old new : Disk) (failed failed_after : ℕ)
    (before after : Option Database) (next : Next) : Type 0 where
  -- an open database is in order, and its numbers do not grow
  pub sound : IsSoundKernel tells after new
  pub numbers : greatest_in after ≤ greatest_in before
  -- what was known of the moments before stays known
  pub keeps : tells → Keeps old new
  -- a fault has a cause
  pub later : failed ≤ failed_after
  pub cause : FaultHasCause failed failed_after after next

-- a row, or the end of the rows
abbrev pub IsGiven : Next → Type 0
IsGiven Row = Unit {0}
IsGiven End = Unit {0}
IsGiven (Fault reply) = ⊥

-- The kernel fits these worlds, and each image stands for one of them at each moment of the call.
pub record ReadsRow (old new : Disk) (ws : List World) (before after : Option Database)
    (session : Session) (table : Table) (from key value : List ℕ) (next : Next) : Type 0 where
  -- nothing is said
  pub quiet : (t : ℕ) → old.now ≤ t → t ≤ new.now → new.said t ≡ old.said old.now
  pub stand : (t : ℕ) (image : Image) → old.now ≤ t → t ≤ new.now → new.may_leave t image
      → StandsForOneOf ws image
  -- the row that comes next, or the end; or a device failed
  pub is_next : NextIs before old session table from key value next
  -- after a row and the end it fits them still, and the session sees the same rows
  pub fit : IsGiven next → FitsWorlds after new ws
  pub same : IsGiven next → scanned_rows after new session ≡ scanned_rows before old session
