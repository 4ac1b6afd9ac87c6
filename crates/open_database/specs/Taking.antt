-- A line of an open database, whichever it is.
--     closes      the lines after which no database is open
--     seen_by      the rows that a session sees
--     answer_by      the answer to a line, by its reply
--     CanScan, CanAskFor      rows can be asked for one at a time; so can those of a scan
--     FitsAfter      what a line leaves of the worlds that may be
--     DoesLine      what a line does
--     TakesOpen      what it keeps, whatever the devices have
--     RefusalKeeps      after a refusal the database is as it was
use Rattle.std.specs.Prelude.{◌≡◌, ℕ, ◌+◌, ◌^◌, ◌<◌, ◌≤◌, List, length, Bool, true, false, Some, Result, Ok, Err, OnOk, IfOk}
use Rattle.mdb_model.specs.Answers.{Answer, plain, refused}
use Rattle.mdb_model.specs.Causes.{Rose}
use Rattle.mdb_model.specs.Steps.{rows_of}
use Rattle.mdb_model.specs.Tables.{Tables}
use Rattle.mdb_model.specs.Worlds.{World}
use Rattle.mdb_model.specs.declared.fault.PageFault.{PageFault}
use Rattle.mdb_model.specs.declared.fault.PageFault.TheVariants.{Failed, Damaged}
use Rattle.mdb_model.specs.declared.name.Session.{Session}
use Rattle.mdb_model.specs.declared.name.Table.{Table}
use Rattle.mdb_model.specs.declared.script.Command.{Command}
use Rattle.mdb_model.specs.declared.script.Command.TheVariants.{ScanTable, DbOffline, Kill}
use Rattle.mdb_model.specs.declared.script.Refusal.TheVariants.{DeviceFailed}
use Rattle.mdb_model.specs.declared.script.Reply.{Reply}
use Rattle.mdb_host.specs.Disk.{Disk, Keeps}
use Rattle.session_rows.specs.Replies.{scan_answer, IsRefusal}
use Rattle.session_rows.specs.Scan.{seen_rows}
use Rattle.session_rows.specs.Serving.{HasKeys}
use Rattle.store_rows.specs.StoredRows.{stored_rows}
use Rattle.open_database.specs.declared.database.Database.{Database}
use Rattle.open_database.specs.Outside.{page_reading, StandsFor}
use Rattle.open_database.specs.Refusing.{KeepsDatabase}
use Rattle.open_database.specs.Replies.{IsInside}
use Rattle.open_database.specs.Serving.{IsSoundDatabase, FitsOpen, AreOff, greatest_number}
use Rattle.open_database.specs.Stretch.{Completes}

-- the lines that close a database
abbrev pub closes : Command → Bool
closes DbOffline = true
closes Kill = true
closes _ = false

-- the rows that a session sees
abbrev pub seen_by : Database → Disk → Session → Tables
seen_by database d session =
    seen_rows (stored_rows database.area.store d.seen) database.transactions session.0

-- the answer to a line, by its reply and what is open then
abbrev pub answer_by : Command → Database → Disk → Reply → Answer
answer_by (ScanTable session table) database d reply =
    scan_answer (seen_by database d session) table reply
answer_by _ database d reply = plain reply

-- Rows can be asked for one at a time: none of them has an empty key, at which a scan begins, and
-- those of the table can be counted.
pub record CanScan (rows : Tables) (table : Table) : Type 0 where
  pub keyed : HasKeys rows
  pub few : length (rows_of rows table.0) + 1 < 2 ^ 64

-- so can the rows of a scan
abbrev pub CanAskFor : Command → Database → Disk → Type 0
CanAskFor (ScanTable session table) database d = CanScan (seen_by database d session) table
CanAskFor _ database d = Unit {0}

-- after a line that closes it the worlds are off, after any other the database fits them
abbrev pub FitsAfter : (closed : Bool) → (tells : Type 0) → Database → Disk → List World → Type 0
FitsAfter true tells database d ws = AreOff ws
FitsAfter false tells database d ws = FitsOpen tells database d ws

-- The line is done, or a device failed and the database has to be given up. Where it serves a world
-- damage never comes.
abbrev pub DoesLine : (tells : Type 0) → (old new : Disk) → List World → Command
    → (after : Database) → Result Reply PageFault → Type 0
DoesLine tells old new ws line after (Ok reply) =
    Completes page_reading StandsFor old new ws (Some line) (answer_by line after new reply)
    (FitsAfter (closes line) tells after new)
DoesLine tells old new ws line after (Err Failed) =
    Completes page_reading StandsFor old new ws (Some line) (refused DeviceFailed) AreOff
DoesLine tells old new ws line after (Err (Damaged damage)) = ⊥

-- after a refusal all is as before
abbrev pub RefusalKeeps : Database → Database → Result Reply PageFault → Type 0
RefusalKeeps old new (Ok reply) = IsRefusal reply → KeepsDatabase old new
RefusalKeeps old new (Err fault) = Unit {0}

-- The disk and the count of failed calls are those before and after the line; what is said of the
-- disk holds where the host tells what it holds.
pub record TakesOpen (tells : Type 0) (before after : Disk) (failed failed_after : ℕ)
    (old new : Database) (result : Result Reply PageFault) : Type 0 where
  pub sound : OnOk result (IsSoundDatabase tells new after)
  pub numbers : OnOk result (greatest_number new ≤ greatest_number old + 2 ^ 35)
  pub keeps : tells → Keeps before after
  -- a refusal leaves it as it was, and a reply tells nothing of the devices
  pub refused : RefusalKeeps old new result
  pub inside : IfOk result IsInside
  -- DEVICE has a call that failed
  pub later : failed ≤ failed_after
  pub cause : result ≡ Err Failed → Rose failed failed_after
