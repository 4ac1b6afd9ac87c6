-- What a kernel keeps, against the worlds that may be.
--     state_of      its operational state
--     opens, opened_reply      the line that opens a database, and its reply
--     IsSoundKernel, greatest_in      what holds of it whatever the devices have; the greatest of
--         its numbers that grow
--     HasWorlds, FitsWorlds      a kernel with an open database, and one with none, against the
--         worlds that may be
--     scanned_rows, answer_of, CanAsk, NextIs      the answer to a line with the rows of a scan, and
--         how these are asked for
--     IsScan      a scan
--     as_refusal, page_refusal      how a fault is answered
use Rattle.std.specs.Prelude.{◌≡◌, ℕ, List, Option, Some, None}
use Rattle.std.specs.FinMap.{empty}
use Rattle.mdb_model.specs.Answers.{Answer, plain}
use Rattle.mdb_model.specs.Tables.{Tables}
use Rattle.mdb_model.specs.Worlds.{World}
use Rattle.mdb_model.specs.declared.fault.OpenFault.{OpenFault}
use Rattle.mdb_model.specs.declared.fault.OpenFault.TheVariants.{Memory, Failed as OpenFailed, Damaged as OpenDamaged}
use Rattle.mdb_model.specs.declared.fault.PageFault.{PageFault}
use Rattle.mdb_model.specs.declared.fault.PageFault.TheVariants.{Failed as PageFailed, Damaged as PageDamaged}
use Rattle.mdb_model.specs.declared.name.Session.{Session}
use Rattle.mdb_model.specs.declared.name.State.{State}
use Rattle.mdb_model.specs.declared.name.State.TheVariants as state
use Rattle.mdb_model.specs.declared.name.Table.{Table}
use Rattle.mdb_model.specs.declared.script.Command.{Command}
use Rattle.mdb_model.specs.declared.script.Command.TheVariants.{ScanTable, DbAdmin, DbOnline}
use Rattle.mdb_model.specs.declared.script.Next.{Next}
use Rattle.mdb_model.specs.declared.script.Next.TheVariants.{Row, End, Fault}
use Rattle.mdb_model.specs.declared.script.Refusal.{Refusal}
use Rattle.mdb_model.specs.declared.script.Refusal.TheVariants.{Damaged, DeviceFailed, MemoryWanting}
use Rattle.mdb_model.specs.declared.script.Reply.{Reply}
use Rattle.mdb_model.specs.declared.script.Reply.TheVariants.{Refused, AdminAt, OnlineAt}
use Rattle.mdb_host.specs.Disk.{Disk}
use Rattle.mdb_bytes.specs.Held.{next_row}
use Rattle.session_rows.specs.Replies.{scan_answer}
use Rattle.open_database.specs.declared.database.Access.{Access}
use Rattle.open_database.specs.declared.database.Access.TheVariants.{Admin, Online}
use Rattle.open_database.specs.declared.database.Database.{Database}
use Rattle.open_database.specs.Serving.{IsSoundDatabase, FitsOpen, AreOff, greatest_number, open_state}
use Rattle.open_database.specs.Taking.{seen_by, CanScan}

-- the operational state of a kernel
abbrev pub state_of : Option Database → State
state_of None = state.Offline
state_of (Some database) = open_state database.access

-- the line that opens a database
abbrev pub opens : Access → Command
opens Admin = DbAdmin
opens Online = DbOnline

-- its reply, with the number of the last commit
abbrev pub opened_reply : Access → ℕ → Reply
opened_reply Admin number = AdminAt number
opened_reply Online number = OnlineAt number

-- an open database is in order, whatever the devices have. Callers do not look into it
unfoldable pub IsSoundKernel : (tells : Type 0) → Option Database → Disk → Type 0
IsSoundKernel tells None disk = Unit {0}
IsSoundKernel tells (Some database) disk = IsSoundDatabase tells database disk

-- the greatest of the numbers that grow
abbrev pub greatest_in : Option Database → ℕ
greatest_in None = 0
greatest_in (Some database) = greatest_number database

-- what is kept in memory, and what the devices hold, fits these worlds. It is said of hosts that
-- tell what they hold alone
abbrev pub HasWorlds : Option Database → Disk → List World → Type 0
HasWorlds None disk ws = AreOff ws
HasWorlds (Some database) disk ws = FitsOpen (Unit {0}) database disk ws

-- a kernel fits these worlds. Callers do not look into it
unfoldable pub FitsWorlds : Option Database → Disk → List World → Type 0
FitsWorlds database disk ws = HasWorlds database disk ws

-- Answers

-- the rows that a session sees, where a database is open
abbrev pub scanned_rows : Option Database → Disk → Session → Tables
scanned_rows None disk session = empty
scanned_rows (Some database) disk session = seen_by database disk session

-- the answer to a line, by its reply and what is open then
abbrev pub answer_of : Command → Option Database → Disk → Reply → Answer
answer_of (ScanTable session table) database disk reply =
    scan_answer (scanned_rows database disk session) table reply
answer_of _ database disk reply = plain reply

-- the rows of a scan can be asked for one at a time, and counted
abbrev pub CanAsk : Command → Option Database → Disk → Type 0
CanAsk (ScanTable session table) database disk =
    CanScan (scanned_rows database disk session) table
CanAsk _ database disk = Unit {0}

-- a scan
abbrev pub IsScan : Command → Type 0
IsScan (ScanTable session table) = Unit {0}
IsScan _ = ⊥

-- the next row of a scan, or its end; over rows that are known only a device may fail
abbrev pub NextIs : Option Database → Disk → Session → Table → (after key value : List ℕ) → Next
    → Type 0
NextIs database disk session table after key value Row =
    next_row (scanned_rows database disk session) table.0 after ≡ Some (key, value)
NextIs database disk session table after key value End =
    next_row (scanned_rows database disk session) table.0 after ≡ None
NextIs database disk session table after key value (Fault reply) = reply ≡ Refused DeviceFailed

-- Faults

-- how a fault of an opening is answered
abbrev pub as_refusal : OpenFault → Refusal
as_refusal Memory = MemoryWanting
as_refusal OpenFailed = DeviceFailed
as_refusal (OpenDamaged damage) = Damaged damage

-- how a fault of pages is answered
abbrev pub page_refusal : PageFault → Refusal
page_refusal PageFailed = DeviceFailed
page_refusal (PageDamaged damage) = Damaged damage
