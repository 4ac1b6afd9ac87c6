-- The rows of an open scan as they are read and said, over a host that tells what it holds.
--     IsOpenScan      what a scan stands on
--     GoesOn      a text was said, and the kernel goes on with the same rows
--     SaysNext      the next row was said, or there is none, or a device failed
--     EndsRows      the rows that were said and the reply that ends them: all, or the first ones
--         and a device that failed
--     SaysRows, SaysScan      the rows were said; and the reply after them
use Rattle.std.specs.Prelude.{◌≡◌, ℕ, ◌+◌, ◌^◌, ◌<◌, List, [], ◌++◌, length, Option, None, Some, Result, Ok, Err, OnOk}
use Rattle.mdb_model.specs.declared.fault.Failed.{Failed as Fault}
use Rattle.mdb_model.specs.declared.name.Session.{Session}
use Rattle.mdb_model.specs.declared.name.Table.{Table}
use Rattle.mdb_model.specs.declared.script.Next.{Next}
use Rattle.mdb_model.specs.declared.script.Next.TheVariants as next
use Rattle.mdb_model.specs.declared.script.Refusal.TheVariants.{DeviceFailed}
use Rattle.mdb_model.specs.declared.script.Reply.{Reply}
use Rattle.mdb_model.specs.declared.script.Reply.TheVariants.{ScanOpen, Refused}
use Rattle.mdb_model.specs.Answers.{Item}
use Rattle.mdb_model.specs.Causes.{Rose}
use Rattle.mdb_model.specs.Steps.{rows_of}
use Rattle.mdb_model.specs.Tables.{Tables}
use Rattle.mdb_model.specs.Text.{text_of}
use Rattle.mdb_model.specs.Worlds.{World}
use Rattle.mdb_host.specs.Disk.{Disk}
use Rattle.mdb_bytes.specs.Held.{next_row}
use Rattle.session_rows.specs.Serving.{HasKeys}
use Rattle.open_database.specs.declared.database.Database.{Database}
use Rattle.db_kernel.specs.Kept.{FitsWorlds, scanned_rows}
use Rattle.open_database.specs.Outside.{page_reading, StandsFor}
use Rattle.open_database.specs.Stretch.{LeavesOnly}
use Rattle.open_database.specs.Stretch.{StandsForOneOf}
use Rattle.script_run.specs.Speaking.{SaysWhile, row_text, items_text}

-- the kernel fits these worlds, each image stands for one of them, and the rows that the session
-- sees have keys and can be counted
pub record IsOpenScan (disk : Disk) (ws : List World) (database : Option Database)
    (session : Session) (table : Table) : Type 0 where
  pub fit : FitsWorlds database disk ws
  pub stand : LeavesOnly page_reading StandsFor disk ws
  pub keys : HasKeys (scanned_rows database disk session)
  pub few : length (rows_of (scanned_rows database disk session) table.0) + 1 < 2 ^ 64

-- this was said, and the kernel fits the worlds still, with the same rows
pub record GoesOn (old new : Disk) (ws : List World) (before after : Option Database)
    (session : Session) (text : List ℕ) : Type 0 where
  pub says : SaysWhile old new text (StandsForOneOf ws)
  pub said : new.said new.now ≡ old.said old.now ++ text
  pub fit : FitsWorlds after new ws
  pub same : scanned_rows after new session ≡ scanned_rows before old session

-- the row after the one key, which has the other key; where saying it failed, a part of it is said
abbrev pub SaysNext : (old new : Disk) → List World → (before after : Option Database) → Session
    → (rows : Tables) → Table → (from key : List ℕ) → Result Next Fault → Type 0
SaysNext old new ws before after session rows table from key (Ok next.Row) =
    ((value : List ℕ) × (next_row rows table.0 from ≡ Some (key, value)))
    × GoesOn old new ws before after session (row_text (next_row rows table.0 from))
SaysNext old new ws before after session rows table from key (Ok next.End) =
    (next_row rows table.0 from ≡ None) × GoesOn old new ws before after session []
SaysNext old new ws before after session rows table from key (Ok (next.Fault reply)) =
    (reply ≡ Refused DeviceFailed) × SaysWhile old new [] (StandsForOneOf ws)
SaysNext old new ws before after session rows table from key (Err fault) =
    SaysWhile old new (row_text (next_row rows table.0 from)) (StandsForOneOf ws)

-- they are all rows; or they are the first ones, a call of a device failed, and the kernel is off
abbrev pub EndsRows : (rows items : List Item) → (before now : ℕ) → (after : Option Database)
    → Reply → Type 0
EndsRows rows items before now after ScanOpen = items ≡ rows
EndsRows rows items before now after (Refused DeviceFailed) =
    ((rest : List Item) × (rows ≡ items ++ rest)) × Rose before now × (after ≡ None)
EndsRows rows items before now after _ = ⊥

-- the items of the rows were said, so many, with the reply that is to end them
pub record HasSaidRows (old new : Disk) (before now : ℕ) (ws : List World) (rows : List Item)
    (after : Option Database) (count : ℕ) (reply : Reply) : Type 0 where
  pub items : List Item
  pub count_is : length items ≡ count
  pub ends : EndsRows rows items before now after reply
  pub says : SaysWhile old new (items_text items) (StandsForOneOf ws)
  pub said : new.said new.now ≡ old.said old.now ++ items_text items
  pub fit : reply ≡ ScanOpen → FitsWorlds after new ws

-- the answer of a scan with these rows
abbrev pub scan_text : List Item → Reply → List ℕ
scan_text items reply = text_of (record { items = items; reply = reply })

-- and, where saying them failed, a front part of the answer with all of them
abbrev pub SaysRows : (old new : Disk) → (before now : ℕ) → List World → (rows : List Item)
    → (after : Option Database) → Result (ℕ × Reply) Fault → Type 0
SaysRows old new before now ws rows after (Ok end) =
    HasSaidRows old new before now ws rows after end.0 end.1
SaysRows old new before now ws rows after (Err fault) =
    SaysWhile old new (scan_text rows ScanOpen) (StandsForOneOf ws)

-- the rows and the reply were said, or not to the end
pub record SaysScan (old new : Disk) (before now : ℕ) (ws : List World) (rows : List Item)
    (after : Option Database) (result : Result (Unit {0}) Fault) : Type 0 where
  pub items : List Item
  pub reply : Reply
  pub ends : EndsRows rows items before now after reply
  pub says : SaysWhile old new (scan_text items reply) (StandsForOneOf ws)
  pub said : OnOk result (new.said new.now ≡ old.said old.now ++ scan_text items reply)
  pub fit : OnOk result (reply ≡ ScanOpen → FitsWorlds after new ws)
