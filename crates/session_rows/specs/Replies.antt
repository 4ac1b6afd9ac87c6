-- How the calls of a session are answered.
--     is_enough_room, full_refusal      what the space rule says, as a test and as a refusal
--     refusal_of, reply_of      the answer to a call, by what the transactions gave
--     got, was_put, deleted, scan_reply      what is said of a read, a put, a deletion, and a scan
--     scan_answer      the answer to a scan, with its rows
--     IsRefusal, IsOfSession      a reply that is a refusal; the replies of lines of sessions
--     ObeysRoom      a reply that goes by what the space rule says
use Rattle.std.specs.Prelude.{◌≡◌, ℕ, List, Bool, true, false, Result, Ok, Err}
use Rattle.mdb_model.specs.declared.fault.PageFault.{PageFault}
use Rattle.mdb_model.specs.declared.name.Table.{Table}
use Rattle.mdb_model.specs.declared.script.Refusal.{Refusal}
use Rattle.mdb_model.specs.declared.script.Refusal.TheVariants.{Locked, TransactionLarge, DataFull, MemoryWanting}
use Rattle.mdb_model.specs.declared.script.Reply.{Reply}
use Rattle.mdb_model.specs.declared.script.Reply.TheVariants.{Found, NoRow, PutDone, DelDone, ScanOpen, RolledBack, Refused}
use Rattle.mdb_model.specs.Answers.{Answer, plain}
use Rattle.mdb_model.specs.Steps.{rows_of}
use Rattle.mdb_model.specs.Tables.{Tables}
use Rattle.transactions.specs.declared.fault.TxFault.{TxFault}
use Rattle.transactions.specs.declared.fault.TxFault.TheVariants as tx
use Rattle.session_rows.specs.declared.room.Room.{Room}
use Rattle.session_rows.specs.declared.room.Room.TheVariants.{Enough, Full}

-- whether the blocks suffice
abbrev pub is_enough_room : Room → Bool
is_enough_room Enough = true
is_enough_room (Full want blocks) = false

-- the refusal where they do not
abbrev pub full_refusal : Room → Refusal
full_refusal Enough = DataFull 0 0
full_refusal (Full want blocks) = DataFull want blocks

-- a fault of a session's call is a refusal, but for one of pages, which is passed on
abbrev pub refusal_of : Room → TxFault → Result Reply PageFault
refusal_of room (tx.Locked holder) = Ok (Refused (Locked holder))
refusal_of room (tx.TooLarge bytes) = Ok (Refused (TransactionLarge bytes))
refusal_of room tx.Memory = Ok (Refused MemoryWanting)
refusal_of room tx.Full = Ok (Refused (full_refusal room))
refusal_of room (tx.Page fault) = Err fault

-- the answer to a call, by what is said where it does its work
abbrev pub reply_of : {T : Type 0} → (said : T → Reply) → Room → Result T TxFault
    → Result Reply PageFault
reply_of said room (Ok value) = Ok (said value)
reply_of said room (Err fault) = refusal_of room fault

-- what is said of a row that was asked for, with this value where it is found
abbrev pub got : (value : List ℕ) → Bool → Reply
got value true = Found value
got value false = NoRow

-- of a put
abbrev pub was_put : Unit {0} → Reply
was_put done = PutDone

-- of a row that was to be deleted
abbrev pub deleted : Bool → Reply
deleted true = DelDone
deleted false = NoRow

-- a lock on a table is barred, or takes memory
abbrev pub scan_reply : Result (Unit {0}) TxFault → Reply
scan_reply (Ok done) = ScanOpen
scan_reply (Err (tx.Locked holder)) = Refused (Locked holder)
scan_reply (Err _) = Refused MemoryWanting

-- the answer to a scan of these tables
abbrev pub scan_answer : Tables → Table → Reply → Answer
scan_answer tables table ScanOpen = record { items = rows_of tables table.0; reply = ScanOpen }
scan_answer tables table reply = plain reply

abbrev pub IsRefusal : Reply → Type 0
IsRefusal (Refused refusal) = Unit {0}
IsRefusal _ = ⊥

-- the replies of lines of sessions: none of them tells of damage or of a device that failed
abbrev pub IsOfSession : Reply → Type 0
IsOfSession (Found value) = Unit {0}
IsOfSession NoRow = Unit {0}
IsOfSession PutDone = Unit {0}
IsOfSession DelDone = Unit {0}
IsOfSession ScanOpen = Unit {0}
IsOfSession RolledBack = Unit {0}
IsOfSession (Refused (Locked holder)) = Unit {0}
IsOfSession (Refused (TransactionLarge bytes)) = Unit {0}
IsOfSession (Refused (DataFull want blocks)) = Unit {0}
IsOfSession (Refused MemoryWanting) = Unit {0}
IsOfSession _ = ⊥

-- The reply goes by what the space rule says: a change is made only where the blocks suffice, and
-- DATAFULL is said only where they do not, with its numbers.
abbrev pub ObeysRoom : Room → Reply → Type 0
ObeysRoom (Full want blocks) PutDone = ⊥
ObeysRoom (Full want blocks) DelDone = ⊥
ObeysRoom (Full want blocks) (Refused (DataFull wanted there)) =
    (wanted ≡ want) × (there ≡ blocks)
ObeysRoom Enough (Refused (DataFull wanted there)) = ⊥
ObeysRoom _ _ = Unit {0}
