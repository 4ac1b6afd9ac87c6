-- What sessions work on, against the machine.
--     no_pages, no_facts      no pages are read; a line learns nothing from the devices
--     with_sessions      a world with other transactions
--     HasKeys      no row has an empty key
--     IsServed      the world that sessions work on
--     IsAnswered      a line that was answered as the machine answers it
--     RoomIs      whether the blocks suffice for a change, in the machine
use Rattle.std.specs.Prelude.{◌≡◌, ℕ, ◌-◌, [], ◌∷◌, false, min, Option, Some, None, if◌then◌else◌, IsSome}
use Rattle.std.specs.Ordering.{nat_cmp}
use Rattle.std.specs.FinMap.{FinMap, empty, get}
use Rattle.mdb_model.specs.declared.name.State.TheVariants.{Online}
use Rattle.mdb_model.specs.declared.script.Command.{Command}
use Rattle.mdb_model.specs.declared.script.Refusal.{Refusal}
use Rattle.mdb_model.specs.declared.script.Refusal.TheVariants.{DataFull}
use Rattle.mdb_model.specs.Answers.{Answer}
use Rattle.mdb_model.specs.History.{tables_of}
use Rattle.mdb_model.specs.Pages.{PageReading}
use Rattle.mdb_model.specs.Refusals.{changing_session, data_full}
use Rattle.mdb_model.specs.Runs.{Entry}
use Rattle.mdb_model.specs.Stages.{rows_in_memory}
use Rattle.mdb_model.specs.Steps.{Facts}
use Rattle.mdb_model.specs.Tables.{Tables}
use Rattle.mdb_model.specs.Worlds.{World, Transaction}
use Rattle.transactions.specs.Ongoing.{Ongoing}
use Rattle.transactions.specs.Standing.{MatchesWorld}
use Rattle.session_rows.specs.declared.room.Room.{Room}
use Rattle.session_rows.specs.declared.room.Room.TheVariants.{Enough, Full}

-- no pages are read: lines of sessions work on rows, whatever pages these stand on
abbrev pub no_pages : PageReading
no_pages = record {
  standing = λ pages. None;
  before_images = λ pages. None;
  undo_pages = λ pages. 0;
  IsWellFormed = λ pages. ⊥;
}

-- nothing was learnt
abbrev pub no_facts : Facts
no_facts =
    record {
      pages = empty;
      savepoint = 0;
      left = None;
      record_past_end = false;
      header_past_end = false;
    }

-- a world with these transactions in place of its own
abbrev pub with_sessions : World → FinMap nat_cmp Transaction → World
with_sessions w sessions = record w { sessions = sessions }

-- no row has an empty key, so a scan may begin at it
abbrev pub HasKeys : Tables → Type 0
HasKeys tables = (table : ℕ) → get tables (table, []) ≡ None

-- The world that sessions work on: its committed rows are these, and these transactions are theirs.
pub record IsServed (rows : Tables) (ongoing : Ongoing) (w : World) : Type 0 where
  pub online : w.state ≡ Online
  pub tables : tables_of w.history ≡ rows
  pub keys : HasKeys rows
  pub stands : MatchesWorld ongoing w
  pub most : ongoing.most ≡ min 1048576 (w.ring - 1)

-- what the space rule says, as a cause
abbrev pub room_cause : Room → Option Refusal
room_cause Enough = None
room_cause (Full want blocks) = Some (DataFull want blocks)

module _ (reading : PageReading) where
  -- A line of a session, as the machine answers it: only the transactions of sessions change.
  pub record IsAnswered (w : World) (line : Command) (answer : Answer) (serves : World → Type 0)
      : Type 0 where
    pub sessions : FinMap nat_cmp Transaction
    pub entry : Entry reading (w ∷ []) (Some line) answer (with_sessions w sessions ∷ [])
    pub served : serves (with_sessions w sessions)

  -- that the data area is full for the line, at this stage
  abbrev pub full_cause : World → Command → Option Refusal
  full_cause w line = if rows_in_memory then None else data_full reading w no_facts line

  -- What the space rule says is what the machine does, for a line that changes a row. Rows in
  -- memory always have room enough.
  abbrev pub RoomIs : Room → World → Command → Type 0
  RoomIs room w line = IsSome (changing_session w line) → full_cause w line ≡ room_cause room
