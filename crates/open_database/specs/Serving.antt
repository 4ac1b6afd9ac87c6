-- An open database, against the world that it serves.
--     open_state      the state of a database that is open
--     greatest_number      the greatest of the numbers that grow
--     IsSoundDatabase      what holds whatever the devices have
--     Serves      the devices stand for a world, and what is kept in memory is that world's
--     FitsOpen, AreOff      an open database, and one with none, against the worlds that may be
--     LineDoes      what a line of an open database does
use Rattle.std.specs.Prelude.{◌≡◌, ℕ, ◌-◌, ◌^◌, ◌<◌, max, min, List, [], ◌∷◌, None, Some, Result, Ok, Err, All}
use Rattle.std.specs.FinMap.{empty}
use Rattle.mdb_model.specs.Answers.{Answer, refused}
use Rattle.mdb_model.specs.History.{tables_of}
use Rattle.mdb_model.specs.Worlds.{World, off}
use Rattle.mdb_model.specs.declared.fault.PageFault.{PageFault}
use Rattle.mdb_model.specs.declared.fault.PageFault.TheVariants.{Failed, Damaged}
use Rattle.mdb_model.specs.declared.name.State.{State}
use Rattle.mdb_model.specs.declared.name.State.TheVariants as state
use Rattle.mdb_model.specs.declared.script.Command.{Command}
use Rattle.mdb_model.specs.declared.script.Refusal.TheVariants.{DeviceFailed}
use Rattle.mdb_model.specs.declared.script.Reply.{Reply}
use Rattle.mdb_host.specs.Disk.{Disk}
use Rattle.page_store.specs.Store.{block_count}
use Rattle.transactions.specs.Standing.{MatchesWorld}
use Rattle.session_rows.specs.Serving.{HasKeys}
use Rattle.space_rule.specs.Spaces.{known_costs}
use Rattle.space_lines.specs.Counted.{IsCounted}
use Rattle.live_area.specs.Serving.{IsSoundArea, ServesWorld}
use Rattle.open_database.specs.declared.database.Access.{Access}
use Rattle.open_database.specs.declared.database.Access.TheVariants.{Admin, Online}
use Rattle.open_database.specs.declared.database.Database.{Database}
use Rattle.open_database.specs.Outside.{page_reading, StandsFor}
use Rattle.open_database.specs.Stretch.{Completes}

-- the state of an open database
abbrev pub open_state : Access → State
open_state Admin = state.Admin
open_state Online = state.Online

-- the greatest of the position of the log's end, the number of the last commit, and the numbers of
-- the record's savepoint and of its slot
abbrev pub greatest_number : Database → ℕ
greatest_number database =
    max (max database.area.ring.end_position database.area.ring.last_commit)
    (max database.area.in_force.record.savepoint database.area.in_force.record.slot)

-- the area is sound, the space rule knows how many blocks it has, and the numbers of its name are
-- those that a record may have
pub record IsSoundDatabase (tells : Type 0) (database : Database) (d : Disk) : Type 0 where
  pub area : IsSoundArea tells database.area.in_force.slots database.area.in_force.record
      database.area.store database.area.ring d
  pub blocks : (known_costs database.space).blocks ≡ block_count database.area.store
  pub birth : database.area.ring.name.birth < 2 ^ 61
  pub generation : database.area.ring.name.generation < 2 ^ 61

-- Each image that a crash now may leave stands for the world at rest, the rows on the pages are
-- those of the world, and the transactions and the space rule know what its sessions have done.
pub record Serves (tells : Type 0) (database : Database) (d : Disk) (w : World) : Type 0 where
  pub area : ServesWorld tells database.area.in_force.slots database.area.in_force.record
      database.area.store database.area.ring d (off w)
  pub state : w.state ≡ open_state database.access
  -- in Admin no session works, and there are no tasks yet
  pub alone : database.access ≡ Admin → w.sessions ≡ empty
  pub no_savepoint : w.savepoint_task ≡ None
  pub no_backup : w.backup_task ≡ None
  pub keys : HasKeys (tables_of w.history)
  pub matches : MatchesWorld database.transactions w
  pub most : database.transactions.most ≡ min 1048576 (w.ring - 1)
  pub counted : IsCounted (known_costs database.space) w

-- an open database has one world
pub record FitsOpen (tells : Type 0) (database : Database) (d : Disk) (ws : List World) : Type 0
  where
    pub w : World
    pub is : ws ≡ w ∷ []
    pub serves : Serves tells database d w

-- worlds that are off
abbrev pub AreOff : List World → Type 0
AreOff ws = All (λ w. off w ≡ w) ws

-- The line is done, with this answer, and the database serves the world after it; or a device
-- failed, and the database has to be given up. Where it serves a world damage never comes.
abbrev pub LineDoes : (tells : Type 0) → (old new : Disk) → List World → Command
    → (answer : Reply → Answer) → (after : Database) → Result Reply PageFault → Type 0
LineDoes tells old new ws line answer after (Ok reply) =
    Completes page_reading StandsFor old new ws (Some line) (answer reply)
    (FitsOpen tells after new)
LineDoes tells old new ws line answer after (Err Failed) =
    Completes page_reading StandsFor old new ws (Some line) (refused DeviceFailed) AreOff
LineDoes tells old new ws line answer after (Err (Damaged damage)) = ⊥
