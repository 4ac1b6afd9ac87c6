-- What a crash of a call leaves, and what the next call makes of it.
--     RunsAgain      two runs of the machine, the second one from a world that a crash of the first
--         one may leave
use Rattle.std.specs.Prelude.{ℕ, ◌*◌, ◌-◌, List, [], ◌∷◌, sum}
use Rattle.mdb_model.specs.declared.status.Status.{Status}
use Rattle.mdb_model.specs.Headline.{HasSaid, IsPossible, RepliesAreSaid}
use Rattle.mdb_model.specs.Images.{Image}
use Rattle.mdb_model.specs.Runs.{Run, TakenLine}
use Rattle.mdb_model.specs.Serial.{IsSerial}
use Rattle.mdb_model.specs.Worlds.{World, created}
use Rattle.mdb_host.specs.Disk.{Disk}
use Rattle.open_database.specs.Outside.{page_reading, StandsFor}

-- the world of a new database, as the words ask for it
abbrev pub new_world : (birth log_pages : ℕ) → (data_pages : List ℕ) → World
new_world birth log_pages data_pages = created birth (sum data_pages) ((log_pages - 2) * 8192)

-- The first call began at the moment `start` with this world, and was over at `host.now`; of what a
-- crash at the moment `at` left, the second call began, which is over at `again.now`.
pub record RunsAgain (host again : Disk) (world : World) (first second : Status) (start at : ℕ)
    : Type 0 where
  pub run : List TakenLine
  pub follows : Run page_reading (world ∷ []) run
  pub serial : IsSerial run
  pub replies : RepliesAreSaid first (host.said start) (host.said host.now) run
  -- so many replies were said at the crash, and it left this world
  pub count : ℕ
  pub said : HasSaid page_reading host.said host.may_leave StandsFor start at run count
  pub left : World
  pub possible : IsPossible page_reading host.said host.may_leave StandsFor (world ∷ []) run count
      left
  -- which the second call goes on from
  pub next : List TakenLine
  pub goes_on : Run page_reading (left ∷ []) next
  pub serial_again : IsSerial next
  pub replies_again : RepliesAreSaid second [] (again.said again.now) next
  pub stands : (image : Image) → again.may_leave again.now image
      → (k : ℕ) × ((v : World) × StandsFor image v
      × IsPossible page_reading again.said again.may_leave StandsFor (left ∷ []) next k v)
