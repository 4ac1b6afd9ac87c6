-- The lines of a list of media.
--     medium_line      what a list shows of a medium of the world
--     next_medium      the medium after a number, of those by number
--     IsNextLine      the answer to a question for the line after a number
--     ReadsMedium      over a world that the database serves: a line or the end comes, as it is in the
--         world; or a device failed
use Rattle.std.specs.Prelude.{◌≡◌, ℕ, ◌≤◌, nat_lt, List, Option, Some, None, Result, IfOk, IfErr}
use Rattle.std.specs.List.{find as first_of}
use Rattle.std.specs.FinMap.{entries}
use Rattle.mdb_model.specs.declared.fault.PageFault.{PageFault}
use Rattle.mdb_model.specs.declared.fault.PageFault.TheVariants.{Failed}
use Rattle.mdb_model.specs.declared.script.MediumLine.{MediumLine}
use Rattle.mdb_model.specs.Backups.{Medium}
use Rattle.mdb_model.specs.Images.{Image}
use Rattle.mdb_model.specs.Steps.{medium_state}
use Rattle.mdb_model.specs.Worlds.{World, is_busy, off}
use Rattle.mdb_host.specs.Disk.{Disk}
use Rattle.open_database.specs.declared.database.Database.{Database}
use Rattle.open_database.specs.Outside.{StandsFor}
use Rattle.open_database.specs.Serving.{FitsOpen}

-- what a list shows of a medium of the world
abbrev pub medium_line : World → (ℕ × Medium) → MediumLine
medium_line w e =
    record { medium = e.0; pages = e.1.pages; holds = medium_state e.1.holds (is_busy w e.0) }

-- the medium after a number, of those by number
abbrev pub next_medium : World → (after : ℕ) → Option (ℕ × Medium)
next_medium w after = first_of (λ (e : ℕ × Medium). nat_lt after e.0) (entries w.media)

-- the answer to a question for the line after a number
abbrev pub IsNextLine : World → (after : ℕ) → Option MediumLine → Type 0
IsNextLine w after None = next_medium w after ≡ None
IsNextLine w after (Some line) =
    (e : ℕ × Medium) × (next_medium w after ≡ Some e) × (line ≡ medium_line w e)

-- The database fits these worlds, and each image stands for the one at each moment of the call.
pub record ReadsMedium (tells : Type 0) (old new : Disk) (w : World) (ws : List World)
    (database : Database) (after : ℕ) (result : Result (Option MediumLine) PageFault)
    : Type 0 where
  -- nothing is said
  pub quiet : (t : ℕ) → old.now ≤ t → t ≤ new.now → new.said t ≡ old.said old.now
  pub stand : (t : ℕ) (image : Image) → old.now ≤ t → t ≤ new.now → new.may_leave t image
      → StandsFor image (off w)
  -- the line that comes next, or the end; or a device failed
  pub is_next : IfOk result (IsNextLine w after)
  pub whole : IfErr result (λ fault. fault ≡ Failed)
  -- it fits the worlds still
  pub fit : FitsOpen tells database new ws
