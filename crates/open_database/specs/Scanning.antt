-- The next row of an open scan.
--     ReadsRow      over a world that the database serves: a row or the end comes, as it is in the
--         rows; or a device failed
use Rattle.std.specs.Prelude.{◌≡◌, ℕ, ◌≤◌, List, Bool, Result, IfOk, IfErr, OnOk}
use Rattle.mdb_model.specs.declared.fault.PageFault.{PageFault}
use Rattle.mdb_model.specs.declared.fault.PageFault.TheVariants.{Failed}
use Rattle.mdb_model.specs.declared.name.Session.{Session}
use Rattle.mdb_model.specs.declared.name.Table.{Table}
use Rattle.mdb_model.specs.Images.{Image}
use Rattle.mdb_model.specs.Worlds.{World, off}
use Rattle.mdb_host.specs.Disk.{Disk}
use Rattle.mdb_bytes.specs.Held.{next_row, IsNextRow}
use Rattle.open_database.specs.declared.database.Database.{Database}
use Rattle.open_database.specs.Outside.{StandsFor}
use Rattle.open_database.specs.Serving.{FitsOpen}
use Rattle.open_database.specs.Taking.{seen_by}

-- The database fits these worlds, and each image stands for the one at each moment of the call.
pub record ReadsRow (tells : Type 0) (old new : Disk) (w : World) (ws : List World)
    (before after : Database) (session : Session) (table : Table) (from key value : List ℕ)
    (result : Result Bool PageFault) : Type 0 where
  -- nothing is said
  pub quiet : (t : ℕ) → old.now ≤ t → t ≤ new.now → new.said t ≡ old.said old.now
  pub stand : (t : ℕ) (image : Image) → old.now ≤ t → t ≤ new.now → new.may_leave t image
      → StandsFor image (off w)
  -- the row that comes next, or the end; or a device failed
  pub is_next : IfOk result (λ found. IsNextRow found
      (next_row (seen_by before old session) table.0 from) key value)
  pub whole : IfErr result (λ fault. fault ≡ Failed)
  -- after a row and the end it fits them still, and the session sees the same rows
  pub fit : OnOk result (FitsOpen tells after new ws)
  pub same : OnOk result (seen_by after new session ≡ seen_by before old session)
