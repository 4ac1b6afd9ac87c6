-- What a line of a session but a commit keeps, and what its reply has for a cause.
--     KeepsRows      the committed rows are as they were
--     TakesOpenLine      of any such line, over a host that tells what it holds or does not
use Rattle.std.specs.Prelude.{◌≡◌, ℕ, ◌≤◌, Result, Err, IfOk, OnOk}
use Rattle.mdb_model.specs.declared.fault.PageFault.{PageFault}
use Rattle.mdb_model.specs.declared.fault.PageFault.TheVariants.{Failed}
use Rattle.mdb_model.specs.declared.script.Reply.{Reply}
use Rattle.mdb_model.specs.Causes.{Rose}
use Rattle.mdb_host.specs.Disk.{Disk, Keeps}
use Rattle.session_rows.specs.Replies.{IsRefusal}
use Rattle.store_rows.specs.StoredRows.{stored_rows, HasRows}
use Rattle.open_database.specs.declared.database.Database.{Database}
use Rattle.open_database.specs.Refusing.{KeepsDatabase}
use Rattle.open_database.specs.Replies.{IsInside}
use Rattle.open_database.specs.Serving.{IsSoundDatabase, greatest_number}

-- the rows on the pages are known, and are those that were there
pub record KeepsRows (tells : Type 0) (old new : Database) (before after : Disk) : Type 0 where
  pub known : HasRows tells new.area.store after.seen
  pub same : stored_rows new.area.store after.seen ≡ stored_rows old.area.store before.seen

-- The disk and the count of failed calls are those before and after the line; what is said of the
-- disk holds where the host tells what it holds.
pub record TakesOpenLine (tells : Type 0) (before after : Disk) (failed failed_after : ℕ)
    (old new : Database) (result : Result Reply PageFault) : Type 0 where
  -- What is kept

  -- the database is sound, and its numbers are as they were
  pub sound : IsSoundDatabase tells new after
  pub numbers : greatest_number new ≡ greatest_number old
  -- so are the committed rows, where they are known
  pub same : HasRows tells old.area.store before.seen
      → OnOk result (KeepsRows tells old new before after)
  -- what was known of the moments before stays known
  pub keeps : tells → Keeps before after
  -- a refusal leaves the database as it was
  pub refused : IfOk result (λ reply. IsRefusal reply → KeepsDatabase old new)
  -- What the reply has for a cause

  -- no reply tells of the devices
  pub inside : IfOk result IsInside
  -- a device is called failed only where a call on one failed
  pub later : failed ≤ failed_after
  pub cause : result ≡ Err Failed → Rose failed failed_after
