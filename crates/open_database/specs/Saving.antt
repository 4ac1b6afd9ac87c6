-- A savepoint of an open database.
--     HasAllRows      the record of an image has the rows of a world, and no row from before
--     SaveLeaves      what a savepoint leaves of the world
--     IsSavedOnly      what else of the database it leaves alone
--     CloseDoes      what closing a database does
use Rattle.std.specs.Prelude.{◌≡◌, List, Some, Result, Ok, Err}
use Rattle.std.specs.FinMap.{empty}
use Rattle.mdb_model.specs.Answers.{plain, refused}
use Rattle.mdb_model.specs.History.{tables_of}
use Rattle.mdb_model.specs.Images.{Image}
use Rattle.mdb_model.specs.Worlds.{World, off}
use Rattle.mdb_model.specs.declared.fault.PageFault.{PageFault}
use Rattle.mdb_model.specs.declared.fault.PageFault.TheVariants.{Failed, Damaged}
use Rattle.mdb_model.specs.declared.script.Command.TheVariants.{DbOffline}
use Rattle.mdb_model.specs.declared.script.Refusal.TheVariants.{DeviceFailed}
use Rattle.mdb_model.specs.declared.script.Reply.{Reply}
use Rattle.mdb_host.specs.Disk.{Disk}
use Rattle.mdb_bytes.specs.Forms.{reading}
use Rattle.page_store.specs.Store.{block_count}
use Rattle.standing.specs.WholeStanding.{pages_in}
use Rattle.kept_worlds.specs.InService.{AtEachMoment}
use Rattle.open_database.specs.declared.database.Database.{Database}
use Rattle.open_database.specs.Outside.{page_reading, StandsFor}
use Rattle.open_database.specs.Serving.{AreOff}
use Rattle.open_database.specs.Stretch.{Completes, EachLeft}

-- the record's map has the rows of the world, and keeps no row from before
pub record HasAllRows (w : World) (image : Image) : Type 0 where
  pub rows : reading.standing (pages_in image) ≡ Some (tables_of w.history)
  pub no_images : reading.before_images (pages_in image) ≡ Some empty

-- At each moment each image stands for the world. After Ok the world is served, and each image has
-- its rows.
abbrev pub SaveLeaves : (old new : Disk) → World → (serves : World → Type 0)
    → Result (Unit {0}) PageFault → Type 0
SaveLeaves old new w serves (Ok done) =
    AtEachMoment old new (λ image. StandsFor image (off w)) × serves w × EachLeft new (HasAllRows w)
SaveLeaves old new w serves (Err Failed) = AtEachMoment old new (λ image. StandsFor image (off w))
SaveLeaves old new w serves (Err (Damaged damage)) = ⊥

-- the data area and the log are as far on as they were, and all else is the same
pub record IsSavedOnly (old new : Database) : Type 0 where
  pub access : new.access ≡ old.access
  pub transactions : new.transactions ≡ old.transactions
  pub space : new.space ≡ old.space
  pub blocks : block_count new.area.store ≡ block_count old.area.store
  pub last : new.area.ring.last_commit ≡ old.area.ring.last_commit
  pub size : new.area.ring.size ≡ old.area.ring.size

-- the database is given up, with all rows in its pages; or a device failed
abbrev pub CloseDoes : (old new : Disk) → List World → Result Reply PageFault → Type 0
CloseDoes old new ws (Ok reply) =
    Completes page_reading StandsFor old new ws (Some DbOffline) (plain reply) AreOff
CloseDoes old new ws (Err Failed) =
    Completes page_reading StandsFor old new ws (Some DbOffline) (refused DeviceFailed) AreOff
CloseDoes old new ws (Err (Damaged damage)) = ⊥
