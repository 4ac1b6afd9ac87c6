-- A database that was opened.
--     opened_world      the world in service
--     OpenDoes      what opening leaves of the world
use Rattle.std.specs.Prelude.{Result, Ok, Err}
use Rattle.mdb_model.specs.Worlds.{World}
use Rattle.mdb_model.specs.declared.fault.OpenFault.{OpenFault}
use Rattle.mdb_model.specs.declared.fault.OpenFault.TheVariants.{Memory, Failed as NotOpened, Damaged}
use Rattle.mdb_host.specs.Disk.{Disk}
use Rattle.kept_worlds.specs.InService.{AtEachMoment}
use Rattle.open_database.specs.declared.database.Access.{Access}
use Rattle.open_database.specs.declared.database.Database.{Database}
use Rattle.open_database.specs.Outside.{StandsFor}
use Rattle.open_database.specs.Saving.{HasAllRows}
use Rattle.open_database.specs.Serving.{open_state}
use Rattle.open_database.specs.Stretch.{EachLeft}

-- a world that was off, in service
abbrev pub opened_world : Access → World → World
opened_world access w = record w { state = open_state access }

-- At each moment each image stands for the world. What was opened serves it, and each image has its
-- rows in the record's map; damage never comes.
abbrev pub OpenDoes : (old new : Disk) → World → (serves : Database → Type 0)
    → Result Database OpenFault → Type 0
OpenDoes old new w serves (Ok database) =
    AtEachMoment old new (λ image. StandsFor image w) × serves database × EachLeft new (HasAllRows w)
OpenDoes old new w serves (Err Memory) = AtEachMoment old new (λ image. StandsFor image w)
OpenDoes old new w serves (Err NotOpened) = AtEachMoment old new (λ image. StandsFor image w)
OpenDoes old new w serves (Err (Damaged damage)) = ⊥
