-- The stage at which the lines of a database on pages are those of the machine.
--     RowsAreOnPages      rows stand on pages, and the lines of savepoints and of the need are built
use Rattle.std.specs.Prelude.{◌≡◌, true, false}
use Rattle.mdb_model.specs.Stages.{is_built, rows_in_memory}
use Rattle.mdb_model.specs.declared.script.Command.TheVariants.{MakeSavepoint, Info}

-- rows stand on pages, and the lines that this brings are built
pub record RowsAreOnPages : Type 0 where
  pub on_pages : rows_in_memory ≡ false
  pub savepoint : is_built MakeSavepoint ≡ true
  pub info : is_built Info ≡ true
