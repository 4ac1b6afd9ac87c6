-- A worked row: three small rows that a commit makes long, in 512 blocks of which 341 are kept.
use Rattle.std.specs.Prelude.{ℕ, List, [], ◌∷◌, codes, replicate}
use Rattle.std.specs.FinMap.{insert, empty}
use Rattle.mdb_model.specs.declared.change.Change.TheVariants.{Put, Del}
use Rattle.mdb_model.specs.declared.change.Commit.{Commit}
use Rattle.mdb_model.specs.Tables.{Tables}

abbrev pub long_value : List ℕ
long_value = replicate 1500 0

abbrev pub small_rows : Tables
small_rows = insert (insert (insert empty (1, codes "a") []) (1, codes "b") []) (1, codes "c") []

abbrev pub growing : Commit
growing = record {
  changes = Put (record { 0 = 1 }) (codes "a") long_value ∷ Put (record { 0 = 1 })
      (codes "b") long_value ∷ Put (record { 0 = 1 }) (codes "c") long_value ∷ [];
}

-- Rows on a map that a later commit of the log takes away, after another has filled a page: the
-- history has none of them.
abbrev pub stale_rows : Tables
stale_rows = insert (insert (insert empty (1, codes "a") []) (3, codes "a") []) (4, codes "a") []

abbrev pub filling : Commit
filling = record { changes = Put (record { 0 = 2 }) (codes "a") [] ∷ [] }

abbrev pub clearing : Commit
clearing = record {
  changes = Del (record { 0 = 1 }) (codes "a") ∷ Del (record { 0 = 3 })
      (codes "a") ∷ Del (record { 0 = 4 }) (codes "a") ∷ [];
}
