-- What the locks of one session are seen as.
--     TableKeys, KeysByTable      the locked keys of a table, and of each table
--     all_places      where the locked rows stand
--     all_locks      the locks of a session, by what it keeps of them
use Rattle.std.specs.Prelude.{ℕ, List, [], ◌∷◌, ◌++◌, map}
use Rattle.std.specs.BTreeSet.{BTreeSet}
use Rattle.mdb_model.specs.declared.name.Table.{Table}
use Rattle.mdb_model.specs.Tables.{Place}
use Rattle.mdb_model.specs.Worlds.{Lock, ShareKey, ExclusiveKey, ShareTable}

-- the locked keys of a table
abbrev pub TableKeys : Type 0
TableKeys = Table × BTreeSet (List ℕ)

-- the locked keys of each table
abbrev pub KeysByTable : Type 0
KeysByTable = List TableKeys

-- where the locked rows stand
abbrev pub all_places : KeysByTable → List Place
all_places [] = []
all_places (e ∷ es) = map (λ key. (e.0.0, key)) e.1.keys ++ all_places es

-- the locks on keys to read, on keys to change, and on tables
abbrev pub all_locks : (shared exclusive : List Place) → (tables : List ℕ) → List Lock
all_locks shared exclusive tables =
    map ShareKey shared ++ (map ExclusiveKey exclusive ++ map ShareTable tables)
