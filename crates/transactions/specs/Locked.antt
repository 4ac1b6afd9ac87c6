-- Changes under locks.
--     AreLocked      each key that a session has changed is one that it has locked to change
use Rattle.std.specs.Prelude.{ℕ, List, IsTrue, slice_index_or}
use Rattle.std.specs.FinMap.{FinMap, empty, contains_key}
use Rattle.mdb_model.specs.declared.change.Change.{Change}
use Rattle.mdb_model.specs.Tables.{Place, place_cmp}
use Rattle.mdb_model.specs.Worlds.{Lock, ShareKey}
use Rattle.record_locks.specs.Holders.{bars}

-- each key that a session has changed is one that it keeps other sessions from reading
abbrev pub AreLocked : (locks : List (List Lock)) → (changes : List (FinMap place_cmp Change))
    → Type 0
AreLocked locks changes =
    (session : ℕ) (place : Place) → IsTrue
    (contains_key (slice_index_or changes session empty) place)
    → IsTrue (bars locks session (ShareKey place))
