-- Locks that are asked for.
--     wanted_lock      the lock that a call asks for
--     HasOneMore      what a session bars once it has one more lock
use Rattle.std.specs.Prelude.{◌≡◌, ℕ, List, Bool, true, false, ◌||◌, Option, Some, None}
use Rattle.std.specs.List.{list_any}
use Rattle.mdb_model.specs.Worlds.{Lock, ShareKey, ExclusiveKey, ShareTable}
use Rattle.mdb_model.specs.Sessions.{conflict}
use Rattle.record_locks.specs.declared.held.Wanted.{Wanted}
use Rattle.record_locks.specs.declared.held.Wanted.TheVariants as wanted

-- the lock that is asked for
abbrev pub wanted_lock : Wanted → Lock
wanted_lock (wanted.ShareKey table key) = ShareKey (table.0, key.now)
wanted_lock (wanted.ExclusiveKey table key) = ExclusiveKey (table.0, key.now)
wanted_lock (wanted.ShareTable table) = ShareTable table.0

-- the lock of a key, to change its row or to read it, and where no key is named that of the table
abbrev pub lock_on : (table : ℕ) → (key : Option (List ℕ)) → (exclusive : Bool) → Lock
lock_on table (Some key) true = ExclusiveKey (table, key)
lock_on table (Some key) false = ShareKey (table, key)
lock_on table None exclusive = ShareTable table

-- a session bars what it barred before, and what conflicts with the new lock
abbrev pub HasOneMore : (old new : List Lock) → Lock → Type 0
HasOneMore old new lock =
    (other : Lock) → list_any (conflict other) new
    ≡ (list_any (conflict other) old || conflict other lock)
