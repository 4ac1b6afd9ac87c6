-- Which sessions keep a lock from another one. The locks of all sessions are a list: at the index
-- of a session's number are its locks.
--     bars      a session has a lock that conflicts with this one
--     holder_in      the lowest other session that bars a lock
--     covers      a lock asks for no more than one that is there
--     HasLock      what is left where a session has one more lock
--     Acquires      what asking for a lock gives, and leaves
--     LetGo      what is left where a session's locks are gone
--     IsBound      no session with a greater number has a lock
use Rattle.std.specs.Prelude.{◌≡◌, ◌≤◌, ◌<◌, ℕ, List, [], Bool, false, not, ◌&&◌, ◌||◌, ◌==◌, Option, Some, None, Result, Ok, Err, find, slice_index_or}
use Rattle.std.specs.List.{list_any, range_with_len}
use Rattle.mdb_model.specs.Worlds.{Lock, ShareKey, ExclusiveKey, ShareTable}
use Rattle.mdb_model.specs.Sessions.{conflict, same_place}
use Rattle.record_locks.specs.declared.fault.LockFault.{LockFault}
use Rattle.record_locks.specs.declared.fault.LockFault.TheVariants.{Held, Memory}

-- the locks of a session
abbrev pub locks_of : List (List Lock) → ℕ → List Lock
locks_of locks session = slice_index_or locks session []

-- whether a session has a lock that conflicts with this one
abbrev pub bars : List (List Lock) → ℕ → Lock → Bool
bars locks session lock = list_any (conflict lock) (locks_of locks session)

-- the lowest session but this one, of 1 to 64, that bars the lock
unfoldable pub holder_in : List (List Lock) → ℕ → Lock → Option ℕ
holder_in locks session lock =
    find (λ other. not (other == session) && bars locks other lock) (range_with_len 1 64)

-- whether the first lock asks for no more than the second, which is there
abbrev pub covers : (lock there : Lock) → Bool
covers (ShareKey p) (ShareKey q) = same_place p q
covers (ShareKey p) (ExclusiveKey q) = same_place p q
covers (ShareKey p) (ShareTable table) = false
covers (ExclusiveKey p) (ShareKey q) = false
covers (ExclusiveKey p) (ExclusiveKey q) = same_place p q
covers (ExclusiveKey p) (ShareTable table) = false
covers (ShareTable table) (ShareKey q) = false
covers (ShareTable table) (ExclusiveKey q) = false
covers (ShareTable table) (ShareTable other) = table == other

-- a session bars what conflicts with the lock, besides what was barred
abbrev pub HasLock : (old new : List (List Lock)) → (session : ℕ) → Lock → Type 0
HasLock old new session lock =
    (other : ℕ) (asked : Lock) → bars new other asked
    ≡ (bars old other asked || (other == session && conflict asked lock))

-- A session asks for a lock. It is refused exactly where another session bars it, and that session
-- is named; where it is refused or memory ran out, all is as before. Else the session has the lock.
-- For a lock that it has already no memory is needed.
abbrev pub Acquires : (old new : List (List Lock)) → (session : ℕ) → Lock
    → Result (Unit {0}) LockFault
    → Type 0
Acquires old new session lock (Ok done) =
    (holder_in old session lock ≡ None) × HasLock old new session lock
Acquires old new session lock (Err (Held holder)) =
    (holder_in old session lock ≡ Some holder.0) × (new ≡ old)
Acquires old new session lock (Err Memory) =
    (holder_in old session lock ≡ None) × (new ≡ old)
    × (list_any (covers lock) (locks_of old session) ≡ false)

-- a session bars nothing any more
abbrev pub LetGo : (old new : List (List Lock)) → (session : ℕ) → Type 0
LetGo old new session =
    (other : ℕ) (asked : Lock) → bars new other asked
    ≡ (bars old other asked && not (other == session))

-- no session with a greater number than this one bars anything, and there is room for its number
pub record IsBound (locks : List (List Lock)) (highest : ℕ) : Type 0 where
  pub most : highest ≤ 64
  pub none_above : (session : ℕ) (asked : Lock) → highest < session
      → bars locks session asked ≡ false
