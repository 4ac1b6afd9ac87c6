-- What the calls of a session give and leave. A call that is refused leaves all as it was.
--     TakesLock      a call that reads
--     PutDoes, DelDoes      a call that changes a row
--     UnlessPage      what holds but where rows could not be read
--     HasTxCause      when a call may fail
use Rattle.std.specs.Prelude.{◌≡◌, ℕ, ◌<◌, ◌≤◌, Bool, true, false, Some, None, Result, Ok, Err, IfErr}
use Rattle.std.specs.List.{list_any}
use Rattle.std.specs.FinMap.{insert, values}
use Rattle.mdb_model.specs.Causes.{Rose}
use Rattle.mdb_model.specs.declared.change.Change.{Change}
use Rattle.mdb_model.specs.declared.fault.PageFault.TheVariants.{Failed, Damaged}
use Rattle.mdb_model.specs.declared.fault.Damage.{Damage}
use Rattle.mdb_model.specs.Tables.{place_of}
use Rattle.mdb_model.specs.Worlds.{Lock, ExclusiveKey}
use Rattle.mdb_model.specs.Sessions.{group_bytes}
use Rattle.record_locks.specs.Holders.{holder_in, covers, locks_of}
use Rattle.transactions.specs.declared.fault.TxFault.{TxFault}
use Rattle.transactions.specs.declared.fault.TxFault.TheVariants.{Locked, TooLarge, Memory, Full, Page}
use Rattle.transactions.specs.Ongoing.{Ongoing, changes_of, AddsLock, AddsChange}

-- A call that reads takes its lock. It is refused exactly where another session bars the lock.
-- Where the rows cannot be read, it has the lock. A lock that it had takes no memory.
abbrev pub TakesLock : {T : Type 0} → (old new : Ongoing) → (session : ℕ) → Lock → Result T TxFault
    → Type 0
TakesLock old new session lock (Ok value) =
    (holder_in old.locks session lock ≡ None) × AddsLock old new session lock
TakesLock old new session lock (Err (Locked holder)) =
    (holder_in old.locks session lock ≡ Some holder.0) × (new ≡ old)
TakesLock old new session lock (Err Memory) =
    (holder_in old.locks session lock ≡ None) × (new ≡ old)
    × (list_any (covers lock) (locks_of old.locks session) ≡ false)
TakesLock old new session lock (Err (Page fault)) =
    (holder_in old.locks session lock ≡ None) × AddsLock old new session lock
TakesLock old new session lock (Err (TooLarge bytes)) = ⊥
TakesLock old new session lock (Err Full) = ⊥

-- the bytes of the session's commit with this change
abbrev pub bytes_with : Ongoing → (session : ℕ) → Change → ℕ
bytes_with x session change =
    group_bytes (values (insert (changes_of x session) (place_of change) change))

-- no session bars the change, and a commit with it is not too large
abbrev pub IsChangeAllowed : Ongoing → (session : ℕ) → Change → Type 0
IsChangeAllowed x session change =
    (holder_in x.locks session (ExclusiveKey (place_of change)) ≡ None)
    × (bytes_with x session change ≤ x.most)

-- A change is made, or it is refused: where another session bars it, else where the commit would be
-- too large, else where the blocks do not suffice for it. It may be out of memory before that.
abbrev pub PutDoes : (old new : Ongoing) → (session : ℕ) → Change → (fits : Bool)
    → Result (Unit {0}) TxFault → Type 0
PutDoes old new session change fits (Ok done) =
    IsChangeAllowed old session change × (fits ≡ true) × AddsChange old new session change
PutDoes old new session change fits (Err (Locked holder)) =
    (holder_in old.locks session (ExclusiveKey (place_of change)) ≡ Some holder.0) × (new ≡ old)
PutDoes old new session change fits (Err (TooLarge bytes)) =
    (holder_in old.locks session (ExclusiveKey (place_of change)) ≡ None)
    × (bytes ≡ bytes_with old session change) × (old.most < bytes) × (new ≡ old)
PutDoes old new session change fits (Err Memory) = IsChangeAllowed old session change × (new ≡ old)
PutDoes old new session change fits (Err Full) =
    IsChangeAllowed old session change × (fits ≡ false) × (new ≡ old)
PutDoes old new session change fits (Err (Page fault)) = ⊥

-- A row that the session sees is deleted as a change is made. Where it sees none, there is no
-- change, only the lock. Where the rows cannot be read, nothing was done.
abbrev pub DelDoes : (old new : Ongoing) → (session : ℕ) → Change → (fits visible : Bool)
    → Result Bool TxFault → Type 0
DelDoes old new session change fits true (Ok true) = PutDoes old new session change fits (Ok tt)
DelDoes old new session change fits true (Ok false) = ⊥
DelDoes old new session change fits false (Ok true) = ⊥
DelDoes old new session change fits false (Ok false) =
    (holder_in old.locks session (ExclusiveKey (place_of change)) ≡ None)
    × AddsLock old new session (ExclusiveKey (place_of change))
DelDoes old new session change fits visible (Err (Page fault)) =
    (holder_in old.locks session (ExclusiveKey (place_of change)) ≡ None) × (new ≡ old)
DelDoes old new session change fits true (Err Memory) =
    PutDoes old new session change fits (Err Memory)
DelDoes old new session change fits true (Err Full) = PutDoes old new session change fits (Err Full)
DelDoes old new session change fits true (Err (TooLarge bytes)) =
    PutDoes old new session change fits (Err (TooLarge bytes))
DelDoes old new session change fits true (Err (Locked holder)) =
    PutDoes old new session change fits (Err (Locked holder))
DelDoes old new session change fits false (Err Memory) =
    (holder_in old.locks session (ExclusiveKey (place_of change)) ≡ None) × (new ≡ old)
DelDoes old new session change fits false (Err Full) = ⊥
DelDoes old new session change fits false (Err (TooLarge bytes)) = ⊥
DelDoes old new session change fits false (Err (Locked holder)) =
    (holder_in old.locks session (ExclusiveKey (place_of change)) ≡ Some holder.0) × (new ≡ old)

-- what holds but where rows could not be read
abbrev pub UnlessPage : {T : Type 0} → Result T TxFault → Type 0 → Type 0
UnlessPage (Err (Page fault)) P = Unit {0}
UnlessPage (Err (Locked holder)) P = P
UnlessPage (Err (TooLarge bytes)) P = P
UnlessPage (Err Memory) P = P
UnlessPage (Err Full) P = P
UnlessPage (Ok value) P = P

-- A device is called failed only where the count of faults rose, and pages are called damaged only
-- where they are not known.
pub record HasTxCause {T : Type 0} (known : Type 0) (before now : ℕ) (result : Result T TxFault)
    : Type 0 where
  pub later : before ≤ now
  pub failed : IfErr result (λ fault. fault ≡ Page Failed → Rose before now)
  pub whole : known → IfErr result (λ fault. (damage : Damage) → fault ≡ Page (Damaged damage) → ⊥)
