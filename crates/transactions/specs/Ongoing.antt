-- The transactions that are under way.
--     Ongoing      the locks and the changes of each session, and how many bytes a commit may have
--     changes_of      the last change of each key of a session
--     AddsLock, AddsChange, EndsTransaction      what is left where a session has one more lock,
--         made a change, or has ended
use Rattle.std.specs.Prelude.{◌≡◌, refl, ℕ, List, ◌==◌, if◌then◌else◌, slice_index_or}
use Rattle.std.specs.Coded.{Coded, code_by, coded×, coded⊎, coded_ℕ, coded_list}
use Rattle.std.specs.FinMap.{FinMap, empty, insert}
use Rattle.std.specs.Prelude.{◌⊎◌}
use Rattle.std.proofs.Common.{inl, inr}
use Rattle.mdb_model.specs.declared.change.Change.{Change}
use Rattle.mdb_model.specs.Tables.{Place, place_cmp, place_of}
use Rattle.mdb_model.specs.Worlds.{Lock, ShareKey, ExclusiveKey, ShareTable}
use Rattle.record_locks.specs.Holders.{HasLock, LetGo}
use Rattle.transactions.specs.Net.{place_code, net_code}

-- the locks and the changes of the sessions, at the index of each session's number
pub record Ongoing : Type 0 where
  pub locks : List (List Lock)
  pub changes : List (FinMap place_cmp Change)
  -- the bytes that a commit may have at most
  pub most : ℕ

-- a lock as one of three kinds, and back
abbrev pub lock_to : Lock → Place ⊎ (Place ⊎ ℕ)
lock_to (ShareKey p) = inl p
lock_to (ExclusiveKey p) = inr (inl p)
lock_to (ShareTable t) = inr (inr t)

abbrev pub lock_from : Place ⊎ (Place ⊎ ℕ) → Lock
lock_from (inl p) = ShareKey p
lock_from (inr (inl p)) = ExclusiveKey p
lock_from (inr (inr t)) = ShareTable t

pub lock_back : (lock : Lock) → lock_from (lock_to lock) ≡ lock
lock_back (ShareKey p) = refl
lock_back (ExclusiveKey p) = refl
lock_back (ShareTable t) = refl

abbrev pub lock_code : Coded Lock
lock_code =
    code_by (Place ⊎ (Place ⊎ ℕ)) (coded⊎ place_code (coded⊎ place_code coded_ℕ)) lock_to lock_from
    lock_back

abbrev pub ongoing_code : Coded Ongoing
ongoing_code =
    code_by (List (List Lock) × (List (FinMap place_cmp Change) × ℕ))
    (coded× (coded_list (coded_list lock_code)) (coded× (coded_list net_code) coded_ℕ))
    (λ x. (x.locks, (x.changes, x.most)))
    (λ p. record { locks = p.0; changes = p.1.0; most = p.1.1 }) (λ _. refl)

-- the last change of each key that a session changed
abbrev pub changes_of : Ongoing → ℕ → FinMap place_cmp Change
changes_of x session = slice_index_or x.changes session empty

-- the session has one more lock, and else all is as before
pub record AddsLock (old new : Ongoing) (session : ℕ) (lock : Lock) : Type 0 where
  pub taken : HasLock old.locks new.locks session lock
  pub changes : new.changes ≡ old.changes
  pub most : new.most ≡ old.most

-- the change is the session's last one of its key, which it has locked
pub record AddsChange (old new : Ongoing) (session : ℕ) (change : Change) : Type 0 where
  pub taken : HasLock old.locks new.locks session (ExclusiveKey (place_of change))
  pub changes : (other : ℕ) → changes_of new other ≡ (if other == session
      then insert (changes_of old session) (place_of change) change else changes_of old other)
  pub most : new.most ≡ old.most

-- the session has no locks and no changes any more
pub record EndsTransaction (old new : Ongoing) (session : ℕ) : Type 0 where
  pub locks : LetGo old.locks new.locks session
  pub changes : (other : ℕ) → changes_of new other ≡ (if other == session then empty
      else changes_of old other)
  pub most : new.most ≡ old.most
