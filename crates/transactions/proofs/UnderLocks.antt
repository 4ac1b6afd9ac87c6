-- Each key that a session has changed stays locked.
--     locked-none      where nothing is changed
--     locked-takes, locked-change      after a lock was asked for, and a change with it
--     locked-ended      where a session has ended
use Rattle.std.proofs.Common.{◌≡◌, refl, sym, ap, ◌∙◌, subst, ℕ, zero, suc, ◌<◌, Bool, true, false, not, ◌&&◌, ◌||◌, ◌==◌, cond, is_some, List, [], ◌∷◌, Some, Result, Ok, Err, OnOk, OnErr, length, get_or, set, IsTrue, arith}
use Rattle.std.proofs.lemmas.Bool.{eqb-true, eqb-false, eq-eqb}
use Rattle.std.proofs.lemmas.List.{get_or-set_same, get_or-set_other, get_or_default}
use Rattle.std.proofs.Math.ListN.{length-set}
use Rattle.std.specs.Ordering.{eq_by_cmp}
use Rattle.std.specs.FinMap.{FinMap, get, insert, empty, contains_key, get-insert, get-empty}
use Rattle.mdb_model.specs.declared.change.Change.{Change}
use Rattle.mdb_model.specs.declared.fault.Memory.{Memory as Wanting}
use Rattle.mdb_model.specs.Tables.{Place, place_cmp, place_of}
use Rattle.mdb_model.specs.Worlds.{Lock, ShareKey, ExclusiveKey}
use Rattle.mdb_model.specs.Sessions.{conflict}
use Rattle.record_locks.specs.declared.fault.LockFault.{LockFault}
use Rattle.record_locks.specs.declared.fault.LockFault.TheVariants.{Held, Memory}
use Rattle.record_locks.specs.Holders.{bars, HasLock, Acquires, LetGo}
use Rattle.sorted_places.proofs.Places.{place_total}
use Rattle.transactions.specs.Locked.{AreLocked}

-- nothing is a key of no changes
no-key : {A : Type 0} (place : Place) → IsTrue (contains_key (empty {X = Change} {R = place_cmp}) place) → A
no-key place there =
    let nothing : false ≡ true = sym (ap is_some (get-empty {X = Change} place_cmp place)) ∙ there in
    cc

-- a number that has changes is in the list
there-inside : (changes : List (FinMap place_cmp Change)) (k : ℕ) (place : Place) → IsTrue (contains_key (get_or changes k empty) place) → k < length changes
there-inside [] k place there = no-key place there
there-inside (own ∷ changes) zero place there = omega arith
there-inside (own ∷ changes) (suc k) place there =
    let further = there-inside changes k place there in
    omega (arith, further)

pub locked-none : (locks : List (List Lock)) (changes : List (FinMap place_cmp Change)) → ((session : ℕ) → get_or changes session empty ≡ empty) → AreLocked locks changes
locked-none locks changes none session place there = no-key place (subst (λ (m : FinMap place_cmp Change). IsTrue (contains_key m place)) (none session) there)

module _ (old new : List (List Lock)) (changes : List (FinMap place_cmp Change)) (locked : AreLocked old changes) where
  -- what a session kept others from it still does
  stays : (session : ℕ) (lock : Lock) → HasLock old new session lock → (other : ℕ) (place : Place) → IsTrue (bars old other (ShareKey place)) → IsTrue (bars new other (ShareKey place))
  stays session lock more other place kept = more other (ShareKey place) ∙ ap (λ b. b || (other == session && conflict (ShareKey place) lock)) kept

  pub locked-takes : (session : ℕ) (lock : Lock) (r : Result (Unit {0}) LockFault) → Acquires old new session lock r → AreLocked new changes
  locked-takes session lock (Ok done) takes other place there = stays session lock takes.1 other place (locked other place there)
  locked-takes session lock (Err (Held holder)) takes other place there = subst (λ locks. AreLocked locks changes) (sym takes.1) locked other place there
  locked-takes session lock (Err Memory) takes other place there = subst (λ locks. AreLocked locks changes) (sym takes.1) locked other place there

  module _ (session : ℕ) (own now : FinMap place_cmp Change) where
    -- a session with changes is one that is kept
    inside : (other : ℕ) (place : Place) → (other == session) ≡ true → IsTrue (contains_key (get_or (set changes session now) other empty) place) → session < length changes
    inside other place same there =
        let kept = there-inside (set changes session now) other place there in
        let number = eqb-true other session same in
        omega (arith, kept, number, length-set changes session now)

    -- the changes of another session, and those of this one
    other-changes : (other : ℕ) (place : Place) → (other == session) ≡ false → IsTrue (contains_key (get_or (set changes session now) other empty) place) → IsTrue (contains_key (get_or changes other empty) place)
    other-changes other place apart there =
        subst (λ (m : FinMap place_cmp Change). IsTrue (contains_key m place)) (get_or-set_other changes session other now empty (eqb-false other session apart)) there

    own-changes : (other : ℕ) (place : Place) → (other == session) ≡ true → IsTrue (contains_key (get_or (set changes session now) other empty) place) → IsTrue (contains_key now place)
    own-changes other place same there =
        subst (λ (m : FinMap place_cmp Change). IsTrue (contains_key m place)) (ap (λ k. get_or (set changes session now) k empty) (eqb-true other session same) ∙ get_or-set_same changes session now empty (inside other place same there)) there

    pub locked-change : own ≡ get_or changes session own → (change : Change) (r : Result (Unit {0}) Wanting) → OnOk r (HasLock old new session (ExclusiveKey (place_of change))) → OnErr r (new ≡ old)
        → OnOk r (now ≡ insert own (place_of change) change) → OnErr r (now ≡ own) → AreLocked new (set changes session now)
    locked-change is change (Ok done) has as_before made same other place there = by_session (other == session) refl where
      by_place : session < length changes → (b : Bool) → eq_by_cmp place_cmp place (place_of change) ≡ b → is_some (cond b (Some change) (get own place)) ≡ true → IsTrue (bars new session (ShareKey place))
      by_place within true tie some =
          has session (ShareKey place)
          ∙ (λ i. bars old session (ShareKey place) || (eq-eqb session session refl i && tie i))
          ∙ last (bars old session (ShareKey place))
        where
          last : (b : Bool) → (b || true) ≡ true
          last true = refl
          last false = refl
      by_place within false apart some =
          stays session (ExclusiveKey (place_of change)) has session place (locked session place
          (subst (λ (m : FinMap place_cmp Change). IsTrue (contains_key m place)) (is ∙ get_or_default changes session own empty within) some))

      by_session : (b : Bool) → (other == session) ≡ b → IsTrue (bars new other (ShareKey place))
      by_session true same_session =
          subst (λ k. IsTrue (bars new k (ShareKey place))) (sym (eqb-true other session same_session))
          (by_place (inside other place same_session there) (eq_by_cmp place_cmp place (place_of change)) refl
          (sym (ap (λ (m : FinMap place_cmp Change). is_some (get m place)) made ∙ ap is_some (get-insert place_total own (place_of change) change place)) ∙ own-changes other place same_session there))
      by_session false apart = stays session (ExclusiveKey (place_of change)) has other place (locked other place (other-changes other place apart there))
    locked-change is change (Err fault) has as_before made same other place there = by_session (other == session) refl where
      kept : AreLocked new changes
      kept = subst (λ locks. AreLocked locks changes) (sym as_before) locked

      by_session : (b : Bool) → (other == session) ≡ b → IsTrue (bars new other (ShareKey place))
      by_session true same_session =
          kept other place (subst (λ (m : FinMap place_cmp Change). IsTrue (contains_key m place))
          (same ∙ is ∙ get_or_default changes session own empty (inside other place same_session there) ∙ ap (λ k. get_or changes k empty) (sym (eqb-true other session same_session)))
          (own-changes other place same_session there))
      by_session false apart = kept other place (other-changes other place apart there)

    pub locked-ended : LetGo old new session → now ≡ empty → AreLocked new (set changes session now)
    locked-ended gone none other place there = by_session (other == session) refl where
      by_session : (b : Bool) → (other == session) ≡ b → IsTrue (bars new other (ShareKey place))
      by_session true same = no-key place (subst (λ (m : FinMap place_cmp Change). IsTrue (contains_key m place)) none (own-changes other place same there))
      by_session false apart = gone other (ShareKey place) ∙ (λ i. locked other place (other-changes other place apart there) i && not (apart i))
