-- Who has changed a place keeps others from changing it.
--     apart_changed      changes stay apart with one more, of a place that no other session bars
use Rattle.std.proofs.Common.{◌≡◌, ◌≢◌, ◌⊎◌, inl, inr, refl, sym, ap, ◌∙◌, subst, ℕ, zero, suc, ◌+◌, ◌<◌, ◌≤◌, Bool, true, false, not, ◌&&◌, ◌||◌, ◌==◌, cond, is_some, List, [], ◌∷◌, ◌++◌, Option, Some, None, unwrap_or, find, IsTrue, arith}
use Rattle.std.specs.List.{list_any, range_with_len}
use Rattle.std.specs.FinMap.{FinMap, get}
use Rattle.std.proofs.lemmas.Bool.{cases_eq, eqb-true, ne_eqb, false≢true}
use Rattle.mdb_model.specs.declared.change.Change.{Change}
use Rattle.mdb_model.specs.Script.{is_session}
use Rattle.mdb_model.specs.Sessions.{conflict, same_place}
use Rattle.mdb_model.specs.Steps.{changed}
use Rattle.mdb_model.specs.Tables.{Place, place_cmp, place_of}
use Rattle.mdb_model.specs.Worlds.{World, Transaction, Lock, ShareKey, ExclusiveKey, ShareTable, transaction, no_transaction}
use Rattle.record_locks.specs.Holders.{bars, holder_in}
use Rattle.record_locks.proofs.Agreement.{transaction-with}
use Rattle.record_locks.proofs.Numbers.{session-from, session-below}
use Rattle.transactions.specs.Locked.{AreLocked}
use Rattle.transactions.specs.Ongoing.{Ongoing, changes_of}
use Rattle.transactions.specs.Standing.{MatchesWorld}
use Rattle.session_room.specs.SessionRoom.{Changes, ChangesAreApart}
use Rattle.session_room.proofs.Changing.{either}
use Rattle.space_lines.proofs.Alike.{nobody, last_is_there}

-- where none is found, none passes
none_found : (test : ℕ → Bool) (a n k : ℕ) → a ≤ k → k < a + n → find test (range_with_len a n) ≡ None → test k ≡ false
none_found test a zero k from below none = absurd (omega (arith, from, below))
none_found test a (suc n) k from below none = by_test (λ past later. none_found test (a + 1) n k past (omega (arith, below)) later) (test a) refl none where
  by_test : (a + 1 ≤ k → find test (range_with_len (a + 1) n) ≡ None → test k ≡ false) → (b : Bool) → test a ≡ b → cond b (Some a) (find test (range_with_len (a + 1) n)) ≡ None → test k ≡ false
  by_test further true is some = cc
  by_test further false is later = elim (cases_eq a k) [
    | inl here ↦ ap test (sym here) ∙ is
    | inr other ↦ further (omega (arith, from, other)) later
  ]

-- a session that is not named bars nothing
free_of : (locks : List (List Lock)) (session other : ℕ) (lock : Lock) → holder_in locks session lock ≡ None → other ≢ session → IsTrue (is_session other) → bars locks other lock ≡ false
unfolding holder_in
free_of locks session other lock free differ is =
    sym (ap (λ b. not b && bars locks other lock) (ne_eqb other session differ))
    ∙ none_found (λ k. not (k == session) && bars locks k lock) 1 64 other (session-from other is) (let below = session-below other is in omega (arith, below)) free

-- true with another
or_true : (a b : Bool) → b ≡ true → (a || b) ≡ true
or_true true b is = refl
or_true false b is = is

-- what keeps a key from being read keeps it from being changed
more_barred : (p : Place) (locks : List Lock) → list_any (conflict (ShareKey p)) locks ≡ true → list_any (conflict (ExclusiveKey p)) locks ≡ true
more_barred p [] some = cc
more_barred p (ShareKey q ∷ locks) some = or_true (same_place p q) (list_any (conflict (ExclusiveKey p)) locks) (more_barred p locks some)
more_barred p (ShareTable table ∷ locks) some = or_true (p.0 == table) (list_any (conflict (ExclusiveKey p)) locks) (more_barred p locks some)
more_barred p (ExclusiveKey q ∷ locks) some = by_place (more_barred p locks) (same_place p q) some where
  by_place : (list_any (conflict (ShareKey p)) locks ≡ true → list_any (conflict (ExclusiveKey p)) locks ≡ true) → (b : Bool) → (b || list_any (conflict (ShareKey p)) locks) ≡ true
      → (b || list_any (conflict (ExclusiveKey p)) locks) ≡ true
  by_place further true some = refl
  by_place further false some = further some

module _ (x : Ongoing) (w : World) (stands : MatchesWorld x w) (locked : AreLocked x.locks x.changes) (apart : ChangesAreApart w)
    (session : ℕ) (change : Change) (free : holder_in x.locks session (ExclusiveKey (place_of change)) ≡ None) where
  -- no other session has changed the place
  others_not : (other : ℕ) → other ≢ session → Changes (transaction w other).changes (place_of change) → ⊥
  others_not other differ there = by_number (is_session other) refl where
    by_number : (b : Bool) → is_session other ≡ b → ⊥
    by_number true is =
        let has : is_some (get (changes_of x other) (place_of change)) ≡ true =
        ap (λ (m : FinMap place_cmp Change). is_some (get m (place_of change))) (stands.changes other is) ∙ last_is_there (transaction w other).changes (place_of change) there in
        let barred : bars x.locks other (ExclusiveKey (place_of change)) ≡ true = more_barred (place_of change) _ (locked other (place_of change) has) in
        false≢true (sym (free_of x.locks session other (ExclusiveKey (place_of change)) free differ is) ∙ barred)
    by_number false none = subst (λ (o : Option Transaction). Changes (unwrap_or o no_transaction).changes (place_of change)) (nobody w stands.numbered other none) there

  -- the world with the change
  abbrev next : World
  next = changed w session change

  -- a place that is changed then was changed before, or it is the one
  own_or : (s : ℕ) (place : Place) → Changes (transaction next s).changes place → Changes (transaction w s).changes place ⊎ ((s ≡ session) × (place ≡ place_of change))
  own_or s place there = by_session (s == session) refl where
    more : Transaction
    more = record { changes = (transaction w session).changes ++ change ∷ []; locks = ExclusiveKey (place_of change) ∷ (transaction w session).locks }

    by_session : (b : Bool) → (s == session) ≡ b → Changes (transaction w s).changes place ⊎ ((s ≡ session) × (place ≡ place_of change))
    by_session true same =
        let mine : Changes ((transaction w session).changes ++ change ∷ []) place =
        subst (λ (t : Transaction). Changes t.changes place) (transaction-with w session more s ∙ ap (λ b. cond b more (transaction w s)) same) there in
        elim (either (transaction w session).changes (change ∷ []) place mine) [
          | inl earlier ↦ inl (subst (λ k. Changes (transaction w k).changes place) (sym (eqb-true s session same)) earlier)
          | inr now ↦ elim now [ inl is ↦ inr (eqb-true s session same, is) | inr none ↦ absurd none ]
        ]
    by_session false other =
        inl (subst (λ (t : Transaction). Changes t.changes place) (transaction-with w session more s ∙ ap (λ b. cond b more (transaction w s)) other) there)

  -- the changes are apart then
  pub apart_changed : ChangesAreApart next
  apart_changed one two place differ mine his = elim (own_or one place mine) [
    | inl a ↦ elim (own_or two place his) [
      | inl b ↦ apart one two place differ a b
      | inr b ↦ others_not one (λ same. differ (same ∙ sym b.0)) (subst (Changes (transaction w one).changes) b.1 a)
    ]
    | inr a ↦ elim (own_or two place his) [
      | inl b ↦ others_not two (λ same. differ (a.0 ∙ sym same)) (subst (Changes (transaction w two).changes) a.1 b)
      | inr b ↦ differ (a.0 ∙ sym b.0)
    ]
  ]
