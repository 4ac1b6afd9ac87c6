-- The worlds of a run beside the open lines of each session.
--     Holds      no two sessions have locks that conflict, each change has its lock, no session is there at rest, and
--                the open lines of each session stand
--     Holds-state, Holds-ended, Holds-rest      another state; no session; another history at rest
--     Holds-more, Holds-less      a session with one more lock; a session that ends, with a commit or none
use Rattle.std.proofs.Common.{◌≡◌, ◌≢◌, refl, sym, ap, subst, ◌∙◌, ◌⊎◌, inl, inr, ⊎_elim, ℕ, zero, suc, Bool, true, false, cond, if◌then◌else◌, ◌==◌, List, [], ◌∷◌, Contains, None, Some, unwrap_or, arith, ne_eqb, eqb-true, eq-eqb, true≢false}
use Rattle.std.proofs.lemmas.Bool.{cases_eq}
use Rattle.std.specs.Ordering.{nat_cmp}
use Rattle.std.specs.Cmp.{nat_cmp_total, unsigned_tied}
use Rattle.std.specs.FinMap.{FinMap, get, insert, remove, empty, get-insert, get-remove, get-empty}
use Rattle.mdb_model.specs.declared.change.Change.{Change}
use Rattle.mdb_model.specs.declared.name.State.{State}
use Rattle.mdb_model.specs.declared.name.State.TheVariants.{Online}
use Rattle.mdb_model.specs.Tables.{place_of}
use Rattle.mdb_model.specs.History.{History, tables_of}
use Rattle.mdb_model.specs.Worlds.{Transaction, Lock, ShareKey, ExclusiveKey, ShareTable, no_transaction}
use Rattle.mdb_model.specs.Sessions.{conflict}
use Rattle.mdb_model.specs.Serial.{AnsweredLine}
use Rattle.mdb_model.proofs.SerialPlaces.{same_place-sym}
use Rattle.mdb_model.proofs.SerialLines.{Agree, StandsAlone, StandsAlone-none, StandsAlone-kept}

-- the test on numbers is mutual
eqb-sym : (m n : ℕ) → (m == n) ≡ (n == m)
eqb-sym m n = ⊎_elim (λ e. ap (λ k. k == n) e ∙ ap (λ k. n == k) (sym e)) (λ apart. ne_eqb m n apart ∙ sym (ne_eqb n m (λ e. apart (sym e)))) (cases_eq m n)

-- conflicts are mutual
pub conflict-sym : (a b : Lock) → conflict a b ≡ conflict b a
conflict-sym (ExclusiveKey p) (ExclusiveKey q) = same_place-sym p q
conflict-sym (ExclusiveKey p) (ShareKey q) = same_place-sym p q
conflict-sym (ExclusiveKey p) (ShareTable table) = eqb-sym p.0 table
conflict-sym (ShareKey p) (ExclusiveKey q) = same_place-sym p q
conflict-sym (ShareTable table) (ExclusiveKey q) = eqb-sym table q.0
conflict-sym (ShareKey p) (ShareKey q) = refl
conflict-sym (ShareKey p) (ShareTable table) = refl
conflict-sym (ShareTable table) (ShareKey q) = refl
conflict-sym (ShareTable table) (ShareTable other) = refl

-- what a session has done, by the map of sessions
abbrev pub of_session : FinMap nat_cmp Transaction → ℕ → Transaction
of_session sessions session = unwrap_or (get sessions session) no_transaction

-- a session of the map with one put in: this one, or another
inserted : (m : FinMap nat_cmp Transaction) (session : ℕ) (x : Transaction) (s : ℕ)
    → ((s ≡ session) × (of_session (insert m session x) s ≡ x)) ⊎ ((s ≢ session) × (of_session (insert m session x) s ≡ of_session m s))
inserted m session x s =
    let there = get-insert nat_cmp_total m session x s in
    ⊎_elim
    (λ e. inl (e, ap (λ o. unwrap_or o no_transaction) (there ∙ ap (λ b. cond b (Some x) (get m s)) (unsigned_tied s session ∙ ap (λ k. s == k) (sym e) ∙ itself s))))
    (λ apart. inr (apart, ap (λ o. unwrap_or o no_transaction) (there ∙ ap (λ b. cond b (Some x) (get m s)) (unsigned_tied s session ∙ ne_eqb s session apart))))
    (cases_eq s session) where
      itself : (s : ℕ) → (s == s) ≡ true
      itself s = eq-eqb s s refl

-- and with one taken out
taken_out : (m : FinMap nat_cmp Transaction) (session : ℕ) (s : ℕ)
    → ((s ≡ session) × (of_session (remove m session) s ≡ no_transaction)) ⊎ ((s ≢ session) × (of_session (remove m session) s ≡ of_session m s))
taken_out m session s =
    let there = get-remove nat_cmp_total m session s in
    ⊎_elim
    (λ e. inl (e, ap (λ o. unwrap_or o no_transaction) (there ∙ ap (λ b. cond b None (get m s)) (unsigned_tied s session ∙ eq-eqb s session e))))
    (λ apart. inr (apart, ap (λ o. unwrap_or o no_transaction) (there ∙ ap (λ b. cond b None (get m s)) (unsigned_tied s session ∙ ne_eqb s session apart))))
    (cases_eq s session)

-- no two sessions have locks that conflict, each change has its lock, no session is there at rest, and the open lines
-- of each session stand
pub record Holds (state : State) (sessions : FinMap nat_cmp Transaction) (history : History) (lines : ℕ → List AnsweredLine) : Type 0 where
  pub apart : (s t : ℕ) (a b : Lock) → s ≢ t → Contains (of_session sessions s).locks a → Contains (of_session sessions t).locks b → conflict a b ≡ false
  pub covered : (s : ℕ) (change : Change) → Contains (of_session sessions s).changes change → Contains (of_session sessions s).locks (ExclusiveKey (place_of change))
  pub at_rest : state ≢ Online → sessions ≡ empty
  pub stands : (s : ℕ) → StandsAlone (of_session sessions s) (tables_of history) (lines s)

-- nothing stands in an empty list
nothing_there : {A : Type 0} (a : A) (xs : List A) → xs ≡ [] → Contains xs a → ⊥
nothing_there a xs none there = in_none (subst (λ xs. Contains xs a) none there) where
  in_none : Contains [] a → ⊥
  in_none (k, inside, is) = omega (arith, inside)

-- no session has done anything where none is there
none_in_empty : (sessions : FinMap nat_cmp Transaction) (s : ℕ) → sessions ≡ empty → of_session sessions s ≡ no_transaction
none_in_empty sessions s rest = ap (λ m. of_session m s) rest ∙ ap (λ o. unwrap_or o no_transaction) (get-empty nat_cmp s)

-- another state, in which sessions may be there if they might be before
pub Holds-state : (state later : State) (sessions : FinMap nat_cmp Transaction) (history : History) (lines : ℕ → List AnsweredLine)
    → (later ≢ Online → state ≢ Online) → Holds state sessions history lines → Holds later sessions history lines
Holds-state state later sessions history lines back holds = record {
  apart = holds.apart;
  covered = holds.covered;
  at_rest = λ away. holds.at_rest (back away);
  stands = holds.stands;
}

-- no sessions, and no lines
pub Holds-ended : (state : State) (sessions : FinMap nat_cmp Transaction) (history : History) → sessions ≡ empty → Holds state sessions history (λ s. [])
Holds-ended state sessions history rest = record {
  apart = λ s t a b differ in_s in_t. absurd (nothing_there a _ (ap (λ x. x.locks) (none_in_empty sessions s rest)) in_s);
  covered = λ s change there. absurd (nothing_there change _ (ap (λ x. x.changes) (none_in_empty sessions s rest)) there);
  at_rest = λ away. rest;
  stands = λ s. StandsAlone-none _ _ (ap (λ x. x.changes) (none_in_empty sessions s rest));
}

-- no sessions, and another history
pub Holds-rest : (state later : State) (sessions : FinMap nat_cmp Transaction) (history other : History) (lines : ℕ → List AnsweredLine)
    → sessions ≡ empty → Holds state sessions history lines → Holds later sessions other lines
Holds-rest state later sessions history other lines rest holds = record {
  apart = holds.apart;
  covered = holds.covered;
  at_rest = λ away. rest;
  stands = λ s. StandsAlone-kept (of_session sessions s) (tables_of history) (tables_of other) (lines s)
      (λ p lock there covers. absurd (nothing_there lock _ (ap (λ x. x.locks) (none_in_empty sessions s rest)) there)) (holds.stands s);
}

module _ (state : State) (sessions : FinMap nat_cmp Transaction) (history : History) (lines more : ℕ → List AnsweredLine) (session : ℕ) (changes : List Change) (lock : Lock) where
  -- what each session has done
  abbrev before : ℕ → Transaction
  before s = of_session sessions s

  -- what the session has done after the line
  abbrev x : Transaction
  x = record { changes = changes; locks = lock ∷ (before session).locks }

  -- what each session has done after the line
  abbrev after : ℕ → Transaction
  after s = of_session (insert sessions session x) s

  -- a lock after the line was there before, or is the one of the line
  held : (s : ℕ) (a : Lock) → Contains (after s).locks a → Contains (before s).locks a ⊎ ((s ≡ session) × (lock ≡ a))
  held s a there = ⊎_elim
      (λ (here, is). by_place here (subst (λ y. Contains y.locks a) is there))
      (λ (away, is). inl (subst (λ y. Contains y.locks a) is there))
      (inserted sessions session x s) where
        by_place : s ≡ session → Contains (lock ∷ (before session).locks) a → Contains (before s).locks a ⊎ ((s ≡ session) × (lock ≡ a))
        by_place here (zero, inside, is) = inr (here, is)
        by_place here (suc k, inside, is) = inl (subst (λ t. Contains (before t).locks a) (sym here) (k, omega (arith, inside), is))

  -- a session with one more lock, and with changes that have theirs
  pub Holds-more : state ≡ Online
      → ((other : ℕ) (b : Lock) → other ≢ session → Contains (before other).locks b → conflict lock b ≡ false)
      → ((change : Change) → Contains changes change → Contains (before session).changes change ⊎ (lock ≡ ExclusiveKey (place_of change)))
      → StandsAlone x (tables_of history) (more session)
      → Holds state sessions history lines
      → Holds state (insert sessions session x) history (λ s. if session == s then more s else lines s)
  Holds-more online free covers stands holds = record { apart = apart; covered = covered; at_rest = λ away. absurd (away online); stands = all_stand } where
    apart : (s t : ℕ) (a b : Lock) → s ≢ t → Contains (after s).locks a → Contains (after t).locks b → conflict a b ≡ false
    apart s t a b differ in_s in_t = ⊎_elim
        (λ old_a. ⊎_elim
        (λ old_b. holds.apart s t a b differ old_a old_b)
        (λ (here, is). conflict-sym a b ∙ ap (λ l. conflict l a) (sym is) ∙ free s a (λ e. differ (e ∙ sym here)) old_a)
        (held t b in_t))
        (λ (here, is). ⊎_elim
        (λ old_b. ap (λ l. conflict l b) (sym is) ∙ free t b (λ e. differ (here ∙ sym e)) old_b)
        (λ (there, also). absurd (differ (here ∙ sym there)))
        (held t b in_t))
        (held s a in_s)

    covered : (s : ℕ) (change : Change) → Contains (after s).changes change → Contains (after s).locks (ExclusiveKey (place_of change))
    covered s change there = ⊎_elim
        (λ (here, is). subst (λ y. Contains y.locks (ExclusiveKey (place_of change))) (sym is) (of_x (covers change (subst (λ y. Contains y.changes change) is there))))
        (λ (away, is). subst (λ y. Contains y.locks (ExclusiveKey (place_of change))) (sym is) (holds.covered s change (subst (λ y. Contains y.changes change) is there)))
        (inserted sessions session x s) where
          one_deeper : Contains (before session).locks (ExclusiveKey (place_of change)) → Contains x.locks (ExclusiveKey (place_of change))
          one_deeper (k, inside, is) = (suc k, omega (arith, inside), is)

          of_x : Contains (before session).changes change ⊎ (lock ≡ ExclusiveKey (place_of change)) → Contains x.locks (ExclusiveKey (place_of change))
          of_x cases = ⊎_elim (λ old. one_deeper (holds.covered session change old)) (λ is. (zero, omega arith, is)) cases

    all_stand : (s : ℕ) → StandsAlone (after s) (tables_of history) (if session == s then more s else lines s)
    all_stand s = by_test (session == s) refl where
      by_test : (b : Bool) → (session == s) ≡ b → StandsAlone (after s) (tables_of history) (if b then more s else lines s)
      by_test true e =
          let here : session ≡ s = eqb-true session s e in
          subst (λ t. StandsAlone (after t) (tables_of history) (more t)) here
          (⊎_elim (λ (itself, is). subst (λ y. StandsAlone y (tables_of history) (more session)) (sym is) stands) (λ (away, is). absurd (away refl)) (inserted sessions session x session))
      by_test false e = ⊎_elim
          (λ (here, is). absurd (true≢false (sym (eq-eqb session s (sym here)) ∙ e)))
          (λ (away, is). subst (λ y. StandsAlone y (tables_of history) (lines s)) (sym is) (holds.stands s))
          (inserted sessions session x s)

module _ (state : State) (sessions : FinMap nat_cmp Transaction) (history later : History) (lines : ℕ → List AnsweredLine) (session : ℕ) where
  -- a session that ends, after which the tables are the same where others have locks
  pub Holds-less : state ≡ Online
      → ((other : ℕ) → other ≢ session → Agree (of_session sessions other).locks (tables_of history) (tables_of later))
      → Holds state sessions history lines
      → Holds state (remove sessions session) later (λ s. if session == s then [] else lines s)
  Holds-less online same holds = record { apart = apart; covered = covered; at_rest = λ away. absurd (away online); stands = all_stand } where
    held : (s : ℕ) (a : Lock) → Contains (of_session (remove sessions session) s).locks a → Contains (of_session sessions s).locks a
    held s a there = ⊎_elim
        (λ (here, is). absurd (nothing_there a _ (ap (λ x. x.locks) is) there))
        (λ (away, is). subst (λ y. Contains y.locks a) is there)
        (taken_out sessions session s)

    apart : (s t : ℕ) (a b : Lock) → s ≢ t → Contains (of_session (remove sessions session) s).locks a → Contains (of_session (remove sessions session) t).locks b → conflict a b ≡ false
    apart s t a b differ in_s in_t = holds.apart s t a b differ (held s a in_s) (held t b in_t)

    covered : (s : ℕ) (change : Change) → Contains (of_session (remove sessions session) s).changes change
        → Contains (of_session (remove sessions session) s).locks (ExclusiveKey (place_of change))
    covered s change there = ⊎_elim
        (λ (here, is). absurd (nothing_there change _ (ap (λ x. x.changes) is) there))
        (λ (away, is). subst (λ y. Contains y.locks (ExclusiveKey (place_of change))) (sym is) (holds.covered s change (subst (λ y. Contains y.changes change) is there)))
        (taken_out sessions session s)

    all_stand : (s : ℕ) → StandsAlone (of_session (remove sessions session) s) (tables_of later) (if session == s then [] else lines s)
    all_stand s = by_test (session == s) refl where
      by_test : (b : Bool) → (session == s) ≡ b → StandsAlone (of_session (remove sessions session) s) (tables_of later) (if b then [] else lines s)
      by_test true e = ⊎_elim
          (λ (here, is). StandsAlone-none _ _ (ap (λ x. x.changes) is))
          (λ (away, is). absurd (away (sym (eqb-true session s e))))
          (taken_out sessions session s)
      by_test false e = ⊎_elim
          (λ (here, is). absurd (true≢false (sym (eq-eqb session s (sym here)) ∙ e)))
          (λ (away, is). subst (λ y. StandsAlone y (tables_of later) (lines s)) (sym is) (StandsAlone-kept (of_session sessions s) (tables_of history) (tables_of later) (lines s) (same s away) (holds.stands s)))
          (taken_out sessions session s)
