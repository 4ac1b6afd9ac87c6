-- The locks that are kept against those of the machine.
--     holder-agrees      the session that is named is the machine's
--     numbered-none, numbered-with, numbered-without      the sessions are numbered at first, with one more, and once one ended
--     agrees-none, agrees-locked, agrees-changed, agrees-ended      they agree at first, with one more lock, and once a session ended
use Rattle.std.proofs.Common.{◌≡◌, refl, sym, ap, ◌∙◌, subst, ℕ, zero, suc, ◌+◌, ◌<◌, ◌≤◌, Bool, true, false, not, ◌&&◌, ◌||◌, ◌==◌, cond, T, List, [], ◌∷◌, Option, Some, None, option_map, unwrap_or, length, map, get_or, is_some, IsTrue, arith}
use Rattle.std.specs.Prelude.{find}
use Rattle.std.specs.List.{list_any, range_with_len}
use Rattle.std.specs.declared.cmp.Ordering.{Ordering}
use Rattle.std.specs.declared.cmp.Ordering.TheVariants.{Less, Equal, Greater}
use Rattle.std.specs.Ordering.{nat_cmp, is_eq, is_lt, eq_by_cmp, MatchOrdering}
use Rattle.std.specs.Cmp.{ranks, nat_cmp_total, tied_itself}
use Rattle.std.specs.FinMap as fin
use Rattle.std.specs.FinMap.{entries, entries_sorted, get, get-entries, get-insert, get-remove, get-empty, contains_key-keys}
use Rattle.std.specs.FinMap.Entries.{below_all, is_sorted}
use Rattle.std.proofs.lemmas.Bool.{eqb-true, eqb-false}
use Rattle.std.proofs.lemmas.List.{length-map}
use Rattle.std.proofs.lemmas.List.Folds.{list_any_at}
use Rattle.mdb_bytes.proofs.Booleans.{first_holds, second_holds}
use Rattle.mdb_model.specs.declared.change.Change.{Change}
use Rattle.mdb_model.specs.Script.{is_session}
use Rattle.mdb_model.specs.Tables.{place_of}
use Rattle.mdb_model.specs.Worlds.{World, Transaction, Lock, ExclusiveKey, transaction, no_transaction, with_transaction, without_transaction}
use Rattle.mdb_model.specs.Sessions.{conflict, holder}
use Rattle.mdb_model.specs.Steps.{locked, changed}
use Rattle.sorted_places.proofs.Tests.{tie-eqb}
use Rattle.record_locks.specs.Holders.{bars, holder_in, HasLock, LetGo}
use Rattle.record_locks.specs.Agreeing.{LocksAgree, AreNumbered}
use Rattle.record_locks.proofs.Found.{find-step, find-nothing, keeps}
use Rattle.record_locks.proofs.Numbers.{session-from, session-below, is-session}

-- two tests that agree on the numbers of a row find the same one
find-same : (f g : ℕ → Bool) (a n : ℕ) → ((k : ℕ) → a ≤ k → k < a + n → f k ≡ g k) → find f (range_with_len a n) ≡ find g (range_with_len a n)
find-same f g a zero same = refl
find-same f g a (suc n) same =
    (λ i. cond (same a (omega arith) (omega arith) i) (Some a) (find-same f g (a + 1) n (λ k low high. same k (omega (arith, low)) (omega (arith, high))) i))

number-below : (k m : ℕ) → T (is_lt (nat_cmp k m)) → k + 1 ≤ m
number-below k m is = by_order (nat_cmp k m) (ranks k m) is where
  by_order : (o : Ordering) → MatchOrdering o (k < m) (k ≡ m) (m < k) → T (is_lt o) → k + 1 ≤ m
  by_order Less lower p = omega (arith, lower)
  by_order Equal same p = absurd p
  by_order Greater above p = absurd p

module _ {X : Type 0} where
  -- the numbers of the entries rise, from a on, and are below b
  abbrev Rises : ℕ → List (ℕ × X) → ℕ → Type 0
  Rises a [] b = Unit {0}
  Rises a (e ∷ es) b = (a ≤ e.0) × (e.0 < b) × Rises (e.0 + 1) es b

  lower_start : (a c : ℕ) (es : List (ℕ × X)) (b : ℕ) → c ≤ a → Rises a es b → Rises c es b
  lower_start a c [] b low is = tt
  lower_start a c (e ∷ es) b low is = (omega (arith, low, is.0), is.1, is.2)

  rises-behind : (k : ℕ) (es : List (ℕ × X)) (b : ℕ) → T (below_all nat_cmp k es) → T (is_sorted nat_cmp es) → ((i : ℕ) (d : ℕ × X) → i < length es → (get_or es i d).0 < b) → Rises (k + 1) es b
  rises-behind k [] b below sorted within = tt
  rises-behind k (e ∷ es) b below sorted within = (
    number-below k e.0 (first_holds _ _ below),
    within 0 e (omega arith),
    rises-behind e.0 es b (first_holds _ _ sorted) (second_holds _ _ sorted) (λ i d inside. within (suc i) d (omega (arith, inside))),
  )

  rises-all : (a : ℕ) (es : List (ℕ × X)) (b : ℕ) → T (is_sorted nat_cmp es) → ((i : ℕ) (d : ℕ × X) → i < length es → (a ≤ (get_or es i d).0) × ((get_or es i d).0 < b)) → Rises a es b
  rises-all a [] b sorted within = tt
  rises-all a (e ∷ es) b sorted within = (
    (within 0 e (omega arith)).0,
    (within 0 e (omega arith)).1,
    rises-behind e.0 es b (first_holds _ _ sorted) (second_holds _ _ sorted) (λ i d inside. (within (suc i) d (omega (arith, inside))).1),
  )

  -- a number before all entries has none, and one past the first entry has none there
  find-before : (a : ℕ) (es : List (ℕ × X)) (b : ℕ) → Rises (a + 1) es b → fin.find nat_cmp a es ≡ None
  find-before a [] b rises = refl
  find-before a (e ∷ es) b rises =
      by_order (nat_cmp a e.0) (ranks a e.0) (find-before a es b (lower_start (e.0 + 1) (a + 1) es b (omega (arith, rises.0)) rises.2))
    where
      by_order : (o : Ordering) → MatchOrdering o (a < e.0) (a ≡ e.0) (e.0 < a) → fin.find nat_cmp a es ≡ None → cond (is_eq o) (Some e.1) (fin.find nat_cmp a es) ≡ None
      by_order Less lower none = none
      by_order Equal same none = absurd (omega (arith, same, rises.0))
      by_order Greater above none = none

  find-past : (m : ℕ) (e : ℕ × X) (es : List (ℕ × X)) → e.0 < m → fin.find nat_cmp m (e ∷ es) ≡ fin.find nat_cmp m es
  find-past m e es past = by_order (nat_cmp m e.0) (ranks m e.0) where
    by_order : (o : Ordering) → MatchOrdering o (m < e.0) (m ≡ e.0) (e.0 < m) → cond (is_eq o) (Some e.1) (fin.find nat_cmp m es) ≡ fin.find nat_cmp m es
    by_order Less lower = absurd (omega (arith, lower, past))
    by_order Equal same = absurd (omega (arith, same, past))
    by_order Greater above = refl

  find-here : (e : ℕ × X) (es : List (ℕ × X)) → fin.find nat_cmp e.0 (e ∷ es) ≡ Some e.1
  find-here e es = by_order (nat_cmp e.0 e.0) (ranks e.0 e.0) where
    by_order : (o : Ordering) → MatchOrdering o (e.0 < e.0) (e.0 ≡ e.0) (e.0 < e.0) → cond (is_eq o) (Some e.1) (fin.find nat_cmp e.0 es) ≡ Some e.1
    by_order Less lower = absurd (omega (arith, lower))
    by_order Equal same = refl
    by_order Greater above = absurd (omega (arith, above))

  module _ (test : ℕ → X → Bool) where
    -- a number passes where it has an entry that does
    abbrev passes : ℕ → Option X → Bool
    passes m None = false
    passes m (Some x) = test m x

    abbrev at_number : List (ℕ × X) → ℕ → Bool
    at_number es m = passes m (fin.find nat_cmp m es)

    -- the first entry that passes has the lowest number that does
    lowest : (n a : ℕ) (es : List (ℕ × X)) → Rises a es (a + n) → option_map (λ e. e.0) (find (λ e. test e.0 e.1) es) ≡ find (at_number es) (range_with_len a n)
    lowest zero a [] rises = refl
    lowest zero a (e ∷ es) rises = absurd (omega (arith, rises.0, rises.1))
    lowest (suc n) a [] rises = sym (find-nothing (at_number []) a (suc n) (λ k low high. refl))
    lowest (suc n) a (e ∷ es) rises =
        by_start (a == e.0) refl
        (λ start. lowest n (a + 1) es (subst (λ b. Rises (a + 1) es b) (omega arith) (lower_start (e.0 + 1) (a + 1) es (a + suc n) (omega (arith, start)) rises.2)))
        (λ past. lowest n (a + 1) (e ∷ es) (subst (λ b. Rises (a + 1) (e ∷ es) b) (omega arith) (omega (arith, past), rises.1, rises.2)))
      where
        found : ℕ → Bool
        found m = at_number (e ∷ es) m

        by_pass : a ≡ e.0 → option_map (λ e. e.0) (find (λ e. test e.0 e.1) es) ≡ find (at_number es) (range_with_len (a + 1) n) → (b : Bool) → test e.0 e.1 ≡ b
            → option_map (λ e. e.0) (cond b (Some e) (find (λ e. test e.0 e.1) es)) ≡ find (at_number (e ∷ es)) (range_with_len a (suc n))
        by_pass start further b is =
            let here : at_number (e ∷ es) a ≡ b = ap (λ m. passes m (fin.find nat_cmp m (e ∷ es))) start ∙ ap (passes e.0) (find-here e es) ∙ is in
            let behind : find (at_number es) (range_with_len (a + 1) n) ≡ find (at_number (e ∷ es)) (range_with_len (a + 1) n) =
            find-same (at_number es) (at_number (e ∷ es)) (a + 1) n (λ k low high. ap (passes k) (sym (find-past k e es (omega (arith, low, start))))) in
            by_value b here behind
          where
            by_value : (b : Bool) → at_number (e ∷ es) a ≡ b → find (at_number es) (range_with_len (a + 1) n) ≡ find (at_number (e ∷ es)) (range_with_len (a + 1) n)
                → option_map (λ e. e.0) (cond b (Some e) (find (λ e. test e.0 e.1) es)) ≡ find (at_number (e ∷ es)) (range_with_len a (suc n))
            by_value true here behind = ap (λ m. Some m) (sym start) ∙ ap (λ b. cond b (Some a) (find (at_number (e ∷ es)) (range_with_len (a + 1) n))) (sym here)
            by_value false here behind = further ∙ behind ∙ ap (λ b. cond b (Some a) (find (at_number (e ∷ es)) (range_with_len (a + 1) n))) (sym here)

        by_start : (b : Bool) → (a == e.0) ≡ b
            → (a ≡ e.0 → option_map (λ e. e.0) (find (λ e. test e.0 e.1) es) ≡ find (at_number es) (range_with_len (a + 1) n))
            → (a < e.0 → option_map (λ e. e.0) (find (λ e. test e.0 e.1) (e ∷ es)) ≡ find (at_number (e ∷ es)) (range_with_len (a + 1) n))
            → option_map (λ e. e.0) (find (λ e. test e.0 e.1) (e ∷ es)) ≡ find (at_number (e ∷ es)) (range_with_len a (suc n))
        by_start true is at past =
            let start : a ≡ e.0 = eqb-true a e.0 is in
            by_pass start (at start) (test e.0 e.1) refl
        by_start false is at past =
            let other = eqb-false a e.0 is in
            let before : a < e.0 = omega (arith, other, rises.0) in
            past before
            ∙ sym (find-step (at_number (e ∷ es)) a n (find (at_number (e ∷ es)) (range_with_len (a + 1) n)) refl
            (ap (passes a) (find-before a (e ∷ es) (a + suc n) (omega (arith, before), rises.1, rises.2))))

-- an index of the entries is one of the keys
key-at : {X : Type 0} (es : List (ℕ × X)) (i : ℕ) (d : ℕ × X) → get_or (map (λ e. e.0) es) i d.0 ≡ (get_or es i d).0
key-at [] i d = refl
key-at (e ∷ es) zero d = refl
key-at (e ∷ es) (suc i) d = key-at es i d

-- the entries of the sessions
sessions-rise : (w : World) → AreNumbered w → Rises 1 (entries w.sessions) (1 + 64)
sessions-rise w numbered = rises-all 1 (entries w.sessions) 65 (entries_sorted w.sessions) (λ i d inside.
    let es = entries w.sessions in
    let n = (get_or es i d).0 in
    let there : list_any (eq_by_cmp nat_cmp n) (map (λ e. e.0) es) ≡ true =
    list_any_at (eq_by_cmp nat_cmp n) (map (λ e. e.0) es) i d.0 (omega (arith, inside, length-map es (λ e. e.0))) (ap (eq_by_cmp nat_cmp n) (key-at es i d) ∙ ap is_eq (tied_itself nat_cmp_total n)) in
    let is : IsTrue (is_session n) = numbered n (contains_key-keys w.sessions n ∙ there) in
    (session-from n is, session-below n is))

-- the session that is named for a lock is that of the machine
pub holder-agrees : (locks : List (List Lock)) (w : World) → AreNumbered w → LocksAgree locks w → (session : ℕ) (lock : Lock) → holder_in locks session lock ≡ holder w session lock
unfolding holder_in
holder-agrees locks w numbered agrees session lock =
    find-same (keeps locks session lock) (at_number test (entries w.sessions)) 1 64 (λ k low high.
    ap (λ b. not (k == session) && b) (agrees k (is-session k low high) lock) ∙ by_entry k (get w.sessions k) ∙ ap (passes test k) (get-entries w.sessions k))
    ∙ sym (lowest test 64 1 (entries w.sessions) (sessions-rise w numbered))
  where
    test : ℕ → Transaction → Bool
    test other x = not (other == session) && list_any (conflict lock) x.locks

    none : (b : Bool) → (not b && false) ≡ false
    none true = refl
    none false = refl

    by_entry : (k : ℕ) (o : Option Transaction) → (not (k == session) && list_any (conflict lock) (unwrap_or o no_transaction).locks) ≡ passes test k o
    by_entry k None = none (k == session)
    by_entry k (Some x) = refl

-- The sessions are numbered

pub numbered-none : (w : World) → w.sessions ≡ fin.empty → AreNumbered w
numbered-none w none session there =
    let nothing : false ≡ true = sym (ap (λ (m : fin.FinMap nat_cmp Transaction). is_some (get m session)) none ∙ ap is_some (get-empty {X = Transaction} nat_cmp session)) ∙ there in
    cc

pub numbered-with : (w : World) (session : ℕ) (x : Transaction) → IsTrue (is_session session) → AreNumbered w → AreNumbered (with_transaction w session x)
numbered-with w session x is numbered other there =
    by_test (other == session) refl (sym (ap is_some (get-insert nat_cmp_total w.sessions session x other) ∙ ap (λ b. is_some (cond b (Some x) (get w.sessions other))) (λ i. tie-eqb other i session)) ∙ there)
  where
    by_test : (b : Bool) → (other == session) ≡ b → is_some (cond b (Some x) (get w.sessions other)) ≡ true → IsTrue (is_session other)
    by_test true own kept = subst (λ n. IsTrue (is_session n)) (sym (eqb-true other session own)) is
    by_test false apart kept = numbered other kept

pub numbered-without : (w : World) (session : ℕ) → AreNumbered w → AreNumbered (without_transaction w session)
numbered-without w session numbered other there =
    by_test (other == session) (sym (ap is_some (get-remove nat_cmp_total w.sessions session other) ∙ ap (λ b. is_some (cond b None (get w.sessions other))) (λ i. tie-eqb other i session)) ∙ there)
  where
    by_test : (b : Bool) → is_some (cond b None (get w.sessions other)) ≡ true → IsTrue (is_session other)
    by_test true kept = cc
    by_test false kept = numbered other kept

-- At first no session has a lock
pub agrees-none : (locks : List (List Lock)) (w : World) → ((session : ℕ) (lock : Lock) → bars locks session lock ≡ false) → w.sessions ≡ fin.empty → LocksAgree locks w
agrees-none locks w nothing none session is lock =
    nothing session lock ∙ sym (ap (λ (m : fin.FinMap nat_cmp Transaction). list_any (conflict lock) (unwrap_or (get m session) no_transaction).locks) none
    ∙ ap (λ o. list_any (conflict lock) (unwrap_or o no_transaction).locks) (get-empty {X = Transaction} nat_cmp session))

-- the transaction of a session once one is begun or goes on
pub transaction-with : (w : World) (session : ℕ) (x : Transaction) (other : ℕ) → transaction (with_transaction w session x) other ≡ cond (other == session) x (transaction w other)
transaction-with w session x other =
    ap (λ o. unwrap_or o no_transaction) (get-insert nat_cmp_total w.sessions session x other)
    ∙ ap (λ b. unwrap_or (cond b (Some x) (get w.sessions other)) no_transaction) (λ i. tie-eqb other i session)
    ∙ by_test (other == session)
  where
    by_test : (b : Bool) → unwrap_or (cond b (Some x) (get w.sessions other)) no_transaction ≡ cond b x (transaction w other)
    by_test true = refl
    by_test false = refl

-- a session with one lock more
module _ (old new : List (List Lock)) (w : World) (session : ℕ) (lock : Lock) (more : HasLock old new session lock)
    (agrees : LocksAgree old w) where
  agrees-more : (x : Transaction) → x.locks ≡ lock ∷ (transaction w session).locks → LocksAgree new (with_transaction w session x)
  agrees-more x held other is asked =
      more other asked ∙ ap (λ b. b || (other == session && conflict asked lock)) (agrees other is asked) ∙ by_test (other == session) refl
      ∙ ap (λ (y : Transaction). list_any (conflict asked) y.locks) (sym (transaction-with w session x other))
    where
      turned : (a b : Bool) → (a || b) ≡ (b || a)
      turned true true = refl
      turned true false = refl
      turned false true = refl
      turned false false = refl

      by_test : (b : Bool) → (other == session) ≡ b → (list_any (conflict asked) (transaction w other).locks || (b && conflict asked lock)) ≡ list_any (conflict asked) (cond b x (transaction w other)).locks
      by_test true own =
          ap (λ k. list_any (conflict asked) (transaction w k).locks || conflict asked lock) (eqb-true other session own)
          ∙ turned (list_any (conflict asked) (transaction w session).locks) (conflict asked lock)
          ∙ ap (list_any (conflict asked)) (sym held)
      by_test false apart = turned (list_any (conflict asked) (transaction w other).locks) false

  pub agrees-locked : LocksAgree new (locked w session lock)
  agrees-locked = agrees-more (record { changes = (transaction w session).changes; locks = lock ∷ (transaction w session).locks }) refl

  pub agrees-changed : (change : Change) → lock ≡ ExclusiveKey (place_of change) → LocksAgree new (changed w session change)
  agrees-changed change is = agrees-more _ (ap (λ l. l ∷ (transaction w session).locks) (sym is))

-- a session whose transaction ended
pub agrees-ended : (old new : List (List Lock)) (w : World) (session : ℕ) → LetGo old new session → LocksAgree old w → LocksAgree new (without_transaction w session)
agrees-ended old new w session gone agrees other is asked =
    gone other asked ∙ ap (λ b. b && not (other == session)) (agrees other is asked) ∙ by_test (other == session)
    ∙ ap (λ b. list_any (conflict asked) (unwrap_or (cond b None (get w.sessions other)) no_transaction).locks) (λ i. sym (tie-eqb other) i session)
    ∙ ap (λ o. list_any (conflict asked) (unwrap_or o no_transaction).locks) (sym (get-remove nat_cmp_total w.sessions session other))
  where
    nothing : (a : Bool) → (a && false) ≡ false
    nothing true = refl
    nothing false = refl

    plain : (a : Bool) → (a && true) ≡ a
    plain true = refl
    plain false = refl

    by_test : (b : Bool) → (list_any (conflict asked) (transaction w other).locks && not b) ≡ list_any (conflict asked) (unwrap_or (cond b None (get w.sessions other)) no_transaction).locks
    by_test true = nothing (list_any (conflict asked) (transaction w other).locks)
    by_test false = plain (list_any (conflict asked) (transaction w other).locks)
