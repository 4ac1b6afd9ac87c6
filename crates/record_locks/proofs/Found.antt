-- The lowest number that passes a test.
--     find-first, find-nothing      what is found among numbers in a row
--     holder-here, holder-nowhere      which session bars a lock
--     bars-index      the locks at an index are those of the session with that number
--     bars-set      what the sessions bar once one has other locks
--     above-free      no session past the highest one has a lock, whatever one below it takes
use Rattle.std.proofs.Common.{◌≡◌, refl, sym, ap, ◌∙◌, ℕ, zero, suc, ◌+◌, ◌-◌, ◌<◌, ◌≤◌, Bool, true, false, not, ◌&&◌, ◌||◌, ◌==◌, cond, List, [], Option, Some, None, length, get_or, set, find, arith}
use Rattle.std.specs.List.{list_any, range_with_len}
use Rattle.std.proofs.lemmas.Bool.{eqb-true, eqb-false, ne_eqb, eq-eqb, and_from}
use Rattle.std.proofs.lemmas.List.{get_or-set_same, get_or-set_other, get_or_default}
use Rattle.mdb_model.specs.Worlds.{Lock}
use Rattle.mdb_model.specs.Sessions.{conflict}
use Rattle.record_locks.specs.Holding.{HasOneMore}
use Rattle.record_locks.specs.Holders.{bars, locks_of, holder_in, IsBound}

module _ (test : ℕ → Bool) where
  pub find-step : (a n : ℕ) (o : Option ℕ) → find test (range_with_len (a + 1) n) ≡ o → test a ≡ false → find test (range_with_len a (suc n)) ≡ o
  find-step a n o later fails = ap (λ b. cond b (Some a) (find test (range_with_len (a + 1) n))) fails ∙ later

  pub find-first : (a n m : ℕ) → a ≤ m → m < a + n → ((k : ℕ) → a ≤ k → k < m → test k ≡ false) → test m ≡ true → find test (range_with_len a n) ≡ Some m
  find-first a zero m from below lower passes = absurd (omega (arith, from, below))
  find-first a (suc n) m from below lower passes =
      by_place (λ above. find-first (a + 1) n m above (omega (arith, below)) (λ k low high. lower k (omega (arith, low)) high) passes) (a == m) refl
    where
      by_place : (a + 1 ≤ m → find test (range_with_len (a + 1) n) ≡ Some m) → (b : Bool) → (a == m) ≡ b → find test (range_with_len a (suc n)) ≡ Some m
      by_place further true is =
          let same : a ≡ m = eqb-true a m is in
          ap (λ b. cond b (Some a) (find test (range_with_len (a + 1) n))) (ap test same ∙ passes) ∙ ap (λ k. Some k) same
      by_place further false is =
          let other = eqb-false a m is in
          let above : a < m = omega (arith, from, other) in
          find-step a n (Some m) (further (omega (arith, above))) (lower a (omega arith) above)

  pub find-nothing : (a n : ℕ) → ((k : ℕ) → a ≤ k → k < a + n → test k ≡ false) → find test (range_with_len a n) ≡ None
  find-nothing a zero fails = refl
  find-nothing a (suc n) fails =
      find-step a n None (find-nothing (a + 1) n (λ k low high. fails k (omega (arith, low)) (omega (arith, high)))) (fails a (omega arith) (omega arith))

module _ (locks : List (List Lock)) (session : ℕ) (lock : Lock) where
  -- whether this session keeps the lock from the one that asks
  abbrev pub keeps : ℕ → Bool
  keeps other = not (other == session) && bars locks other lock

  pub holder-here : (m : ℕ) → 1 ≤ m → m < 65 → ((k : ℕ) → 1 ≤ k → k < m → keeps k ≡ false) → keeps m ≡ true → holder_in locks session lock ≡ Some m
  unfolding holder_in
  holder-here m from below lower passes = find-first keeps 1 64 m from below lower passes

  pub holder-nowhere : ((k : ℕ) → 1 ≤ k → k < 65 → keeps k ≡ false) → holder_in locks session lock ≡ None
  unfolding holder_in
  holder-nowhere fails = find-nothing keeps 1 64 fails

pub bars-index : (locks : List (List Lock)) (number : ℕ) (d : List Lock) (lock : Lock) → number < length locks → list_any (conflict lock) (get_or locks number d) ≡ bars locks number lock
bars-index locks number d lock inside = ap (list_any (conflict lock)) (get_or_default locks number d [] inside)

pub keeps-true : (locks : List (List Lock)) (session number : ℕ) (lock : Lock) → (number ≡ session → ⊥) → bars locks number lock ≡ true → keeps locks session lock number ≡ true
keeps-true locks session number lock other barred = and_from (not (number == session)) (bars locks number lock) (ap not (ne_eqb number session other)) barred

pub keeps-own : (locks : List (List Lock)) (session number : ℕ) (lock : Lock) → number ≡ session → keeps locks session lock number ≡ false
keeps-own locks session number lock own = ap (λ b. not b && bars locks number lock) (eq-eqb number session own)

pub keeps-free : (locks : List (List Lock)) (session number : ℕ) (lock : Lock) → bars locks number lock ≡ false → keeps locks session lock number ≡ false
keeps-free locks session number lock free = ap (λ b. not (number == session) && b) free ∙ none (number == session) where
  none : (a : Bool) → (not a && false) ≡ false
  none true = refl
  none false = refl

module _ (locks : List (List Lock)) (session : ℕ) (now : List Lock) (inside : session < length locks) where
  set-own : (other : ℕ) → other ≡ session → locks_of (set locks session now) other ≡ now
  set-own other is = ap (λ k. locks_of (set locks session now) k) is ∙ get_or-set_same locks session now [] inside

  set-other : (other : ℕ) → (other ≡ session → ⊥) → locks_of (set locks session now) other ≡ locks_of locks other
  set-other other apart = get_or-set_other locks session other now [] apart

  -- a session with one more lock
  pub bars-more : (old : List Lock) (lock : Lock) → old ≡ get_or locks session old → HasOneMore old now lock
      → (other : ℕ) (asked : Lock) → bars (set locks session now) other asked ≡ (bars locks other asked || (other == session && conflict asked lock))
  bars-more old lock is more other asked = by_session (other == session) refl where
    by_session : (b : Bool) → (other == session) ≡ b → bars (set locks session now) other asked ≡ (bars locks other asked || (b && conflict asked lock))
    by_session true own =
        let same : other ≡ session = eqb-true other session own in
        ap (list_any (conflict asked)) (set-own other same) ∙ more asked
        ∙ ap (λ b. b || conflict asked lock) (ap (list_any (conflict asked)) (is ∙ get_or_default locks session old [] inside ∙ ap (locks_of locks) (sym same)))
    by_session false apart = ap (list_any (conflict asked)) (set-other other (eqb-false other session apart)) ∙ sym (plain (bars locks other asked)) where
      plain : (a : Bool) → (a || false) ≡ a
      plain true = refl
      plain false = refl

  -- a session with no locks
  pub bars-none : now ≡ [] → (other : ℕ) (asked : Lock) → bars (set locks session now) other asked ≡ (bars locks other asked && not (other == session))
  bars-none is other asked = by_session (other == session) refl where
    nothing : (a : Bool) → false ≡ (a && false)
    nothing true = refl
    nothing false = refl

    plain : (a : Bool) → (a && true) ≡ a
    plain true = refl
    plain false = refl

    by_session : (b : Bool) → (other == session) ≡ b → bars (set locks session now) other asked ≡ (bars locks other asked && not b)
    by_session true own = ap (list_any (conflict asked)) (set-own other (eqb-true other session own) ∙ is) ∙ nothing (bars locks other asked)
    by_session false apart = ap (list_any (conflict asked)) (set-other other (eqb-false other session apart)) ∙ sym (plain (bars locks other asked))

-- no session past the highest one has a lock, whatever one below it takes
pub above-free : (locks : List (List Lock)) (highest session h2 : ℕ) (now : List Lock) → IsBound locks highest → highest ≤ h2 → session ≤ h2 → h2 ≤ 64 → IsBound (set locks session now) h2
above-free locks highest session h2 now bound more own most = record {
  most = most;
  none_above = λ other asked above.
      ap (list_any (conflict asked)) (get_or-set_other locks session other now [] (λ same. absurd (omega (arith, above, own, same))))
      ∙ bound.none_above other asked (omega (arith, above, more));
}

-- one session less where the highest one has no lock
pub lower : (locks : List (List Lock)) (highest : ℕ) (own d : List Lock) → IsBound locks highest → highest < length locks → 0 < highest → own ≡ get_or locks highest d → own ≡ [] → IsBound locks (highest - 1)
lower locks highest own d bound inside some is none = record {
  most = omega (arith, bound.most);
  none_above = λ other asked above. by_place other asked above (other == highest) refl;
} where
  by_place : (other : ℕ) (asked : Lock) → highest - 1 < other → (b : Bool) → (other == highest) ≡ b → bars locks other asked ≡ false
  by_place other asked above true same =
      ap (λ k. bars locks k asked) (eqb-true other highest same)
      ∙ ap (list_any (conflict asked)) (sym (get_or_default locks highest d [] inside) ∙ sym is ∙ none)
  by_place other asked above false apart =
      let differs = eqb-false other highest apart in
      bound.none_above other asked (omega (arith, above, some, differs))

-- nor where a session's locks are gone
pub cleared-free : (locks : List (List Lock)) (highest session : ℕ) (now : List Lock) → session < length locks → IsBound locks highest → now ≡ [] → IsBound (set locks session now) highest
cleared-free locks highest session now inside bound none = record {
  most = bound.most;
  none_above = λ other asked above.
      bars-none locks session now inside none other asked ∙ ap (λ b. b && not (other == session)) (bound.none_above other asked above);
}
