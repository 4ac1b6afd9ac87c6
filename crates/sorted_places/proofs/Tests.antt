-- Tests of the items of a list whose keys ascend.
--     any-map, any-insert, none-index      a test of a list of keys, of a list with one more item, and one that each item fails
--     contains-at, contains-gap, contains-searched      whether an item has the key that is sought
--     any-found, any-added      a test of the keys with one more, where it stands there and where it goes in
--     ascends-insert      a list with one more item at the gap for it ascends
--     table-at, table-tested, table-past      whether an item is of a table
use Rattle.std.proofs.Common.{◌≡◌, refl, sym, ap, ◌∙◌, ℕ, zero, suc, ◌<◌, ◌≤◌, Bool, true, false, ◌||◌, ◌==◌, List, [], ◌∷◌, map, length, get_or, Result, Ok, Err, IfOk, IfErr, is_ok, IsTrue, arith}
use Rattle.std.proofs.lemmas.Bool.{ne_eqb, eqb-true, eqb-false, eq-eqb, or_right, or_from}
use Rattle.std.proofs.lemmas.List.Folds.{list_any_at}
use Rattle.std.specs.List.{insert, list_any}
use Rattle.std.specs.declared.cmp.Ordering.{Ordering}
use Rattle.std.specs.declared.cmp.Ordering.TheVariants.{Less, Equal, Greater}
use Rattle.std.specs.Ordering.{is_eq, eq_by_cmp, nat_cmp, ordering_then, MatchOrdering}
use Rattle.std.specs.Cmp.{IsTotalOrder, ranks}
use Rattle.std.specs.Cmp.Lexicographic.{slice_cmp}
use Rattle.std.specs.FinMap.{IsAntisymmetric}
use Rattle.std.proofs.lemmas.List.{get_or_default}
use Rattle.mdb_model.specs.Tables.{Place, place_cmp}
use Rattle.mdb_bytes.specs.Fields.{rises}
use Rattle.sorted_places.specs.Search.{IsAt, IsGap}
use Rattle.sorted_places.proofs.Sorted.{gap-tail, gap-none, turned, put-gap, sorted-index, sorted_from_rises}
use Rattle.sorted_places.proofs.SortedMaps.{ascends-put}
use Rattle.sorted_places.proofs.Places.{place_total}

or_turned : (a b : Bool) → (a || b) ≡ (b || a)
or_turned true true = refl
or_turned true false = refl
or_turned false true = refl
or_turned false false = refl

or_grouped : (a b c : Bool) → (a || (b || c)) ≡ ((a || b) || c)
or_grouped true b c = refl
or_grouped false b c = refl

module _ {X : Type 0} (test : X → Bool) where
  pub any-insert : (xs : List X) (i : ℕ) (y : X) → list_any test (insert xs i y) ≡ (list_any test xs || test y)
  any-insert xs zero y = or_turned (test y) (list_any test xs)
  any-insert [] (suc i) y = or_turned (test y) false
  any-insert (x ∷ xs) (suc i) y = ap (λ b. test x || b) (any-insert xs i y) ∙ or_grouped (test x) (list_any test xs) (test y)

  pub none-index : (xs : List X) → ((j : ℕ) (d : X) → j < length xs → test (get_or xs j d) ≡ false) → list_any test xs ≡ false
  none-index [] fails = refl
  none-index (x ∷ xs) fails = or_from (test x) (list_any test xs) (fails 0 x (omega arith)) (none-index xs (λ j d inside. fails (suc j) d (omega (arith, inside))))

pub any-map : {X K : Type 0} (test : K → Bool) (key : X → K) (xs : List X) → list_any test (map key xs) ≡ list_any (λ x. test (key x)) xs
any-map test key [] = refl
any-map test key (x ∷ xs) = ap (λ b. test (key x) || b) (any-map test key xs)

-- one of the keys passes what the sought key passes
any-same : {K : Type 0} (R : K → K → Ordering) → IsAntisymmetric R → (test : K → Bool) (k : K) (ks : List K) → list_any (eq_by_cmp R k) ks ≡ true → test k ≡ true → list_any test ks ≡ true
any-same R exact test k [] there passes = cc
any-same {K} R exact test k (x ∷ ks) there passes = by_tie (λ e. any-same R exact test k ks e passes) (R k x) refl there where
  by_tie : (list_any (eq_by_cmp R k) ks ≡ true → list_any test ks ≡ true) → (o : Ordering) → R k x ≡ o → (is_eq o || list_any (eq_by_cmp R k) ks) ≡ true → (test x || list_any test ks) ≡ true
  by_tie further Equal is e = ap (λ b. b || list_any test ks) (ap test (sym (exact k x is)) ∙ passes)
  by_tie further Less is e = or_right (test x) _ (further e)
  by_tie further Greater is e = or_right (test x) _ (further e)

-- a key that is there adds nothing
pub any-there : {K : Type 0} (R : K → K → Ordering) → IsAntisymmetric R → (test : K → Bool) (k : K) (ks : List K) → list_any (eq_by_cmp R k) ks ≡ true → list_any test ks ≡ (list_any test ks || test k)
any-there R exact test k ks there = by_test (test k) refl where
  by_test : (b : Bool) → test k ≡ b → list_any test ks ≡ (list_any test ks || b)
  by_test true is = any-same R exact test k ks there is ∙ sym (or_right (list_any test ks) true refl)
  by_test false is = or_turned false (list_any test ks)

module _ {K X : Type 0} (R : K → K → Ordering) (key : X → K) (o : IsTotalOrder R) where
  at-index : (xs : List X) (k : K) (i : ℕ) → IsAt R key xs k i → list_any (λ x. eq_by_cmp R k (key x)) xs ≡ true
  at-index [] k i is = absurd (omega (arith, is.in_range))
  at-index (x ∷ xs) k i is = list_any_at (λ x. eq_by_cmp R k (key x)) (x ∷ xs) i x is.in_range (ap is_eq (turned R key (λ x. x) o (key (get_or (x ∷ xs) i x)) k Equal (is.same_here x)))

  at-gap : (xs : List X) (k : K) (i : ℕ) → IsGap R key xs k i → list_any (λ x. eq_by_cmp R k (key x)) xs ≡ false
  at-gap [] k i is = refl
  at-gap (x ∷ xs) k zero is =
      or_from (eq_by_cmp R k (key x)) _ (ap is_eq (turned R key (λ x. x) o (key x) k Greater (is.greater_after 0 x (omega arith) (omega arith)))) (at-gap xs k zero (gap-none R key (λ x. x) o x xs k is))
  at-gap (x ∷ xs) k (suc i) is =
      or_from (eq_by_cmp R k (key x)) _ (ap is_eq (turned R key (λ x. x) o (key x) k Less (is.lower_before 0 x (omega arith)))) (at-gap xs k i (gap-tail R key (λ x. x) o x xs k i is))

  pub contains-at : (xs : List X) (k : K) (i : ℕ) → IsAt R key xs k i → list_any (eq_by_cmp R k) (map key xs) ≡ true
  contains-at xs k i is = any-map (eq_by_cmp R k) key xs ∙ at-index xs k i is

  pub contains-gap : (xs : List X) (k : K) (i : ℕ) → IsGap R key xs k i → list_any (eq_by_cmp R k) (map key xs) ≡ false
  contains-gap xs k i is = any-map (eq_by_cmp R k) key xs ∙ at-gap xs k i is

  pub any-found : IsAntisymmetric R → (xs : List X) (k : K) (i : ℕ) → IsAt R key xs k i → (test : K → Bool) → list_any test (map key xs) ≡ (list_any test (map key xs) || test k)
  any-found exact xs k i is test = any-there R exact test k (map key xs) (contains-at xs k i is)

  pub ascends-insert : (xs : List X) (y : X) (i : ℕ) → IsTrue (rises R (map key xs)) → IsGap R key xs (key y) i → IsTrue (rises R (map key (insert xs i y)))
  ascends-insert xs y i ascends is = ascends-put R o key (λ x. x) xs (insert xs i y) ascends (key y) y (put-gap R key (λ x. x) o xs y i is)

pub any-added : {K X : Type 0} (key : X → K) (xs : List X) (y : X) (i : ℕ) (test : K → Bool) → list_any test (map key (insert xs i y)) ≡ (list_any test (map key xs) || test (key y))
any-added key xs y i test = any-map test key (insert xs i y) ∙ any-insert (λ x. test (key x)) xs i y ∙ ap (λ b. b || test (key y)) (sym (any-map test key xs))

-- Tables

-- what a lower place, and a greater one than the first of a table, say of the tables
pub lower-table : (a b : Place) → place_cmp a b ≡ Less → a.0 ≤ b.0
lower-table a b lower = by_table (nat_cmp a.0 b.0) (ranks a.0 b.0) lower where
  by_table : (o : Ordering) → MatchOrdering o (a.0 < b.0) (a.0 ≡ b.0) (b.0 < a.0) → ordering_then o (slice_cmp nat_cmp a.1 b.1) ≡ Less → a.0 ≤ b.0
  by_table Less is e = omega (arith, is)
  by_table Equal is e = omega (arith, is)
  by_table Greater is e = cc

none_lower : (key : List ℕ) → slice_cmp nat_cmp key [] ≡ Less → ⊥
none_lower [] e = cc
none_lower (b ∷ key) e = cc

before-table : (a : Place) (t : ℕ) → place_cmp a (t, []) ≡ Less → a.0 < t
before-table a t lower = by_table (nat_cmp a.0 t) (ranks a.0 t) lower where
  by_table : (o : Ordering) → MatchOrdering o (a.0 < t) (a.0 ≡ t) (t < a.0) → ordering_then o (slice_cmp nat_cmp a.1 []) ≡ Less → a.0 < t
  by_table Less is e = is
  by_table Equal is e = absurd (none_lower a.1 e)
  by_table Greater is e = cc

from-table : (a : Place) (t : ℕ) → place_cmp a (t, []) ≡ Greater → t ≤ a.0
from-table a t greater = by_table (nat_cmp a.0 t) (ranks a.0 t) greater where
  by_table : (o : Ordering) → MatchOrdering o (a.0 < t) (a.0 ≡ t) (t < a.0) → ordering_then o (slice_cmp nat_cmp a.1 []) ≡ Greater → t ≤ a.0
  by_table Less is e = cc
  by_table Equal is e = omega (arith, is)
  by_table Greater is e = omega (arith, is)

of-table : (a : Place) (t : ℕ) → place_cmp a (t, []) ≡ Equal → a.0 ≡ t
of-table a t tie = by_table (nat_cmp a.0 t) (ranks a.0 t) tie where
  by_table : (o : Ordering) → MatchOrdering o (a.0 < t) (a.0 ≡ t) (t < a.0) → ordering_then o (slice_cmp nat_cmp a.1 []) ≡ Equal → a.0 ≡ t
  by_table Less is e = cc
  by_table Equal is e = is
  by_table Greater is e = cc

module _ {X : Type 0} (key : X → Place) (xs : List X) (t : ℕ) (i : ℕ) where
  -- an item at the index is of the table
  pub table-here : (d : X) → i < length xs → (key (get_or xs i d)).0 ≡ t → list_any (λ (p : Place). t == p.0) (map key xs) ≡ true
  table-here d inside is = any-map (λ (p : Place). t == p.0) key xs ∙ list_any_at (λ x. t == (key x).0) xs i d inside (eq-eqb t (key (get_or xs i d)).0 (sym is))

  module _ (is : IsGap place_cmp key xs (t, []) i) where
    -- the first item past the gap for a table is of another one
    pub table-not_here : (d : X) → IsTrue (rises place_cmp (map key xs)) → i < length xs → ((key (get_or xs i d)).0 ≡ t → ⊥) → list_any (λ (p : Place). t == p.0) (map key xs) ≡ false
    table-not_here d ascends inside other =
        any-map (λ (p : Place). t == p.0) key xs
        ∙ none-index (λ x. t == (key x).0) xs (λ j e below. ne_eqb t (key (get_or xs j e)).0 (λ same. apart j e below (sym same)))
      where
        here : t < (key (get_or xs i d)).0
        here =
            let least = from-table (key (get_or xs i d)) t (is.greater_after i d (omega arith) inside) in
            omega (arith, least, other)

        same_item : (j : ℕ) (e : X) → j ≡ i → get_or xs j e ≡ get_or xs i d
        same_item j e is_i = ap (λ n. get_or xs n e) is_i ∙ get_or_default xs i e d inside

        apart : (j : ℕ) (e : X) → j < length xs → (key (get_or xs j e)).0 ≡ t → ⊥
        apart j e below same = by_side (nat_cmp j i) (ranks j i) where
          by_side : (o : Ordering) → MatchOrdering o (j < i) (j ≡ i) (i < j) → ⊥
          by_side Less before =
              let low = before-table (key (get_or xs j e)) t (is.lower_before j e before) in
              omega (arith, low, same)
          by_side Equal at =
              let item : (key (get_or xs j e)).0 ≡ (key (get_or xs i d)).0 = ap (λ x. (key x).0) (same_item j e at) in
              omega (arith, here, item, same)
          by_side Greater behind =
              let later = lower-table (key (get_or xs i d)) (key (get_or xs j e)) sorted in
              omega (arith, here, later, same)
            where
              sorted : place_cmp (key (get_or xs i d)) (key (get_or xs j e)) ≡ Less
              sorted =
                  ap (λ x. place_cmp (key x) (key (get_or xs j e))) (sym (same_item i e refl))
                  ∙ sorted-index place_cmp key (λ x. x) place_total xs (sorted_from_rises place_cmp key (λ x. x) xs ascends) i j e behind below

    -- there is no item past it
    pub table-past : length xs ≤ i → list_any (λ (p : Place). t == p.0) (map key xs) ≡ false
    table-past past =
        any-map (λ (p : Place). t == p.0) key xs
        ∙ none-index (λ x. t == (key x).0) xs (λ j d below. ne_eqb t (key (get_or xs j d)).0 (λ same.
        let low = before-table (key (get_or xs j d)) t (is.lower_before j d (omega (arith, below, past))) in
        omega (arith, low, same)))

-- the first place of a table stands there
pub table-at : {X : Type 0} (key : X → Place) (xs : List X) (t i : ℕ) → IsAt place_cmp key xs (t, []) i → list_any (λ (p : Place). t == p.0) (map key xs) ≡ true
table-at key [] t i is = absurd (omega (arith, is.in_range))
table-at key (x ∷ xs) t i is = table-here key (x ∷ xs) t i x is.in_range (of-table (key (get_or (x ∷ xs) i x)) t (is.same_here x))

-- whether an item is of the table shows at the gap for its first place
pub table-tested : {X : Type 0} (key : X → Place) (xs : List X) (t i : ℕ) (d : X) → IsGap place_cmp key xs (t, []) i → IsTrue (rises place_cmp (map key xs)) → i < length xs
    → ((key (get_or xs i d)).0 == t) ≡ list_any (λ (p : Place). t == p.0) (map key xs)
table-tested key xs t i d is ascends inside = by_test ((key (get_or xs i d)).0 == t) refl where
  by_test : (b : Bool) → ((key (get_or xs i d)).0 == t) ≡ b → b ≡ list_any (λ (p : Place). t == p.0) (map key xs)
  by_test true same = sym (table-here key xs t i d inside (eqb-true (key (get_or xs i d)).0 t same))
  by_test false other = sym (table-not_here key xs t i is d ascends inside (eqb-false (key (get_or xs i d)).0 t other))

-- a key is there exactly where a search finds it
pub contains-searched : {K X : Type 0} (R : K → K → Ordering) (key : X → K) → IsTotalOrder R → (xs : List X) (k : K) (r : Result ℕ ℕ) → IfOk r (IsAt R key xs k) → IfErr r (IsGap R key xs k)
    → is_ok r ≡ list_any (eq_by_cmp R k) (map key xs)
contains-searched R key o xs k (Ok at) found absent = sym (contains-at R key o xs k at found)
contains-searched R key o xs k (Err at) found absent = sym (contains-gap R key o xs k at absent)

-- numbers tie where they are equal
pub tie-eqb : (n : ℕ) → eq_by_cmp nat_cmp n ≡ (λ m. n == m)
tie-eqb n i m = is_equal (nat_cmp n m) (ranks n m) refl i where
  is_equal : (o : Ordering) → MatchOrdering o (n < m) (n ≡ m) (m < n) → nat_cmp n m ≡ o → eq_by_cmp nat_cmp n m ≡ (n == m)
  is_equal Less lower is = ap is_eq is ∙ sym (ne_eqb n m (λ same. omega (arith, lower, same)))
  is_equal Equal same is = ap is_eq is ∙ sym (eq-eqb n m same)
  is_equal Greater above is = ap is_eq is ∙ sym (ne_eqb n m (λ same. omega (arith, above, same)))
