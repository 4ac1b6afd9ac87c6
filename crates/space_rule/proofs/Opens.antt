-- One more change among those of a session.
--     with-at, with-gap      where its key was changed before, and where it was not
--     grown-at, bytes-at, sum-gap, sum-elsewhere      the sums with it
use Rattle.std.proofs.Common.{◌≡◌, refl, sym, ap, subst, ◌∙◌, ℕ, zero, suc, ◌+◌, ◌-◌, ◌<◌, ◌≤◌, cond, T, inl, inr, Bool, true, false, ◌&&◌, ◌++◌, length-append, List, [], ◌∷◌, length, get_or, set, arith}
use Rattle.std.specs.Prelude.{nat_eq, nat_le, sum_by, map, IsTrue}
use Rattle.std.proofs.lemmas.Bool.{cases_Bool, eqb-true, eq-eqb, leb-true}
use Rattle.std.proofs.Math.Seq.{map-set_same}
use Rattle.std.proofs.lemmas.List.{get_or_append_left}
use Rattle.std.specs.FinMap.{is_sorted}
use Rattle.std.specs.FinMap.Entries.{below_all}
use Rattle.std.proofs.lemmas.List.Sums.{sum_by-cons, sum_by-set, sum_by-insert, get_or-le-sum_by}
use Rattle.std.specs.declared.cmp.Ordering.{Ordering}
use Rattle.std.specs.List.{insert}
use Rattle.std.specs.declared.cmp.Ordering.TheVariants.{Less, Equal, Greater}
use Rattle.mdb_model.specs.Tables.{Place, place_cmp}
use Rattle.sorted_places.specs.Search.{IsAt, IsGap}
use Rattle.sorted_places.proofs.Places.{place_total, place_exact}
use Rattle.sorted_places.proofs.Sorted.{at-tail, gap-tail, put-gap, entry, sorted_from_rises, rises_from_sorted}
use Rattle.sorted_places.proofs.SortedMaps.{ascends-put}
use Rattle.mdb_bytes.specs.Fields.{rises}
use Rattle.mdb_bytes.proofs.Decoding.{and_left, and_right}
use Rattle.mdb_model.specs.Script.{is_table}
use Rattle.space_rule.specs.declared.open_change.OpenChange.{OpenChange}
use Rattle.space_rule.specs.KnownCosts.{open_place, open_by, with_open, growth, growth_on, cost_of_lengths, undo_cost}
use Rattle.space_rule.specs.Weighing.{IsInOrder}

-- the earlier change of the key gets what is now
pub with-at : (x : OpenChange) (xs : List OpenChange) (i : ℕ) (d : OpenChange) → IsAt place_cmp open_place xs (open_place x) i
    → with_open x xs ≡ set xs i (record (get_or xs i d) { now = x.now })
with-at x [] i d is = absurd (omega (arith, is.in_range))
with-at x (y ∷ ys) zero d is = ap (λ o. open_by o x y ys (with_open x ys)) (is.same_here d)
with-at x (y ∷ ys) (suc i) d is =
    ap (λ o. open_by o x y ys (with_open x ys)) (is.lower_before 0 d (omega arith))
    ∙ ap (λ zs. y ∷ zs) (with-at x ys i d (at-tail place_cmp open_place (λ c. c) place_total y ys (open_place x) i is))

-- the change of a new key goes to its place
pub with-gap : (x : OpenChange) (xs : List OpenChange) (i : ℕ) → IsGap place_cmp open_place xs (open_place x) i → with_open x xs ≡ insert xs i x
with-gap x [] zero is = refl
with-gap x [] (suc i) is = absurd (omega (arith, is.in_range))
with-gap x (y ∷ ys) zero is = ap (λ o. open_by o x y ys (with_open x ys)) (is.greater_after 0 x (omega arith) (omega arith))
with-gap x (y ∷ ys) (suc i) is =
    ap (λ o. open_by o x y ys (with_open x ys)) (is.lower_before 0 x (omega arith))
    ∙ ap (λ zs. y ∷ zs) (with-gap x ys i (gap-tail place_cmp open_place (λ c. c) place_total y ys (open_place x) i is))

-- a change of a table makes it grow
pub growth-here : (table : ℕ) (x : OpenChange) → x.table.0 ≡ table → growth_on table x ≡ growth x
growth-here table x is = ap (λ b. cond b (growth x) 0) (eq-eqb x.table.0 table is)

-- a change of another table does not
pub growth-elsewhere : (table : ℕ) (x : OpenChange) → (x.table.0 ≡ table → ⊥) → growth_on table x ≡ 0
growth-elsewhere table x other = elim (cases_Bool (nat_eq x.table.0 table)) [
  | inl is ↦ absurd (other (eqb-true x.table.0 table is))
  | inr is ↦ ap (λ b. cond b (growth x) 0) is
]

-- the place of the change that is found
same-place : (x : OpenChange) (xs : List OpenChange) (i : ℕ) (d : OpenChange) → IsAt place_cmp open_place xs (open_place x) i → open_place (get_or xs i d) ≡ open_place x
same-place x xs i d is = place_exact (open_place (get_or xs i d)) (open_place x) (is.same_here d)

-- the growth of the table after an earlier change of the key got what is now
pub grown-at : (x : OpenChange) (xs : List OpenChange) (i : ℕ) (d : OpenChange) → IsAt place_cmp open_place xs (open_place x) i
    → (sum_by (growth_on x.table.0) (with_open x xs) + (cost_of_lengths (length x.key) (get_or xs i d).now - cost_of_lengths (length x.key) (get_or xs i d).before)
    ≡ sum_by (growth_on x.table.0) xs + (cost_of_lengths (length x.key) x.now - cost_of_lengths (length x.key) (get_or xs i d).before))
    × (cost_of_lengths (length x.key) (get_or xs i d).now - cost_of_lengths (length x.key) (get_or xs i d).before ≤ sum_by (growth_on x.table.0) xs)
grown-at x xs i d is =
    let y = get_or xs i d in
    let z : OpenChange = record y { now = x.now } in
    let table : y.table.0 ≡ x.table.0 = ap (λ p. p.0) (same-place x xs i d is) in
    let key : y.key ≡ x.key = ap (λ p. p.1) (same-place x xs i d is) in
    let old : growth_on x.table.0 y ≡ cost_of_lengths (length x.key) y.now - cost_of_lengths (length x.key) y.before =
    growth-here x.table.0 y table ∙ ap (λ k. cost_of_lengths (length k) y.now - cost_of_lengths (length k) y.before) key in
    let new : growth_on x.table.0 z ≡ cost_of_lengths (length x.key) x.now - cost_of_lengths (length x.key) y.before =
    growth-here x.table.0 z table ∙ ap (λ k. cost_of_lengths (length k) x.now - cost_of_lengths (length k) y.before) key in
    let whole = ap (sum_by (growth_on x.table.0)) (with-at x xs i d is) in
    let part = sum_by-set (growth_on x.table.0) xs i z d is.in_range in
    let least = get_or-le-sum_by (growth_on x.table.0) xs i d is.in_range in
    (omega arith, omega arith)

-- the same, of the change as it was found
pub grown-found : (x : OpenChange) (xs : List OpenChange) (i : ℕ) (y : OpenChange) → IsAt place_cmp open_place xs (open_place x) i → y ≡ get_or xs i y
    → (sum_by (growth_on x.table.0) (with_open x xs) + (cost_of_lengths (length x.key) y.now - cost_of_lengths (length x.key) y.before)
    ≡ sum_by (growth_on x.table.0) xs + (cost_of_lengths (length x.key) x.now - cost_of_lengths (length x.key) y.before))
    × (cost_of_lengths (length x.key) y.now - cost_of_lengths (length x.key) y.before ≤ sum_by (growth_on x.table.0) xs)
grown-found x xs i y is found =
    let P : OpenChange → Type 0 = λ z.
    (sum_by (growth_on x.table.0) (with_open x xs) + (cost_of_lengths (length x.key) z.now - cost_of_lengths (length x.key) z.before)
    ≡ sum_by (growth_on x.table.0) xs + (cost_of_lengths (length x.key) x.now - cost_of_lengths (length x.key) z.before))
    × (cost_of_lengths (length x.key) z.now - cost_of_lengths (length x.key) z.before ≤ sum_by (growth_on x.table.0) xs) in
    subst P (sym found) (grown-at x xs i y is)

-- the before images stay
pub bytes-at : (x : OpenChange) (xs : List OpenChange) (i : ℕ) (d : OpenChange) → IsAt place_cmp open_place xs (open_place x) i
    → sum_by undo_cost (with_open x xs) ≡ sum_by undo_cost xs
bytes-at x xs i d is =
    let z : OpenChange = record (get_or xs i d) { now = x.now } in
    let whole = ap (sum_by undo_cost) (with-at x xs i d is) in
    let part : sum_by undo_cost (set xs i z) + undo_cost (get_or xs i d) ≡ sum_by undo_cost xs + undo_cost (get_or xs i d) = sum_by-set undo_cost xs i z d is.in_range in
    omega arith

-- the growth of the table by a change of a new key, and its before image
pub sum-gap : (f : OpenChange → ℕ) (x : OpenChange) (xs : List OpenChange) (i : ℕ) → IsGap place_cmp open_place xs (open_place x) i
    → sum_by f (with_open x xs) ≡ sum_by f xs + f x
sum-gap f x xs i is = ap (sum_by f) (with-gap x xs i is) ∙ sum_by-insert f xs i x

-- the growth of other tables stays
pub sum-elsewhere : (table : ℕ) (x : OpenChange) (xs : List OpenChange) → (x.table.0 ≡ table → ⊥) → sum_by (growth_on table) (with_open x xs) ≡ sum_by (growth_on table) xs
sum-elsewhere table x [] other = sum_by-cons (growth_on table) x [] ∙ ap (λ n. n + 0) (growth-elsewhere table x other)
sum-elsewhere table x (y ∷ ys) other = by_order (sum-elsewhere table x ys other) (place_cmp (open_place y) (open_place x)) refl where
  f : OpenChange → ℕ
  f = growth_on table

  by_order : sum_by f (with_open x ys) ≡ sum_by f ys → (o : Ordering) → place_cmp (open_place y) (open_place x) ≡ o → sum_by f (open_by o x y ys (with_open x ys)) ≡ sum_by f (y ∷ ys)
  by_order more Less is =
      let a = sum_by-cons f y (with_open x ys) in
      let b = sum_by-cons f y ys in
      omega arith
  by_order more Equal is =
      let z : OpenChange = record y { now = x.now } in
      let same : y.table.0 ≡ x.table.0 = ap (λ p. p.0) (place_exact (open_place y) (open_place x) is) in
      let a = sum_by-cons f z ys in
      let b = sum_by-cons f y ys in
      let c = growth-elsewhere table z (λ e. other (sym same ∙ e)) in
      let d = growth-elsewhere table y (λ e. other (sym same ∙ e)) in
      omega arith
  by_order more Greater is =
      let a = sum_by-cons f x (y ∷ ys) in
      let b = growth-elsewhere table x other in
      omega arith

-- the first of two
first_T : (a b : Bool) → T (a && b) → T a
first_T true b p = tt
first_T false b p = p

-- the second of two
second_T : (a b : Bool) → T (a && b) → T b
second_T true b p = p
second_T false b p = absurd p

-- two together
both_T : (a b : Bool) → T a → T b → T (a && b)
both_T true b p q = q
both_T false b p q = absurd p

-- the number of a table
pub table-range : (n : ℕ) → IsTrue (is_table n) → (1 ≤ n) × (n ≤ 500)
table-range n is = (leb-true 1 n (and_left _ _ is), leb-true n 500 (and_right (nat_le 1 n) _ is))

-- the tables of the changes are tables
abbrev pub AreTables : List OpenChange → Type 0
AreTables xs = (i : ℕ) (d : OpenChange) → i < length xs → (1 ≤ (get_or xs i d).table.0) × ((get_or xs i d).table.0 ≤ 500)

-- one more change of a table
tables-cons : (x : OpenChange) (xs : List OpenChange) → (1 ≤ x.table.0) × (x.table.0 ≤ 500) → AreTables xs → AreTables (x ∷ xs)
tables-cons x xs one more zero d inside = one
tables-cons x xs one more (suc i) d inside = more i d (omega (arith, inside))

-- one change fewer
tables-tail : (x : OpenChange) (xs : List OpenChange) → AreTables (x ∷ xs) → AreTables xs
tables-tail x xs all i d inside = all (suc i) d (omega (arith, inside))

-- a change beside the first of others
tables-by : (x y : OpenChange) (ys more : List OpenChange) → (1 ≤ x.table.0) × (x.table.0 ≤ 500) → AreTables (y ∷ ys) → AreTables more → (o : Ordering) → AreTables (open_by o x y ys more)
tables-by x y ys more one all rest Less = tables-cons y more (all 0 y (omega arith)) rest
tables-by x y ys more one all rest Equal = tables-cons (record y { now = x.now }) ys (all 0 y (omega arith)) (tables-tail y ys all)
tables-by x y ys more one all rest Greater = tables-cons x (y ∷ ys) one all

-- the tables with one more change
tables-open : (x : OpenChange) (xs : List OpenChange) → (1 ≤ x.table.0) × (x.table.0 ≤ 500) → AreTables xs → AreTables (with_open x xs)
tables-open x [] one all = tables-cons x [] one all
tables-open x (y ∷ ys) one all = tables-by x y ys (with_open x ys) one all (tables-open x ys one (tables-tail y ys all)) (place_cmp (open_place y) (open_place x))

-- the changes stand in order with one more
pub order-at : (x : OpenChange) (xs : List OpenChange) (i : ℕ) (d : OpenChange) → IsTrue (is_table x.table.0) → IsAt place_cmp open_place xs (open_place x) i → IsInOrder xs → IsInOrder (with_open x xs)
order-at x xs i d table is order =
    let z : OpenChange = record (get_or xs i d) { now = x.now } in
    let same : map open_place (with_open x xs) ≡ map open_place xs = ap (map open_place) (with-at x xs i d is) ∙ map-set_same open_place xs i z d refl in
    record {
      ascend = ap (rises place_cmp) same ∙ order.ascend;
      tables = tables-open x xs (table-range x.table.0 table) order.tables;
    }

-- the same of a new key
pub order-gap : (x : OpenChange) (xs : List OpenChange) (i : ℕ) → IsTrue (is_table x.table.0) → IsGap place_cmp open_place xs (open_place x) i → IsInOrder xs → IsInOrder (with_open x xs)
order-gap x xs i table is order =
    let more = put-gap place_cmp open_place (λ c. c) place_total xs x i is in
    record {
      ascend = ap (λ ys. rises place_cmp (map open_place ys)) (with-gap x xs i is) ∙ ascends-put place_cmp place_total open_place (λ c. c) xs (insert xs i x) order.ascend (open_place x) x more;
      tables = tables-open x xs (table-range x.table.0 table) order.tables;
    }

-- fewer changes are in order too
below-front : (k : Place) (xs ys : List OpenChange) → T (below_all place_cmp k (map (entry place_cmp open_place (λ c. c)) (xs ++ ys))) → T (below_all place_cmp k (map (entry place_cmp open_place (λ c. c)) xs))
below-front k [] ys all = tt
below-front k (x ∷ xs) ys all = both_T _ _ (first_T _ _ all) (below-front k xs ys (second_T _ _ all))

-- the first changes ascend
sorted-front : (xs ys : List OpenChange) → T (is_sorted place_cmp (map (entry place_cmp open_place (λ c. c)) (xs ++ ys))) → T (is_sorted place_cmp (map (entry place_cmp open_place (λ c. c)) xs))
sorted-front [] ys all = tt
sorted-front (x ∷ xs) ys all = both_T _ _ (below-front (open_place x) xs ys (first_T _ _ all)) (sorted-front xs ys (second_T _ _ all))

-- the first changes are in order
pub order-front : (xs ys : List OpenChange) → IsInOrder (xs ++ ys) → IsInOrder xs
order-front xs ys order = record {
  ascend = rises_from_sorted place_cmp open_place (λ c. c) xs (sorted-front xs ys (sorted_from_rises place_cmp open_place (λ c. c) (xs ++ ys) order.ascend));
  tables = λ i d inside. let same = get_or_append_left xs ys d i inside in
      let one = order.tables i d (omega (arith, inside, length-append xs ys)) in
      let table = ap (λ (c : OpenChange). c.table.0) same in
      (let low = one.0 in omega arith, let high = one.1 in omega arith);
}

-- the earlier change as it was found
pub with-found : (x : OpenChange) (xs : List OpenChange) (i : ℕ) (y : OpenChange) → IsAt place_cmp open_place xs (open_place x) i → y ≡ get_or xs i y
    → with_open x xs ≡ set xs i (record y { now = x.now })
with-found x xs i y is found = with-at x xs i y is ∙ ap (λ (z : OpenChange). set xs i (record z { now = x.now })) (sym found)
