-- Lists of items whose keys ascend, against the entries of a finite map.
--     rises-entries      keys ascend where entries are in order
--     searched      what a binary search finds
--     find-at, find-gap, put-at, put-gap, where_key-at, where_key-gap      what is found, put and removed at an index
use Rattle.std.proofs.Common.{◌≡◌, refl, sym, ap, ◌∙◌, subst, ℕ, zero, suc, ◌+◌, ◌<◌, Bool, true, false, cond, not, ◌&&◌, T, List, [], ◌∷◌, map, length, get_or, set, Some, None, Result, Ok, Err, IfOk, IfErr, IsTrue, arith}
use Rattle.std.specs.List.{insert, remove}
use Rattle.std.specs.List.Sorted.{IsSearchInRange, IsBinarySearchResult, IsSortedBy}
use Rattle.std.specs.declared.cmp.Ordering.{Ordering}
use Rattle.std.specs.declared.cmp.Ordering.TheVariants.{Less, Equal, Greater}
use Rattle.std.specs.Ordering.{is_lt, is_eq, eq_by_cmp, ordering_reverse}
use Rattle.std.specs.Cmp.{IsTotalOrder, alike_right}
use Rattle.std.specs.FinMap.{find, put, is_sorted, IsAntisymmetric}
use Rattle.std.specs.FinMap.Entries.{by_order, where_key, below_all}
use Rattle.std.proofs.lemmas.List.Sorted.{searchable_from_sorted}
use Rattle.mdb_bytes.proofs.Booleans.{first_holds, second_holds}
use Rattle.mdb_bytes.specs.Fields.{rises}
use Rattle.sorted_places.specs.Search.{IsAt, IsGap}

is_less : (o : Ordering) → T (is_lt o) → o ≡ Less
is_less Less p = refl
is_less Equal p = absurd p
is_less Greater p = absurd p

is_true : (b : Bool) → T b → b ≡ true
is_true true p = refl
is_true false p = absurd p

module _ {K X V : Type 0} (R : K → K → Ordering) (key : X → K) (value : X → V) where
  abbrev pub entry : X → K × V
  entry x = (key x, value x)

  below-entries : (k : K) (xs : List X) → let nothing : Unit {0} = tt in below_all R k (map (λ q. (q, nothing)) (map key xs)) ≡ below_all R k (map entry xs)
  below-entries k [] = refl
  below-entries k (x ∷ xs) = ap (λ b. is_lt (R k (key x)) && b) (below-entries k xs)

  pub rises-entries : (xs : List X) → rises R (map key xs) ≡ is_sorted R (map entry xs)
  rises-entries [] = refl
  rises-entries (x ∷ xs) = λ i. below-entries (key x) xs i && rises-entries xs i

  -- what ascends is in order
  pub sorted_from_rises : (xs : List X) → IsTrue (rises R (map key xs)) → T (is_sorted R (map entry xs))
  sorted_from_rises xs ascends = subst T (sym ascends ∙ rises-entries xs) tt

  pub rises_from_sorted : (xs : List X) → T (is_sorted R (map entry xs)) → IsTrue (rises R (map key xs))
  rises_from_sorted xs sorted = rises-entries xs ∙ is_true _ sorted

  module _ (o : IsTotalOrder R) where
    below-index : (k : K) (xs : List X) → T (below_all R k (map entry xs)) → (j : ℕ) (d : X) → j < length xs → R k (key (get_or xs j d)) ≡ Less
    below-index k [] below j d inside = absurd (omega (arith, inside))
    below-index k (x ∷ xs) below zero d inside = is_less _ (first_holds _ _ below)
    below-index k (x ∷ xs) below (suc j) d inside = below-index k xs (second_holds _ _ below) j d (omega (arith, inside))

    -- an earlier key is lower
    pub sorted-index : (xs : List X) → T (is_sorted R (map entry xs)) → (i j : ℕ) (d : X) → i < j → j < length xs → R (key (get_or xs i d)) (key (get_or xs j d)) ≡ Less
    sorted-index [] sorted i j d before inside = absurd (omega (arith, inside))
    sorted-index (x ∷ xs) sorted i zero d before inside = absurd (omega (arith, before))
    sorted-index (x ∷ xs) sorted zero (suc j) d before inside = below-index (key x) xs (first_holds _ _ sorted) j d (omega (arith, inside))
    sorted-index (x ∷ xs) sorted (suc i) (suc j) d before inside = sorted-index xs (second_holds _ _ sorted) i j d (omega (arith, before)) (omega (arith, inside))

    not_after : (xs : List X) → T (is_sorted R (map entry xs)) → IsSortedBy (λ a b. is_lt (R (key a) (key b))) xs
    not_after xs sorted k d low inside =
        ap is_lt (o.antisymm (key (get_or xs (k + 1) d)) (key (get_or xs k d)) ∙ ap ordering_reverse (sorted-index xs sorted k (k + 1) d (omega arith) (omega (arith, inside))))

    -- a binary search by key ends at the key, or at the gap for it
    pub searched : (xs : List X) → T (is_sorted R (map entry xs)) → (k : K) (r : Result ℕ ℕ) → IsSearchInRange r (length xs) → IsBinarySearchResult (λ x. R (key x) k) xs r
        → IfOk r (IsAt R key xs k) × IfErr r (IsGap R key xs k)
    searched xs sorted k (Ok at) inside equal = (
      record {
        in_range = inside;
        lower_before = λ j d before. sym (alike_right o _ k (key (get_or xs j d)) (equal d)) ∙ sorted-index xs sorted j at d before inside;
        same_here = equal;
      },
      tt,
    )
    searched xs sorted k (Err at) inside parted =
        let parts = parted (searchable_from_sorted o key xs k (not_after xs sorted)) in (
          tt,
          record {
            in_range = inside;
            lower_before = λ j d before. parts.0 j d (omega arith) before;
            greater_after = λ j d behind below. parts.1 j d behind below;
          },
        )

    -- the rest of a list, without its first item
    pub at-tail : (x : X) (xs : List X) (k : K) (i : ℕ) → IsAt R key (x ∷ xs) k (suc i) → IsAt R key xs k i
    at-tail x xs k i is = record { in_range = omega (arith, is.in_range); lower_before = λ j d before. is.lower_before (suc j) d (omega (arith, before)); same_here = is.same_here }

    pub gap-tail : (x : X) (xs : List X) (k : K) (i : ℕ) → IsGap R key (x ∷ xs) k (suc i) → IsGap R key xs k i
    gap-tail x xs k i is = record {
      in_range = omega (arith, is.in_range);
      lower_before = λ j d before. is.lower_before (suc j) d (omega (arith, before));
      greater_after = λ j d behind below. is.greater_after (suc j) d (omega (arith, behind)) (omega (arith, below));
    }

    pub gap-none : (x : X) (xs : List X) (k : K) → IsGap R key (x ∷ xs) k zero → IsGap R key xs k zero
    gap-none x xs k is = record {
      in_range = omega arith;
      lower_before = λ j d before. absurd (omega (arith, before));
      greater_after = λ j d behind below. is.greater_after (suc j) d (omega arith) (omega (arith, below));
    }

    pub turned : (a b : K) (r : Ordering) → R a b ≡ r → R b a ≡ ordering_reverse r
    turned a b r is = o.antisymm b a ∙ ap ordering_reverse is

    -- what is found
    pub find-at : (xs : List X) (k : K) (i : ℕ) (d : X) → IsAt R key xs k i → find R k (map entry xs) ≡ Some (value (get_or xs i d))
    find-at [] k i d is = absurd (omega (arith, is.in_range))
    find-at (x ∷ xs) k zero d is = ap (λ r. cond (is_eq r) (Some (value x)) (find R k (map entry xs))) (turned (key x) k Equal (is.same_here d))
    find-at (x ∷ xs) k (suc i) d is =
        ap (λ r. cond (is_eq r) (Some (value x)) (find R k (map entry xs))) (turned (key x) k Less (is.lower_before 0 d (omega arith))) ∙ find-at xs k i d (at-tail x xs k i is)

    pub find-gap : (xs : List X) (k : K) (i : ℕ) → IsGap R key xs k i → find R k (map entry xs) ≡ None
    find-gap [] k i is = refl
    find-gap (x ∷ xs) k zero is =
        ap (λ r. cond (is_eq r) (Some (value x)) (find R k (map entry xs))) (turned (key x) k Greater (is.greater_after 0 x (omega arith) (omega arith))) ∙ find-gap xs k zero (gap-none x xs k is)
    find-gap (x ∷ xs) k (suc i) is =
        ap (λ r. cond (is_eq r) (Some (value x)) (find R k (map entry xs))) (turned (key x) k Less (is.lower_before 0 x (omega arith))) ∙ find-gap xs k i (gap-tail x xs k i is)

    -- what is put
    pub put-gap : (xs : List X) (y : X) (i : ℕ) → IsGap R key xs (key y) i → map entry (insert xs i y) ≡ put R (key y) (value y) (map entry xs)
    put-gap [] y zero is = refl
    put-gap [] y (suc i) is = absurd (omega (arith, is.in_range))
    put-gap (x ∷ xs) y zero is =
        ap (λ r. by_order r (entry y ∷ entry x ∷ map entry xs) ((key x, value y) ∷ map entry xs) (entry x ∷ put R (key y) (value y) (map entry xs))) (sym (turned (key x) (key y) Greater (is.greater_after 0 x (omega arith) (omega arith))))
    put-gap (x ∷ xs) y (suc i) is =
        ap (λ es. entry x ∷ es) (put-gap xs y i (gap-tail x xs (key y) i is))
        ∙ ap (λ r. by_order r (entry y ∷ entry x ∷ map entry xs) ((key x, value y) ∷ map entry xs) (entry x ∷ put R (key y) (value y) (map entry xs))) (sym (turned (key x) (key y) Less (is.lower_before 0 x (omega arith))))

    pub put-at : IsAntisymmetric R → (xs : List X) (y : X) (i : ℕ) → IsAt R key xs (key y) i → map entry (set xs i y) ≡ put R (key y) (value y) (map entry xs)
    put-at exact [] y i is = absurd (omega (arith, is.in_range))
    put-at exact (x ∷ xs) y zero is =
        ap (λ k. (k, value y) ∷ map entry xs) (sym (exact (key x) (key y) (is.same_here x)))
        ∙ ap (λ r. by_order r (entry y ∷ entry x ∷ map entry xs) ((key x, value y) ∷ map entry xs) (entry x ∷ put R (key y) (value y) (map entry xs))) (sym (turned (key x) (key y) Equal (is.same_here x)))
    put-at exact (x ∷ xs) y (suc i) is =
        ap (λ es. entry x ∷ es) (put-at exact xs y i (at-tail x xs (key y) i is))
        ∙ ap (λ r. by_order r (entry y ∷ entry x ∷ map entry xs) ((key x, value y) ∷ map entry xs) (entry x ∷ put R (key y) (value y) (map entry xs))) (sym (turned (key x) (key y) Less (is.lower_before 0 x (omega arith))))

    -- what is removed
    kept : (k : K) (x : X) (xs : List X) (r : Ordering) → R k (key x) ≡ r → T (not (is_eq r)) → where_key R (λ q. not (eq_by_cmp R k q)) (map entry (x ∷ xs)) ≡ entry x ∷ where_key R (λ q. not (eq_by_cmp R k q)) (map entry xs)
    kept k x xs Less is other = ap (λ r. cond (not (is_eq r)) (entry x ∷ where_key R (λ q. not (eq_by_cmp R k q)) (map entry xs)) (where_key R (λ q. not (eq_by_cmp R k q)) (map entry xs))) is
    kept k x xs Greater is other = ap (λ r. cond (not (is_eq r)) (entry x ∷ where_key R (λ q. not (eq_by_cmp R k q)) (map entry xs)) (where_key R (λ q. not (eq_by_cmp R k q)) (map entry xs))) is
    kept k x xs Equal is other = absurd other

    pub where_key-gap : (xs : List X) (k : K) (i : ℕ) → IsGap R key xs k i → where_key R (λ q. not (eq_by_cmp R k q)) (map entry xs) ≡ map entry xs
    where_key-gap [] k i is = refl
    where_key-gap (x ∷ xs) k zero is = kept k x xs Less (turned (key x) k Greater (is.greater_after 0 x (omega arith) (omega arith))) tt ∙ ap (λ es. entry x ∷ es) (where_key-gap xs k zero (gap-none x xs k is))
    where_key-gap (x ∷ xs) k (suc i) is = kept k x xs Greater (turned (key x) k Less (is.lower_before 0 x (omega arith))) tt ∙ ap (λ es. entry x ∷ es) (where_key-gap xs k i (gap-tail x xs k i is))

    -- nothing of what is above the key has it
    above : (k : K) (xs : List X) → ((j : ℕ) (d : X) → j < length xs → R k (key (get_or xs j d)) ≡ Less) → where_key R (λ q. not (eq_by_cmp R k q)) (map entry xs) ≡ map entry xs
    above k [] higher = refl
    above k (x ∷ xs) higher = kept k x xs Less (higher 0 x (omega arith)) tt ∙ ap (λ es. entry x ∷ es) (above k xs (λ j d inside. higher (suc j) d (omega (arith, inside))))

    pub where_key-at : (xs : List X) → T (is_sorted R (map entry xs)) → (k : K) (i : ℕ) → IsAt R key xs k i → where_key R (λ q. not (eq_by_cmp R k q)) (map entry xs) ≡ map entry (remove xs i)
    where_key-at [] sorted k i is = absurd (omega (arith, is.in_range))
    where_key-at (x ∷ xs) sorted k zero is =
        let same = turned (key x) k Equal (is.same_here x) in
        ap (λ r. cond (not (is_eq r)) (entry x ∷ where_key R (λ q. not (eq_by_cmp R k q)) (map entry xs)) (where_key R (λ q. not (eq_by_cmp R k q)) (map entry xs))) same
        ∙ above k xs (λ j d inside. o.congr k (key x) (key (get_or xs j d)) same ∙ below-index (key x) xs (first_holds _ _ sorted) j d inside)
    where_key-at (x ∷ xs) sorted k (suc i) is =
        kept k x xs Greater (turned (key x) k Less (is.lower_before 0 x (omega arith))) tt
        ∙ ap (λ es. entry x ∷ es) (where_key-at xs (second_holds _ _ sorted) k i (at-tail x xs k i is))
