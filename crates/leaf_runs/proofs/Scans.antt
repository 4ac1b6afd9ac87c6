-- The first row after a key.
--     cut_at, cut_gap      where the rows after a key begin in a leaf
--     behind_at, behind_none      the first of them, or none
--     first_in, none_in      the first row after a key in a sorted list
use Rattle.std.proofs.Common.{◌≡◌, refl, sym, ap, subst, ◌∙◌, ℕ, zero, suc, ◌+◌, ◌<◌, ◌≤◌, true, false, not, cond, T, List, [], ◌∷◌, ◌++◌, length, take, drop, get_or, Some, arith}
use Rattle.std.specs.Prelude.{slice_get}
use Rattle.std.proofs.lemmas.List.{take-append-drop, append-nil}
use Rattle.std.specs.declared.cmp.Ordering.{Ordering}
use Rattle.std.specs.declared.cmp.Ordering.TheVariants.{Less, Equal, Greater}
use Rattle.std.specs.Ordering.{is_eq, is_gt, is_lt}
use Rattle.std.specs.Cmp.{tied_itself}
use Rattle.std.specs.Cmp.Lexicographic.{nat_list_cmp_total}
use Rattle.std.specs.FinMap.{find, is_sorted, slice_cmp-IsAntisymmetric, nat_cmp-IsAntisymmetric}
use Rattle.std.specs.FinMap.Entries.{below_all}
use Rattle.mdb_bytes.specs.TablePages.{Row}
use Rattle.row_page.specs.Entries.{by_bytes}
use Rattle.sorted_places.specs.Search.{IsAt, IsGap}
use Rattle.sorted_places.specs.First.{IsFirst}
use Rattle.sorted_places.proofs.NextRow.{before-less, less-before}
use Rattle.leaf_runs.specs.Leaves.{key_of_row, all_below}
use Rattle.leaf_runs.specs.Behind.{not_behind, IsCut, IsFirstAfter}
use Rattle.leaf_runs.proofs.RowLists.{t_left, t_right, t_both, is_less, from_true, to_true, turned, below_through, find-none, sorted_right, first_less, rest_less}

not_greater : (o : Ordering) → o ≡ Less → not (is_gt o) ≡ true
not_greater o e = ap (λ x. not (is_gt x)) e

-- where a key stands, or would stand
pub cut_gap : (rows : List Row) (after : List ℕ) (i : ℕ) → IsGap by_bytes key_of_row rows after i → T (is_sorted by_bytes rows) → IsCut rows after i
cut_gap rows after i gap up = record { within = gap.in_range; lower = lows rows i gap.lower_before gap.in_range; higher = highs rows i gap.greater_after gap.in_range } where
  lows : (xs : List Row) (i : ℕ) → ((j : ℕ) (d : Row) → j < i → by_bytes (get_or xs j d).0 after ≡ Less) → i ≤ length xs → not_behind after (take i xs) ≡ true
  lows [] zero h le = refl
  lows [] (suc i) h le = refl
  lows (x ∷ xs) zero h le = refl
  lows (x ∷ xs) (suc i) h le = to_true _ (t_both _ _ (from_true _ (not_greater _ (h 0 x (omega arith)))) (from_true _ (lows xs i (λ j d lt. h (suc j) d (omega arith)) (omega arith))))

  highs : (xs : List Row) (i : ℕ) → ((j : ℕ) (d : Row) → i ≤ j → j < length xs → by_bytes (get_or xs j d).0 after ≡ Greater) → i ≤ length xs → T (below_all by_bytes after (drop i xs))
  highs [] zero h le = tt
  highs [] (suc i) h le = tt
  highs (x ∷ xs) zero h le =
      t_both _ _ (subst (λ (o : Ordering). T (is_lt o)) (sym (turned x.0 after Greater (h 0 x (omega arith) (omega arith)))) tt) (highs xs zero (λ j d from lt. h (suc j) d (omega arith) (omega arith)) (omega arith))
  highs (x ∷ xs) (suc i) h le = highs xs i (λ j d from lt. h (suc j) d (omega arith) (omega arith)) (omega arith)

pub cut_at : (rows : List Row) (after : List ℕ) (i : ℕ) → IsAt by_bytes key_of_row rows after i → T (is_sorted by_bytes rows) → IsCut rows after (i + 1)
cut_at rows after i at up =
    let one : i + 1 ≡ suc i = omega arith in
    subst (IsCut rows after) (sym one) (record { within = (let w = at.in_range in omega arith); lower = lows rows i at.lower_before (at.same_here) at.in_range; higher = highs rows i up at.same_here at.in_range })
  where
    lows : (xs : List Row) (i : ℕ) → ((j : ℕ) (d : Row) → j < i → by_bytes (get_or xs j d).0 after ≡ Less) → ((d : Row) → by_bytes (get_or xs i d).0 after ≡ Equal) → i < length xs → not_behind after (take (suc i) xs) ≡ true
    lows [] i h e lt = absurd (omega arith)
    lows (x ∷ xs) zero h e lt = to_true _ (t_both _ _ (from_true _ (ap (λ o. not (is_gt o)) (e x))) (from_true _ (none_taken xs))) where
      none_taken : (ys : List Row) → not_behind after (take 0 ys) ≡ true
      none_taken [] = refl
      none_taken (y ∷ ys) = refl
    lows (x ∷ xs) (suc i) h e lt =
        to_true _ (t_both _ _ (from_true _ (not_greater _ (h 0 x (omega arith)))) (from_true _ (lows xs i (λ j d l. h (suc j) d (omega arith)) e (omega arith))))

    tied : (x : List ℕ) (zs : List Row) → by_bytes x after ≡ Equal → T (below_all by_bytes x zs) → T (below_all by_bytes after zs)
    tied x [] e p = tt
    tied x (z ∷ zs) e p = t_both _ _ (subst (λ (o : Ordering). T (is_lt o)) (nat_list_cmp_total.congr x after z.0 e) (t_left _ _ p)) (tied x zs e (t_right _ _ p))

    highs : (xs : List Row) (i : ℕ) → T (is_sorted by_bytes xs) → ((d : Row) → by_bytes (get_or xs i d).0 after ≡ Equal) → i < length xs → T (below_all by_bytes after (drop (suc i) xs))
    highs [] i up e lt = absurd (omega arith)
    highs (x ∷ xs) zero up e lt = subst (λ (ys : List Row). T (below_all by_bytes after ys)) (sym (all_left xs)) (tied x.0 xs (e x) (t_left _ _ up)) where
      all_left : (ys : List Row) → drop 0 ys ≡ ys
      all_left [] = refl
      all_left (y ∷ ys) = refl
    highs (x ∷ xs) (suc i) up e lt = highs xs i (t_right _ _ up) e (omega arith)

-- the row at the cut
pub behind_at : (rows : List Row) (after : List ℕ) (at : ℕ) (key value : List ℕ) → IsCut rows after at → slice_get rows at ≡ Some (key, value) → IsFirstAfter true rows after key value
behind_at rows after at key value cut got = (
  take at rows,
  drop (suc at) rows,
  sym (take-append-drop at rows) ∙ ap (λ (t : List Row). take at rows ++ t) (opened rows at got),
  cut.lower,
  subst (λ (t : List Row). T (below_all by_bytes after t)) (opened rows at got) cut.higher,
) where
  opened : (xs : List Row) (i : ℕ) → slice_get xs i ≡ Some (key, value) → drop i xs ≡ (key, value) ∷ drop (suc i) xs
  opened [] i got = absurd cc
  opened (x ∷ xs) zero got = let same : x ≡ (key, value) = cc in (λ i. same i ∷ all_left xs i) where
    all_left : (ys : List Row) → ys ≡ drop 0 ys
    all_left [] = refl
    all_left (y ∷ ys) = refl
  opened (x ∷ xs) (suc i) got = opened xs i got

pub behind_none : (rows : List Row) (after : List ℕ) (at : ℕ) (key value : List ℕ) → IsCut rows after at → length rows ≤ at → IsFirstAfter false rows after key value
behind_none rows after at key value cut over = subst (λ (t : List Row). not_behind after t ≡ true) (all rows at over) cut.lower where
  all : (xs : List Row) (i : ℕ) → length xs ≤ i → take i xs ≡ xs
  all [] zero le = refl
  all [] (suc i) le = refl
  all (x ∷ xs) zero le = absurd (omega arith)
  all (x ∷ xs) (suc i) le = ap (λ (t : List Row). x ∷ t) (all xs i (omega arith))

-- In a sorted list

pub behind_both : (after : List ℕ) (xs ys : List Row) → not_behind after xs ≡ true → not_behind after ys ≡ true → not_behind after (xs ++ ys) ≡ true
behind_both after [] ys p q = q
behind_both after (x ∷ xs) ys p q = to_true _ (t_both _ _ (t_left _ _ (from_true _ p)) (from_true _ (behind_both after xs ys (to_true _ (t_right _ _ (from_true _ p))) q)))

-- keys below another one are not after it
pub from_lower : (after : List ℕ) (rows : List Row) → all_below after rows ≡ true → not_behind after rows ≡ true
from_lower after [] p = refl
from_lower after (x ∷ xs) p = to_true _ (t_both _ _ (from_true _ (not_greater _ (first_less after x xs p))) (from_true _ (from_lower after xs (rest_less after x xs p))))

-- a key after the other one is not among rows that are not
skip : (after k : List ℕ) (xs ys : List Row) → by_bytes after k ≡ Less → not_behind after xs ≡ true → find by_bytes k (xs ++ ys) ≡ find by_bytes k ys
skip after k [] ys behind low = refl
skip after k (x ∷ xs) ys behind low =
    by_order (by_bytes k x.0) refl ∙ skip after k xs ys behind (to_true _ (t_right _ _ (from_true _ low)))
  where
    here : not (is_gt (by_bytes x.0 after)) ≡ true
    here = to_true _ (t_left _ _ (from_true _ low))

    by_order : (o : Ordering) → by_bytes k x.0 ≡ o → cond (is_eq (by_bytes k x.0)) (Some x.1) (find by_bytes k (xs ++ ys)) ≡ find by_bytes k (xs ++ ys)
    by_order Less is = ap (λ o. cond (is_eq o) (Some x.1) (find by_bytes k (xs ++ ys))) is
    by_order Greater is = ap (λ o. cond (is_eq o) (Some x.1) (find by_bytes k (xs ++ ys))) is
    by_order Equal is =
        let same : k ≡ x.0 = slice_cmp-IsAntisymmetric nat_cmp-IsAntisymmetric k x.0 is in
        let more : by_bytes x.0 after ≡ Greater = turned after x.0 Less (subst (λ (q : List ℕ). by_bytes after q ≡ Less) same behind) in
        let wrong : false ≡ true = sym (ap (λ o. not (is_gt o)) more) ∙ here in
        absurd cc

pub first_in : (rows front back : List Row) (after key value : List ℕ) → rows ≡ front ++ (key, value) ∷ back → T (is_sorted by_bytes rows) → not_behind after front ≡ true → T (below_all by_bytes after ((key, value) ∷ back))
    → IsFirst (λ k. find by_bytes k rows) after true key value
first_in rows front back after key value is up low high =
    let behind : by_bytes after key ≡ Less = is_less (by_bytes after key) (t_left _ _ high) in
    let tail : T (is_sorted by_bytes ((key, value) ∷ back)) = sorted_right front ((key, value) ∷ back) (subst (λ (rs : List Row). T (is_sorted by_bytes rs)) is up) in (
      before-less after key behind,
      ap (find by_bytes key) is ∙ skip after key front ((key, value) ∷ back) behind low ∙ ap (λ o. cond (is_eq o) (Some value) (find by_bytes key back)) (tied_itself nat_list_cmp_total key),
      λ k more less.
          ap (find by_bytes k) is ∙ skip after k front ((key, value) ∷ back) (less-before after k more) low
          ∙ find-none k ((key, value) ∷ back)
          (let lower : by_bytes k key ≡ Less = less-before k key less in
          t_both _ _ (subst (λ (o : Ordering). T (is_lt o)) (sym lower) tt) (below_through k key back lower (t_left _ _ tail))),
    )

pub none_in : (rows : List Row) (after key value : List ℕ) → not_behind after rows ≡ true → IsFirst (λ k. find by_bytes k rows) after false key value
none_in rows after key value low = λ k more. ap (find by_bytes k) (sym (append-nil rows)) ∙ skip after k rows [] (less-before after k more) low
