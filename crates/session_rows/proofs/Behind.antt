-- The first item of a sorted list behind a place.
--     at-here      where an item itself stands
--     behind-at, behind-gap      it stands behind the place itself, or in the gap for it
--     gap-behind      between the place and that item there is nothing
--     beyond      what stands behind a place of this table, in another one, stands behind all of this table
use Rattle.std.proofs.Common.{◌≡◌, refl, sym, ap, ◌∙◌, ℕ, zero, suc, ◌+◌, ◌<◌, ◌≤◌, ◌≢◌, T, List, [], ◌∷◌, map, length, get_or, IsTrue, arith}
use Rattle.std.specs.declared.cmp.Ordering.{Ordering}
use Rattle.std.specs.declared.cmp.Ordering.TheVariants.{Less, Equal, Greater}
use Rattle.std.specs.Ordering.{nat_cmp, ordering_then, ordering_reverse, MatchOrdering}
use Rattle.std.specs.Cmp.{IsTotalOrder, ranks, tied_itself}
use Rattle.std.specs.Cmp.Lexicographic.{slice_cmp}
use Rattle.std.specs.FinMap.{is_sorted}
use Rattle.mdb_model.specs.Tables.{Place, place_cmp}
use Rattle.mdb_bytes.specs.Fields.{rises}
use Rattle.sorted_places.specs.Search.{IsAt, IsGap}
use Rattle.sorted_places.proofs.Sorted.{entry, sorted_from_rises, sorted-index, turned}
use Rattle.session_rows.specs.Scan.{IsBehind}

-- an item that is there, whatever stands for one that is not
pub same_item : {X : Type 0} (xs : List X) (i : ℕ) (d e : X) → i < length xs → get_or xs i d ≡ get_or xs i e
same_item [] i d e inside = absurd (omega (arith, inside))
same_item (x ∷ xs) zero d e inside = refl
same_item (x ∷ xs) (suc i) d e inside = same_item xs i d e (omega (arith, inside))

module _ {K X : Type 0} (R : K → K → Ordering) (key : X → K) (o : IsTotalOrder R) (xs : List X) (ascends : IsTrue (rises R (map key xs))) where
  sorted : T (is_sorted R (map (entry R key (λ x. x)) xs))
  sorted = sorted_from_rises R key (λ x. x) xs ascends

  in_order : (i j : ℕ) (d : X) → i < j → j < length xs → R (key (get_or xs i d)) (key (get_or xs j d)) ≡ Less
  in_order i j d before inside = sorted-index R key (λ x. x) o xs sorted i j d before inside

  turn : (a b : K) (r : Ordering) → R a b ≡ r → R b a ≡ ordering_reverse r
  turn a b r is = turned R key (λ x. x) o a b r is

  -- an item stands where its own key does
  pub at-here : (i : ℕ) (d : X) → i < length xs → IsAt R key xs (key (get_or xs i d)) i
  at-here i d inside = record {
    in_range = inside;
    lower_before = λ j e before. ap (λ x. R (key (get_or xs j e)) (key x)) (same_item xs i d e inside) ∙ in_order j i e before inside;
    same_here = λ e. ap (λ x. R (key x) (key (get_or xs i d))) (same_item xs i e d inside) ∙ tied_itself o (key (get_or xs i d));
  }

  pub behind-at : (p : K) (i : ℕ) → IsAt R key xs p i → IsBehind R key xs p (i + 1)
  behind-at p i is = record {
    in_range = omega (arith, is.in_range);
    upto_before = λ j d before greater. by_side j d before greater (nat_cmp j i) (ranks j i);
    greater_after = λ j d behind inside. turn p (key (get_or xs j d)) Less (sym (o.congr (key (get_or xs i d)) p (key (get_or xs j d)) (is.same_here d)) ∙ in_order i j d (omega (arith, behind)) inside);
  } where
    by_side : (j : ℕ) (d : X) → j < i + 1 → R (key (get_or xs j d)) p ≡ Greater → (r : Ordering) → MatchOrdering r (j < i) (j ≡ i) (i < j) → ⊥
    by_side j d before greater Less lower = let less = is.lower_before j d lower in cc
    by_side j d before greater Equal same = let tie : R (key (get_or xs j d)) p ≡ Equal = ap (λ n. R (key (get_or xs n d)) p) same ∙ is.same_here d in cc
    by_side j d before greater Greater above = absurd (omega (arith, before, above))

  pub behind-gap : (p : K) (i : ℕ) → IsGap R key xs p i → IsBehind R key xs p i
  behind-gap p i is = record {
    in_range = is.in_range;
    upto_before = λ j d before greater. let less = is.lower_before j d before in cc;
    greater_after = is.greater_after;
  }

  pub gap-behind : (p q : K) (i : ℕ) → IsBehind R key xs p i → R p q ≡ Less → ((d : X) → i < length xs → R (key (get_or xs i d)) q ≡ Greater) → IsGap R key xs q i
  gap-behind p q i is later first = record {
    in_range = is.in_range;
    lower_before = λ j d before. by_tie j d (is.upto_before j d before) (R (key (get_or xs j d)) p) refl;
    greater_after = λ j d behind inside. by_side j d behind inside (nat_cmp i j) (ranks i j);
  } where
    by_tie : (j : ℕ) (d : X) → R (key (get_or xs j d)) p ≢ Greater → (r : Ordering) → R (key (get_or xs j d)) p ≡ r → R (key (get_or xs j d)) q ≡ Less
    by_tie j d upto Less is_less = o.trans (key (get_or xs j d)) p q is_less later
    by_tie j d upto Equal tie = o.congr (key (get_or xs j d)) p q tie ∙ later
    by_tie j d upto Greater above = absurd (upto above)

    by_side : (j : ℕ) (d : X) → i ≤ j → j < length xs → (r : Ordering) → MatchOrdering r (i < j) (i ≡ j) (j < i) → R (key (get_or xs j d)) q ≡ Greater
    by_side j d behind inside Less before =
        turn q (key (get_or xs j d)) Less (o.trans q (key (get_or xs i d)) (key (get_or xs j d)) (turn (key (get_or xs i d)) q Greater (first d (omega (arith, before, inside)))) (in_order i j d before inside))
    by_side j d behind inside Equal same = ap (λ n. R (key (get_or xs n d)) q) (sym same) ∙ first d (omega (arith, same, inside))
    by_side j d behind inside Greater above = absurd (omega (arith, behind, above))

-- a place of another table behind one of this table is behind all of it
pub beyond : (p : Place) (table : ℕ) (after other : List ℕ) → place_cmp p (table, after) ≡ Greater → p.0 ≢ table → place_cmp p (table, other) ≡ Greater
beyond p table after other behind apart = by_table (nat_cmp p.0 table) (ranks p.0 table) behind where
  by_table : (o : Ordering) → MatchOrdering o (p.0 < table) (p.0 ≡ table) (table < p.0) → ordering_then o (slice_cmp nat_cmp p.1 after) ≡ Greater → ordering_then o (slice_cmp nat_cmp p.1 other) ≡ Greater
  by_table Less is e = cc
  by_table Equal is e = absurd (apart is)
  by_table Greater is e = refl
