-- The first item of a table after a key, in a list whose places ascend.
--     past-at, past-gap      where the items after a place begin
--     next-here, next-other, next-past      the item there is the first of the table, or there is none
use Rattle.std.proofs.Common.{◌≡◌, refl, sym, ap, ◌∙◌, ℕ, zero, suc, ◌+◌, ◌<◌, ◌≤◌, List, [], ◌∷◌, map, length, get_or, None, IsTrue, true, arith}
use Rattle.std.specs.declared.cmp.Ordering.{Ordering}
use Rattle.std.specs.declared.cmp.Ordering.TheVariants.{Less, Equal, Greater}
use Rattle.std.specs.Ordering.{nat_cmp, ordering_then, ordering_reverse, MatchOrdering}
use Rattle.std.specs.Cmp.{ranks, tied_itself}
use Rattle.std.specs.Cmp.Lexicographic.{slice_cmp, nat_list_cmp_total}
use Rattle.std.specs.FinMap.{find}
use Rattle.std.proofs.lemmas.List.{get_or_default}
use Rattle.mdb_model.specs.Tables.{Place, place_cmp}
use Rattle.mdb_bytes.specs.Fields.{rises}
use Rattle.mdb_bytes.specs.Held.{is_before}
use Rattle.sorted_places.specs.First.{IsFirst}
use Rattle.sorted_places.specs.Search.{IsAt, IsGap, IsPast}
use Rattle.sorted_places.proofs.NextRow.{before-less, less-before, same-table}
use Rattle.sorted_places.proofs.Places.{place_total}
use Rattle.sorted_places.proofs.Sorted.{entry, find-at, find-gap, sorted-index, sorted_from_rises, turned}
use Rattle.sorted_places.proofs.Tests.{lower-table}

-- a place of a greater table is a greater place
higher-table : (a b : Place) → b.0 < a.0 → place_cmp a b ≡ Greater
higher-table a b higher = by_table (nat_cmp a.0 b.0) (ranks a.0 b.0) where
  by_table : (o : Ordering) → MatchOrdering o (a.0 < b.0) (a.0 ≡ b.0) (b.0 < a.0) → ordering_then o (slice_cmp nat_cmp a.1 b.1) ≡ Greater
  by_table Less is = absurd (omega (arith, is, higher))
  by_table Equal is = absurd (omega (arith, is, higher))
  by_table Greater is = refl

-- of one table, the keys stand as the places do
higher-key : (a b : Place) → a.0 ≡ b.0 → place_cmp a b ≡ Greater → slice_cmp nat_cmp a.1 b.1 ≡ Greater
higher-key a b same = by_table (nat_cmp a.0 b.0) (ranks a.0 b.0) where
  by_table : (o : Ordering) → MatchOrdering o (a.0 < b.0) (a.0 ≡ b.0) (b.0 < a.0) → ordering_then o (slice_cmp nat_cmp a.1 b.1) ≡ Greater → slice_cmp nat_cmp a.1 b.1 ≡ Greater
  by_table Less is e = cc
  by_table Equal is e = e
  by_table Greater is e = absurd (omega (arith, is, same))

module _ {X : Type 0} (key : X → Place) (xs : List X) (t : ℕ) (after : List ℕ) where
  pub past-gap : (i : ℕ) → IsGap place_cmp key xs (t, after) i → IsPast key xs t after i
  past-gap i is = record {
    in_range = is.in_range;
    lower = λ j d before greater. let wrong : Less ≡ Greater = sym (is.lower_before j d before) ∙ greater in cc;
    higher = is.greater_after;
  }

  module _ (ascends : IsTrue (rises place_cmp (map key xs))) where
    in_order : (i j : ℕ) (d e : X) → i < j → j < length xs → place_cmp (key (get_or xs i d)) (key (get_or xs j e)) ≡ Less
    in_order i j d e before inside =
        ap (λ x. place_cmp (key x) (key (get_or xs j e))) (get_or_default xs i d e (omega (arith, before, inside)))
        ∙ sorted-index place_cmp key (λ x. x) place_total xs (sorted_from_rises place_cmp key (λ x. x) xs ascends) i j e before inside

    pub past-at : (i : ℕ) → IsAt place_cmp key xs (t, after) i → IsPast key xs t after (i + 1)
    past-at i is = record {
      in_range = omega (arith, is.in_range);
      lower = λ j d before greater. lower j d before greater;
      higher = λ j d behind inside.
          turned place_cmp key (λ x. x) place_total (t, after) (key (get_or xs j d)) Less
          (sym (place_total.congr (key (get_or xs i d)) (t, after) (key (get_or xs j d)) (is.same_here d)) ∙ in_order i j d d (omega (arith, behind)) inside);
    } where
      lower : (j : ℕ) (d : X) → j < i + 1 → place_cmp (key (get_or xs j d)) (t, after) ≡ Greater → ⊥
      lower j d before greater = by_side (nat_cmp j i) (ranks j i) where
        by_side : (o : Ordering) → MatchOrdering o (j < i) (j ≡ i) (i < j) → ⊥
        by_side Less low = let wrong : Less ≡ Greater = sym (is.lower_before j d low) ∙ greater in cc
        by_side Equal same = let wrong : Equal ≡ Greater = sym (is.same_here d) ∙ ap (λ k. place_cmp (key (get_or xs k d)) (t, after)) (sym same) ∙ greater in cc
        by_side Greater high = omega (arith, before, high)

  module _ (i : ℕ) (past : IsPast key xs t after i) where
    -- a key after is above the items before the index
    lower_too : (k : List ℕ) → IsTrue (is_before after k) → (j : ℕ) (d : X) → j < i → place_cmp (key (get_or xs j d)) (t, k) ≡ Less
    lower_too k behind j d before = by_order (place_cmp (key (get_or xs j d)) (t, after)) refl where
      above : place_cmp (t, after) (t, k) ≡ Less
      above = same-table t after (t, k) refl (less-before after k behind)

      by_order : (o : Ordering) → place_cmp (key (get_or xs j d)) (t, after) ≡ o → place_cmp (key (get_or xs j d)) (t, k) ≡ Less
      by_order Less is = place_total.trans (key (get_or xs j d)) (t, after) (t, k) is above
      by_order Equal is = place_total.congr (key (get_or xs j d)) (t, after) (t, k) is ∙ above
      by_order Greater is = absurd (past.lower j d before is)

    -- a key that is below the items from the index on has none
    none-there : (k : List ℕ) → IsTrue (is_before after k) → ((j : ℕ) (d : X) → i ≤ j → j < length xs → place_cmp (key (get_or xs j d)) (t, k) ≡ Greater)
        → find place_cmp (t, k) (map (entry place_cmp key (λ x. x)) xs) ≡ None
    none-there k behind higher =
        find-gap place_cmp key (λ x. x) place_total xs (t, k) i (record { in_range = past.in_range; lower_before = lower_too k behind; greater_after = higher })

    pub next-past : length xs ≤ i → (k : List ℕ) → IsTrue (is_before after k) → find place_cmp (t, k) (map (entry place_cmp key (λ x. x)) xs) ≡ None
    next-past end k behind = none-there k behind (λ j d from inside. absurd (omega (arith, end, from, inside)))

    module _ (ascends : IsTrue (rises place_cmp (map key xs))) (d : X) (inside : i < length xs) where
      -- the items from the index on are not below the one there
      table-from : (j : ℕ) (e : X) → i ≤ j → j < length xs → (key (get_or xs i d)).0 ≤ (key (get_or xs j e)).0
      table-from j e from below = by_side (nat_cmp i j) (ranks i j) where
        by_side : (o : Ordering) → MatchOrdering o (i < j) (i ≡ j) (j < i) → (key (get_or xs i d)).0 ≤ (key (get_or xs j e)).0
        by_side Less before = lower-table (key (get_or xs i d)) (key (get_or xs j e)) (in_order ascends i j d e before below)
        by_side Equal same =
            let item : (key (get_or xs i d)).0 ≡ (key (get_or xs j e)).0 = ap (λ x. (key x).0) (get_or_default xs i d e inside) ∙ ap (λ n. (key (get_or xs n e)).0) same in
            omega (arith, item)
        by_side Greater behind = absurd (omega (arith, behind, from))

      table-least : t ≤ (key (get_or xs i d)).0
      table-least =
          lower-table (t, after) (key (get_or xs i d))
          (turned place_cmp key (λ x. x) place_total (key (get_or xs i d)) (t, after) Greater (past.higher i d (omega arith) inside))

      pub next-other : ((key (get_or xs i d)).0 ≡ t → ⊥) → (k : List ℕ) → IsTrue (is_before after k) → find place_cmp (t, k) (map (entry place_cmp key (λ x. x)) xs) ≡ None
      next-other other k behind = none-there k behind (λ j e from below.
          higher-table (key (get_or xs j e)) (t, k) (omega (arith, table-least, other, table-from j e from below)))

      pub next-here : (key (get_or xs i d)).0 ≡ t → IsFirst (λ k. find place_cmp (t, k) (map (entry place_cmp key (λ x. x)) xs)) after true (key (get_or xs i d)).1 (get_or xs i d)
      next-here same = (
        before-less after (key (get_or xs i d)).1
            (nat_list_cmp_total.antisymm after (key (get_or xs i d)).1 ∙ ap ordering_reverse (higher-key (key (get_or xs i d)) (t, after) same (past.higher i d (omega arith) inside))),
        ap (λ n. find place_cmp (n, (key (get_or xs i d)).1) (map (entry place_cmp key (λ x. x)) xs)) (sym same)
            ∙ find-at place_cmp key (λ x. x) place_total xs (key (get_or xs i d)) i d (record {
              in_range = inside;
              lower_before = λ j e before. in_order ascends j i e d before inside;
              same_here = λ e. ap (λ x. place_cmp (key x) (key (get_or xs i d))) (get_or_default xs i e d inside) ∙ tied_itself place_total (key (get_or xs i d));
            }),
        λ k behind before. none-there k behind (λ j e from below. above k before j e from below),
      ) where
        -- the item itself is above a key before its own
        lower_key : (k : List ℕ) → IsTrue (is_before k (key (get_or xs i d)).1) → place_cmp (t, k) (key (get_or xs i d)) ≡ Less
        lower_key k before = same-table t k (key (get_or xs i d)) same (less-before k (key (get_or xs i d)).1 before)

        above : (k : List ℕ) → IsTrue (is_before k (key (get_or xs i d)).1) → (j : ℕ) (e : X) → i ≤ j → j < length xs → place_cmp (key (get_or xs j e)) (t, k) ≡ Greater
        above k before j e from below = turned place_cmp key (λ x. x) place_total (t, k) (key (get_or xs j e)) Less (by_side (nat_cmp i j) (ranks i j)) where
          by_side : (o : Ordering) → MatchOrdering o (i < j) (i ≡ j) (j < i) → place_cmp (t, k) (key (get_or xs j e)) ≡ Less
          by_side Less earlier = place_total.trans (t, k) (key (get_or xs i d)) (key (get_or xs j e)) (lower_key k before) (in_order ascends i j d e earlier below)
          by_side Equal here = ap (λ x. place_cmp (t, k) (key x)) (sym (get_or_default xs i d e inside ∙ ap (λ n. get_or xs n e) here)) ∙ lower_key k before
          by_side Greater later = absurd (omega (arith, later, from))
