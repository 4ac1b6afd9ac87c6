-- The first row of a table after a key.
--     first_of_next, next_of_first      the first of the entries is the first by its keys, and the other way round
use Rattle.std.proofs.Common.{◌≡◌, refl, sym, ap, ◌∙◌, subst, ℕ, ◌<◌, Bool, true, false, ◌&&◌, ◌==◌, cond, T, List, [], ◌∷◌, Option, Some, None, option_map, unwrap_or, IsTrue, arith}
use Rattle.std.proofs.lemmas.Bool.{eqb-true, eq-eqb}
use Rattle.std.specs.Prelude.{find}
use Rattle.std.specs.declared.cmp.Ordering.{Ordering}
use Rattle.std.specs.declared.cmp.Ordering.TheVariants.{Less, Equal, Greater}
use Rattle.std.specs.Ordering.{nat_cmp, is_eq, is_lt, ordering_then, MatchOrdering}
use Rattle.std.specs.Cmp.{tied_itself, ranks}
use Rattle.std.specs.Cmp.Lexicographic.{slice_cmp, nat_list_cmp_total}
use Rattle.std.specs.FinMap as fin
use Rattle.std.specs.FinMap.{entries, entries_sorted, get, get-entries, slice_cmp-IsAntisymmetric, nat_cmp-IsAntisymmetric}
use Rattle.std.specs.FinMap.Entries.{below_all, is_sorted}
use Rattle.mdb_bytes.proofs.Decoding.{and_left, and_right, and_both}
use Rattle.mdb_bytes.proofs.Booleans.{first_holds, second_holds}
use Rattle.mdb_model.specs.Tables.{Place, Tables, place_cmp}
use Rattle.mdb_bytes.specs.Held.{is_before, next_row, IsNextRow}
use Rattle.sorted_places.specs.First.{IsFirst}
use Rattle.sorted_places.proofs.Places.{place_total, place_exact}

is_less : (o : Ordering) → T (is_lt o) → o ≡ Less
is_less Less p = refl
is_less Equal p = absurd p
is_less Greater p = absurd p

-- a key below all entries has none
find-lower : {X : Type 0} (q k : Place) (es : List (Place × X)) → place_cmp q k ≡ Less → T (below_all place_cmp k es) → fin.find place_cmp q es ≡ None
find-lower q k [] lower below = refl
find-lower {X} q k (e ∷ es) lower below =
    ap (λ o. cond (is_eq o) (Some e.1) (fin.find place_cmp q es)) (place_total.trans q k e.0 lower (is_less _ (first_holds _ _ below)))
    ∙ find-lower q k es lower (second_holds _ _ below)

-- how two keys stand to each other, as they stand in the order
pub before-less : (a b : List ℕ) → slice_cmp nat_cmp a b ≡ Less → IsTrue (is_before a b)
before-less a b lower = rw lower refl

pub less-before : (a b : List ℕ) → IsTrue (is_before a b) → slice_cmp nat_cmp a b ≡ Less
less-before a b before = by_order (slice_cmp nat_cmp a b) refl where
  by_order : (o : Ordering) → slice_cmp nat_cmp a b ≡ o → o ≡ Less
  by_order Less is = refl
  by_order Equal is = let wrong : false ≡ true = rw is at before in cc
  by_order Greater is = let wrong : false ≡ true = rw is at before in cc

-- keys of one table stand to each other as their places do
pub same-table : (t : ℕ) (k : List ℕ) (p : Place) → p.0 ≡ t → slice_cmp nat_cmp k p.1 ≡ Less → place_cmp (t, k) p ≡ Less
same-table t k p same lower = by_table (nat_cmp t p.0) (ranks t p.0) where
  by_table : (o : Ordering) → MatchOrdering o (t < p.0) (t ≡ p.0) (p.0 < t) → ordering_then o (slice_cmp nat_cmp k p.1) ≡ Less
  by_table Less is = refl
  by_table Equal is = lower
  by_table Greater is = absurd (omega (arith, is, same))

module _ (t : ℕ) (after : List ℕ) where
  -- an entry of the table, after the key
  abbrev wanted : Place × List ℕ → Bool
  wanted e = (e.0.0 == t) && is_before after e.0.1

  -- an entry that is not wanted is not that of a key after
  miss : (e : Place × List ℕ) (es : List (Place × List ℕ)) (k : List ℕ) → wanted e ≡ false → IsTrue (is_before after k) → fin.find place_cmp (t, k) (e ∷ es) ≡ fin.find place_cmp (t, k) es
  miss e es k fails behind = by_order (place_cmp (t, k) e.0) refl where
    by_order : (o : Ordering) → place_cmp (t, k) e.0 ≡ o → cond (is_eq o) (Some e.1) (fin.find place_cmp (t, k) es) ≡ fin.find place_cmp (t, k) es
    by_order Less is = refl
    by_order Greater is = refl
    by_order Equal is =
        let same : (t, k) ≡ e.0 = place_exact (t, k) e.0 is in
        let passes : wanted e ≡ true = ap (λ (p : Place). (p.0 == t) && is_before after p.1) (sym same) ∙ and_both (t == t) (is_before after k) (eq-eqb t t refl) behind in
        let wrong : true ≡ false = sym passes ∙ fails in
        cc

  none-of : (es : List (Place × List ℕ)) → find wanted es ≡ None → (k : List ℕ) → IsTrue (is_before after k) → fin.find place_cmp (t, k) es ≡ None
  none-of [] none k behind = refl
  none-of (e ∷ es) none k behind = by_test (none-of es) (wanted e) refl none where
    by_test : ((find wanted es ≡ None) → (k : List ℕ) → IsTrue (is_before after k) → fin.find place_cmp (t, k) es ≡ None) → (b : Bool) → wanted e ≡ b → cond b (Some e) (find wanted es) ≡ None
        → fin.find place_cmp (t, k) (e ∷ es) ≡ None
    by_test further true is none = cc
    by_test further false is none = miss e es k is behind ∙ further none k behind

  -- the entry that is found: it is there, it is wanted, and no key between has one
  abbrev IsFound : List (Place × List ℕ) → Place × List ℕ → Type 0
  IsFound es f = (fin.find place_cmp f.0 es ≡ Some f.1) × (wanted f ≡ true) × ((k : List ℕ) → IsTrue (is_before after k) → IsTrue (is_before k f.0.1) → fin.find place_cmp (t, k) es ≡ None)

  some-of : (es : List (Place × List ℕ)) (f : Place × List ℕ) → T (is_sorted place_cmp es) → find wanted es ≡ Some f → IsFound es f
  some-of [] f sorted is = cc
  some-of (e ∷ es) f sorted is = by_test (some-of es f (second_holds _ _ sorted)) (wanted e) refl is where
    here : wanted e ≡ true → IsFound (e ∷ es) e
    here passes = (
      ap (λ o. cond (is_eq o) (Some e.1) (fin.find place_cmp e.0 es)) (tied_itself place_total e.0),
      passes,
      λ k behind before.
          let lower = same-table t k e.0 (eqb-true e.0.0 t (and_left (e.0.0 == t) (is_before after e.0.1) passes)) (less-before k e.0.1 before) in
          ap (λ o. cond (is_eq o) (Some e.1) (fin.find place_cmp (t, k) es)) lower ∙ find-lower (t, k) e.0 es lower (first_holds _ _ sorted),
    )

    by_test : (find wanted es ≡ Some f → IsFound es f) → (b : Bool) → wanted e ≡ b → cond b (Some e) (find wanted es) ≡ Some f → IsFound (e ∷ es) f
    by_test further true passes is = subst (IsFound (e ∷ es)) (ap (λ o. unwrap_or o f) is) (here passes)
    by_test further false fails is =
        let found : IsFound es f = further is in
        let table : f.0.0 ≡ t = eqb-true f.0.0 t (and_left (f.0.0 == t) (is_before after f.0.1) found.1) in
        let behind : IsTrue (is_before after f.0.1) = and_right (f.0.0 == t) (is_before after f.0.1) found.1 in
        let same : f.0 ≡ (t, f.0.1) = (λ i. (table i, f.0.1)) in (
          ap (λ (p : Place). fin.find place_cmp p (e ∷ es)) same ∙ miss e es f.0.1 fails behind ∙ ap (λ (p : Place). fin.find place_cmp p es) (sym same) ∙ found.0,
          found.1,
          λ k behind_k before. miss e es k fails behind_k ∙ found.2 k behind_k before,
        )

module _ (m : Tables) (t : ℕ) (after : List ℕ) where
  pub first_of_next : (found : Bool) (key value : List ℕ) → IsNextRow found (next_row m t after) key value → IsFirst (λ k. get m (t, k)) after found key value
  first_of_next found key value is = by_entry found (find (wanted t after) (entries m)) refl is where
    by_entry : (found : Bool) (o : Option (Place × List ℕ)) → find (wanted t after) (entries m) ≡ o → IsNextRow found (option_map (λ e. (e.0.1, e.1)) o) key value → IsFirst (λ k. get m (t, k)) after found key value
    by_entry true None none is = cc
    by_entry false None none is = λ k behind. get-entries m (t, k) ∙ none-of t after (entries m) none k behind
    by_entry false (Some f) some is = cc
    by_entry true (Some f) some is =
        let there : IsFound t after (entries m) f = some-of t after (entries m) f (entries_sorted m) some in
        let table : f.0.0 ≡ t = eqb-true f.0.0 t (and_left (f.0.0 == t) (is_before after f.0.1) there.1) in
        let same : (f.0.1, f.1) ≡ (key, value) = ap (λ o. unwrap_or o (key, value)) is in (
          subst (λ (p : List ℕ × List ℕ). IsTrue (is_before after p.0)) same (and_right (f.0.0 == t) (is_before after f.0.1) there.1),
          subst (λ (p : List ℕ × List ℕ). get m (t, p.0) ≡ Some p.1) same (get-entries m (t, f.0.1) ∙ ap (λ n. fin.find place_cmp (n, f.0.1) (entries m)) (sym table) ∙ there.0),
          subst (λ (p : List ℕ × List ℕ). (k : List ℕ) → IsTrue (is_before after k) → IsTrue (is_before k p.0) → get m (t, k) ≡ None) same
              (λ k behind before. get-entries m (t, k) ∙ there.2 k behind before),
        )

  -- two keys that are each the first are the same
  same_first : (row : List ℕ → Option (List ℕ)) (a b v w : List ℕ) → IsFirst row after true a v → IsFirst row after true b w → ◌≡◌ {A = Option (List ℕ × List ℕ)} (Some (a, v)) (Some (b, w))
  same_first row a b v w p q = by_order (slice_cmp nat_cmp a b) refl where
    by_order : (o : Ordering) → slice_cmp nat_cmp a b ≡ o → ◌≡◌ {A = Option (List ℕ × List ℕ)} (Some (a, v)) (Some (b, w))
    by_order Less lower =
        let none : row a ≡ None = q.2 a p.0 (before-less a b lower) in
        let wrong : Some v ≡ None = sym p.1 ∙ none in
        cc
    by_order Greater higher =
        let lower : slice_cmp nat_cmp b a ≡ Less = nat_list_cmp_total.antisymm b a ∙ ap (λ o. turned o) higher in
        let none : row b ≡ None = p.2 b q.0 (before-less b a lower) in
        let wrong : Some w ≡ None = sym q.1 ∙ none in
        cc
      where
        turned : Ordering → Ordering
        turned Less = Greater
        turned Equal = Equal
        turned Greater = Less
    by_order Equal tie =
        let same : a ≡ b = slice_cmp-IsAntisymmetric nat_cmp-IsAntisymmetric a b tie in
        let value : Some v ≡ Some w = sym p.1 ∙ ap row same ∙ q.1 in
        (λ i. Some (same i, unwrap_or (value i) v))

  pub next_of_first : (found : Bool) (key value : List ℕ) → IsFirst (λ k. get m (t, k)) after found key value → IsNextRow found (next_row m t after) key value
  next_of_first found key value is = by_row found (next_row m t after) refl is where
    by_row : (found : Bool) (o : Option (List ℕ × List ℕ)) → next_row m t after ≡ o → IsFirst (λ k. get m (t, k)) after found key value → IsNextRow found o key value
    by_row true None none is =
        let free : get m (t, key) ≡ None = first_of_next false key value none key is.0 in
        let wrong : Some value ≡ None = sym is.1 ∙ free in
        cc
    by_row false None none is = refl
    by_row false (Some r) some is =
        let there = first_of_next true r.0 r.1 some in
        let wrong : Some r.1 ≡ None = sym there.1 ∙ is r.0 there.0 in
        cc
    by_row true (Some r) some is = same_first (λ k. get m (t, k)) r.0 key r.1 value (first_of_next true r.0 r.1 some) is
