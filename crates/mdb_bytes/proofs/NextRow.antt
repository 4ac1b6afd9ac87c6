-- The first row of a table after a key, by look-ups.
--     IsFound      the first entry of a sorted list whose key passes a test
--     is_next, is_last      what next_row gives, where it gives a row and where it gives none
--     next_is, none_is      what gives so is next_row
use Rattle.std.proofs.Common.{◌≡◌, refl, sym, ap, ◌∙◌, subst, ℕ, Bool, true, false, cond, ◌&&◌, ◌==◌, T, List, [], ◌∷◌, filter, Option, Some, None, unwrap_or, option_map, eqb-true, eq-eqb}
use Rattle.std.specs.List.{find as first_of}
use Rattle.std.specs.declared.cmp.Ordering.{Ordering}
use Rattle.std.specs.declared.cmp.Ordering.TheVariants.{Less, Equal, Greater}
use Rattle.std.specs.Ordering.{nat_cmp, is_lt, is_eq, ordering_reverse, ordering_then}
use Rattle.std.specs.Cmp.{IsTotalOrder, tied_itself, then_total, on_total, nat_cmp_total}
use Rattle.std.specs.Cmp.Lexicographic.{nat_list_cmp_total, slice_cmp}
use Rattle.std.specs.FinMap.{get, find, entries, entries_sorted, get-entries, is_sorted, IsAntisymmetric, nat_cmp-IsAntisymmetric, slice_cmp-IsAntisymmetric}
use Rattle.std.specs.FinMap.Entries.{below_all}
use Rattle.std.proofs.lemmas.Map.Lookups.{exact_pairs}
use Rattle.mdb_bytes.proofs.Decoding.{and_left, and_right}
use Rattle.mdb_bytes.proofs.Booleans.{first_holds, second_holds}
use Rattle.mdb_model.specs.Tables.{Place, Tables, place_cmp}
use Rattle.mdb_bytes.specs.Held.{next_row, is_before}

pub place_total : IsTotalOrder place_cmp
place_total = then_total (on_total (λ p. p.0) nat_cmp_total) (on_total (λ p. p.1) nat_list_cmp_total)

pub place_exact : IsAntisymmetric place_cmp
place_exact = exact_pairs nat_cmp (slice_cmp nat_cmp) nat_cmp-IsAntisymmetric (slice_cmp-IsAntisymmetric nat_cmp-IsAntisymmetric)

-- Truth values

less : (o : Ordering) → T (is_lt o) → o ≡ Less
less Less p = refl
less Equal p = absurd p
less Greater p = absurd p

-- Sorted lists of entries

-- the first entry of a sorted list whose key passes a test
pub record IsFound {K X : Type 0} (R : K → K → Ordering) (test : K → Bool) (es : List (K × X)) (e : K × X) : Type 0 where
  pub there : find R e.0 es ≡ Some e.1
  pub passes : test e.0 ≡ true
  pub least : (q : K) → test q ≡ true → R q e.0 ≡ Less → find R q es ≡ None

module _ {K X : Type 0} (R : K → K → Ordering) (o : IsTotalOrder R) where
  -- no entry has a key that is lower than all
  pub find-below : (q : K) (es : List (K × X)) → T (below_all R q es) → find R q es ≡ None
  find-below q [] below = refl
  find-below q (e ∷ es) below = ap (λ r. cond (is_eq r) (Some e.1) (find R q es)) (less _ (first_holds _ _ below)) ∙ find-below q es (second_holds _ _ below)

  below-less : (q k : K) (es : List (K × X)) → R q k ≡ Less → T (below_all R k es) → T (below_all R q es)
  below-less q k [] lower below = tt
  below-less q k (e ∷ es) lower below =
      let here : R q e.0 ≡ Less = o.trans q k e.0 lower (less _ (first_holds _ _ below)) in
      subst (λ r. T (is_lt r && below_all R q es)) (sym here) (below-less q k es lower (second_holds _ _ below))

  module _ (exact : IsAntisymmetric R) (test : K → Bool) where
    -- an entry that fails is not the one of a key that passes
    find-passed : (q : K) (e : K × X) (es : List (K × X)) → test q ≡ true → test e.0 ≡ false → find R q (e ∷ es) ≡ find R q es
    find-passed q e es passes fails = by_tie (R q e.0) refl where
      by_tie : (r : Ordering) → R q e.0 ≡ r → find R q (e ∷ es) ≡ find R q es
      by_tie Less is = ap (λ r. cond (is_eq r) (Some e.1) (find R q es)) is
      by_tie Greater is = ap (λ r. cond (is_eq r) (Some e.1) (find R q es)) is
      by_tie Equal is = let same = ap test (exact q e.0 is) in cc

    found : (es : List (K × X)) (e : K × X) → T (is_sorted R es) → first_of (λ e. test e.0) es ≡ Some e → IsFound R test es e
    found [] e sorted is = cc
    found (x ∷ es) e sorted is = by_test (found es e (second_holds _ _ sorted)) (test x.0) refl is where
      by_test : (first_of (λ e. test e.0) es ≡ Some e → IsFound R test es e) → (b : Bool) → test x.0 ≡ b → cond b (Some x) (first_of (λ e. test e.0) es) ≡ Some e → IsFound R test (x ∷ es) e
      by_test rest true passes is_e = subst (IsFound R test (x ∷ es)) (ap (λ s. unwrap_or s x) is_e) (record {
        there = ap (λ r. cond (is_eq r) (Some x.1) (find R x.0 es)) (tied_itself o x.0);
        passes = passes;
        least = λ q passes_q lower. ap (λ r. cond (is_eq r) (Some x.1) (find R q es)) lower ∙ find-below q es (below-less q x.0 es lower (first_holds _ _ sorted));
      })
      by_test rest false fails is_e =
          let behind = rest is_e in record {
            there = find-passed e.0 x es behind.passes fails ∙ behind.there;
            passes = behind.passes;
            least = λ q passes_q lower. find-passed q x es passes_q fails ∙ behind.least q passes_q lower;
          }

    none_found : (es : List (K × X)) → first_of (λ e. test e.0) es ≡ None → (q : K) → test q ≡ true → find R q es ≡ None
    none_found [] is q passes = refl
    none_found (x ∷ es) is q passes = by_test (λ is_none. none_found es is_none q passes) (test x.0) refl is where
      by_test : (first_of (λ e. test e.0) es ≡ None → find R q es ≡ None) → (b : Bool) → test x.0 ≡ b → cond b (Some x) (first_of (λ e. test e.0) es) ≡ None → find R q (x ∷ es) ≡ None
      by_test rest true passes_x is_none = cc
      by_test rest false fails is_none = find-passed q x es passes fails ∙ rest is_none

    -- Filters

    pub none_left : (es : List (K × X)) → first_of (λ e. test e.0) es ≡ None → filter (λ e. test e.0) es ≡ []
    none_left [] is = refl
    none_left (x ∷ es) is = by_test (none_left es) (test x.0) refl is where
      by_test : (first_of (λ e. test e.0) es ≡ None → filter (λ e. test e.0) es ≡ []) → (b : Bool) → test x.0 ≡ b → cond b (Some x) (first_of (λ e. test e.0) es) ≡ None → cond b (x ∷ filter (λ e. test e.0) es) (filter (λ e. test e.0) es) ≡ []
      by_test rest true passes is_none = cc
      by_test rest false fails is_none = rest is_none

    -- the test that passes what the other does after a key
    module _ (later : K → Bool) (k : K) (is_later : (q : K) → later q ≡ (test q && is_lt (R k q))) where
      later-below : (es : List (K × X)) → T (below_all R k es) → filter (λ e. later e.0) es ≡ filter (λ e. test e.0) es
      later-below [] below = refl
      later-below (x ∷ es) below =
          let same : later x.0 ≡ test x.0 = is_later x.0 ∙ ap (λ r. test x.0 && is_lt r) (less _ (first_holds _ _ below)) ∙ and_true (test x.0) in
          λ i. cond (same i) (x ∷ later-below es (second_holds _ _ below) i) (later-below es (second_holds _ _ below) i)
        where
          and_true : (b : Bool) → (b && true) ≡ b
          and_true true = refl
          and_true false = refl

    pub rest_left : (es : List (K × X)) (e : K × X) → T (is_sorted R es) → first_of (λ e. test e.0) es ≡ Some e → (later : K → Bool) → ((q : K) → later q ≡ (test q && is_lt (R e.0 q)))
        → filter (λ e. test e.0) es ≡ e ∷ filter (λ e. later e.0) es
    rest_left [] e sorted is later is_later = cc
    rest_left (x ∷ es) e sorted is later is_later = by_test (λ is_e. rest_left es e (second_holds _ _ sorted) is_e later is_later) (test x.0) refl is where
      by_test : (first_of (λ e. test e.0) es ≡ Some e → filter (λ e. test e.0) es ≡ e ∷ filter (λ e. later e.0) es) → (b : Bool) → test x.0 ≡ b → cond b (Some x) (first_of (λ e. test e.0) es) ≡ Some e
          → cond b (x ∷ filter (λ e. test e.0) es) (filter (λ e. test e.0) es) ≡ e ∷ filter (λ e. later e.0) (x ∷ es)
      by_test rest true passes is_e =
          let same : x ≡ e = ap (λ s. unwrap_or s x) is_e in
          let not_later : later x.0 ≡ false = is_later x.0 ∙ (λ i. test x.0 && is_lt (R (sym same i).0 x.0)) ∙ (λ i. passes i && is_lt (tied_itself o x.0 i)) in
          let below : T (below_all R e.0 es) = subst (λ (y : K × X). T (below_all R y.0 es)) same (first_holds _ _ sorted) in
          (λ i. same i ∷ sym (later-below later e.0 is_later es below) i)
          ∙ ap (λ b. e ∷ cond b (x ∷ filter (λ e. later e.0) es) (filter (λ e. later e.0) es)) (sym not_later)
      by_test rest false fails is_e =
          let not_later : later x.0 ≡ false = is_later x.0 ∙ ap (λ b. b && is_lt (R e.0 x.0)) fails in
          rest is_e ∙ ap (λ b. e ∷ cond b (x ∷ filter (λ e. later e.0) es) (filter (λ e. later e.0) es)) (sym not_later)

-- Tables

pub before-is : (table : ℕ) (a b : List ℕ) → is_lt (place_cmp (table, a) (table, b)) ≡ is_before a b
before-is table a b = ap (λ r. is_lt (ordering_then r (slice_cmp nat_cmp a b))) (tied_itself nat_cmp_total table)

-- a row is the next one of a table after a key
pub record IsNext (tables : Tables) (table : ℕ) (after key value : List ℕ) : Type 0 where
  pub there : get tables (table, key) ≡ Some value
  pub later : is_before after key ≡ true
  pub least : (other : List ℕ) → is_before after other ≡ true → is_before other key ≡ true → get tables (table, other) ≡ None

-- a table has no row after a key
abbrev pub IsLast : Tables → (table : ℕ) → (after : List ℕ) → Type 0
IsLast tables table after = (other : List ℕ) → is_before after other ≡ true → get tables (table, other) ≡ None

abbrev pub is_behind : (table : ℕ) → (after : List ℕ) → Place → Bool
is_behind table after place = (place.0 == table) && is_before after place.1

behind-here : (table : ℕ) (after key : List ℕ) → is_before after key ≡ true → is_behind table after (table, key) ≡ true
behind-here table after key later = λ i. eq-eqb table table refl i && later i

pub before-less : (table : ℕ) (a b : List ℕ) → is_before a b ≡ true → place_cmp (table, a) (table, b) ≡ Less
before-less table a b is = less _ (subst T (sym (before-is table a b ∙ is)) tt)

-- an entry of the table with these parts
entry_is : (table : ℕ) (after : List ℕ) (e : Place × List ℕ) (key value : List ℕ) → is_behind table after e.0 ≡ true → option_map {U = List ℕ × List ℕ} (λ (e : Place × List ℕ). (e.0.1, e.1)) (Some e) ≡ Some (key, value) → ◌≡◌ {A = Place × List ℕ} e ((table, key), value)
entry_is table after e key value passes row =
    let parts : ◌≡◌ {A = List ℕ × List ℕ} (e.0.1, e.1) (key, value) = ap (λ (s : Option (List ℕ × List ℕ)). unwrap_or s (key, value)) row in
    let same_table : e.0.0 ≡ table = eqb-true e.0.0 table (and_left (e.0.0 == table) (is_before after e.0.1) passes) in
    λ i. ((same_table i, (parts i).0), (parts i).1)

module _ (tables : Tables) (table : ℕ) (after : List ℕ) where
  sorted : T (is_sorted place_cmp (entries tables))
  sorted = entries_sorted tables

  next-by : (o : Option (Place × List ℕ)) → first_of (λ e. is_behind table after e.0) (entries tables) ≡ o → (key value : List ℕ) → option_map {U = List ℕ × List ℕ} (λ e. (e.0.1, e.1)) o ≡ Some (key, value)
      → first_of (λ e. is_behind table after e.0) (entries tables) ≡ Some ((table, key), value)
  next-by None is key value row = cc
  next-by (Some e) is key value row =
      let passes = (found place_cmp place_total place_exact (is_behind table after) (entries tables) e sorted is).passes in
      is ∙ ap (λ (e : Place × List ℕ). Some e) (entry_is table after e key value passes row)

  -- the entry that next_row gives
  pub next_entry : (key value : List ℕ) → next_row tables table after ≡ Some (key, value) → first_of (λ e. is_behind table after e.0) (entries tables) ≡ Some ((table, key), value)
  next_entry key value is = next-by (first_of (λ e. is_behind table after e.0) (entries tables)) refl key value is

  pub no_entry : next_row tables table after ≡ None → first_of (λ e. is_behind table after e.0) (entries tables) ≡ None
  no_entry is = by_option (first_of (λ e. is_behind table after e.0) (entries tables)) is where
    by_option : (o : Option (Place × List ℕ)) → option_map {U = List ℕ × List ℕ} (λ e. (e.0.1, e.1)) o ≡ None → o ≡ None
    by_option None none = refl
    by_option (Some e) none = cc

  pub is_next : (key value : List ℕ) → next_row tables table after ≡ Some (key, value) → IsNext tables table after key value
  is_next key value is =
      let first_found = found place_cmp place_total place_exact (is_behind table after) (entries tables) ((table, key), value) sorted (next_entry key value is) in record {
        there = get-entries tables (table, key) ∙ first_found.there;
        later = and_right (table == table) (is_before after key) first_found.passes;
        least = λ other behind before. get-entries tables (table, other) ∙ first_found.least (table, other) (behind-here table after other behind) (before-less table other key before);
      }

  pub is_last : next_row tables table after ≡ None → IsLast tables table after
  is_last is other behind = get-entries tables (table, other) ∙ none_found place_cmp place_total place_exact (is_behind table after) (entries tables) (no_entry is) (table, other) (behind-here table after other behind)

  some_there : (key value : List ℕ) → get tables (table, key) ≡ Some value → get tables (table, key) ≡ None → ⊥
  some_there key value there absent = let both : Some value ≡ None = sym there ∙ absent in cc

  pub none_is : IsLast tables table after → next_row tables table after ≡ None
  none_is last = by_option (next_row tables table after) refl where
    by_option : (o : Option (List ℕ × List ℕ)) → next_row tables table after ≡ o → o ≡ None
    by_option None is = refl
    by_option (Some row) is =
        let next = is_next row.0 row.1 is in
        absurd (some_there row.0 row.1 next.there (last row.0 next.later))

  pub next_is : (key value : List ℕ) → IsNext tables table after key value → next_row tables table after ≡ Some (key, value)
  next_is key value next = by_option (next_row tables table after) refl where
    by_option : (o : Option (List ℕ × List ℕ)) → next_row tables table after ≡ o → o ≡ Some (key, value)
    by_option None is = absurd (some_there key value next.there (is_last is key next.later))
    by_option (Some row) is = by_keys (slice_cmp nat_cmp row.0 key) refl where
      other : IsNext tables table after row.0 row.1
      other = is_next row.0 row.1 is

      by_keys : (r : Ordering) → slice_cmp nat_cmp row.0 key ≡ r → Some row ≡ Some (key, value)
      by_keys Less lower = absurd (some_there row.0 row.1 other.there (next.least row.0 other.later (ap is_lt lower)))
      by_keys Greater higher =
          let lower : slice_cmp nat_cmp key row.0 ≡ Less = nat_list_cmp_total.antisymm key row.0 ∙ ap ordering_reverse higher in
          absurd (some_there key value next.there (other.least key next.later (ap is_lt lower)))
      by_keys Equal tie =
          let same : row.0 ≡ key = slice_cmp-IsAntisymmetric nat_cmp-IsAntisymmetric row.0 key tie in
          let values : Some row.1 ≡ Some value = sym other.there ∙ (λ i. get tables (table, same i)) ∙ next.there in
          let same_value : row.1 ≡ value = ap (λ o. unwrap_or o value) values in
          λ i. Some (same i, same_value i)
