-- The changes of a transaction as a sorted list, and as std's map has them.
--     values-placed, values_from, len_of      the list is the values of its map
--     lookup-find, insert-put, remove_absent      std's map reads and changes its entries as a finite map does
--     sorted_kept, kept_values      the entries that are kept ascend, and their changes are the values of their map
--     found_fits, any_fits, found_within, group-with      a change that is found, and the bytes of a group with one more change
--     with_put, values-put      the values after a put, of the list and of the map
--     put-map, put-kept      the entries after a put: their map, and that they are kept
--     rest_behind      the entries after a place
use Rattle.std.proofs.Common.{◌≡◌, refl, sym, ap, ◌∙◌, subst, ℕ, zero, suc, ◌+◌, ◌<◌, ◌≤◌, Bool, true, false, not, ◌&&◌, cond, T, List, [], ◌∷◌, map, filter, drop, length, get_or, Ordering, Option, Some, None, unwrap_or, option_map, IsTrue, arith}
use Rattle.std.specs.Prelude.{IfSome}
use Rattle.std.specs.List.{list_all, sum_by, AllByRecursion}
use Rattle.std.specs.List.Sorted.{IsStrictlySortedBy}
use Rattle.std.specs.Map.{lookup, remove_entry, keys_of, values_of}
use Rattle.std.specs.BTreeMap.{is_at, insert_entry}
use Rattle.std.specs.BTreeMap.Range.{range_contains}
use Rattle.std.specs.declared.cmp.Ordering.TheVariants.{Less, Equal, Greater}
use Rattle.std.specs.declared.ops.Bound.TheVariants.{Excluded, Unbounded}
use Rattle.std.specs.Ordering.{is_eq, is_lt, eq_by_cmp, match_ordering}
use Rattle.std.specs.FinMap.{FinMap, find, put, is_sorted, from_sorted, insert, len, entries, values, entries-from_sorted, entries-insert, len-entries}
use Rattle.std.specs.FinMap.Entries.{by_order, below_all}
use Rattle.std.proofs.lemmas.List.{length-map}
use Rattle.std.proofs.lemmas.Map.Entries.{sum_by-insert_entry}
use Rattle.std.proofs.lemmas.List.Sums.{sum_by-cons}
use Rattle.mdb_bytes.proofs.Booleans.{first_holds, second_holds}
use Rattle.mdb_model.specs.declared.change.Change.{Change}
use Rattle.mdb_model.specs.Tables.{Place, place_cmp, place_of}
use Rattle.mdb_model.specs.Sessions.{change_bytes, group_bytes}
use Rattle.mdb_bytes.specs.Fields.{rises}
use Rattle.mdb_bytes.specs.Groups.{change_fits, longest_group}
use Rattle.sorted_places.specs.Search.{IsPast}
use Rattle.transactions.specs.Net.{keyed_change, AreNetByPlace}
use Rattle.sorted_places.proofs.Places.{place_total, place_exact}
use Rattle.sorted_places.proofs.Sorted.{sorted_from_rises, sorted-index, turned}
use Rattle.sorted_places.proofs.SortedMaps.{from_put, ascends-put}

pub values-placed : (cs : List Change) → map (λ e. e.1) (map keyed_change cs) ≡ cs
values-placed [] = refl
values-placed (c ∷ cs) = ap (λ rest. c ∷ rest) (values-placed cs)

module _ (cs : List Change) (ascend : IsTrue (rises place_cmp (map place_of cs))) where
  entries_of : entries (from_sorted {R = place_cmp} (map keyed_change cs)) ≡ map keyed_change cs
  entries_of = entries-from_sorted place_cmp (map keyed_change cs) (sorted_from_rises place_cmp place_of (λ change. change) cs ascend)

  pub values_from : values (from_sorted {R = place_cmp} (map keyed_change cs)) ≡ cs
  values_from = ap (map (λ e. e.1)) entries_of ∙ values-placed cs

  pub len_of : len (from_sorted {R = place_cmp} (map keyed_change cs)) ≡ length cs
  len_of = len-entries (from_sorted {R = place_cmp} (map keyed_change cs)) ∙ ap length entries_of ∙ length-map cs keyed_change

-- the values after a put
abbrev pub with_put : List Change → Change → List Change
with_put cs c = map (λ e. e.1) (put place_cmp (place_of c) c (map keyed_change cs))

both_true : (a b : Bool) → IsTrue a → IsTrue b → IsTrue (a && b)
both_true a b p q = (λ i. p i && q i)

first_true : (a b : Bool) → IsTrue (a && b) → IsTrue a
first_true true b p = refl
first_true false b p = p

second_true : (a b : Bool) → IsTrue (a && b) → IsTrue b
second_true true b p = p
second_true false b p = cc

-- std's map

module _ {K X : Type 0} (R : K → K → Ordering) where
  pub lookup-find : (q : K) (es : List (K × X)) → lookup (is_at (R q)) es ≡ find R q es
  lookup-find q [] = refl
  lookup-find q (e ∷ es) = ap (cond (is_eq (R q e.0)) (Some e.1)) (lookup-find q es)

  pub insert-put : (k : K) (v : X) (es : List (K × X)) → insert_entry R es k v ≡ put R k v es
  insert-put k v [] = refl
  insert-put k v (e ∷ es) = by_cases (insert-put k v es) (R k e.0) where
    by_cases : insert_entry R es k v ≡ put R k v es → (o : Ordering)
        → match_ordering o ((k, v) ∷ e ∷ es) ((e.0, v) ∷ es) (e ∷ insert_entry R es k v)
        ≡ by_order o ((k, v) ∷ e ∷ es) ((e.0, v) ∷ es) (e ∷ put R k v es)
    by_cases rest Less = refl
    by_cases rest Equal = refl
    by_cases rest Greater = ap (λ others. e ∷ others) rest

-- what is not there cannot be removed
pub remove_absent : {K X : Type 0} (test : K → Bool) (es : List (K × X)) → lookup test es ≡ None
    → remove_entry test es ≡ es
remove_absent test [] none = refl
remove_absent test (e ∷ es) none = by_test (remove_absent test es) (test e.0) none where
  by_test : (lookup test es ≡ None → remove_entry test es ≡ es) → (b : Bool)
      → cond b (Some e.1) (lookup test es) ≡ None
      → cond b es (e ∷ remove_entry test es) ≡ e ∷ es
  by_test rest true some = cc
  by_test rest false others_none = ap (λ others. e ∷ others) (rest others_none)

less_is : (o : Ordering) → T (is_lt o) → o ≡ Less
less_is Less is = refl
less_is Equal is = absurd is
less_is Greater is = absurd is

-- entries that rise, as std says it
strictly_below : (place : Place) (es : List (Place × Change)) → T (below_all place_cmp place es)
    → AllByRecursion (λ other. place_cmp place other ≡ Less) (keys_of es)
strictly_below place [] below = tt
strictly_below place (e ∷ es) below =
    (less_is (place_cmp place e.0) (first_holds _ _ below), strictly_below place es (second_holds _ _ below))

strictly : (es : List (Place × Change)) → T (is_sorted place_cmp es)
    → IsStrictlySortedBy place_cmp (keys_of es)
unfolding IsStrictlySortedBy
strictly [] sorted = tt
strictly (e ∷ es) sorted = (
  strictly_below e.0 es (first_holds _ _ sorted),
  strictly es
      (second_holds _ _ sorted),
)

-- Entries that are kept

pub sorted_kept : (es : List (Place × Change)) → AreNetByPlace es → T (is_sorted place_cmp es)
sorted_kept es kept =
    subst (λ fs. T (is_sorted place_cmp fs)) (sym kept.own)
    (sorted_from_rises place_cmp place_of (λ change. change) (values_of es) kept.net.ascend)

-- the changes that are kept are the values of their map
pub kept_values : (es : List (Place × Change)) → AreNetByPlace es → (net : FinMap place_cmp Change)
    → from_sorted {R = place_cmp} (map keyed_change (values_of es)) ≡ net → values_of es ≡ values net
kept_values es kept net is = sym (values_from (values_of es) kept.net.ascend)
    ∙ ap (λ m. values m) is

module _ (place : Place) (c : Change) where
  pub found_fits : (test : Change → Bool) (es : List (Place × Change)) → find place_cmp place es
      ≡ Some c
      → IsTrue (list_all test (values_of es)) → IsTrue (test c)
  found_fits test [] found all = cc
  found_fits test (e ∷ es) found all =
      by_tie (λ later. found_fits test es later (second_true (test e.1) _ all))
      (eq_by_cmp place_cmp place e.0) found where
        by_tie : (find place_cmp place es ≡ Some c → IsTrue (test c)) → (b : Bool)
            → cond b (Some e.1) (find place_cmp place es) ≡ Some c → IsTrue (test c)
        by_tie rest true is = subst (λ x. IsTrue (test x)) (ap (λ o. unwrap_or o c) is)
            (first_true (test e.1) _ all)
        by_tie rest false is = rest is

  pub found_within : (es : List (Place × Change)) → find place_cmp place es ≡ Some c
      → change_bytes c ≤ sum_by change_bytes (values_of es)
  found_within [] found = cc
  found_within (e ∷ es) found = by_tie (found_within es) (eq_by_cmp place_cmp place e.0) found where
    by_tie : (find place_cmp place es ≡ Some c
        → change_bytes c ≤ sum_by change_bytes (values_of es)) → (b : Bool)
        → cond b (Some e.1) (find place_cmp place es) ≡ Some c
        → change_bytes c ≤ sum_by change_bytes (values_of (e ∷ es))
    by_tie rest true is =
        let sum : sum_by change_bytes (values_of (e ∷ es))
        ≡ change_bytes e.1 + sum_by change_bytes
        (values_of es) = sum_by-cons change_bytes e.1 (values_of es) in
        let same : change_bytes e.1 ≡ change_bytes c = ap (λ o. change_bytes (unwrap_or o c)) is in
        omega (arith, sum, same)
    by_tie rest false is =
        let sum : sum_by change_bytes (values_of (e ∷ es))
        ≡ change_bytes e.1 + sum_by change_bytes
        (values_of es) = sum_by-cons change_bytes e.1 (values_of es) in
        omega (arith, sum, rest is)

-- so does one that may be found
pub any_fits : (place : Place) (es : List (Place × Change)) (o : Option Change) → o ≡ find place_cmp place es
    → IsTrue (list_all change_fits (values_of es)) → IfSome o (λ change. IsTrue (change_fits change))
any_fits place es (Some c) is all = found_fits place c change_fits es (sym is) all
any_fits place es None is all = tt

-- the bytes of a group with one more change: it takes the place of an earlier one of its key
pub group-with : (es : List (Place × Change)) → AreNetByPlace es → (place : Place) (c : Change)
    → group_bytes (values_of (put place_cmp place c es)) + unwrap_or (option_map change_bytes
    (find place_cmp place es)) 0
    ≡ group_bytes (values_of es) + change_bytes c
group-with es kept place c =
    let sum = sum_by-insert_entry change_bytes place_total es place c (strictly es
    (sorted_kept es kept)) in
    let put_is : sum_by change_bytes (values_of (insert_entry place_cmp es place c))
    ≡ sum_by change_bytes (values_of (put place_cmp place c es)) =
    ap (λ fs. sum_by change_bytes (values_of fs)) (insert-put place_cmp place c es) in
    let found_is : unwrap_or (option_map change_bytes (lookup (is_at (place_cmp place)) es)) 0
    ≡ unwrap_or (option_map change_bytes (find place_cmp place es)) 0 =
    ap (λ o. unwrap_or (option_map change_bytes o) 0) (lookup-find place_cmp place es) in
    omega (arith, sum, put_is, found_is)

-- a put keeps what holds of each value
put-all : (test : Change → Bool) (place : Place) (c : Change) (es : List (Place × Change)) → IsTrue (test c) → IsTrue (list_all test (map (λ e. e.1) es)) → IsTrue (list_all test (map (λ e. e.1) (put place_cmp place c es)))
put-all test place c [] passes all = both_true (test c) true passes refl
put-all test place c (e ∷ es) passes all = by_place (place_cmp place e.0) (put-all test place c es passes (second_true (test e.1) _ all)) where
  by_place : (o : Ordering) → IsTrue (list_all test (map (λ e. e.1) (put place_cmp place c es))) → IsTrue (list_all test (map (λ e. e.1) (by_order o ((place, c) ∷ e ∷ es) ((e.0, c) ∷ es) (e ∷ put place_cmp place c es))))
  by_place Less rest = both_true (test c) _ passes all
  by_place Equal rest = both_true (test c) _ passes (second_true (test e.1) _ all)
  by_place Greater rest = both_true (test e.1) _ (first_true (test e.1) _ all) rest

module _ (old : List Change) (ascend : IsTrue (rises place_cmp (map place_of old))) (c : Change) where
  -- the values after a put are those of the map
  pub values-put : with_put old c ≡ values (insert (from_sorted {R = place_cmp} (map keyed_change old)) (place_of c) c)
  values-put =
      ap (map (λ e. e.1)) (ap (put place_cmp (place_of c) c) (sym (entries_of old ascend)) ∙ sym (entries-insert place_total (from_sorted {R = place_cmp} (map keyed_change old)) (place_of c) c))

-- a put leaves each change under its own place
put-placed : (c : Change) (cs : List Change)
    → put place_cmp (place_of c) c (map keyed_change cs) ≡ map keyed_change (with_put cs c)
put-placed c [] = refl
put-placed c (d ∷ cs) = by_cases (put-placed c cs) (place_cmp (place_of c) (place_of d)) refl where
  by_cases : put place_cmp (place_of c) c (map keyed_change cs) ≡ map keyed_change (with_put cs c)
      → (o : Ordering) → place_cmp (place_of c) (place_of d) ≡ o
      → by_order o (keyed_change c ∷ keyed_change d ∷ map keyed_change cs) ((place_of d, c) ∷ map keyed_change cs)
      (keyed_change d ∷ put place_cmp (place_of c) c (map keyed_change cs))
      ≡ map keyed_change (map (λ e. e.1) (by_order o (keyed_change c ∷ keyed_change d ∷ map keyed_change cs)
      ((place_of d, c) ∷ map keyed_change cs) (keyed_change d ∷ put place_cmp (place_of c) c (map keyed_change cs))))
  by_cases more Less is = ap (λ rest. keyed_change c ∷ keyed_change d ∷ map keyed_change rest) (sym
      (values-placed cs))
  by_cases more Equal is =
      (λ i. (sym (place_exact (place_of c) (place_of d) is) i, c) ∷ map keyed_change (sym
      (values-placed cs) i))
  by_cases more Greater is = ap (λ rest. keyed_change d ∷ rest) more

module _ (es fs : List (Place × Change)) (kept : AreNetByPlace es) (c : Change)
    (is : fs ≡ put place_cmp (place_of c) c es) where
  is_put : fs ≡ put place_cmp (place_of c) c (map keyed_change (values_of es))
  is_put = is ∙ ap (put place_cmp (place_of c) c) kept.own

  put_own : fs ≡ map keyed_change (values_of fs)
  put_own = is_put ∙ put-placed c (values_of es) ∙ sym (ap (λ gs. map keyed_change (values_of gs)) is_put)

  pub put-list : values_of fs ≡ with_put (values_of es) c
  put-list = ap values_of is_put

  is_placed : map keyed_change (values_of fs) ≡ put place_cmp (place_of c) c (map keyed_change (values_of es))
  is_placed = sym put_own ∙ is_put

  -- the values of the map after the put
  pub put-values : (net : FinMap place_cmp Change)
      → from_sorted {R = place_cmp} (map keyed_change (values_of es)) ≡ net
      → values_of fs ≡ values (insert net (place_of c) c)
  put-values net same = put-list ∙ values-put (values_of es) kept.net.ascend c
      ∙ ap (λ (m : FinMap place_cmp Change). values (insert m (place_of c) c)) same

  pub put-map : from_sorted {R = place_cmp} (map keyed_change (values_of fs))
      ≡ insert (from_sorted {R = place_cmp} (map keyed_change (values_of es))) (place_of c) c
  put-map = from_put place_total (map keyed_change (values_of es)) (map keyed_change (values_of fs))
      (sorted_from_rises place_cmp place_of (λ change. change) (values_of es) kept.net.ascend)
      (place_of c) c is_placed

  pub put-kept : IsTrue (change_fits c) → group_bytes (values_of fs) ≤ longest_group → AreNetByPlace fs
  put-kept fits room = record {
    own = put_own;
    net = record {
      ascend = ascends-put place_cmp place_total place_of (λ change. change) (values_of es)
          (values_of fs) kept.net.ascend (place_of c) c is_placed;
      each_fits = subst (λ gs. IsTrue (list_all change_fits (values_of gs))) (sym is_put)
          (put-all change_fits (place_of c) c (map keyed_change (values_of es)) fits
          (subst (λ gs. IsTrue (list_all change_fits (values_of gs))) kept.own kept.net.each_fits));
      fit = room;
    };
  }

-- The entries after a place

module _ (table : ℕ) (after : List ℕ) where
  abbrev is_behind : Place × Change → Bool
  is_behind e = range_contains place_cmp (Excluded (table, after)) Unbounded e.0

  -- what comes after a place that comes after this one comes after this one too
  all_behind : (place : Place) → place_cmp (table, after) place ≡ Less
      → (es : List (Place × Change))
      → T (below_all place_cmp place es) → filter is_behind es ≡ es
  all_behind place less [] below = refl
  all_behind place less (e ∷ es) below =
      let next : place_cmp (table, after) e.0 ≡ Less = place_total.trans
      (table, after) place e.0 less (less_is (place_cmp place e.0) (first_holds _ _ below)) in
      ap (λ o. cond (is_lt o && not false) (e ∷ filter is_behind es) (filter is_behind es)) next
      ∙ ap (λ rest. e ∷ rest) (all_behind place less es (second_holds _ _ below))

  abbrev Rests : List Change → Type 0
  Rests cs = (at : ℕ) × IsPast place_of cs table after at × (filter is_behind (map keyed_change cs)
      ≡ drop at (map keyed_change cs))

  module _ (c : Change) (cs : List Change) where
    none_behind : Rests cs → is_lt (place_cmp (table, after) (place_of c)) ≡ false → Rests (c ∷ cs)
    none_behind rest not_less = (
      suc rest.0,
      record {
        in_range = omega (arith, rest.1.in_range);
        lower = lower;
        higher = higher;
      },
      ap (λ b. cond (b && not false) (keyed_change c ∷ filter is_behind (map keyed_change cs))
          (filter is_behind (map keyed_change cs))) not_less ∙ rest.2,
    ) where
      lower : (j : ℕ) (d : Change) → j < suc rest.0
          → place_cmp (place_of (get_or (c ∷ cs) j d)) (table, after) ≡ Greater → ⊥
      lower zero d before greater =
          let less = turned place_cmp place_of (λ change. change) place_total (place_of c)
          (table, after) Greater greater in
          let both : false ≡ true = sym not_less ∙ ap is_lt less in
          cc
      lower (suc j) d before greater = rest.1.lower j d (omega (arith, before)) greater

      higher : (j : ℕ) (d : Change) → suc rest.0 ≤ j → j < length (c ∷ cs)
          → place_cmp (place_of (get_or (c ∷ cs) j d)) (table, after) ≡ Greater
      higher zero d from inside = absurd (omega (arith, from))
      higher (suc j) d from inside = rest.1.higher j d (omega (arith, from)) (omega (arith, inside))

  pub rest_behind : (cs : List Change) → T (is_sorted place_cmp (map keyed_change cs)) → Rests cs
  rest_behind [] sorted = (
    0,
    record {
      in_range = omega arith;
      lower = λ j d before. absurd (omega (arith, before));
      higher = λ j d from inside. absurd (omega (arith, inside));
    },
    refl,
  )
  rest_behind (c ∷ cs) sorted = by_cases (rest_behind cs (second_holds _ _ sorted)) (place_cmp
      (table, after) (place_of c)) refl where
        by_cases : Rests cs → (o : Ordering) → place_cmp (table, after) (place_of c) ≡ o
            → Rests (c ∷ cs)
        by_cases rest Less is = (
          0,
          record {
            in_range = omega arith;
            lower = λ j d before. absurd (omega (arith, before));
            higher = higher;
          },
          ap (λ o. cond (is_lt o && not false) (keyed_change c ∷ filter is_behind (map keyed_change cs))
              (filter is_behind (map keyed_change cs))) is
              ∙ ap (λ others. keyed_change c ∷ others) (all_behind (place_of c) is (map keyed_change cs)
              (first_holds _ _ sorted)),
        ) where
          higher : (j : ℕ) (d : Change) → 0 ≤ j → j < length (c ∷ cs)
              → place_cmp (place_of (get_or (c ∷ cs) j d)) (table, after) ≡ Greater
          higher zero d from inside = turned place_cmp place_of (λ change. change) place_total
              (table, after) (place_of c) Less is
          higher (suc j) d from inside =
              turned place_cmp place_of (λ change. change) place_total (table, after) (place_of
              (get_or cs j d)) Less
              (place_total.trans (table, after) (place_of c) (place_of (get_or cs j d)) is
              (sorted-index place_cmp place_of (λ change. change) place_total (c ∷ cs) sorted 0
              (suc j) d (omega arith) inside))
        by_cases rest Equal is = none_behind c cs rest (ap is_lt is)
        by_cases rest Greater is = none_behind c cs rest (ap is_lt is)
