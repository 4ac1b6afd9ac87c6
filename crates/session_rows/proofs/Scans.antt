-- A scan of the committed rows with a session's own changes.
--     visible_net      the rows after changes of which there is one of each key
--     Passed, passed_none      how far a scan has come, and that it begins so
--     take_row, take_put, pass, take_rest      what it finds next: a committed row, a change, nothing yet, and what is left
--     left_item, place_here, left_none      the first of the changes that are left, its place, and that none is left
--     Comes, comes_first      how far a scan has come, with the changes that are left, and that it begins so
--     next_of, next_there, next_absent      the next row, along equal ones, where there is one and where there is none
use Rattle.std.proofs.Common.{◌≡◌, refl, sym, ap, ◌∙◌, subst, ℕ, zero, suc, ◌+◌, ◌<◌, ◌≤◌, ◌≢◌, Bool, true, false, cond, ◌&&◌, T, List, [], ◌∷◌, map, length, get_or, drop, length-drop, Option, Some, None, unwrap_or, option_map, IsTrue, Result, IfOk, arith}
use Rattle.std.specs.declared.cmp.Ordering.{Ordering}
use Rattle.std.specs.declared.cmp.Ordering.TheVariants.{Less, Equal, Greater}
use Rattle.std.specs.Ordering.{nat_cmp, is_lt, is_eq, eq_by_cmp, ordering_reverse}
use Rattle.std.specs.Cmp.Lexicographic.{nat_list_cmp_total, slice_cmp}
use Rattle.std.specs.FinMap.{find, get, is_sorted, get-insert, get-remove, nat_cmp-IsAntisymmetric, slice_cmp-IsAntisymmetric}
use Rattle.std.specs.FinMap.Entries.{below_all}
use Rattle.std.proofs.lemmas.List.{length-map}
use Rattle.mdb_model.specs.declared.change.Change.{Change}
use Rattle.mdb_model.specs.declared.change.Change.TheVariants.{Put, Del}
use Rattle.mdb_model.specs.Tables.{Place, Tables, place_cmp, place_of, with_change, with_changes}
use Rattle.mdb_bytes.specs.Fields.{rises}
use Rattle.mdb_bytes.specs.Held.{next_row, is_before, IsNextRow}
use Rattle.mdb_model.specs.declared.fault.PageFault.{PageFault}
use Rattle.mdb_bytes.proofs.NextRow.{is_next, is_last, next_is, none_is, before-is, before-less, find-below}
use Rattle.sorted_places.specs.Search.{IsAt, IsGap, IsPast}
use Rattle.sorted_places.proofs.Places.{place_total, place_exact}
use Rattle.sorted_places.proofs.Sorted.{sorted_from_rises, turned, find-at, find-gap}
use Rattle.transactions.specs.Net.{keyed_change, seen_row}
use Rattle.session_rows.specs.Scan.{IsBehind, as_row, only_before}
use Rattle.session_rows.proofs.Behind.{same_item, at-here, behind-at, gap-behind, beyond}

-- Changes of which there is one of each key

with_change-row : (c : Change) (tables : Tables) (place : Place) → get (with_change c tables) place ≡ cond (eq_by_cmp place_cmp place (place_of c)) (seen_row (Some c) None) (get tables place)
with_change-row (Put table key value) tables place = get-insert place_total tables (table.0, key) value place
with_change-row (Del table key) tables place = get-remove place_total tables (table.0, key) place

own-row : (c : Change) (row : Option (List ℕ)) → seen_row (Some c) row ≡ option_map (λ r. r.1) (as_row c)
own-row (Put table key value) row = refl
own-row (Del table key) row = refl

first : (a b : Bool) → T (a && b) → T a
first true b p = tt
first false b p = p

second : (a b : Bool) → T (a && b) → T b
second true b p = p
second false b p = absurd p

visible_front : (c : Change) (cs : List Change) (place : Place) (row : Option (List ℕ)) → T (below_all place_cmp (place_of c) (map keyed_change cs)) → (r : Ordering) → place_cmp place (place_of c) ≡ r
    → seen_row (find place_cmp place (map keyed_change cs)) (cond (is_eq r) (seen_row (Some c) None) row) ≡ seen_row (cond (is_eq r) (Some c) (find place_cmp place (map keyed_change cs))) row
visible_front c cs place row below Less is = refl
visible_front c cs place row below Greater is = refl
visible_front c cs place row below Equal is =
    let same : place ≡ place_of c = place_exact place (place_of c) is in
    let none : find place_cmp place (map keyed_change cs) ≡ None = find-below place_cmp place_total place (map keyed_change cs) (subst (λ p. T (below_all place_cmp p (map keyed_change cs))) (sym same) below) in
    ap (λ o. seen_row o (seen_row (Some c) None)) none ∙ own-row c None ∙ sym (own-row c row)

visible_sorted : (cs : List Change) (tables : Tables) (place : Place) → T (is_sorted place_cmp (map keyed_change cs)) → get (with_changes cs tables) place ≡ seen_row (find place_cmp place (map keyed_change cs)) (get tables place)
visible_sorted [] tables place sorted = refl
visible_sorted (c ∷ cs) tables place sorted =
    visible_sorted cs (with_change c tables) place (second _ _ sorted)
    ∙ ap (seen_row (find place_cmp place (map keyed_change cs))) (with_change-row c tables place)
    ∙ visible_front c cs place (get tables place) (first _ _ sorted) (place_cmp place (place_of c)) refl

pub visible_net : (cs : List Change) (tables : Tables) (place : Place) → IsTrue (rises place_cmp (map place_of cs)) → get (with_changes cs tables) place ≡ seen_row (find place_cmp place (map keyed_change cs)) (get tables place)
visible_net cs tables place ascends = visible_sorted cs tables place (sorted_from_rises place_cmp place_of (λ change. change) cs ascends)

-- Keys

before_trans : (a b c : List ℕ) → is_before a b ≡ true → is_before b c ≡ true → is_before a c ≡ true
before_trans a b c p q = ap is_lt (nat_list_cmp_total.trans a b c (less (slice_cmp nat_cmp a b) p) (less (slice_cmp nat_cmp b c) q)) where
  less : (r : Ordering) → is_lt r ≡ true → r ≡ Less
  less Less is = refl
  less Equal is = cc
  less Greater is = cc

-- what is not behind a key is up to it
before_upto : (a b c : List ℕ) → is_before a b ≡ true → is_before c b ≡ false → is_before a c ≡ true
before_upto a b c before upto = by_order (slice_cmp nat_cmp c b) refl where
  by_order : (r : Ordering) → slice_cmp nat_cmp c b ≡ r → is_before a c ≡ true
  by_order Less is = let both : false ≡ true = sym upto ∙ ap is_lt is in cc
  by_order Equal is = ap (is_before a) (slice_cmp-IsAntisymmetric nat_cmp-IsAntisymmetric c b is) ∙ before
  by_order Greater is = before_trans a b c before (ap is_lt (nat_list_cmp_total.antisymm b c ∙ ap ordering_reverse is))

-- no row stands up to a bound, where the next one is not before it
none_below : (tables : Tables) (table : ℕ) (after bound : List ℕ) → only_before bound (next_row tables table after) ≡ None
    → (other : List ℕ) → is_before after other ≡ true → is_before other bound ≡ true → get tables (table, other) ≡ None
none_below tables table after bound none other later before = by_row (next_row tables table after) refl none where
  by_row : (o : Option (List ℕ × List ℕ)) → next_row tables table after ≡ o → only_before bound o ≡ None → get tables (table, other) ≡ None
  by_row None is nothing = is_last tables table after is other later
  by_row (Some row) is nothing = by_test (is_before row.0 bound) refl nothing where
    by_test : (b : Bool) → is_before row.0 bound ≡ b → cond b (Some row) None ≡ None → get tables (table, other) ≡ None
    by_test true lower some = cc
    by_test false above some = (is_next tables table after row.0 row.1 is).least other later (before_upto other bound row.0 before above)

key-of-row : (c : Change) (key value : List ℕ) → as_row c ≡ Some (key, value) → (place_of c).1 ≡ key
key-of-row (Put table own set) key value is = ap (λ (o : Option (List ℕ × List ℕ)). (unwrap_or o (key, value)).0) is
key-of-row (Del table own) key value is = cc

-- a row before a bound
some_before : (bound : List ℕ) (o : Option (List ℕ × List ℕ)) (key value : List ℕ) → only_before bound o ≡ Some (key, value) → (o ≡ Some (key, value)) × (is_before key bound ≡ true)
some_before bound None key value is = cc
some_before bound (Some row) key value is = by_test (is_before row.0 bound) refl is where
  by_test : (b : Bool) → is_before row.0 bound ≡ b → cond b (Some row) None ≡ Some (key, value) → (Some row ≡ Some (key, value)) × (is_before key bound ≡ true)
  by_test true lower some = (some, ap (λ (o : Option (List ℕ × List ℕ)). is_before (unwrap_or o row).0 bound) (sym some) ∙ lower)
  by_test false above some = cc

-- Scans

-- a scan has come to a key: no row is seen up to it, and the changes before the index stand up to it
pub record Passed (cs : List Change) (tables : Tables) (table : ℕ) (after passed : List ℕ) (i : ℕ) : Type 0 where
  pub behind : IsBehind place_cmp place_of cs (table, passed) i
  pub further : (other : List ℕ) → is_before passed other ≡ true → is_before after other ≡ true
  pub none : (other : List ℕ) → is_before after other ≡ true → is_before passed other ≡ false → get (with_changes cs tables) (table, other) ≡ None

pub passed_none : (cs : List Change) (tables : Tables) (table : ℕ) (after : List ℕ) (i : ℕ) → IsBehind place_cmp place_of cs (table, after) i → Passed cs tables table after after i
passed_none cs tables table after i is = record {
  behind = is;
  further = λ other later. later;
  none = λ other later upto. let both : true ≡ false = sym later ∙ upto in cc;
}

module _ (cs : List Change) (ascends : IsTrue (rises place_cmp (map place_of cs))) (tables : Tables) (table : ℕ) (after : List ℕ) where
  abbrev seen : Tables
  seen = with_changes cs tables

  seen-gap : (place : Place) (i : ℕ) → IsGap place_cmp place_of cs place i → get seen place ≡ get tables place
  seen-gap place i gap = visible_net cs tables place ascends ∙ ap (λ o. seen_row o (get tables place)) (find-gap place_cmp place_of (λ change. change) place_total cs place i gap)

  seen-here : (i : ℕ) (d : Change) → i < length cs → get seen (place_of (get_or cs i d)) ≡ option_map (λ r. r.1) (as_row (get_or cs i d))
  seen-here i d inside =
      let place = place_of (get_or cs i d) in
      visible_net cs tables place ascends
      ∙ ap (λ o. seen_row o (get tables place)) (find-at place_cmp place_of (λ change. change) place_total cs place i d (at-here place_cmp place_of place_total cs ascends i d inside))
      ∙ own-row (get_or cs i d) (get tables place)

  module _ (passed : List ℕ) (i : ℕ) (p : Passed cs tables table after passed i) where
    -- no change from the index on stands up to the key
    abbrev Clear : List ℕ → Type 0
    Clear other = (d : Change) → i < length cs → place_cmp (place_of (get_or cs i d)) (table, other) ≡ Greater

    clear : (other : List ℕ) → is_before passed other ≡ true → Clear other → get seen (table, other) ≡ get tables (table, other)
    clear other later first_above = seen-gap (table, other) i (gap-behind place_cmp place_of place_total cs ascends (table, passed) (table, other) i p.behind (before-less table passed other later) first_above)

    clear_down : (other key : List ℕ) → is_before other key ≡ true → Clear key → Clear other
    clear_down other key before first_above d inside =
        turned place_cmp place_of (λ change. change) place_total (table, other) (place_of (get_or cs i d)) Less
        (place_total.trans (table, other) (table, key) (place_of (get_or cs i d)) (before-less table other key before)
        (turned place_cmp place_of (λ change. change) place_total (place_of (get_or cs i d)) (table, key) Greater (first_above d inside)))

    -- nothing is seen between, where it is not between the key that was passed and this one
    none-before : (other : List ℕ) → is_before after other ≡ true → (is_before passed other ≡ true → get seen (table, other) ≡ None) → get seen (table, other) ≡ None
    none-before other later rest = by_test (is_before passed other) refl where
      by_test : (b : Bool) → is_before passed other ≡ b → get seen (table, other) ≡ None
      by_test true is = rest is
      by_test false is = p.none other later is

    take_clear : (key value : List ℕ) → next_row tables table passed ≡ Some (key, value) → Clear key → next_row seen table after ≡ Some (key, value)
    take_clear key value is first_above =
        let next = is_next tables table passed key value is in
        next_is seen table after key value (record {
          there = clear key next.later first_above ∙ next.there;
          later = p.further key next.later;
          least = λ other later before. none-before other later (λ later_too. clear other later_too (clear_down other key before first_above) ∙ next.least other later_too before);
        })

    -- what is left where no more changes are of the table
    pub take_rest : ((d : Change) → i < length cs → (place_of (get_or cs i d)).0 ≢ table) → next_row seen table after ≡ next_row tables table passed
    take_rest apart = by_row (next_row tables table passed) refl where
      all_clear : (other : List ℕ) → Clear other
      all_clear other d inside = beyond (place_of (get_or cs i d)) table passed other (p.behind.greater_after i d (omega arith) inside) (apart d inside)

      by_row : (o : Option (List ℕ × List ℕ)) → next_row tables table passed ≡ o → next_row seen table after ≡ o
      by_row None is = none_is seen table after (λ other later. none-before other later (λ later_too. clear other later_too (all_clear other) ∙ is_last tables table passed is other later_too))
      by_row (Some row) is = take_clear row.0 row.1 is (all_clear row.0)

    -- a change of the table stands at the index
    module _ (d : Change) (inside : i < length cs) (key : List ℕ) (is_there : ◌≡◌ {A = Place} (place_of (get_or cs i d)) (table, key)) where
      later-there : is_before passed key ≡ true
      later-there =
          sym (before-is table passed key)
          ∙ ap is_lt (turned place_cmp place_of (λ change. change) place_total (table, key) (table, passed) Greater (ap (λ q. place_cmp q (table, passed)) (sym is_there) ∙ p.behind.greater_after i d (omega arith) inside))

      clear-before : (other : List ℕ) → is_before other key ≡ true → Clear other
      clear-before other before e within =
          turned place_cmp place_of (λ change. change) place_total (table, other) (place_of (get_or cs i e)) Less
          (ap (place_cmp (table, other)) (ap place_of (same_item cs i e d inside) ∙ is_there) ∙ before-less table other key before)

      -- a committed row comes first
      pub take_row : (row_key value : List ℕ) → only_before key (next_row tables table passed) ≡ Some (row_key, value) → next_row seen table after ≡ Some (row_key, value)
      take_row row_key value is =
          let parts = some_before key (next_row tables table passed) row_key value is in
          take_clear row_key value parts.0 (clear-before row_key parts.1)

      module _ (none : only_before key (next_row tables table passed) ≡ None) where
        nothing-before : (other : List ℕ) → is_before after other ≡ true → is_before other key ≡ true → get seen (table, other) ≡ None
        nothing-before other later before = none-before other later (λ later_too. clear other later_too (clear-before other before) ∙ none_below tables table passed key none other later_too before)

        -- what is seen at the key of the change
        at-key : get seen (table, key) ≡ option_map (λ r. r.1) (as_row (get_or cs i d))
        at-key = ap (get seen) (sym is_there) ∙ seen-here i d inside

        -- the change sets a row
        pub take_put : (row_key value : List ℕ) → as_row (get_or cs i d) ≡ Some (row_key, value) → next_row seen table after ≡ Some (row_key, value)
        take_put row_key value row =
            let same : key ≡ row_key = ap (λ (q : Place). q.1) (sym is_there) ∙ key-of-row (get_or cs i d) row_key value row in
            next_is seen table after key value (record {
              there = at-key ∙ ap (option_map (λ r. r.1)) row;
              later = p.further key later-there;
              least = nothing-before;
            }) ∙ (λ k. Some (same k, value))

        -- the change is a deletion
        pub pass : as_row (get_or cs i d) ≡ None → Passed cs tables table after key (i + 1)
        pass deletion = record {
          behind = behind-at place_cmp place_of place_total cs ascends (table, key) i (subst (λ q. IsAt place_cmp place_of cs q i) is_there (at-here place_cmp place_of place_total cs ascends i d inside));
          further = λ other later. p.further other (before_trans passed key other later-there later);
          none = λ other later upto. by_order other later upto (slice_cmp nat_cmp other key) refl;
        } where
          by_order : (other : List ℕ) → is_before after other ≡ true → is_before key other ≡ false → (r : Ordering) → slice_cmp nat_cmp other key ≡ r → get seen (table, other) ≡ None
          by_order other later upto Less is = nothing-before other later (ap is_lt is)
          by_order other later upto Equal is =
              ap (λ k. get seen (table, k)) (slice_cmp-IsAntisymmetric nat_cmp-IsAntisymmetric other key is) ∙ at-key ∙ ap (option_map (λ r. r.1)) deletion
          by_order other later upto Greater is = let both : false ≡ true = sym upto ∙ ap is_lt (nat_list_cmp_total.antisymm key other ∙ ap ordering_reverse is) in cc

-- The changes that are left

-- the first of what is left stands at the index
pub left_item : (cs : List Change) (at : ℕ) (e : Place × Change) (rest : List (Place × Change))
    → drop at (map keyed_change cs) ≡ e ∷ rest
    → (at < length cs) × (get_or cs at e.1 ≡ e.1) × (rest ≡ drop (at + 1) (map keyed_change cs))
left_item [] zero e rest is = cc
left_item [] (suc at) e rest is = cc
left_item (c ∷ cs) zero e rest is = (
  omega arith,
  ap (λ (es : List (Place × Change)).
      (get_or es 0 e).1) is,
  sym (ap (drop 1) is),
)
left_item (c ∷ cs) (suc at) e rest is =
    let further = left_item cs at e rest is in
    let next : suc (at + 1) ≡ suc at + 1 = omega arith in
    (omega (arith, further.0), further.1, further.2 ∙ ap (λ n. drop n (map keyed_change (c ∷ cs))) next)

-- the place of a change, by its table and its key
pub place_here : (change item : Change) → change ≡ item → (table : ℕ) (key : List ℕ)
    → (place_of item).0 ≡ table → (place_of item).1 ≡ key
    → ◌≡◌ {A = Place} (place_of change) (table, key)
place_here change item is table key same_table same_key = ap place_of is
    ∙ (λ k. (same_table k, same_key k))

-- nothing is left past the last change
pub left_none : (cs : List Change) (at : ℕ) → drop at (map keyed_change cs) ≡ [] → length cs ≤ at
left_none cs at is =
    let dropped = length-drop at (map keyed_change cs) in
    let long = length-map cs keyed_change in
    let none = ap length is in
    omega (arith, dropped, long, none)

-- a scan has come to a key, and these are the changes behind it
pub record Comes (cs : List Change) (tables : Tables) (table : ℕ) (after passed : List ℕ)
    (left : List (Place × Change)) : Type 0 where
  pub at : ℕ
  pub come : Passed cs tables table after passed at
  pub behind : left ≡ drop at (map keyed_change cs)

pub comes_first : (cs : List Change) (tables : Tables) (table : ℕ) (after : List ℕ) (left : List
    (Place × Change))
    → (at : ℕ) × IsPast place_of cs table after at × (left ≡ drop at (map keyed_change cs))
    → Comes cs tables table after after left
comes_first cs tables table after left rest = record {
  at = rest.0;
  come = passed_none cs tables table after rest.0
      (record { in_range = rest.1.in_range; upto_before = rest.1.lower; greater_after = rest.1.higher });
  behind = rest.2;
}

-- the next row, along equal ones
pub next_of : (result : Result Bool PageFault) (key value : List ℕ) {one other : Option (List ℕ × List ℕ)} → IfOk result (λ found. IsNextRow found one key value) → one ≡ other
    → IfOk result (λ found. IsNextRow found other key value)
next_of result key value is same = subst (λ o. IfOk result (λ found. IsNextRow found o key value)) same is

-- a row is found, or none
pub next_there : (found : Bool) (row : Option (List ℕ × List ℕ)) (key value : List ℕ) → found ≡ true → IsNextRow found row key value → row ≡ Some (key, value)
next_there true row key value is there = there
next_there false row key value is there = cc

pub next_absent : (found : Bool) (row : Option (List ℕ × List ℕ)) (key value : List ℕ) → found ≡ false → IsNextRow found row key value → row ≡ None
next_absent true row key value is there = cc
next_absent false row key value is there = there
