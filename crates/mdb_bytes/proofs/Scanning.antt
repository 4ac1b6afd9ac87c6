-- A whole scan of a table, row by row.
--     ScannedTo      these items are the rows of a table up to a key
--     scan_first, scan_step, scan_end      at the empty key, after the next row, and where there is none
use Rattle.std.proofs.Common.{◌≡◌, refl, sym, ap, ◌∙◌, ℕ, Bool, true, false, cond, ◌&&◌, ◌==◌, List, [], ◌∷◌, ◌++◌, map, filter, Option, Some, None, append_assoc, append-nil, eqb-true}
use Rattle.std.specs.Ordering.{nat_cmp, is_lt, is_eq, ordering_then}
use Rattle.std.specs.declared.cmp.Ordering.{Ordering}
use Rattle.std.specs.declared.cmp.Ordering.TheVariants.{Less, Equal, Greater}
use Rattle.std.specs.Cmp.{tied_itself, nat_cmp_total}
use Rattle.std.specs.Cmp.Lexicographic.{nat_list_cmp_total}
use Rattle.std.specs.FinMap.{get, find, entries, entries_sorted, get-entries}
use Rattle.mdb_model.specs.Answers.{Item, Row}
use Rattle.mdb_model.specs.Tables.{Place, Tables, place_cmp}
use Rattle.mdb_model.specs.Steps.{rows_of}
use Rattle.mdb_bytes.specs.Held.{next_row, is_before}
use Rattle.mdb_bytes.proofs.NextRow.{is_behind, place_total, place_exact, before-is, next_entry, no_entry, rest_left, none_left, is_next}

-- the rows of a table whose keys come after this one
abbrev pub rows_behind : Tables → (table : ℕ) → (after : List ℕ) → List Item
rows_behind tables table after = map (λ e. Row e.0.1 e.1) (filter (λ e. is_behind table after e.0) (entries tables))

-- these items are the rows of a table up to this key
pub record ScannedTo (tables : Tables) (table : ℕ) (after : List ℕ) (done : List Item) : Type 0 where
  pub split : rows_of tables table ≡ done ++ rows_behind tables table after

and_true : (b : Bool) → b ≡ (b && true)
and_true true = refl
and_true false = refl

-- an option that is none by its first part
not_tied : {A : Type 0} (tie : Bool) (v : A) (o : Option A) → cond tie (Some v) o ≡ None → tie ≡ false
not_tied true v o is = cc
not_tied false v o is = refl

left_none : {A : Type 0} (tie : Bool) (v : A) (o : Option A) → cond tie (Some v) o ≡ None → o ≡ None
left_none true v o is = cc
left_none false v o is = is

-- no key but the empty one is not after the empty one
test-same : (table t : ℕ) (key : List ℕ) → is_eq (place_cmp (table, []) (t, key)) ≡ false → (t == table) ≡ is_behind table [] (t, key)
test-same table t (b ∷ key) apart = and_true (t == table)
test-same table t [] apart = by_table (t == table) refl where
  by_table : (b : Bool) → (t == table) ≡ b → (t == table) ≡ ((t == table) && false)
  by_table false other = other ∙ (λ i. sym other i && false)
  by_table true same =
      let is : t ≡ table = eqb-true t table same in
      let tie : is_eq (place_cmp (table, []) (t, [])) ≡ true = (λ i. is_eq (ordering_then (nat_cmp table (is i)) Equal)) ∙ ap (λ r. is_eq (ordering_then r Equal)) (tied_itself nat_cmp_total table) in
      let both : false ≡ true = sym apart ∙ tie in
      cc

all_behind : (table : ℕ) (es : List (Place × List ℕ)) → find place_cmp (table, []) es ≡ None → filter (λ e. e.0.0 == table) es ≡ filter (λ e. is_behind table [] e.0) es
all_behind table [] none = refl
all_behind table (x ∷ es) none =
    let same : (x.0.0 == table) ≡ is_behind table [] x.0 = test-same table x.0.0 x.0.1 (not_tied (is_eq (place_cmp (table, []) x.0)) x.1 (find place_cmp (table, []) es) none) in
    let rest = all_behind table es (left_none (is_eq (place_cmp (table, []) x.0)) x.1 (find place_cmp (table, []) es) none) in
    λ i. cond (same i) (x ∷ rest i) (rest i)

before_both : (after key other : List ℕ) → is_before after key ≡ true → is_before key other ≡ true → is_before after other ≡ true
before_both after key other a b = ap is_lt (nat_list_cmp_total.trans after key other (less a) (less b)) where
  less : {r : Ordering} → is_lt r ≡ true → r ≡ Less
  less {r = Less} is = refl
  less {r = Equal} is = cc
  less {r = Greater} is = cc

-- after a later key, by what is after an earlier one
later-is : (table : ℕ) (after key : List ℕ) → is_before after key ≡ true → (q : Place) → is_behind table key q ≡ (is_behind table after q && is_lt (place_cmp (table, key) q))
later-is table after key later q = by_table (q.0 == table) refl where
  by_key : (b : Bool) → is_before key q.1 ≡ b → is_before key q.1 ≡ (is_before after q.1 && is_before key q.1)
  by_key true is = is ∙ (λ i. sym (before_both after key q.1 later is) i && sym is i)
  by_key false is = is ∙ and_false (is_before after q.1) ∙ (λ i. is_before after q.1 && sym is i) where
    and_false : (b : Bool) → false ≡ (b && false)
    and_false true = refl
    and_false false = refl

  by_table : (b : Bool) → (q.0 == table) ≡ b → is_behind table key q ≡ (is_behind table after q && is_lt (place_cmp (table, key) q))
  by_table false other = (λ i. other i && is_before key q.1) ∙ (λ i. (sym other i && is_before after q.1) && is_lt (place_cmp (table, key) q))
  by_table true same =
      let is : q.0 ≡ table = eqb-true q.0 table same in
      (λ i. same i && is_before key q.1) ∙ by_key (is_before key q.1) refl
      ∙ (λ i. (sym same i && is_before after q.1) && sym (before-is table key q.1) i)
      ∙ (λ i. is_behind table after q && is_lt (place_cmp (table, key) (sym is i, q.1)))

module _ (tables : Tables) (table : ℕ) where
  -- nothing is scanned at the empty key, which is before all others
  pub scan_first : get tables (table, []) ≡ None → ScannedTo tables table [] []
  scan_first none = record { split = ap (map (λ e. Row e.0.1 e.1)) (all_behind table (entries tables) (sym (get-entries tables (table, [])) ∙ none)) }

  module _ (after : List ℕ) where
    -- the next row is the first of those after the key
    pub behind_front : (key value : List ℕ) → next_row tables table after ≡ Some (key, value) → rows_behind tables table after ≡ Row key value ∷ rows_behind tables table key
    behind_front key value is =
        ap (map (λ e. Row e.0.1 e.1))
        (rest_left place_cmp place_total place_exact (is_behind table after) (entries tables) ((table, key), value) (entries_sorted tables) (next_entry tables table after key value is)
        (is_behind table key) (later-is table after key (is_next tables table after key value is).later))

    pub none_behind : next_row tables table after ≡ None → rows_behind tables table after ≡ []
    none_behind is = ap (map (λ e. Row e.0.1 e.1)) (none_left place_cmp place_total place_exact (is_behind table after) (entries tables) (no_entry tables table after is))

    module _ (done : List Item) (scanned : ScannedTo tables table after done) where
      -- with the next row it is scanned up to the key of that row
      pub scan_step : (key value : List ℕ) → next_row tables table after ≡ Some (key, value) → ScannedTo tables table key (done ++ Row key value ∷ [])
      scan_step key value is = record {
        split = scanned.split ∙ ap (λ rest. done ++ rest) (behind_front key value is) ∙ sym (append_assoc done (Row key value ∷ []) (rows_behind tables table key));
      }

      -- where there is no next row these are all
      pub scan_end : next_row tables table after ≡ None → done ≡ rows_of tables table
      scan_end is = sym (scanned.split ∙ ap (λ rest. done ++ rest) (none_behind is) ∙ append-nil done)
