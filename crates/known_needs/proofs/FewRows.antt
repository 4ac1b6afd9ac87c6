-- A table whose rows fit into an area has few rows, and each change makes one more at most.
--     rows_few      the rows of a table where the area has room
--     rows_grown      the rows of a table after changes
use Rattle.std.proofs.Common.{◌≡◌, ◌≢◌, inl, inr, refl, sym, ap, ◌∙◌, subst, ℕ, ◌+◌, ◌-◌, ◌*◌, ◌^◌, ◌<◌, ◌≤◌, max, Bool, true, false, cond, ◌==◌, List, [], ◌∷◌, length, map, filter, Option, Some, None, arith}
use Rattle.std.specs.Prelude.{sum_by, nat_le, is_some, option_map, unwrap_or}
use Rattle.std.specs.List.{range_with_len}
use Rattle.std.specs.FinMap.{get, keys, entries, entries_sorted}
use Rattle.std.proofs.lemmas.Bool.{cases_Bool, or_cases, eqb-true, leb-true, false≢true}
use Rattle.std.proofs.lemmas.List.{length-map}
use Rattle.std.proofs.lemmas.List.FromFn.{length-range_with_len, get_or-range_with_len}
use Rattle.std.proofs.lemmas.List.Sums.{sum_by-cons, length-filter, get_or-le-sum_by}
use Rattle.mdb_model.specs.declared.change.Change.{Change}
use Rattle.mdb_model.specs.Answers.{Row}
use Rattle.mdb_model.specs.Sessions.{same_place}
use Rattle.mdb_model.specs.Space.{ceil_div, cost_at, every_table, has_room, is_enough, table_cost, table_pages, tree_pages}
use Rattle.mdb_model.specs.Steps.{rows_of}
use Rattle.mdb_model.specs.Tables.{Place, Tables, place_of, with_change, with_changes}
use Rattle.mdb_model.proofs.SerialPlaces.{same_place-equal, same_place-itself, with_change-apart}
use Rattle.known_needs.proofs.PlaceSums.{In, sum_within}
use Rattle.known_needs.proofs.CostSums.{keys_apart, in_keys, keys_in, cost_in, cost_over}

-- The rows of a table

-- a place counts where it is of the table
abbrev counted : ℕ → Place → ℕ
counted table p = cond (p.0 == table) 1 0

-- a sum over the first parts
sum_of_firsts : {X : Type 0} (f : Place → ℕ) (es : List (Place × X)) → sum_by f (map (λ e. e.0) es) ≡ sum_by (λ e. f e.0) es
sum_of_firsts f [] = refl
sum_of_firsts f (e ∷ es) = omega (arith, sum_by-cons f e.0 (map (λ e. e.0) es), sum_by-cons (λ e. f e.0) e es, sum_of_firsts f es)

-- there are as many rows as keys that count
count_is : (rows : Tables) (table : ℕ) → length (rows_of rows table) ≡ sum_by (counted table) (keys rows)
count_is rows table =
    length-map (filter (λ (e : Place × List ℕ). e.0.0 == table) (entries rows)) (λ e. Row e.0.1 e.1)
    ∙ length-filter (λ (e : Place × List ℕ). e.0.0 == table) (entries rows)
    ∙ sym (sum_of_firsts (counted table) (entries rows))

-- What rows cost

-- where each term is eight times another or more, so is the sum
eight_times : (f g : Place → ℕ) (ps : List Place) → ((p : Place) → In p ps → 8 * f p ≤ g p) → 8 * sum_by f ps ≤ sum_by g ps
eight_times f g [] each = omega arith
eight_times f g (p ∷ ps) each =
    omega (arith, sum_by-cons f p ps, sum_by-cons g p ps, each p (inl refl), eight_times f g ps (λ q there. each q (inr there)))

-- a row costs eight bytes or more
row_costs : (rows : Tables) (p : Place) → is_some (get rows p) ≡ true → 8 ≤ cost_at rows p
row_costs rows p = by_row (get rows p) where
  by_row : (row : Option (List ℕ)) → is_some row ≡ true → 8 ≤ unwrap_or (option_map (λ value. 8 + length p.1 + length value) row) 0
  by_row None none = absurd (let no : false ≡ true = none in cc)
  by_row (Some value) some = omega arith

-- so do all rows of a table
rows_cost : (rows : Tables) (table : ℕ) → 8 * length (rows_of rows table) ≤ table_cost rows rows table
rows_cost rows table =
    omega (
      arith,
      count_is rows table,
      cost_over rows rows table (keys rows) (keys_apart (entries rows) (entries_sorted rows)) (λ p has. elim has [ inl one ↦ in_keys rows p one | inr two ↦ in_keys rows p two ]),
      eight_times (counted table) (cost_in rows rows table) (keys rows) (λ p there. each p (row_costs rows p (keys_in rows p there)) (p.0 == table)),
    )
  where
    each : (p : Place) → 8 ≤ cost_at rows p → (b : Bool) → 8 * cond b 1 0 ≤ cond b (max (cost_at rows p) (cost_at rows p)) 0
    each p some true = omega (arith, some)
    each p some false = omega arith

-- The pages of a table

-- a table of so few pages costs no more than this
cost_within : (cost : ℕ) → table_pages cost ≤ 65536 → cost ≤ 65536 * 8128
cost_within cost = by_zero (cost == 0) refl where
  by_small : (b : Bool) → nat_le cost 8128 ≡ b → cond b 1 (4 + ceil_div (3 * cost) 8128) ≤ 65536 → cost ≤ 65536 * 8128
  by_small true small few = omega (arith, leb-true cost 8128 small)
  by_small false large few = omega (arith, few)

  by_zero : (b : Bool) → (cost == 0) ≡ b → cond b 0 (cond (nat_le cost 8128) 1 (4 + ceil_div (3 * cost) 8128)) ≤ 65536 → cost ≤ 65536 * 8128
  by_zero true none few = omega (arith, eqb-true cost 0 none)
  by_zero false some few = by_small (nat_le cost 8128) refl few

-- a term is within the sum over numbers in a row
in_range : (f : ℕ → ℕ) (a n i : ℕ) → a ≤ i → i < a + n → f i ≤ sum_by f (range_with_len a n)
in_range f a n i low high =
    subst (λ (k : ℕ). f k ≤ sum_by f (range_with_len a n)) (get_or-range_with_len a n (i - a) 0 (omega (arith, low, high)) ∙ omega (arith, low))
    (get_or-le-sum_by f (range_with_len a n) (i - a) 0 (omega (arith, low, high, length-range_with_len a n)))

-- the pages of a table are some of those of all tables
table_within : (rows : Tables) (table : ℕ) → 1 ≤ table → table ≤ 500 → table_pages (table_cost rows rows table) ≤ tree_pages rows rows
unfolding every_table
table_within rows table low high = in_range (λ table. table_pages (table_cost rows rows table)) 1 500 table low (omega (arith, high))

-- where there is room, the pages of all tables are no more than the blocks
pages_within : (rows : Tables) (kept blocks : ℕ) → has_room rows rows 0 kept blocks ≡ true → tree_pages rows rows ≤ blocks
pages_within rows kept blocks room = elim (or_cases (is_enough rows rows 0 kept blocks) (is_enough rows rows 0 kept (blocks - 1)) room) [
  | inl all ↦ omega (arith, enough blocks all)
  | inr fewer ↦ omega (arith, enough (blocks - 1) fewer)
] where
  enough : (n : ℕ) → is_enough rows rows 0 kept n ≡ true → tree_pages rows rows ≤ n
  enough n is = omega (arith, leb-true _ n is)

-- a table whose rows fit into an area has few rows
pub rows_few : (rows : Tables) (kept blocks table : ℕ) → 1 ≤ table → table ≤ 500 → has_room rows rows 0 kept blocks ≡ true → blocks ≤ 65536 → length (rows_of rows table) ≤ 2 ^ 40
rows_few rows kept blocks table low high room small =
    let pages : table_pages (table_cost rows rows table) ≤ 65536 = omega (arith, table_within rows table low high, pages_within rows kept blocks room, small) in
    omega (arith, rows_cost rows table, cost_within (table_cost rows rows table) pages)

-- Rows after changes

-- a place with a row after a change had one before it, or is the place of the change
had_row : (change : Change) (rows : Tables) (p : Place) → is_some (get (with_change change rows) p) ≡ true → In p (place_of change ∷ keys rows)
had_row change rows p has = elim (cases_Bool (same_place p (place_of change))) [
  | inl is ↦ inl (same_place-equal p (place_of change) is)
  | inr apart ↦ inr (in_keys rows p (sym (ap is_some (with_change-apart change rows p (differ apart))) ∙ has))
] where
  differ : same_place p (place_of change) ≡ false → p ≢ place_of change
  differ apart is = false≢true (sym apart ∙ (ap (λ q. same_place p q) (sym is) ∙ same_place-itself p))

-- a change makes one row more at most
one_more : (change : Change) (rows : Tables) (table : ℕ) → length (rows_of (with_change change rows) table) ≤ length (rows_of rows table) + 1
one_more change rows table =
    let next : Tables = with_change change rows in
    omega (
      arith,
      count_is next table,
      count_is rows table,
      sum_within (counted table) (keys next) (place_of change ∷ keys rows) (keys_apart (entries next) (entries_sorted next)) (λ p there. inr (had_row change rows p (keys_in next p there))),
      sum_by-cons (counted table) (place_of change) (keys rows),
      at_most_one ((place_of change).0 == table),
    )
  where
    at_most_one : (b : Bool) → cond b 1 0 ≤ 1
    at_most_one true = omega arith
    at_most_one false = omega arith

-- changes make no more rows than there are of them
pub rows_grown : (rows : Tables) (changes : List Change) (table : ℕ) → length (rows_of (with_changes changes rows) table) ≤ length (rows_of rows table) + length changes
rows_grown rows [] table = omega arith
rows_grown rows (change ∷ changes) table = omega (arith, rows_grown (with_change change rows) changes table, one_more change rows table)
