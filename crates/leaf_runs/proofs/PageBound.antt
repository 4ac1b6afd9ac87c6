-- The space rule bounds the leaves of a run.
--     leaf_bound      this many leaves where the rows cost this much
--     cost_of_table      what the rows of a table cost
--     entry_cost      and that is the sum in the catalogue
--     page_bound      the pages of a table are no more than the space rule counts
use Rattle.std.proofs.Common.{◌≡◌, refl, sym, ap, subst, ◌∙◌, ℕ, suc, ◌+◌, ◌*◌, ◌<◌, ◌≤◌, Bool, true, false, cond, not, T, List, [], ◌∷◌, ◌++◌, map, filter, length, max, Some, None, arith, append_assoc, eqb-true, eq-eqb}
use Rattle.std.specs.Prelude.{option_map, unwrap_or, ◌==◌, ◌||◌, nat_le, sum_by}
use Rattle.std.proofs.lemmas.Bool.{leb-true}
use Rattle.std.proofs.lemmas.List.{append-nil}
use Rattle.std.proofs.Math.Bool.{or-true}
use Rattle.std.proofs.lemmas.List.Sums.{sum_by-cons, sum_by-append}
use Rattle.std.specs.List.{list_any}
use Rattle.std.specs.declared.cmp.Ordering.{Ordering}
use Rattle.std.specs.declared.cmp.Ordering.TheVariants.{Equal}
use Rattle.std.specs.Ordering.{is_eq, is_lt, eq_by_cmp, ordering_then}
use Rattle.std.specs.Cmp.{tied_itself, nat_cmp_total}
use Rattle.std.specs.Cmp.Lexicographic.{nat_list_cmp_total}
use Rattle.std.specs.FinMap.{get, find, is_sorted, entries, entries_sorted, get-entries, keys, contains_key, contains_key-keys}
use Rattle.std.specs.FinMap.Entries.{below_all, where_key, is_sorted-where_key, find-where_key, same_entries}
use Rattle.mdb_model.specs.Tables.{Place, Tables, place_cmp}
use Rattle.mdb_model.specs.Space.{table_pages, table_cost, places, cost_at, ceil_div}
use Rattle.mdb_bytes.specs.declared.logical_pages.CatalogueEntry.{CatalogueEntry}
use Rattle.mdb_bytes.specs.TablePages.{Row, RowLeaf, row_cost, rows_cost}
use Rattle.mdb_bytes.specs.Forms.{Neighbours}
use Rattle.mdb_bytes.specs.Paged.{PageBytes}
use Rattle.mdb_bytes.proofs.NextRow.{place_total, place_exact}
use Rattle.row_page.specs.Entries.{by_bytes}
use Rattle.leaf_runs.specs.Runs.{Leaf, run_rows, LeavesFillTwo, IsChain, IsTableRun, AreRuns, rows_in_pages}
use Rattle.leaf_runs.proofs.RowLists.{t_left, t_right, t_both}
use Rattle.leaf_runs.proofs.LeafLaw.{few_rows}
use Rattle.leaf_runs.proofs.RowsLaw.{find_inside, leaf_has, leaf_lacks}
use Rattle.leaf_runs.proofs.Gets.{row_there}

-- Leaves

pub rows_cost-append : (a b : List Row) → rows_cost (a ++ b) ≡ rows_cost a + rows_cost b
rows_cost-append a b = sum_by-append row_cost a b

-- two neighbours fill more than a page
half : (l : Leaf) (ls : List Leaf) → Neighbours LeavesFillTwo (l ∷ ls) → 8129 * length ls + rows_cost l.rows ≤ 2 * rows_cost (run_rows (l ∷ ls))
half l [] filled = let c = rows_cost-append l.rows [] in omega arith
half l (m ∷ ls) filled =
    let more = half m ls filled.1 in
    let two : 8128 < rows_cost l.rows + rows_cost m.rows = filled.0 in
    let c = rows_cost-append l.rows (run_rows (m ∷ ls)) in
    let n : length (m ∷ ls) ≡ suc (length ls) = refl in
    omega arith

at_least : (l : Leaf) (ls : List Leaf) → rows_cost l.rows ≤ rows_cost (run_rows (l ∷ ls))
at_least l ls = let c = rows_cost-append l.rows (run_rows ls) in omega arith

two_at_least : (l m : Leaf) (ls : List Leaf) → rows_cost l.rows + rows_cost m.rows ≤ rows_cost (run_rows (l ∷ m ∷ ls))
two_at_least l m ls = let c = rows_cost-append l.rows (run_rows (m ∷ ls)) in let d = at_least m ls in omega arith

many : (n cost : ℕ) → 8129 * n ≤ 2 * cost → suc n ≤ 4 + ceil_div (3 * cost) 8128
many n cost h = omega arith

over : (n cost : ℕ) → 0 < cost → (cost ≤ 8128 → n ≤ 1) → n ≤ 4 + ceil_div (3 * cost) 8128 → n ≤ table_pages cost
over n cost some small large = by_zero (cost == 0) refl where
  by_small : (b : Bool) → nat_le cost 8128 ≡ b → n ≤ cond b 1 (4 + ceil_div (3 * cost) 8128)
  by_small true e = small (leb-true cost 8128 e)
  by_small false e = large

  by_zero : (b : Bool) → (cost == 0) ≡ b → n ≤ cond b 0 (cond (nat_le cost 8128) 1 (4 + ceil_div (3 * cost) 8128))
  by_zero true e = let none : cost ≡ 0 = eqb-true cost 0 e in absurd (omega arith)
  by_zero false e = by_small (nat_le cost 8128) refl

-- this many leaves where the rows cost no more than this
pub leaf_bound : (pages : PageBytes) (table cost : ℕ) (leaves : List Leaf) → IsChain pages table leaves → Neighbours LeavesFillTwo leaves → rows_cost (run_rows leaves) ≤ cost → length leaves ≤ table_pages cost
leaf_bound pages table cost [] chain filled le = omega arith
leaf_bound pages table cost (l ∷ []) chain filled le =
    let some = few_rows l.rows in
    let rows = chain.0.has_rows in
    let least = at_least l [] in
    over 1 cost (omega arith) (λ small. omega arith) (many 0 cost (omega arith))
leaf_bound pages table cost (l ∷ m ∷ ls) chain filled le =
    let least = two_at_least l m ls in
    let two : 8128 < rows_cost l.rows + rows_cost m.rows = filled.0 in
    let h = half l (m ∷ ls) filled in
    over (suc (length (m ∷ ls))) cost (omega arith) (λ small. absurd (omega arith)) (many (length (m ∷ ls)) cost (omega arith))

-- The cost of a table

abbrev pub placed : ℕ → Row → Place × List ℕ
placed t row = let e : Place × List ℕ = ((t, row.0), row.1) in e

abbrev leaf_for : ℕ → RowLeaf
leaf_for t = record { table = t; number = 0; next = 0; rows = [] }

below_placed : (t : ℕ) (k : List ℕ) (rows : List Row) → T (below_all by_bytes k rows) → T (below_all place_cmp (t, k) (map (placed t) rows))
below_placed t k [] p = tt
below_placed t k (x ∷ xs) p =
    t_both _ _ (subst (λ (o : Ordering). T (is_lt (ordering_then o (by_bytes k x.0)))) (sym (tied_itself nat_cmp_total t)) (t_left _ _ p)) (below_placed t k xs (t_right _ _ p))

pub sorted_placed : (t : ℕ) (rows : List Row) → T (is_sorted by_bytes rows) → T (is_sorted place_cmp (map (placed t) rows))
sorted_placed t [] up = tt
sorted_placed t (x ∷ xs) up = t_both _ _ (below_placed t x.0 xs (t_left _ _ up)) (sorted_placed t xs (t_right _ _ up))

abbrev of_table : ℕ → Place → Bool
of_table t place = place.0 == t

tied_table : (t : ℕ) (q x : Place) → place_cmp q x ≡ Equal → of_table t x ≡ of_table t q
tied_table t q x tie = ap (of_table t) (sym (place_exact q x tie))

-- of places that each have a row, none is without one
none_left : (rows : Tables) (ks : List Place) → ((place : Place) → list_any (eq_by_cmp place_cmp place) ks ≡ true → contains_key rows place ≡ true) → filter (λ place. not (contains_key rows place)) ks ≡ []
none_left rows [] there = refl
none_left rows (k ∷ ks) there =
    let here : contains_key rows k ≡ true = there k (ap (λ o. is_eq o || list_any (eq_by_cmp place_cmp k) ks) (tied_itself place_total k)) in
    ap (λ (b : Bool). cond (not b) (k ∷ filter (λ place. not (contains_key rows place)) ks) (filter (λ place. not (contains_key rows place)) ks)) here
    ∙ none_left rows ks (λ place among. there place (ap (λ (b : Bool). eq_by_cmp place_cmp place k || b) among ∙ or-true (eq_by_cmp place_cmp place k)))

-- the places that have a row in a map or in itself are those of the map
one_of_both : (rows : Tables) → places rows rows ≡ keys rows
one_of_both rows = ap (λ (ks : List Place). keys rows ++ ks) (none_left rows (keys rows) (λ place among. contains_key-keys rows place ∙ among)) ∙ append-nil (keys rows)

module _ (rows : Tables) (t : ℕ) (run : List Row) (up : T (is_sorted by_bytes run)) (law : (k : List ℕ) → get rows (t, k) ≡ find by_bytes k run) where
  -- the entries of the table are its rows
  entries_are : where_key place_cmp (of_table t) (entries rows) ≡ map (placed t) run
  entries_are =
      same_entries place_cmp place_total place_exact (where_key place_cmp (of_table t) (entries rows)) (map (placed t) run) (is_sorted-where_key place_cmp (of_table t) (entries rows) (entries_sorted rows)) (sorted_placed t run up)
      (λ q. find-where_key place_cmp (of_table t) q (tied_table t q) (entries rows) ∙ by_table q (of_table t q) refl)
    where
      by_table : (q : Place) (b : Bool) → of_table t q ≡ b → cond b (find place_cmp q (entries rows)) None ≡ find place_cmp q (map (placed t) run)
      by_table q true e =
          let same : q.0 ≡ t = eqb-true q.0 t e in
          sym (get-entries rows q) ∙ ap (λ n. get rows (n, q.1)) same ∙ law q.1 ∙ sym (leaf_has (leaf_for t) t q.1 run refl) ∙ ap (λ n. find place_cmp (n, q.1) (map (placed t) run)) (sym same)
      by_table q false e =
          sym (leaf_lacks (leaf_for t) q.0 q.1 run (λ same. (let yes : (q.0 == t) ≡ true = eq-eqb q.0 t (sym same) in absurd cc)))

  abbrev cost : Place → ℕ
  cost place = max (cost_at rows place) (cost_at rows place)

  -- each row costs what it does at its place
  run_cost : (xs ys : List Row) → run ≡ xs ++ ys → sum_by cost (map (λ e. e.0) (map (placed t) ys)) ≡ rows_cost ys
  run_cost xs [] is = refl
  run_cost xs (y ∷ ys) is =
      let up_parts : T (is_sorted by_bytes (xs ++ ((y ∷ []) ++ ys))) = subst (λ (rs : List Row). T (is_sorted by_bytes rs)) is up in
      let here : find by_bytes y.0 (y ∷ []) ≡ Some y.1 = ap (λ o. cond (is_eq o) (Some y.1) None) (tied_itself nat_list_cmp_total y.0) in
      let there : get rows (t, y.0) ≡ Some y.1 = law y.0 ∙ ap (find by_bytes y.0) is ∙ find_inside y.0 y.1 xs (y ∷ []) ys up_parts here in
      let one : cost_at rows (t, y.0) ≡ row_cost y = ap (λ o. unwrap_or (option_map (λ (v : List ℕ). 8 + length y.0 + length v) o) 0) there in
      let both : cost (t, y.0) ≡ row_cost y = omega arith in
      let rest = run_cost (xs ++ y ∷ []) ys (is ∙ sym (append_assoc xs (y ∷ []) ys)) in
      sum_by-cons cost (t, y.0) (map (λ e. e.0) (map (placed t) ys)) ∙ (λ i. both i + rest i) ∙ sym (sum_by-cons row_cost y ys)

  filter_keys : (es : List (Place × List ℕ)) → filter (of_table t) (map (λ e. e.0) es) ≡ map (λ e. e.0) (where_key place_cmp (of_table t) es)
  filter_keys [] = refl
  filter_keys (e ∷ es) = by_test (of_table t e.0) (filter_keys es) where
    by_test : (b : Bool) → filter (of_table t) (map (λ e. e.0) es) ≡ map (λ e. e.0) (where_key place_cmp (of_table t) es)
        → cond b (e.0 ∷ filter (of_table t) (map (λ e. e.0) es)) (filter (of_table t) (map (λ e. e.0) es)) ≡ map (λ e. e.0) (cond b (e ∷ where_key place_cmp (of_table t) es) (where_key place_cmp (of_table t) es))
    by_test true more = ap (λ (ks : List Place). e.0 ∷ ks) more
    by_test false more = more

  -- the rows of the run cost what the space rule counts
  pub cost_of_table : rows_cost run ≡ table_cost rows rows t
  cost_of_table =
      let own : filter (of_table t) (keys rows) ≡ map (λ e. e.0) (map (placed t) run) = filter_keys (entries rows) ∙ ap (map (λ (e : Place × List ℕ). e.0)) entries_are in
      sym (ap (λ (ks : List Place). sum_by cost (filter (of_table t) ks)) (one_of_both rows) ∙ ap (sum_by cost) own ∙ run_cost [] run refl)

-- the catalogue has what the space rule counts for the rows of a table
pub entry_cost : (pages : PageBytes) (r : AreRuns pages) (table : ℕ) (entry : CatalogueEntry) → 1 ≤ table → table ≤ 500 → IsTableRun pages table entry (r.runs table)
    → entry.cost ≡ table_cost (rows_in_pages pages) (rows_in_pages pages) table
entry_cost pages r table entry low high run = run.cost ∙ cost_of_table (rows_in_pages pages) table (run_rows (r.runs table)) run.in_order (λ k. row_there pages r table k low high)

pub page_bound : (pages : PageBytes) (r : AreRuns pages) (table : ℕ) (entry : CatalogueEntry) → 1 ≤ table → table ≤ 500 → IsTableRun pages table entry (r.runs table)
    → entry.pages ≤ table_pages (table_cost (rows_in_pages pages) (rows_in_pages pages) table)
page_bound pages r table entry low high run =
    let same : rows_cost (run_rows (r.runs table)) ≡ table_cost (rows_in_pages pages) (rows_in_pages pages) table = sym run.cost ∙ entry_cost pages r table entry low high run in
    subst (λ (n : ℕ). n ≤ table_pages (table_cost (rows_in_pages pages) (rows_in_pages pages) table)) (sym run.count)
    (leaf_bound pages table (table_cost (rows_in_pages pages) (rows_in_pages pages) table) (r.runs table) run.linked run.filled (omega (arith, same)))
