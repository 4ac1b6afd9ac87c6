-- A change of one table, said of all tables.
--     kinds_differ      no page is both a leaf and the catalogue
--     new_runs      all tables are runs once the entry of the changed one is written
--     new_others      what is left of the others
--     put_map, removed_map      the map of all rows after a row was put or taken out
--     entry_ready      the catalogue can be written
use Rattle.std.proofs.Common.{◌≡◌, refl, sym, ap, subst, ◌∙◌, ℕ, ◌-◌, ◌<◌, ◌≤◌, ◌^◌, Bool, true, false, not, cond, ◌&&◌, List, [], ◌∷◌, map, length, Some, None, IsSome, arith, inl, inr, eqb, eqb-true, eq-eqb, ne_eqb}
use Rattle.std.specs.Prelude.{option_and_then, slice_get, slice_set, Contains, ◌⊎◌, nat_le}
use Rattle.std.proofs.lemmas.Bool.{leb-true, le-leb, eqb-false}
use Rattle.std.specs.declared.cmp.Ordering.{Ordering}
use Rattle.std.specs.declared.cmp.Ordering.TheVariants.{Less, Equal, Greater}
use Rattle.std.specs.Ordering.{nat_cmp, is_eq, eq_by_cmp, ordering_then}
use Rattle.std.specs.Cmp.{tied_itself, nat_cmp_total}
use Rattle.std.specs.Cmp.Lexicographic.{slice_cmp, nat_list_cmp_total}
use Rattle.std.specs.FinMap.{get, find, put, insert, remove, get-insert, get-remove, same_map, nat_cmp-IsAntisymmetric, slice_cmp-IsAntisymmetric}
use Rattle.std.specs.FinMap.Entries.{find-put, find-where_key}
use Rattle.mdb_model.specs.Tables.{Place, place_cmp}
use Rattle.mdb_model.proofs.SerialPlaces.{remove-absent}
use Rattle.mdb_bytes.specs.declared.logical_pages.CatalogueEntry.{CatalogueEntry}
use Rattle.mdb_bytes.specs.declared.logical_pages.Catalogue.{Catalogue}
use Rattle.mdb_bytes.specs.Fields.{number_at}
use Rattle.mdb_bytes.specs.LogicalPages.{catalogue_fields, catalogue_fits, catalogue_format}
use Rattle.mdb_bytes.specs.TablePages.{Row, RowLeaf, row_leaf_fields, row_leaf_fits, row_leaf_format, longest_value}
use Rattle.mdb_bytes.specs.PageReadings.{row_leaf_of, catalogue_of}
use Rattle.mdb_bytes.specs.Paged.{PageBytes}
use Rattle.mdb_bytes.proofs.Decoding.{and_left, and_right, and_both, decoded-spells}
use Rattle.mdb_bytes.proofs.NextRow.{place_total, place_exact}
use Rattle.mdb_bytes.proofs.ReadBack.{byte_in}
use Rattle.row_page.specs.Entries.{by_bytes}
use Rattle.leaf_runs.specs.Edits.{without}
use Rattle.leaf_runs.specs.Runs.{Leaf, run_rows, leaf_at, leaf_value, catalogue_at, first_page, LeafStands, IsChain, IsTableRun, AreRuns, HasEntry, rows_in_pages}
use Rattle.leaf_runs.specs.Loose.{IsFreeOrOf, LeavesOthers}
use Rattle.leaf_runs.specs.Changed.{with_entry, SetsEntry, IsNewRun}
use Rattle.leaf_runs.proofs.RowLists.{turned}
use Rattle.leaf_runs.proofs.RowsLaw.{no_other_rows}
use Rattle.leaf_runs.proofs.Places.{bytes_of_leaf, some_same}
use Rattle.leaf_runs.proofs.Gets.{some_catalogue, chains_of, row_there}
use Rattle.leaf_runs.proofs.EntryWrites.{set_here, set_there}
use Rattle.leaf_runs.proofs.NewRuns.{run_small}

-- no bytes spell both a leaf and the catalogue
pub kinds_differ : (bytes : List ℕ) (leaf : RowLeaf) (catalogue : Catalogue) → row_leaf_of bytes ≡ Some leaf → catalogue_of bytes ≡ Some catalogue → ⊥
unfolding row_leaf_of catalogue_of
kinds_differ bytes leaf catalogue p q =
    let s = decoded-spells (row_leaf_format longest_value) bytes leaf p in
    let t = decoded-spells catalogue_format bytes catalogue q in
    let one : number_at 1 0 bytes ≡ 1 = ap (number_at 1 0) s.1 ∙ byte_in (row_leaf_fields leaf) 0 1 (and_right (row_leaf_fits longest_value leaf) _ s.0) refl in
    let four : number_at 1 0 bytes ≡ 4 = ap (number_at 1 0) t.1 ∙ byte_in (catalogue_fields catalogue) 0 4 (and_right (catalogue_fits catalogue) _ t.0) refl in
    omega arith

pub no_leaf_0 : (pages : PageBytes) (catalogue : Catalogue) (leaf : RowLeaf) → catalogue_at pages ≡ Some catalogue → leaf_at pages 0 ≡ Some leaf → ⊥
no_leaf_0 pages catalogue leaf is there =
    let b = bytes_of_leaf pages 0 leaf there in
    kinds_differ b.0 leaf catalogue b.2 (sym (ap (option_and_then catalogue_of) b.1) ∙ is)

leaf_as : (a b : PageBytes) (number : ℕ) → get b number ≡ get a number → leaf_at b number ≡ leaf_at a number
leaf_as a b number same = ap (option_and_then row_leaf_of) same

-- a page that does not live is no leaf
no_leaf_there : (pages : PageBytes) (number : ℕ) (leaf : RowLeaf) → get pages number ≡ None → leaf_at pages number ≡ Some leaf → ⊥
no_leaf_there pages number leaf none there = let wrong : None ≡ Some leaf = sym (ap (option_and_then row_leaf_of) none) ∙ there in cc

-- a leaf of another table is not one that a change of this one may have made or changed
not_of : (pages : PageBytes) (table number : ℕ) (leaf : RowLeaf) → leaf_at pages number ≡ Some leaf → (leaf.table ≡ table → ⊥) → IsFreeOrOf pages table number → ⊥
not_of pages table number leaf there other (inl none) = no_leaf_there pages number leaf none there
not_of pages table number leaf there other (inr (m, here, of)) = other (ap (λ (l : RowLeaf). l.table) (some_same (leaf_at pages number) leaf m there here) ∙ of)

chain_on : (a b : PageBytes) (table : ℕ) (leaves : List Leaf) → IsChain a table leaves → ((leaf : Leaf) (next : ℕ) → LeafStands a table leaf next → leaf_at b leaf.page ≡ leaf_at a leaf.page) → IsChain b table leaves
chain_on a b table [] chain same = tt
chain_on a b table (l ∷ ls) chain same = (
  record { there = same l (first_page ls) chain.0 ∙ chain.0.there; real = chain.0.real; small = chain.0.small; has_rows = chain.0.has_rows },
  chain_on a b table ls chain.1 same,
)

run_there : (a b : PageBytes) (table : ℕ) (entry : CatalogueEntry) (leaves : List Leaf) → IsTableRun a table entry leaves → ((leaf : Leaf) (next : ℕ) → LeafStands a table leaf next → leaf_at b leaf.page ≡ leaf_at a leaf.page)
    → IsTableRun b table entry leaves
run_there a b table entry leaves run same = record {
  begins = run.begins;
  linked = chain_on a b table leaves run.linked same;
  in_order = run.in_order;
  filled = run.filled;
  count = run.count;
  cost = run.cost;
}

before_apart : (a b : ℕ) → 1 ≤ a → 1 ≤ b → (a ≡ b → ⊥) → a - 1 ≡ b - 1 → ⊥
before_apart a b one one2 apart same = apart (omega arith)

-- Places

tied_place : (q : Place) (table : ℕ) (key : List ℕ) → q.0 ≡ table → eq_by_cmp place_cmp q (table, key) ≡ eq_by_cmp by_bytes q.1 key
tied_place q table key same = ap (λ (o : Ordering). is_eq (ordering_then o (by_bytes q.1 key))) (ap (λ (n : ℕ). nat_cmp n table) same ∙ tied_itself nat_cmp_total table)

apart_place : (q : Place) (table : ℕ) (key : List ℕ) → (q.0 ≡ table → ⊥) → eq_by_cmp place_cmp q (table, key) ≡ false
apart_place q table key apart = by_order (nat_cmp q.0 table) refl where
  by_order : (o : Ordering) → nat_cmp q.0 table ≡ o → is_eq (ordering_then o (slice_cmp nat_cmp q.1 key)) ≡ false
  by_order Less is = refl
  by_order Greater is = refl
  by_order Equal is = absurd (apart (nat_cmp-IsAntisymmetric q.0 table is))

same_either_way : (a b : List ℕ) → eq_by_cmp by_bytes a b ≡ eq_by_cmp by_bytes b a
same_either_way a b = by_order (by_bytes a b) refl where
  by_order : (o : Ordering) → by_bytes a b ≡ o → is_eq o ≡ eq_by_cmp by_bytes b a
  by_order Less is = sym (ap is_eq (turned a b Less is))
  by_order Equal is = sym (ap is_eq (turned a b Equal is))
  by_order Greater is = sym (ap is_eq (turned a b Greater is))

find_without : (key q : List ℕ) (rows : List Row) → find by_bytes q (without key rows) ≡ cond (eq_by_cmp by_bytes q key) None (find by_bytes q rows)
find_without key q rows =
    find-where_key by_bytes (λ other. not (eq_by_cmp by_bytes key other)) q (λ x tie. ap (λ (k : List ℕ). not (eq_by_cmp by_bytes key k)) (sym (slice_cmp-IsAntisymmetric nat_cmp-IsAntisymmetric q x tie))) rows
    ∙ ap (λ (b : Bool). cond (not b) (find by_bytes q rows) None) (same_either_way key q) ∙ by_test (eq_by_cmp by_bytes q key)
  where
    by_test : (b : Bool) → cond (not b) (find by_bytes q rows) None ≡ cond b None (find by_bytes q rows)
    by_test true = refl
    by_test false = refl

module _ (pages pages1 : PageBytes) (r : AreRuns pages) (table : ℕ) (low : 1 ≤ table) (high : table ≤ 500) (rows2 : List Row) (entry2 : CatalogueEntry) (new : IsNewRun pages pages1 table rows2 entry2) where
  -- a change of a table leaves the catalogue
  catalogue_stays : catalogue_at pages1 ≡ catalogue_at pages
  catalogue_stays = by_case (new.others 0) where
    free : IsFreeOrOf pages table 0 → ⊥
    free (inl none) = let wrong : None ≡ Some r.catalogue = sym (ap (option_and_then catalogue_of) none) ∙ r.page_0 in cc
    free (inr (l, there, of)) = no_leaf_0 pages r.catalogue l r.page_0 there

    by_case : (get pages1 0 ≡ get pages 0) ⊎ (IsFreeOrOf pages table 0 × IsFreeOrOf pages1 table 0) → catalogue_at pages1 ≡ catalogue_at pages
    by_case (inl same) = ap (option_and_then catalogue_of) same
    by_case (inr (was, is)) = absurd (free was)

  -- the new entry can be written
  pub entry_ready : IsSome (catalogue_at pages1) × (entry2.cost < 2 ^ 62)
  entry_ready =
      let there : catalogue_at pages1 ≡ Some r.catalogue = catalogue_stays ∙ r.page_0 in
      let small = (run_small pages1 table entry2 new.leaves new.whole.run).1 in
      (subst IsSome (sym there) refl, omega arith)

  module _ (pages2 : PageBytes) (set : SetsEntry pages1 pages2 table entry2) where
    same_catalogue : set.catalogue ≡ r.catalogue
    same_catalogue = some_same (catalogue_at pages1) set.catalogue r.catalogue set.was (catalogue_stays ∙ r.page_0)

    abbrev entries : List CatalogueEntry
    entries = set.catalogue.entries

    inside : table - 1 < length entries
    inside = let len = some_catalogue pages1 set.catalogue set.was in omega arith

    abbrev runs2 : ℕ → List Leaf
    runs2 t = cond (eqb t table) new.leaves (r.runs t)

    runs_here : (t : ℕ) → t ≡ table → runs2 t ≡ new.leaves
    runs_here t same = ap (λ (b : Bool). cond b new.leaves (r.runs t)) (eq-eqb t table same)

    runs_there : (t : ℕ) → (t ≡ table → ⊥) → runs2 t ≡ r.runs t
    runs_there t apart = ap (λ (b : Bool). cond b new.leaves (r.runs t)) (ne_eqb t table apart)

    run_here : IsTableRun pages2 table entry2 new.leaves
    run_here = run_there pages1 pages2 table entry2 new.leaves new.whole.run (λ leaf next stands. leaf_as pages1 pages2 leaf.page (set.others leaf.page (λ zero_is. (let real = stands.real in omega arith))))

    -- a leaf of another table is as it was
    leaf_stays : (t : ℕ) → (t ≡ table → ⊥) → (leaf : Leaf) (next : ℕ) → LeafStands pages t leaf next → leaf_at pages2 leaf.page ≡ leaf_at pages leaf.page
    leaf_stays t apart leaf next stands = by_case (new.others leaf.page) where
      onward : leaf_at pages2 leaf.page ≡ leaf_at pages1 leaf.page
      onward = leaf_as pages1 pages2 leaf.page (set.others leaf.page (λ zero_is. (let real = stands.real in omega arith)))

      by_case : (get pages1 leaf.page ≡ get pages leaf.page) ⊎ (IsFreeOrOf pages table leaf.page × IsFreeOrOf pages1 table leaf.page) → leaf_at pages2 leaf.page ≡ leaf_at pages leaf.page
      by_case (inl same) = onward ∙ leaf_as pages pages1 leaf.page same
      by_case (inr (was, is)) = absurd (not_of pages table leaf.page (leaf_value t leaf next) stands.there apart was)

    tables2 : (t : ℕ) (entry : CatalogueEntry) → 1 ≤ t → t ≤ 500 → slice_get (slice_set entries (table - 1) entry2) (t - 1) ≡ Some entry → IsTableRun pages2 t entry (runs2 t)
    tables2 t entry t_low t_high is = by_test (eqb t table) refl where
      by_test : (b : Bool) → eqb t table ≡ b → IsTableRun pages2 t entry (runs2 t)
      by_test true e =
          let same : t ≡ table = eqb-true t table e in
          let here : entry ≡ entry2 =
          some_same (slice_get (slice_set entries (table - 1) entry2) (t - 1)) entry entry2 is (ap (λ (n : ℕ). slice_get (slice_set entries (table - 1) entry2) (n - 1)) same ∙ set_here entries (table - 1) entry2 inside) in
          let moved : IsTableRun pages2 t entry new.leaves = subst (λ (n : ℕ). IsTableRun pages2 n entry new.leaves) (sym same) (subst (λ (v : CatalogueEntry). IsTableRun pages2 table v new.leaves) (sym here) run_here) in
          subst (IsTableRun pages2 t entry) (sym (runs_here t same)) moved
      by_test false e =
          let apart : t ≡ table → ⊥ = eqb-false t table e in
          let was : slice_get r.catalogue.entries (t - 1) ≡ Some entry =
          ap (λ (v : Catalogue). slice_get v.entries (t - 1)) (sym same_catalogue) ∙ sym (set_there entries (table - 1) (t - 1) entry2 (before_apart t table t_low low apart)) ∙ is in
          subst (IsTableRun pages2 t entry) (sym (runs_there t apart)) (run_there pages pages2 t entry (r.runs t) (r.tables t entry t_low t_high was) (leaf_stays t apart))

    named2 : (number : ℕ) (leaf : RowLeaf) → leaf_at pages2 number ≡ Some leaf → Contains (map (λ (l : Leaf). l.page) (runs2 leaf.table)) number
    named2 number leaf there = by_zero (eqb number 0) refl where
      by_table : leaf_at pages1 number ≡ Some leaf → (b : Bool) → eqb leaf.table table ≡ b → Contains (map (λ (l : Leaf). l.page) (runs2 leaf.table)) number
      by_table there1 true e =
          let same : leaf.table ≡ table = eqb-true leaf.table table e in
          subst (λ (ls : List Leaf). Contains (map (λ (l : Leaf). l.page) ls) number) (sym (runs_here leaf.table same)) (new.whole.named number leaf there1 same)
      by_table there1 false e = by_case (new.others number) where
        apart : leaf.table ≡ table → ⊥
        apart = eqb-false leaf.table table e

        by_case : (get pages1 number ≡ get pages number) ⊎ (IsFreeOrOf pages table number × IsFreeOrOf pages1 table number) → Contains (map (λ (l : Leaf). l.page) (runs2 leaf.table)) number
        by_case (inl same) =
            subst (λ (ls : List Leaf). Contains (map (λ (l : Leaf). l.page) ls) number) (sym (runs_there leaf.table apart)) (r.named number leaf (sym (leaf_as pages pages1 number same) ∙ there1))
        by_case (inr (was, is)) = absurd (not_of pages1 table number leaf there1 apart is)

      by_zero : (b : Bool) → eqb number 0 ≡ b → Contains (map (λ (l : Leaf). l.page) (runs2 leaf.table)) number
      by_zero true e =
          absurd (no_leaf_0 pages2 (with_entry set.catalogue table entry2) leaf set.is_now (ap (leaf_at pages2) (sym (eqb-true number 0 e)) ∙ there))
      by_zero false e = by_table (sym (leaf_as pages1 pages2 number (set.others number (eqb-false number 0 e))) ∙ there) (eqb leaf.table table) refl

    pub new_runs : AreRuns pages2
    new_runs = record { catalogue = with_entry set.catalogue table entry2; page_0 = set.is_now; runs = runs2; tables = tables2; named = named2 }

    pub new_others : LeavesOthers pages pages2 table
    new_others = record { beside = beside; entries = others } where
      beside : (number : ℕ) → (number ≡ 0 → ⊥) → (get pages2 number ≡ get pages number) ⊎ (IsFreeOrOf pages table number × IsFreeOrOf pages2 table number)
      beside number real = by_case (new.others number) where
        onward : get pages2 number ≡ get pages1 number
        onward = set.others number real

        free : IsFreeOrOf pages1 table number → IsFreeOrOf pages2 table number
        free (inl none) = inl (onward ∙ none)
        free (inr (leaf, there, of)) = inr (leaf, leaf_as pages1 pages2 number onward ∙ there, of)

        by_case : (get pages1 number ≡ get pages number) ⊎ (IsFreeOrOf pages table number × IsFreeOrOf pages1 table number) → (get pages2 number ≡ get pages number) ⊎ (IsFreeOrOf pages table number × IsFreeOrOf pages2 table number)
        by_case (inl same) = inl (onward ∙ same)
        by_case (inr (was, is)) = inr (was, free is)

      others : (other : ℕ) (entry : CatalogueEntry) → 1 ≤ other → (other ≡ table → ⊥) → HasEntry pages other entry → HasEntry pages2 other entry
      others other entry one apart has =
          let same : has.0 ≡ set.catalogue = some_same (catalogue_at pages) has.0 set.catalogue has.1 (r.page_0 ∙ ap Some (sym same_catalogue)) in
          (with_entry set.catalogue table entry2, set.is_now, set_there entries (table - 1) (other - 1) entry2 (before_apart other table one low apart) ∙ ap (λ (v : Catalogue). slice_get v.entries (other - 1)) (sym same) ∙ has.2)

    -- Rows

    rows_here : (k : List ℕ) → get (rows_in_pages pages2) (table, k) ≡ find by_bytes k rows2
    unfolding new_runs
    rows_here k = row_there pages2 new_runs table k low high ∙ ap (find by_bytes k) (ap run_rows (runs_here table refl) ∙ new.rows_are)

    rows_there : (t : ℕ) (k : List ℕ) → (t ≡ table → ⊥) → get (rows_in_pages pages2) (t, k) ≡ get (rows_in_pages pages) (t, k)
    unfolding new_runs
    rows_there t k apart = by_test (nat_le 1 t && nat_le t 500) refl where
      by_test : (b : Bool) → (nat_le 1 t && nat_le t 500) ≡ b → get (rows_in_pages pages2) (t, k) ≡ get (rows_in_pages pages) (t, k)
      by_test true e =
          let t_low = leb-true 1 t (and_left (nat_le 1 t) _ e) in
          let t_high = leb-true t 500 (and_right (nat_le 1 t) _ e) in
          row_there pages2 new_runs t k t_low t_high ∙ ap (λ (ls : List Leaf). find by_bytes k (run_rows ls)) (runs_there t apart) ∙ sym (row_there pages r t k t_low t_high)
      by_test false e =
          let outside : (1 ≤ t) × (t ≤ 500) → ⊥ = λ l. (let yes : (nat_le 1 t && nat_le t 500) ≡ true = and_both (nat_le 1 t) (nat_le t 500) (le-leb 1 t l.0) (le-leb t 500 l.1) in let wrong : false ≡ true = sym e ∙ yes in cc) in
          no_other_rows pages2 runs2 (chains_of pages2 new_runs) t k outside ∙ sym (no_other_rows pages r.runs (chains_of pages r) t k outside)

    pub put_map : (key value : List ℕ) → rows2 ≡ put by_bytes key value (run_rows (r.runs table)) → rows_in_pages pages2 ≡ insert (rows_in_pages pages) (table, key) value
    put_map key value is = same_map place_total place_exact (rows_in_pages pages2) (insert (rows_in_pages pages) (table, key) value) (λ q. by_table q (eqb q.0 table) refl ∙ sym (get-insert place_total (rows_in_pages pages) (table, key) value q)) where
      by_table : (q : Place) (b : Bool) → eqb q.0 table ≡ b → get (rows_in_pages pages2) q ≡ cond (eq_by_cmp place_cmp q (table, key)) (Some value) (get (rows_in_pages pages) q)
      by_table q true e =
          let same : q.0 ≡ table = eqb-true q.0 table e in
          ap (λ (t : ℕ). get (rows_in_pages pages2) (t, q.1)) same ∙ rows_here q.1 ∙ ap (find by_bytes q.1) is ∙ find-put by_bytes nat_list_cmp_total q.1 key value (run_rows (r.runs table))
          ∙ (λ i. cond (sym (tied_place q table key same) i) (Some value) (sym (row_there pages r table q.1 low high) i))
          ∙ ap (λ (t : ℕ). cond (eq_by_cmp place_cmp q (table, key)) (Some value) (get (rows_in_pages pages) (t, q.1))) (sym same)
      by_table q false e =
          let apart : q.0 ≡ table → ⊥ = eqb-false q.0 table e in
          rows_there q.0 q.1 apart ∙ ap (λ (b : Bool). cond b (Some value) (get (rows_in_pages pages) q)) (sym (apart_place q table key apart))

    pub removed_map : (key : List ℕ) → rows2 ≡ without key (run_rows (r.runs table)) → rows_in_pages pages2 ≡ remove (rows_in_pages pages) (table, key)
    removed_map key is = same_map place_total place_exact (rows_in_pages pages2) (remove (rows_in_pages pages) (table, key)) (λ q. by_table q (eqb q.0 table) refl ∙ sym (get-remove place_total (rows_in_pages pages) (table, key) q)) where
      by_table : (q : Place) (b : Bool) → eqb q.0 table ≡ b → get (rows_in_pages pages2) q ≡ cond (eq_by_cmp place_cmp q (table, key)) None (get (rows_in_pages pages) q)
      by_table q true e =
          let same : q.0 ≡ table = eqb-true q.0 table e in
          ap (λ (t : ℕ). get (rows_in_pages pages2) (t, q.1)) same ∙ rows_here q.1 ∙ ap (find by_bytes q.1) is ∙ find_without key q.1 (run_rows (r.runs table))
          ∙ (λ i. cond (sym (tied_place q table key same) i) None (sym (row_there pages r table q.1 low high) i))
          ∙ ap (λ (t : ℕ). cond (eq_by_cmp place_cmp q (table, key)) None (get (rows_in_pages pages) (t, q.1))) (sym same)
      by_table q false e =
          let apart : q.0 ≡ table → ⊥ = eqb-false q.0 table e in
          rows_there q.0 q.1 apart ∙ ap (λ (b : Bool). cond b None (get (rows_in_pages pages) q)) (sym (apart_place q table key apart))

-- Nothing changed

pub others_same : (pages pages2 : PageBytes) (table : ℕ) → pages2 ≡ pages → LeavesOthers pages pages2 table
others_same pages pages2 table same = record {
  beside = λ number real. inl (ap (λ (p : PageBytes). get p number) same);
  entries = λ other entry one apart has. subst (λ (p : PageBytes). HasEntry p other entry) (sym same) has;
}

pub removed_absent : (pages pages2 : PageBytes) (table : ℕ) (key : List ℕ) → pages2 ≡ pages → get (rows_in_pages pages) (table, key) ≡ None → rows_in_pages pages2 ≡ remove (rows_in_pages pages) (table, key)
removed_absent pages pages2 table key same none = ap rows_in_pages same ∙ sym (remove-absent (rows_in_pages pages) (table, key) none)

pub runs_same : (pages pages2 : PageBytes) → pages2 ≡ pages → AreRuns pages → AreRuns pages2
runs_same pages pages2 same r = subst AreRuns (sym same) r
