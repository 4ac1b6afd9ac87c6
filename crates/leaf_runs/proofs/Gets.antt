-- What a table has, by its catalogue entry and its run.
--     table_run      the run of a table, by its entry
--     has_leaves, no_leaves      whether a table has rows
--     spot_leaf, spot_row      the leaf where a key stands, and its row
--     chains_of      the runs of all tables, apart from the catalogue
use Rattle.std.proofs.Common.{◌≡◌, refl, sym, ap, subst, ◌∙◌, ℕ, ◌-◌, ◌<◌, ◌≤◌, Bool, true, false, not, T, List, [], ◌∷◌, ◌++◌, length, get_or, Option, Some, None, arith, append_assoc, inl, inr}
use Rattle.std.specs.Prelude.{option_and_then, slice_get, IsTrue, nat_le, ◌⊎◌}
use Rattle.std.specs.declared.cmp.Ordering.TheVariants.{Less, Greater}
use Rattle.std.specs.Ordering.{is_gt}
use Rattle.std.proofs.lemmas.Bool.{leb-true}
use Rattle.mdb_model.specs.Script.{is_table}
use Rattle.mdb_bytes.specs.Held.{IsFoundRow, next_row, IsNextRow}
use Rattle.std.specs.FinMap.{get, find}
use Rattle.std.specs.FinMap.Entries.{below_all}
use Rattle.mdb_bytes.specs.declared.logical_pages.CatalogueEntry.{CatalogueEntry}
use Rattle.mdb_bytes.specs.declared.logical_pages.Catalogue.{Catalogue}
use Rattle.mdb_bytes.specs.LogicalPages.{catalogue_format}
use Rattle.mdb_bytes.specs.TablePages.{Row, RowLeaf}
use Rattle.mdb_bytes.specs.PageReadings.{catalogue_of}
use Rattle.mdb_bytes.specs.Paged.{PageBytes}
use Rattle.mdb_bytes.proofs.Decoding.{decoded-spells, and_left, and_right}
use Rattle.row_page.specs.Entries.{by_bytes}
use Rattle.sorted_places.specs.First.{IsFirst}
use Rattle.sorted_places.proofs.NextRow.{next_of_first}
use Rattle.leaf_runs.specs.Behind.{not_behind, IsFirstAfter}
use Rattle.leaf_runs.specs.Runs.{Leaf, run_rows, first_page, leaf_at, leaf_value, catalogue_at, LeafStands, IsChain, IsTableRun, AreRuns, HasEntry, HasRunLeaf, HasTwoLeaves, IsRowScanned, IsSpot, rows_in_pages}
use Rattle.leaf_runs.proofs.RowLists.{find-front, find-back, t_left, is_less, turned, from_true, to_true, below_both, below_right}
use Rattle.leaf_runs.proofs.Scans.{first_in, none_in, behind_both, from_lower}
use Rattle.leaf_runs.proofs.Chains.{run_rows-append, chain_right}
use Rattle.leaf_runs.proofs.Places.{run_leaf_there, some_same, catalogue_len, got_at}
use Rattle.leaf_runs.proofs.RowsLaw.{AreChains, row_law}

pub some_catalogue : (pages : PageBytes) (catalogue : Catalogue) → catalogue_at pages ≡ Some catalogue → length catalogue.entries ≡ 500
unfolding catalogue_of
some_catalogue pages catalogue is = by_bytes_of (get pages 0) is where
  by_bytes_of : (o : Option (List ℕ)) → option_and_then catalogue_of o ≡ Some catalogue → length catalogue.entries ≡ 500
  by_bytes_of None is = absurd cc
  by_bytes_of (Some bytes) is = catalogue_len bytes catalogue (decoded-spells catalogue_format bytes catalogue is)

pub no_entry : CatalogueEntry
no_entry = record { root = 0; pages = 0; cost = 0 }

pub chains_of : (pages : PageBytes) (r : AreRuns pages) → AreChains pages r.runs
chains_of pages r = record {
  linked = λ table low high. (let len = some_catalogue pages r.catalogue r.page_0 in
      let inside : table - 1 < length r.catalogue.entries = omega arith in
      let run = r.tables table (get_or r.catalogue.entries (table - 1) no_entry) low high (got_at r.catalogue.entries (table - 1) no_entry inside) in (run.linked, run.in_order));
  named = r.named;
}

module _ (pages : PageBytes) (table : ℕ) (entry : CatalogueEntry) where
  pub table_run : (r : AreRuns pages) → 1 ≤ table → table ≤ 500 → HasEntry pages table entry → IsTableRun pages table entry (r.runs table)
  table_run r low high e =
      let same : e.0 ≡ r.catalogue = some_same (catalogue_at pages) e.0 r.catalogue e.1 r.page_0 in
      r.tables table entry low high (subst (λ (c : Catalogue). slice_get c.entries (table - 1) ≡ Some entry) same e.2)

  module _ (leaves : List Leaf) (run : IsTableRun pages table entry leaves) where
    pub has_leaves : (entry.root ≡ 0 → ⊥) → 0 < length leaves
    has_leaves root = by_leaves leaves refl where
      by_leaves : (ls : List Leaf) → leaves ≡ ls → 0 < length ls
      by_leaves [] is = absurd (root (run.begins ∙ ap first_page is))
      by_leaves (l ∷ ls) is = omega arith

    pub no_leaves : entry.root ≡ 0 → run_rows leaves ≡ []
    no_leaves root = by_leaves leaves run.linked (sym run.begins ∙ root) where
      by_leaves : (ls : List Leaf) → IsChain pages table ls → first_page ls ≡ 0 → run_rows ls ≡ []
      by_leaves [] chain none = refl
      by_leaves (l ∷ ls) chain none = let real = chain.0.real in absurd (omega arith)

    module _ (key : List ℕ) (before : Option ℕ) (page : ℕ) (spot : IsSpot leaves key before page) where
      pub spot_stands : LeafStands pages table spot.here (first_page spot.back) × IsChain pages table spot.back
      spot_stands = chain_right pages table spot.front (spot.here ∷ spot.back) (subst (IsChain pages table) spot.whole run.linked)

      pub spot_leaf : HasRunLeaf pages table page
      spot_leaf = subst (HasRunLeaf pages table) spot.page_is (run_leaf_there pages table (first_page spot.back) spot.here spot_stands.0)

      pub spot_value : (leaf : RowLeaf) → leaf_at pages page ≡ Some leaf → leaf ≡ leaf_value table spot.here (first_page spot.back)
      spot_value leaf is = some_same (leaf_at pages page) leaf _ is (subst (λ (n : ℕ). leaf_at pages n ≡ Some (leaf_value table spot.here (first_page spot.back))) spot.page_is spot_stands.0.there)

      pub spot_parts : run_rows leaves ≡ run_rows spot.front ++ (spot.here.rows ++ run_rows spot.back)
      spot_parts = ap run_rows spot.whole ∙ run_rows-append spot.front (spot.here ∷ spot.back)

      -- the row of the key is the one that the leaf has
      pub spot_row : (leaf : RowLeaf) → leaf_at pages page ≡ Some leaf → find by_bytes key leaf.rows ≡ find by_bytes key (run_rows leaves)
      spot_row leaf is =
          ap (λ (v : RowLeaf). find by_bytes key v.rows) (spot_value leaf is)
          ∙ sym (ap (find by_bytes key) spot_parts ∙ find-front key (run_rows spot.front) (spot.here.rows ++ run_rows spot.back) spot.lower ∙ find-back key spot.here.rows (run_rows spot.back) spot.higher)

-- what a table has at a key
pub row_there : (pages : PageBytes) (r : AreRuns pages) (table : ℕ) (key : List ℕ) → 1 ≤ table → table ≤ 500 → get (rows_in_pages pages) (table, key) ≡ find by_bytes key (run_rows (r.runs table))
row_there pages r table key low high = row_law pages r.runs (chains_of pages r) table key low high

pub table_limits : (n : ℕ) → IsTrue (is_table n) → (1 ≤ n) × (n ≤ 500)
table_limits n t = (leb-true 1 n (and_left (nat_le 1 n) _ t), leb-true n 500 (and_right (nat_le 1 n) _ t))

pub row_as : (found : Bool) (a b : Option (List ℕ)) (items : List ℕ) → a ≡ b → IsFoundRow found a items → IsFoundRow found b items
row_as found a b items same is = subst (λ (o : Option (List ℕ)). IsFoundRow found o items) same is

pub run_on : (pages pages2 : PageBytes) (table : ℕ) (entry : CatalogueEntry) (leaves : List Leaf) → pages2 ≡ pages → IsTableRun pages table entry leaves → IsTableRun pages2 table entry leaves
run_on pages pages2 table entry leaves same run = subst (λ (p : PageBytes). IsTableRun p table entry leaves) (sym same) run

pub leaf_on_same : (pages pages2 : PageBytes) (table page : ℕ) → pages2 ≡ pages → HasRunLeaf pages table page → HasRunLeaf pages2 table page
leaf_on_same pages pages2 table page same h = subst (λ (p : PageBytes). HasRunLeaf p table page) (sym same) h

-- Scans

chain_none : (pages : PageBytes) (table : ℕ) (back : List Leaf) → IsChain pages table back → first_page back ≡ 0 → run_rows back ≡ []
chain_none pages table [] chain none = refl
chain_none pages table (l ∷ ls) chain none = let real = chain.0.real in absurd (omega arith)

-- rows of a list that begins with greater keys are after
not_all : (after : List ℕ) (xs ys : List Row) → 0 < length xs → T (below_all by_bytes after (xs ++ ys)) → not_behind after xs ≡ true → ⊥
not_all after [] ys some high low = omega arith
not_all after (x ∷ xs) ys some high low =
    let more : by_bytes x.0 after ≡ Greater = turned after x.0 Less (is_less (by_bytes after x.0) (t_left _ _ high)) in
    let here : not (is_gt (by_bytes x.0 after)) ≡ true = to_true _ (t_left _ _ (from_true _ low)) in
    let wrong : false ≡ true = sym (ap (λ o. not (is_gt o)) more) ∙ here in
    cc

module _ (pages : PageBytes) (table : ℕ) (entry : CatalogueEntry) (leaves : List Leaf) (run : IsTableRun pages table entry leaves) (after : List ℕ) (before : Option ℕ) (page : ℕ) (spot : IsSpot leaves after before page) where
  abbrev rf : List Row
  rf = run_rows spot.front

  abbrev rb : List Row
  rb = run_rows spot.back

  front_low : not_behind after rf ≡ true
  front_low = from_lower after rf spot.lower

  parts : run_rows leaves ≡ rf ++ (spot.here.rows ++ rb)
  parts = spot_parts pages table entry leaves run after before page spot

  chain : LeafStands pages table spot.here (first_page spot.back) × IsChain pages table spot.back
  chain = spot_stands pages table entry leaves run after before page spot

  value : (leaf : RowLeaf) → leaf_at pages page ≡ Some leaf → leaf ≡ leaf_value table spot.here (first_page spot.back)
  value = spot_value pages table entry leaves run after before page spot

  -- the next leaf is one of the table
  pub spot_next : (leaf : RowLeaf) → leaf_at pages page ≡ Some leaf → (leaf.next ≡ 0 → ⊥) → HasRunLeaf pages table leaf.next
  spot_next leaf is more = by_back spot.back chain.1 (ap (λ (v : RowLeaf). v.next) (value leaf is)) where
    by_back : (back : List Leaf) → IsChain pages table back → leaf.next ≡ first_page back → HasRunLeaf pages table leaf.next
    by_back [] c none = absurd (more none)
    by_back (l ∷ ls) c same = subst (HasRunLeaf pages table) (sym same) (run_leaf_there pages table (first_page ls) l c.0)

  -- what was scanned is the first row of the table after the key
  pub scan_first : (found : Bool) (key value_of_key : List ℕ) → IsRowScanned pages page after found key value_of_key → IsFirst (λ k. find by_bytes k (run_rows leaves)) after found key value_of_key
  scan_first found key v s = by_case s.scanned where
    same : s.leaf ≡ leaf_value table spot.here (first_page spot.back)
    same = value s.leaf s.there

    rows : s.leaf.rows ≡ spot.here.rows
    rows = ap (λ (v : RowLeaf). v.rows) same

    here_found : IsFirstAfter true s.leaf.rows after key v → IsFirst (λ k. find by_bytes k (run_rows leaves)) after true key v
    here_found b =
        first_in (run_rows leaves) (rf ++ b.0) (b.1 ++ rb) after key v
        (parts ∙ ap (λ (t : List Row). rf ++ (t ++ rb)) (sym rows ∙ b.2) ∙ ap (λ (t : List Row). rf ++ t) (append_assoc b.0 ((key, v) ∷ b.1) rb) ∙ sym (append_assoc rf b.0 ((key, v) ∷ (b.1 ++ rb))))
        run.in_order (behind_both after rf b.0 front_low b.3) (below_both after ((key, v) ∷ b.1) rb b.4 spot.higher)

    at_end : not_behind after s.leaf.rows ≡ true → s.leaf.next ≡ 0 → IsFirst (λ k. find by_bytes k (run_rows leaves)) after false key v
    at_end low none =
        let empty : rb ≡ [] = chain_none pages table spot.back chain.1 (sym (ap (λ (v : RowLeaf). v.next) same) ∙ none) in
        let all : not_behind after (rf ++ (spot.here.rows ++ rb)) ≡ true =
        behind_both after rf (spot.here.rows ++ rb) front_low
        (behind_both after spot.here.rows rb (subst (λ (t : List Row). not_behind after t ≡ true) rows low) (subst (λ (t : List Row). not_behind after t ≡ true) (sym empty) refl)) in
        none_in (run_rows leaves) after key v (subst (λ (t : List Row). not_behind after t ≡ true) (sym parts) all)

    next_one : not_behind after s.leaf.rows ≡ true → (s.leaf.next ≡ 0 → ⊥) → (next : RowLeaf) → leaf_at pages s.leaf.next ≡ Some next → IsFirstAfter found next.rows after key v
        → (back : List Leaf) → spot.back ≡ back → IsChain pages table back → T (below_all by_bytes after (run_rows back)) → IsFirst (λ k. find by_bytes k (run_rows leaves)) after found key v
    next_one low more next there b [] is c high = absurd (more (ap (λ (v : RowLeaf). v.next) same ∙ ap first_page is))
    next_one low more next there b (l ∷ ls) is c high = by_found found b where
      next_is : next ≡ leaf_value table l (first_page ls)
      next_is = some_same (leaf_at pages s.leaf.next) next _ there (ap (leaf_at pages) (ap (λ (v : RowLeaf). v.next) same ∙ ap first_page is) ∙ c.0.there)

      next_rows : next.rows ≡ l.rows
      next_rows = ap (λ (v : RowLeaf). v.rows) next_is

      low_here : not_behind after spot.here.rows ≡ true
      low_here = subst (λ (t : List Row). not_behind after t ≡ true) rows low

      by_found : (found : Bool) → IsFirstAfter found next.rows after key v → IsFirst (λ k. find by_bytes k (run_rows leaves)) after found key v
      by_found false none = absurd (not_all after l.rows (run_rows ls) c.0.has_rows high (subst (λ (t : List Row). not_behind after t ≡ true) next_rows none))
      by_found true b =
          first_in (run_rows leaves) (rf ++ (spot.here.rows ++ b.0)) (b.1 ++ run_rows ls) after key v
          (parts ∙ ap (λ (t : List Leaf). rf ++ (spot.here.rows ++ run_rows t)) is
          ∙ ap (λ (t : List Row). rf ++ (spot.here.rows ++ (t ++ run_rows ls))) (sym next_rows ∙ b.2)
          ∙ ap (λ (t : List Row). rf ++ (spot.here.rows ++ t)) (append_assoc b.0 ((key, v) ∷ b.1) (run_rows ls))
          ∙ ap (λ (t : List Row). rf ++ t) (sym (append_assoc spot.here.rows b.0 ((key, v) ∷ (b.1 ++ run_rows ls))))
          ∙ sym (append_assoc rf (spot.here.rows ++ b.0) ((key, v) ∷ (b.1 ++ run_rows ls))))
          run.in_order (behind_both after rf (spot.here.rows ++ b.0) front_low (behind_both after spot.here.rows b.0 low_here b.3))
          (below_both after ((key, v) ∷ b.1) (run_rows ls) b.4 (below_right after l.rows (run_rows ls) high))

    by_case : ((found ≡ true) × IsFirstAfter true s.leaf.rows after key v)
        ⊎ ((not_behind after s.leaf.rows ≡ true) × (((found ≡ false) × (s.leaf.next ≡ 0))
        ⊎ ((s.leaf.next ≡ 0 → ⊥) × ((next : RowLeaf) × (leaf_at pages s.leaf.next ≡ Some next) × IsFirstAfter found next.rows after key v))))
        → IsFirst (λ k. find by_bytes k (run_rows leaves)) after found key v
    by_case (inl f) = subst (λ (b : Bool). IsFirst (λ k. find by_bytes k (run_rows leaves)) after b key v) (sym f.0) (here_found f.1)
    by_case (inr (low, inl e)) = subst (λ (b : Bool). IsFirst (λ k. find by_bytes k (run_rows leaves)) after b key v) (sym e.0) (at_end low e.1)
    by_case (inr (low, inr e)) = next_one low e.0 e.1.0 e.1.1 e.1.2 spot.back refl chain.1 spot.higher

-- the first row of a table, said of all rows
pub first_of_all : (pages : PageBytes) (r : AreRuns pages) (table : ℕ) (after : List ℕ) (found : Bool) (key value : List ℕ) → 1 ≤ table → table ≤ 500
    → IsFirst (λ k. find by_bytes k (run_rows (r.runs table))) after found key value → IsNextRow found (next_row (rows_in_pages pages) table after) key value
first_of_all pages r table after found key value low high is = next_of_first (rows_in_pages pages) table after found key value (by_found found is) where
  by_found : (found : Bool) → IsFirst (λ k. find by_bytes k (run_rows (r.runs table))) after found key value → IsFirst (λ k. get (rows_in_pages pages) (table, k)) after found key value
  by_found true is = (is.0, row_there pages r table key low high ∙ is.1, λ k more less. row_there pages r table k low high ∙ is.2 k more less)
  by_found false is = λ k more. row_there pages r table k low high ∙ is k more

pub scanned_on : (pages pages2 : PageBytes) (page : ℕ) (after : List ℕ) (found : Bool) (key value : List ℕ) → pages2 ≡ pages → IsRowScanned pages2 page after found key value → IsRowScanned pages page after found key value
scanned_on pages pages2 page after found key value same h = subst (λ (p : PageBytes). IsRowScanned p page after found key value) same h

pub two_leaves : (pages pages2 : PageBytes) (table : ℕ) (entry : CatalogueEntry) (leaves : List Leaf) (run : IsTableRun pages table entry leaves) (after : List ℕ) (before : Option ℕ) (page : ℕ) (spot : IsSpot leaves after before page) → pages2 ≡ pages
    → HasTwoLeaves pages2 table page
two_leaves pages pages2 table entry leaves run after before page spot same =
    let both : HasTwoLeaves pages table page = (spot_leaf pages table entry leaves run after before page spot, spot_next pages table entry leaves run after before page spot) in
    subst (λ (p : PageBytes). HasTwoLeaves p table page) (sym same) both
