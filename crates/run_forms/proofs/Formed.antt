-- Pages that are a table area are well formed.
--     index_begins, no_index      a leaf is no index page
--     tables_are      each table on its pages
--     in_some_table, of_some_table      the pages of all tables
--     area_formed      the whole map
use Rattle.std.proofs.Common.{◌≡◌, ◌⊎◌, inl, inr, refl, sym, ap, subst, ◌∙◌, ℕ, zero, suc, ◌+◌, ◌-◌, ◌<◌, ◌≤◌, Bool, true, false, T, List, [], ◌∷◌, ◌++◌, map, Option, Some, None, IsSome, is_some, arith, eqb, eqb-true}
use Rattle.std.specs.Prelude.{option_map, option_and_then, unwrap_or, slice_get, Contains, sum_by}
use Rattle.std.specs.List.{flat_map, AllZip, range_with_len}
use Rattle.std.proofs.lemmas.Bool.{eqb-false}
use Rattle.std.proofs.lemmas.List.{length-map, map-append}
use Rattle.std.proofs.lemmas.List.Elements.{Contains-append_left, Contains-append_right, Contains-append_cases}
use Rattle.std.proofs.lemmas.List.FromFn.{length-map-range_with_len, get_or-map-range_with_len}
use Rattle.std.proofs.lemmas.List.Sums.{sum_by-cons}
use Rattle.std.proofs.lemmas.Option.{slice_get_within, get_or_from_slice_get}
use Rattle.std.specs.declared.cmp.Ordering.TheVariants.{Less}
use Rattle.std.specs.Ordering.{nat_cmp}
use Rattle.std.specs.Cmp.Lexicographic.{slice_cmp}
use Rattle.std.specs.FinMap.{get, is_sorted}
use Rattle.mdb_model.specs.Pages.{Page, PageMap}
use Rattle.mdb_bytes.specs.declared.logical_pages.CatalogueEntry.{CatalogueEntry}
use Rattle.mdb_bytes.specs.declared.logical_pages.OpenEntry.{OpenEntry}
use Rattle.mdb_bytes.specs.Fields.{number_at}
use Rattle.mdb_bytes.specs.TablePages.{Row, RowLeaf, IndexPage, index_fields, index_fits, index_format, rows_cost, children_cost}
use Rattle.mdb_bytes.specs.PageReadings.{row_leaf_of, index_of, catalogue_of, open_list_of, page_as}
use Rattle.mdb_bytes.specs.Forms.{Neighbours, IsTable, AreLinked, IsUndoFile, IsWellFormed, FillTwo, first_or_none, keys_on, used_by, cost_of_rows}
use Rattle.mdb_bytes.specs.Paged.{PageBytes}
use Rattle.mdb_bytes.proofs.Decoding.{and_right, decoded-spells}
use Rattle.mdb_bytes.proofs.ReadBack.{byte_in}
use Rattle.row_page.specs.Entries.{by_bytes}
use Rattle.leaf_runs.specs.Runs.{Leaf, run_rows, first_page, leaf_at, leaf_value, IsChain, LeavesFillTwo, IsTableRun}
use Rattle.leaf_runs.specs.TableAreas.{IsTableArea}
use Rattle.leaf_runs.proofs.RowLists.{t_left, t_right, is_less}
use Rattle.leaf_runs.proofs.LeafLaw.{leaf_page_of}
use Rattle.leaf_runs.proofs.RowsLaw.{leaf_on}
use Rattle.leaf_runs.proofs.Places.{bytes_of_leaf}
use Rattle.leaf_runs.proofs.PageBound.{rows_cost-append}
use Rattle.leaf_runs.proofs.Gets.{chains_of, table_limits}
use Rattle.run_forms.specs.Stampless.{bytes_of_pages}
use Rattle.run_forms.proofs.Stampless.{get_bytes, page_as_bytes}
use Rattle.run_forms.proofs.Standing.{leaf_begins}

-- an index page begins with a 2
pub index_begins : (bytes : List ℕ) (page : IndexPage) → index_of bytes ≡ Some page → number_at 1 0 bytes ≡ 2
unfolding index_of
index_begins bytes page is =
    let s = decoded-spells index_format bytes page is in
    ap (number_at 1 0) s.1 ∙ byte_in (index_fields page) 0 2 (and_right (index_fits page) _ s.0) refl

-- a leaf is no index page
pub no_index : (bytes : List ℕ) (leaf : RowLeaf) → row_leaf_of bytes ≡ Some leaf → index_of bytes ≡ None
no_index bytes leaf is = by_index (index_of bytes) refl where
  by_index : (o : Option IndexPage) → index_of bytes ≡ o → o ≡ None
  by_index None none = refl
  by_index (Some page) some = let one = leaf_begins bytes leaf is in let two = index_begins bytes page some in absurd (omega arith)

-- the pages of some leaves
abbrev pub page_numbers : List Leaf → List ℕ
page_numbers leaves = map (λ (leaf : Leaf). leaf.page) leaves

-- the keys of rows in order ascend
pub keys_ascend : (rows : List Row) → T (is_sorted by_bytes rows) → Neighbours (λ a b. slice_cmp nat_cmp a b ≡ Less) (map (λ row. row.0) rows)
keys_ascend [] up = tt
keys_ascend (x ∷ []) up = tt
keys_ascend (x ∷ y ∷ rows) up = (is_less (by_bytes x.0 y.0) (t_left _ _ (t_left _ _ up)), keys_ascend (y ∷ rows) (t_right _ _ up))

-- the same pages live
pub live_bytes : (pages : PageMap) (n : ℕ) → is_some (get (bytes_of_pages pages) n) ≡ is_some (get pages n)
live_bytes pages n = ap is_some (get_bytes pages n) ∙ by_page (get pages n) where
  by_page : (o : Option Page) → is_some (option_map (λ (page : Page). page.bytes) o) ≡ is_some o
  by_page None = refl
  by_page (Some page) = refl

-- A table

module _ (pages : PageMap) where
  -- what a leaf is with its stamp
  leaf_as : (n : ℕ) (leaf : RowLeaf) → leaf_at (bytes_of_pages pages) n ≡ Some leaf → page_as row_leaf_of pages n ≡ Some leaf
  leaf_as n leaf is = page_as_bytes pages row_leaf_of n ∙ is

  -- what the rows of a leaf cost
  pub cost_on : (n : ℕ) (leaf : RowLeaf) → leaf_at (bytes_of_pages pages) n ≡ Some leaf → cost_of_rows pages n ≡ rows_cost leaf.rows
  cost_on n leaf is = ap (λ (o : Option RowLeaf). unwrap_or (option_map (λ leaf. rows_cost leaf.rows) o) 0) (leaf_as n leaf is)

  -- what its page uses
  pub used_on : (n : ℕ) (leaf : RowLeaf) → leaf_at (bytes_of_pages pages) n ≡ Some leaf → used_by pages n ≡ rows_cost leaf.rows
  used_on n leaf is =
      let b = bytes_of_leaf (bytes_of_pages pages) n leaf is in
      let none : page_as index_of pages n ≡ None = page_as_bytes pages index_of n ∙ ap (option_and_then index_of) b.1 ∙ no_index b.0 leaf b.2 in
      let index : unwrap_or (option_map (λ index. children_cost index.children) (page_as index_of pages n)) 0 ≡ 0 = ap (λ (o : Option IndexPage). unwrap_or (option_map (λ index. children_cost index.children) o) 0) none in
      let cost = cost_on n leaf is in
      omega (arith, cost, index)

  -- its keys
  pub keys_of_leaf : (n : ℕ) (leaf : RowLeaf) → leaf_at (bytes_of_pages pages) n ≡ Some leaf → keys_on pages n ≡ map (λ row. row.0) leaf.rows
  keys_of_leaf n leaf is = ap (λ (o : Option RowLeaf). unwrap_or (option_map (λ leaf. map (λ row. row.0) leaf.rows) o) []) (leaf_as n leaf is)

  module _ (table : ℕ) where
    -- a run begins with its first page
    first_same : (leaves : List Leaf) → first_page leaves ≡ first_or_none pages (page_numbers leaves)
    first_same [] = refl
    first_same (l ∷ ls) = refl

    -- a chain is a list of leaves
    linked : (leaves : List Leaf) → IsChain (bytes_of_pages pages) table leaves → AreLinked pages table (page_numbers leaves)
    linked [] chain = tt
    linked (l ∷ ls) chain = (
      record {
        leaf = leaf_value table l (first_page ls);
        there = leaf_as l.page (leaf_value table l (first_page ls)) chain.0.there;
        of_table = refl;
        own_number = refl;
        next_is = first_same ls;
        has_rows = chain.0.has_rows;
      },
      linked ls chain.1,
    )

    -- the keys on its pages are those of its rows
    pub keys_are : (leaves : List Leaf) → IsChain (bytes_of_pages pages) table leaves → flat_map (keys_on pages) (page_numbers leaves) ≡ map (λ row. row.0) (run_rows leaves)
    keys_are [] chain = refl
    keys_are (l ∷ ls) chain =
        (λ i. keys_of_leaf l.page (leaf_value table l (first_page ls)) chain.0.there i ++ keys_are ls chain.1 i) ∙ sym (map-append (λ (row : Row). row.0) l.rows (run_rows ls))

    -- two of its neighbours fill more than a page
    filled : (leaves : List Leaf) → IsChain (bytes_of_pages pages) table leaves → Neighbours LeavesFillTwo leaves → Neighbours (FillTwo pages) (page_numbers leaves)
    filled [] chain two = tt
    filled (l ∷ []) chain two = tt
    filled (l ∷ m ∷ ls) chain two = (
      (let here = used_on l.page (leaf_value table l m.page) chain.0.there in
          let there = used_on m.page (leaf_value table m (first_page ls)) chain.1.0.there in
          let full = two.0 in omega (arith, here, there, full)),
      filled (m ∷ ls) chain.1 two.1,
    )

    -- what its rows cost
    pub cost_are : (leaves : List Leaf) → IsChain (bytes_of_pages pages) table leaves → sum_by (cost_of_rows pages) (page_numbers leaves) ≡ rows_cost (run_rows leaves)
    cost_are [] chain = refl
    cost_are (l ∷ ls) chain =
        sum_by-cons (cost_of_rows pages) l.page (page_numbers ls) ∙ (λ i. cost_on l.page (leaf_value table l (first_page ls)) chain.0.there i + cost_are ls chain.1 i) ∙ sym (rows_cost-append l.rows (run_rows ls))

    -- a chain without a first page is empty
    no_leaves : (leaves : List Leaf) → IsChain (bytes_of_pages pages) table leaves → first_page leaves ≡ 0 → page_numbers leaves ≡ []
    no_leaves [] chain none = refl
    no_leaves (l ∷ ls) chain none = let real = chain.0.real in absurd (omega (arith, real, none))

    -- a run is a table of the map
    pub table_is : (entry : CatalogueEntry) (leaves : List Leaf) → IsTableRun (bytes_of_pages pages) table entry leaves → IsTable pages table entry (page_numbers leaves)
    table_is entry leaves run = record {
      without_rows = λ none. no_leaves leaves run.linked (sym run.begins ∙ none);
      with_rows = λ some. (record {
        begins = sym (first_same leaves) ∙ sym run.begins;
        linked = linked leaves run.linked;
        in_order = subst (Neighbours (λ a b. slice_cmp nat_cmp a b ≡ Less)) (sym (keys_are leaves run.linked)) (keys_ascend (run_rows leaves) run.in_order);
        filled = filled leaves run.linked run.filled;
      });
      count = run.count ∙ sym (length-map leaves (λ (leaf : Leaf). leaf.page));
      cost = run.cost ∙ sym (cost_are leaves run.linked);
    }

-- All tables

-- the table of a leaf is one of the 500
pub table_of : (pages : PageBytes) (n : ℕ) (leaf : RowLeaf) → leaf_at pages n ≡ Some leaf → (1 ≤ leaf.table) × (leaf.table ≤ 500)
table_of pages n leaf is = let b = bytes_of_leaf pages n leaf is in table_limits leaf.table (leaf_page_of b.0 leaf b.2).keeps.table

module _ (f : ℕ → List ℕ) (number : ℕ) where
  -- a page of one table is one of all tables, and the other way round
  pub in_some_table : (a n t : ℕ) → a ≤ t → t < a + n → Contains (f t) number → Contains (flat_map (λ numbers. numbers) (map f (range_with_len a n))) number
  in_some_table a zero t low high c = absurd (omega (arith, low, high))
  in_some_table a (suc n) t low high c = by_first (λ low2. in_some_table (a + 1) n t low2 (omega (arith, high)) c) (eqb a t) refl where
    above : (a ≡ t → ⊥) → a + 1 ≤ t
    above apart = omega (arith, low, apart)

    by_first : (a + 1 ≤ t → Contains (flat_map (λ numbers. numbers) (map f (range_with_len (a + 1) n))) number) → (b : Bool) → eqb a t ≡ b → Contains (f a ++ flat_map (λ numbers. numbers) (map f (range_with_len (a + 1) n))) number
    by_first more true e = Contains-append_left (f a) (flat_map (λ numbers. numbers) (map f (range_with_len (a + 1) n))) number (subst (λ (s : ℕ). Contains (f s) number) (sym (eqb-true a t e)) c)
    by_first more false e = Contains-append_right (f a) (flat_map (λ numbers. numbers) (map f (range_with_len (a + 1) n))) number (more (above (eqb-false a t e)))

  pub of_some_table : (a n : ℕ) → Contains (flat_map (λ numbers. numbers) (map f (range_with_len a n))) number → (t : ℕ) × (a ≤ t) × (t < a + n) × Contains (f t) number
  of_some_table a zero c = let lt = c.1 in absurd (omega (arith, lt))
  of_some_table a (suc n) c = by_case (of_some_table (a + 1) n) (Contains-append_cases (f a) (flat_map (λ numbers. numbers) (map f (range_with_len (a + 1) n))) number c) where
    by_case : (Contains (flat_map (λ numbers. numbers) (map f (range_with_len (a + 1) n))) number → (t : ℕ) × (a + 1 ≤ t) × (t < a + 1 + n) × Contains (f t) number)
        → Contains (f a) number ⊎ Contains (flat_map (λ numbers. numbers) (map f (range_with_len (a + 1) n))) number → (t : ℕ) × (a ≤ t) × (t < a + suc n) × Contains (f t) number
    by_case more (inl here) = (a, omega arith, omega arith, here)
    by_case more (inr later) = let m = more later in let low = m.1 in let high = m.2 in (m.0, omega (arith, low), omega (arith, high), m.3)

module _ (bytes : PageBytes) (area : IsTableArea bytes) where
  -- the pages of a table, and those of all tables
  abbrev pub on_table : ℕ → List ℕ
  on_table table = page_numbers (area.runs.runs table)

  abbrev pub all_numbers : List ℕ
  all_numbers = flat_map (λ numbers. numbers) (map on_table (range_with_len 1 500))

  -- a page that is read is there
  some_lives : {X : Type 0} (reads : List ℕ → Option X) (x : X) (o : Option (List ℕ)) → option_and_then reads o ≡ Some x → is_some o ≡ true
  some_lives reads x None is = absurd cc
  some_lives reads x (Some b) is = refl

  -- the catalogue is there, and so is the open list
  pub zero_lives : is_some (get bytes 0) ≡ true
  zero_lives = some_lives catalogue_of area.runs.catalogue (get bytes 0) area.runs.page_0

  pub one_lives : is_some (get bytes 1) ≡ true
  one_lives = some_lives open_list_of area.sessions (get bytes 1) area.page_1

  -- a leaf is a page of some table, and such a page is there
  pub leaf_named : (n : ℕ) (leaf : RowLeaf) → leaf_at bytes n ≡ Some leaf → Contains all_numbers n
  leaf_named n leaf is =
      let limits = table_of bytes n leaf is in
      let high = limits.1 in
      in_some_table on_table n 1 500 leaf.table limits.0 (omega (arith, high)) (area.runs.named n leaf is)

  -- a page of a table is a leaf of it
  pub leaf_on_table : (table n : ℕ) → 1 ≤ table → table ≤ 500 → Contains (on_table table) n → (leaf : RowLeaf) × (leaf_at bytes n ≡ Some leaf) × (leaf.table ≡ table)
  leaf_on_table table n low high c =
      let on = leaf_on bytes table (area.runs.runs table) n ((chains_of bytes area.runs).linked table low high).0 c in
      (leaf_value table on.1 (first_page on.2), ap (leaf_at bytes) (sym on.4) ∙ on.5.there, refl)

  pub leaf_lives : (n : ℕ) → Contains all_numbers n → is_some (get bytes n) ≡ true
  leaf_lives n c =
      let t = of_some_table on_table n 1 500 c in
      let high = t.2 in
      let leaf = leaf_on_table t.0 n t.1 (omega (arith, high)) t.3 in
      ap is_some (bytes_of_leaf bytes n leaf.0 leaf.1).1

module _ (pages : PageMap) (area : IsTableArea (bytes_of_pages pages)) where
  -- the bytes of the pages
  abbrev bytes : PageBytes
  bytes = bytes_of_pages pages

  -- the pages of a table
  abbrev numbers_on : ℕ → List ℕ
  numbers_on table = on_table bytes area table

  -- each table of the catalogue is one of the map
  tables : (table : ℕ) (entry : CatalogueEntry) (numbers : List ℕ) → slice_get area.runs.catalogue.entries table ≡ Some entry → slice_get (map numbers_on (range_with_len 1 500)) table ≡ Some numbers → IsTable pages (table + 1) entry numbers
  tables table entry numbers is_entry is_numbers =
      let within = slice_get_within (map numbers_on (range_with_len 1 500)) table numbers is_numbers in
      let small : table < 500 = subst (λ (n : ℕ). table < n) (length-map-range_with_len numbers_on 1 500) within in
      let same : numbers ≡ numbers_on (table + 1) = sym (get_or_from_slice_get (map numbers_on (range_with_len 1 500)) table numbers [] is_numbers) ∙ get_or-map-range_with_len numbers_on 1 500 table (table + 1) [] small (omega arith) in
      let before : table + 1 - 1 ≡ table = omega arith in
      let run = area.runs.tables (table + 1) entry (omega arith) (omega (arith, small)) (ap (slice_get area.runs.catalogue.entries) before ∙ is_entry) in
      subst (IsTable pages (table + 1) entry) (sym same) (table_is pages (table + 1) entry (area.runs.runs (table + 1)) run)

  -- the map is well formed
  pub area_formed : IsWellFormed pages
  area_formed = record {
    catalogue = area.runs.catalogue;
    open_list = area.sessions;
    page_0 = page_as_bytes pages catalogue_of 0 ∙ area.runs.page_0;
    page_1 = page_as_bytes pages open_list_of 1 ∙ area.page_1;
    table_pages = map numbers_on (range_with_len 1 500);
    undo_files = [];
    tables = tables;
    all_tables = length-map-range_with_len numbers_on 1 500;
    undo = subst (λ (xs : List OpenEntry). AllZip (IsUndoFile pages) xs []) (sym area.no_session) tt;
    apart = refl;
    named = λ number. (
      λ there. (elim (area.named number (live_bytes pages number ∙ there)) [
        | inl z ↦ inl z
        | inr more ↦ elim more [ inl o ↦ inr (inl o) | inr leaf ↦ inr (inr (inl (leaf_named bytes area number leaf.0 leaf.1))) ]
      ]),
      λ named. elim named [
        | inl z ↦ subst (λ (k : ℕ). IsSome (get pages k)) (sym z) (sym (live_bytes pages 0) ∙ zero_lives bytes area)
        | inr more ↦ elim more [
          | inl o ↦ subst (λ (k : ℕ). IsSome (get pages k)) (sym o) (sym (live_bytes pages 1) ∙ one_lives bytes area)
          | inr others ↦ elim others [ inl a ↦ sym (live_bytes pages number) ∙ leaf_lives bytes area number a | inr b ↦ absurd (omega (arith, b.1)) ]
        ]
      ],
    );
  }
