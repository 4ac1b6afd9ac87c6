-- Pages that are well formed and have no undo pages are a table area.
--     none_undo      no page spells an undo page where none is counted
--     no_entries      the open list has no entries then
--     sorted_again      rows whose keys ascend are in order
--     area_from_form      the whole map
use Rattle.std.proofs.Common.{◌≡◌, ◌⊎◌, inl, inr, refl, sym, ap, subst, ◌∙◌, ℕ, zero, suc, ◌+◌, ◌-◌, ◌<◌, ◌≤◌, Bool, true, false, cond, ◌&&◌, T, List, [], ◌∷◌, map, length, get_or, Option, Some, None, IsSome, is_some, arith, eqb, eqb-true}
use Rattle.std.specs.Prelude.{option_map, option_and_then, unwrap_or, slice_get, Contains, sum_by, count_by, nat_le}
use Rattle.std.specs.List.{flat_map, AllZip, range_with_len, list_all}
use Rattle.std.proofs.lemmas.Bool.{eqb-false, leb-true}
use Rattle.std.proofs.lemmas.List.{length-map}
use Rattle.std.proofs.lemmas.List.Elements.{Contains-append_cases}
use Rattle.std.proofs.lemmas.List.FromFn.{length-range_with_len}
use Rattle.std.proofs.lemmas.List.Sums.{sum_by-cons}
use Rattle.std.proofs.lemmas.Option.{slice_get-get_or}
use Rattle.std.specs.declared.cmp.Ordering.TheVariants.{Less}
use Rattle.std.specs.Ordering.{nat_cmp, is_lt, eq_by_cmp}
use Rattle.std.specs.Cmp.Lexicographic.{slice_cmp}
use Rattle.std.specs.FinMap.{get, find, is_sorted, entries, get-entries}
use Rattle.mdb_model.specs.Pages.{Page, PageMap}
use Rattle.mdb_bytes.specs.declared.logical_pages.CatalogueEntry.{CatalogueEntry}
use Rattle.mdb_bytes.specs.declared.logical_pages.OpenEntry.{OpenEntry}
use Rattle.mdb_bytes.specs.declared.logical_pages.OpenList.{OpenList}
use Rattle.mdb_bytes.specs.LogicalPages.{open_entry_fits, open_list_fits, open_list_format}
use Rattle.mdb_bytes.specs.Parts.{ascend_from}
use Rattle.mdb_bytes.specs.TablePages.{Row, RowLeaf}
use Rattle.mdb_bytes.specs.UndoPages.{UndoPage}
use Rattle.mdb_bytes.specs.PageReadings.{row_leaf_of, catalogue_of, open_list_of, undo_page_of, page_as, undo_page_count}
use Rattle.mdb_bytes.specs.Forms.{Neighbours, IsTable, IsLeafRun, AreLinked, IsUndoFile, IsWellFormed, FillTwo, first_or_none, keys_on, cost_of_rows}
use Rattle.mdb_bytes.specs.Paged.{PageBytes}
use Rattle.mdb_bytes.proofs.Decoding.{and_left, and_right, decoded-spells}
use Rattle.row_page.specs.Entries.{by_bytes}
use Rattle.leaf_runs.specs.Runs.{Leaf, run_rows, first_page, leaf_at, leaf_value, catalogue_at, LeafStands, IsChain, LeavesFillTwo, IsTableRun}
use Rattle.leaf_runs.specs.TableAreas.{IsTableArea, open_list_at}
use Rattle.leaf_runs.proofs.RowLists.{t_left, t_both, below_through}
use Rattle.leaf_runs.proofs.Places.{some_same}
use Rattle.leaf_runs.proofs.Gets.{some_catalogue, no_entry}
use Rattle.leaf_runs.proofs.Changes.{no_leaf_0}
use Rattle.leaf_runs.proofs.TableAreas.{no_leaf_1}
use Rattle.run_forms.specs.Stampless.{bytes_of_pages}
use Rattle.run_forms.proofs.Stampless.{page_as_bytes}
use Rattle.run_forms.proofs.Formed.{page_numbers, cost_are, keys_are, used_on, live_bytes}

-- Undo pages

-- whether a page is an undo page
abbrev is_undo : Page → Bool
is_undo page = is_some (undo_page_of page.bytes)

-- where no entry is counted as an undo page, none that is found is one
none_counted : (n : ℕ) (page : Page) (es : List (ℕ × Page)) → count_by is_undo (map (λ e. e.1) es) ≡ 0 → find nat_cmp n es ≡ Some page → is_undo page ≡ false
none_counted n page [] none there = absurd cc
none_counted n page (e ∷ es) none there = by_test (eq_by_cmp nat_cmp n e.0) (none_counted n page es) there where
  count : cond (is_undo e.1) 1 0 + count_by is_undo (map (λ e. e.1) es) ≡ 0
  count = sym (sum_by-cons (λ (page : Page). cond (is_undo page) 1 0) e.1 (map (λ e. e.1) es)) ∙ none

  rest : count_by is_undo (map (λ e. e.1) es) ≡ 0
  rest = omega (arith, count)

  first : (b : Bool) (k : ℕ) → cond b 1 0 + k ≡ 0 → b ≡ false
  first false k z = refl
  first true k z = absurd (omega (arith, z))

  by_test : (b : Bool) → (count_by is_undo (map (λ e. e.1) es) ≡ 0 → find nat_cmp n es ≡ Some page → is_undo page ≡ false) → cond b (Some e.1) (find nat_cmp n es) ≡ Some page → is_undo page ≡ false
  by_test false more there = more rest there
  by_test true more there = let same : e.1 ≡ page = some_same (Some e.1) e.1 page refl there in ap is_undo (sym same) ∙ first (is_undo e.1) (count_by is_undo (map (λ e. e.1) es)) count

-- where no undo page is counted, no page of the map is one
pub none_undo : (pages : PageMap) → undo_page_count pages ≡ 0 → (n : ℕ) (undo : UndoPage) → page_as undo_page_of pages n ≡ Some undo → ⊥
none_undo pages none n undo is = by_page (get pages n) refl is where
  by_page : (o : Option Page) → get pages n ≡ o → option_and_then (λ page. undo_page_of page.bytes) o ≡ Some undo → ⊥
  by_page None there is = absurd cc
  by_page (Some page) there is =
      let no : is_undo page ≡ false = none_counted n page (entries pages) none (sym (get-entries pages n) ∙ there) in
      let wrong : false ≡ true = sym no ∙ ap is_some is in
      cc

-- each entry of an open list has changes
entries_fit : (bytes : List ℕ) (sessions : OpenList) → open_list_of bytes ≡ Some sessions → list_all open_entry_fits sessions.entries.items ≡ true
unfolding open_list_of
entries_fit bytes sessions is =
    let s = decoded-spells open_list_format bytes sessions is in
    let most = nat_le (length sessions.entries.items) 64 in
    let each = list_all open_entry_fits sessions.entries.items in
    and_right most each (and_left (most && each) (ascend_from 0 (map (λ (e : OpenEntry). e.session) sessions.entries.items)) (and_left (open_list_fits sessions) _ s.0))

module _ (pages : PageMap) (none : undo_page_count pages ≡ 0) where
  -- there is no undo file without undo pages
  no_file : (entry : OpenEntry) (file : List UndoPage) → open_entry_fits entry ≡ true → IsUndoFile pages entry file → ⊥
  no_file entry [] fits u =
      let some : 1 ≤ entry.count = leb-true 1 entry.count (and_right (nat_le 1 entry.session && nat_le entry.session 64) (nat_le 1 entry.count) fits) in
      let len : 0 ≡ length (range_with_len 1 entry.count) = ap length u.numbered in
      let count = length-range_with_len 1 entry.count in
      omega (arith, some, len, count)
  no_file entry (page ∷ before) fits u = none_undo pages none entry.last_page page u.linked.0

  -- an open list without undo files has no entries
  no_entries : (items : List OpenEntry) (files : List (List UndoPage)) → list_all open_entry_fits items ≡ true → AllZip (IsUndoFile pages) items files → (items ≡ []) × (files ≡ [])
  no_entries [] [] fits all = (refl, refl)
  no_entries [] (f ∷ fs) fits all = absurd all
  no_entries (e ∷ es) [] fits all = absurd all
  no_entries (e ∷ es) (f ∷ fs) fits all = absurd (no_file e f (and_left (open_entry_fits e) (list_all open_entry_fits es) fits) all.0)

-- Rows

-- rows whose neighbours ascend are in order
pub sorted_again : (rows : List Row) → Neighbours (λ a b. slice_cmp nat_cmp a b ≡ Less) (map (λ row. row.0) rows) → T (is_sorted by_bytes rows)
sorted_again [] up = tt
sorted_again (x ∷ []) up = tt
sorted_again (x ∷ y ∷ rows) up =
    let rest = sorted_again (y ∷ rows) up.1 in
    let first : T (is_lt (by_bytes x.0 y.0)) = subst (λ o. T (is_lt o)) (sym up.0) tt in
    t_both _ _ (t_both _ _ first (below_through x.0 y.0 rows up.0 (t_left _ _ rest))) rest

-- Members

module _ (n : ℕ) where
  -- a number of some lists is in one of them
  of_lists : (xss : List (List ℕ)) → Contains (flat_map (λ numbers. numbers) xss) n → (i : ℕ) × (i < length xss) × Contains (get_or xss i []) n
  of_lists [] c = let lt = c.1 in absurd (omega (arith, lt))
  of_lists (xs ∷ xss) c = by_case (of_lists xss) (Contains-append_cases xs (flat_map (λ numbers. numbers) xss) n c) where
    by_case : (Contains (flat_map (λ numbers. numbers) xss) n → (i : ℕ) × (i < length xss) × Contains (get_or xss i []) n) → Contains xs n ⊎ Contains (flat_map (λ numbers. numbers) xss) n
        → (i : ℕ) × (i < length (xs ∷ xss)) × Contains (get_or (xs ∷ xss) i []) n
    by_case more (inl here) = (0, omega arith, here)
    by_case more (inr later) = let m = more later in let lt = m.1 in (suc m.0, omega (arith, lt), m.2)

  -- a page of a list of leaves is a leaf of its table
  of_linked : (pages : PageMap) (table : ℕ) (ns : List ℕ) → AreLinked pages table ns → Contains ns n → (leaf : RowLeaf) × (page_as row_leaf_of pages n ≡ Some leaf) × (leaf.table ≡ table)
  of_linked pages table [] linked c = let lt = c.1 in absurd (omega (arith, lt))
  of_linked pages table (m ∷ ms) linked c = by_index c.0 c.1 c.2 (of_linked pages table ms linked.1) where
    by_index : (i : ℕ) → i < length (m ∷ ms) → get_or (m ∷ ms) i n ≡ n → (Contains ms n → (leaf : RowLeaf) × (page_as row_leaf_of pages n ≡ Some leaf) × (leaf.table ≡ table))
        → (leaf : RowLeaf) × (page_as row_leaf_of pages n ≡ Some leaf) × (leaf.table ≡ table)
    by_index zero lt is more = (linked.0.leaf, subst (λ (k : ℕ). page_as row_leaf_of pages k ≡ Some linked.0.leaf) is linked.0.there, linked.0.of_table)
    by_index (suc i) lt is more = more (i, omega (arith, lt), is)

module _ (pages : PageMap) (form : IsWellFormed pages) (none : undo_page_count pages ≡ 0) (small : (n : ℕ) → IsSome (get pages n) → n < 65536) where
  -- the bytes of the pages
  abbrev bytes : PageBytes
  bytes = bytes_of_pages pages

  -- page 0 is the catalogue, and page 1 the open list
  page_0 : catalogue_at bytes ≡ Some form.catalogue
  page_0 = sym (page_as_bytes pages catalogue_of 0) ∙ form.page_0

  page_1 : open_list_at bytes ≡ Some form.open_list
  page_1 = sym (page_as_bytes pages open_list_of 1) ∙ form.page_1

  -- the entries of the open list are allowed
  list_fits : (o : Option (List ℕ)) → option_and_then open_list_of o ≡ Some form.open_list → list_all open_entry_fits form.open_list.entries.items ≡ true
  list_fits None is = absurd cc
  list_fits (Some b) is = entries_fit b form.open_list is

  -- no transaction is open, so there are no undo files
  nothing_open : (form.open_list.entries.items ≡ []) × (form.undo_files ≡ [])
  nothing_open = no_entries pages none form.open_list.entries.items form.undo_files (list_fits (get bytes 1) page_1) form.undo

  -- the leaf on a page
  abbrev leaf_of : ℕ → Leaf
  leaf_of n = record { page = n; rows = unwrap_or (option_map (λ (leaf : RowLeaf). leaf.rows) (page_as row_leaf_of pages n)) [] }

  -- the pages of a table
  abbrev numbers_of : ℕ → List ℕ
  numbers_of table = get_or form.table_pages (table - 1) []

  -- the leaves on some pages are on these pages
  numbers_same : (ns : List ℕ) → page_numbers (map leaf_of ns) ≡ ns
  numbers_same [] = refl
  numbers_same (n ∷ ns) = ap (λ (ms : List ℕ). n ∷ ms) (numbers_same ns)

  -- and begin with the first of them
  first_is : (ns : List ℕ) → first_or_none pages ns ≡ first_page (map leaf_of ns)
  first_is [] = refl
  first_is (n ∷ ns) = refl

  -- a page that is read is there
  lives : (n : ℕ) (leaf : RowLeaf) (o : Option Page) → option_and_then (λ page. row_leaf_of page.bytes) o ≡ Some leaf → is_some o ≡ true
  lives n leaf None is = absurd cc
  lives n leaf (Some page) is = refl

  -- a leaf is one without its stamp
  at_bytes : (n : ℕ) (leaf : RowLeaf) → page_as row_leaf_of pages n ≡ Some leaf → leaf_at bytes n ≡ Some leaf
  at_bytes n leaf is = sym (page_as_bytes pages row_leaf_of n) ∙ is

  -- no leaf is page 0
  real : (n : ℕ) (leaf : RowLeaf) → leaf_at bytes n ≡ Some leaf → 0 < n
  real zero leaf is = absurd (no_leaf_0 bytes form.catalogue leaf page_0 is)
  real (suc n) leaf is = omega arith

  -- a list of leaves is a chain
  chain : (table : ℕ) (ns : List ℕ) → AreLinked pages table ns → IsChain bytes table (map leaf_of ns)
  chain table [] linked = tt
  chain table (n ∷ ns) linked = (stands, chain table ns linked.1) where
    rows_are : linked.0.leaf.rows ≡ (leaf_of n).rows
    rows_are = sym (ap (λ (o : Option RowLeaf). unwrap_or (option_map (λ (leaf : RowLeaf). leaf.rows) o) []) linked.0.there)

    value : linked.0.leaf ≡ leaf_value table (leaf_of n) (first_page (map leaf_of ns))
    value = λ i. record { table = linked.0.of_table i; number = linked.0.own_number i; next = (linked.0.next_is ∙ first_is ns) i; rows = rows_are i }

    stands : LeafStands bytes table (leaf_of n) (first_page (map leaf_of ns))
    stands = record {
      there = at_bytes n linked.0.leaf linked.0.there ∙ ap (λ (l : RowLeaf). Some l) value;
      real = real n linked.0.leaf (at_bytes n linked.0.leaf linked.0.there);
      small = (let lt = small n (lives n linked.0.leaf (get pages n) linked.0.there) in omega (arith, lt));
      has_rows = subst (λ (rs : List Row). 0 < length rs) rows_are linked.0.has_rows;
    }

  -- two neighbours fill more than a page
  two_fill : (table : ℕ) (leaves : List Leaf) → IsChain bytes table leaves → Neighbours (FillTwo pages) (page_numbers leaves) → Neighbours LeavesFillTwo leaves
  two_fill table [] c two = tt
  two_fill table (l ∷ []) c two = tt
  two_fill table (l ∷ m ∷ ls) c two = (
    (let here = used_on pages l.page (leaf_value table l m.page) c.0.there in
        let there = used_on pages m.page (leaf_value table m (first_page ls)) c.1.0.there in
        let full = two.0 in omega (arith, here, there, full)),
    two_fill table (m ∷ ls) c.1 two.1,
  )

  -- the pages of a table with or without rows are a list of leaves
  body_of : (table : ℕ) (entry : CatalogueEntry) (ns : List ℕ) → IsTable pages table entry ns → IsLeafRun pages table entry.root ns
  body_of table entry ns t = by_root (eqb entry.root 0) refl where
    by_root : (b : Bool) → eqb entry.root 0 ≡ b → IsLeafRun pages table entry.root ns
    by_root false e = t.with_rows (eqb-false entry.root 0 e)
    by_root true e =
        let zero_is : entry.root ≡ 0 = eqb-true entry.root 0 e in
        subst (IsLeafRun pages table entry.root) (sym (t.without_rows zero_is)) (record { begins = sym zero_is; linked = tt; in_order = tt; filled = tt })

  -- a table of the map is a run
  run_of : (table : ℕ) (entry : CatalogueEntry) (ns : List ℕ) → IsTable pages table entry ns → IsTableRun bytes table entry (map leaf_of ns)
  run_of table entry ns t =
      let body = body_of table entry ns t in
      let links = chain table ns body.linked in
      let same = numbers_same ns in record {
        begins = sym body.begins ∙ first_is ns;
        linked = links;
        in_order = sorted_again (run_rows (map leaf_of ns)) (subst (Neighbours (λ a b. slice_cmp nat_cmp a b ≡ Less)) (ap (flat_map (keys_on pages)) (sym same) ∙ keys_are pages table (map leaf_of ns) links) body.in_order);
        filled = two_fill table (map leaf_of ns) links (subst (Neighbours (FillTwo pages)) (sym same) body.filled);
        count = t.count ∙ sym (length-map ns leaf_of);
        cost = t.cost ∙ ap (sum_by (cost_of_rows pages)) (sym same) ∙ cost_are pages table (map leaf_of ns) links;
      }

  -- the table with this number less one
  table_there : (i : ℕ) → i < 500 → (entry : CatalogueEntry) → slice_get form.catalogue.entries i ≡ Some entry → IsTable pages (i + 1) entry (get_or form.table_pages i [])
  table_there i lt entry is =
      let len = form.all_tables in
      form.tables i entry (get_or form.table_pages i []) is (slice_get-get_or form.table_pages i [] (omega (arith, lt, len)))

  -- each table is a run
  tables : (table : ℕ) (entry : CatalogueEntry) → 1 ≤ table → table ≤ 500 → slice_get form.catalogue.entries (table - 1) ≡ Some entry → IsTableRun bytes table entry (map leaf_of (numbers_of table))
  tables table entry low high is =
      let same : table - 1 + 1 ≡ table = omega (arith, low) in
      run_of table entry (numbers_of table) (subst (λ (t : ℕ). IsTable pages t entry (numbers_of table)) same (table_there (table - 1) (omega (arith, low, high)) entry is))

  -- a page of some table is a leaf of it
  leaf_named : (n : ℕ) → Contains (flat_map (λ numbers. numbers) form.table_pages) n → (leaf : RowLeaf) × (leaf_at bytes n ≡ Some leaf) × Contains (numbers_of leaf.table) n
  leaf_named n c =
      let at = of_lists n form.table_pages c in
      let lt = at.1 in
      let len = form.all_tables in
      let entries_len = some_catalogue bytes form.catalogue page_0 in
      let entry = get_or form.catalogue.entries at.0 no_entry in
      let t = table_there at.0 (omega (arith, lt, len)) entry (slice_get-get_or form.catalogue.entries at.0 no_entry (omega (arith, lt, len, entries_len))) in
      let leaf = of_linked n pages (at.0 + 1) (get_or form.table_pages at.0 []) (body_of (at.0 + 1) entry (get_or form.table_pages at.0 []) t).linked at.2 in
      let before : at.0 ≡ leaf.0.table - 1 = (let of = leaf.2 in omega (arith, of)) in
      (leaf.0, at_bytes n leaf.0 leaf.1, subst (λ (i : ℕ). Contains (get_or form.table_pages i []) n) before at.2)

  -- a page that lives is the catalogue, the open list, or one of a table
  named_so : (n : ℕ) → IsSome (get bytes n) → (n ≡ 0) ⊎ (n ≡ 1) ⊎ Contains (flat_map (λ numbers. numbers) form.table_pages) n
  named_so n there = by_case ((form.named n).0 (sym (live_bytes pages n) ∙ there)) where
    by_case : (n ≡ 0) ⊎ (n ≡ 1) ⊎ Contains (flat_map (λ numbers. numbers) form.table_pages) n ⊎ Contains (map (λ page. page.number) (flat_map (λ file. file) form.undo_files)) n
        → (n ≡ 0) ⊎ (n ≡ 1) ⊎ Contains (flat_map (λ numbers. numbers) form.table_pages) n
    by_case (inl z) = inl z
    by_case (inr (inl o)) = inr (inl o)
    by_case (inr (inr (inl t))) = inr (inr t)
    by_case (inr (inr (inr u))) =
        let no : Contains (map (λ (page : UndoPage). page.number) (flat_map (λ file. file) [])) n = subst (λ (files : List (List UndoPage)). Contains (map (λ (page : UndoPage). page.number) (flat_map (λ file. file) files)) n) nothing_open.1 u in
        let lt = no.1 in
        absurd (omega (arith, lt))

  -- a leaf is one of its table
  leaf_is_named : (n : ℕ) (leaf : RowLeaf) → leaf_at bytes n ≡ Some leaf → Contains (page_numbers (map leaf_of (numbers_of leaf.table))) n
  leaf_is_named n leaf is = by_case (named_so n (some_bytes (get bytes n) is)) where
    some_bytes : (o : Option (List ℕ)) → option_and_then row_leaf_of o ≡ Some leaf → is_some o ≡ true
    some_bytes None is = absurd cc
    some_bytes (Some b) is = refl

    by_case : (n ≡ 0) ⊎ (n ≡ 1) ⊎ Contains (flat_map (λ numbers. numbers) form.table_pages) n → Contains (page_numbers (map leaf_of (numbers_of leaf.table))) n
    by_case (inl z) = absurd (no_leaf_0 bytes form.catalogue leaf page_0 (ap (leaf_at bytes) (sym z) ∙ is))
    by_case (inr (inl o)) = absurd (no_leaf_1 bytes form.open_list leaf page_1 (ap (leaf_at bytes) (sym o) ∙ is))
    by_case (inr (inr t)) =
        let named = leaf_named n t in
        let same : named.0 ≡ leaf = some_same (leaf_at bytes n) named.0 leaf named.1 is in
        subst (λ (ns : List ℕ). Contains ns n) (sym (numbers_same (numbers_of leaf.table))) (subst (λ (l : RowLeaf). Contains (numbers_of l.table) n) same named.2)

  -- the bytes of the map are a table area
  pub area_from_form : IsTableArea bytes
  area_from_form = record {
    runs = record {
      catalogue = form.catalogue;
      page_0 = page_0;
      runs = λ table. map leaf_of (numbers_of table);
      tables = tables;
      named = leaf_is_named;
    };
    sessions = form.open_list;
    page_1 = page_1;
    no_session = nothing_open.0;
    named = λ n there. elim (named_so n there) [
      | inl z ↦ inl z
      | inr more ↦ elim more [ inl o ↦ inr (inl o) | inr t ↦ inr (inr ((leaf_named n t).0, (leaf_named n t).1)) ]
    ];
  }
