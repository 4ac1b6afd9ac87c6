-- Pages in their form that have no before images: none of them is an undo page.
--     none_counted      the law
use Rattle.std.proofs.Common.{◌≡◌, ◌⊎◌, inl, inr, refl, sym, ap, subst, ◌∙◌, ℕ, zero, suc, ◌+◌, ◌<◌, Bool, true, false, cond, List, [], ◌∷◌, ◌++◌, map, length, get_or, Option, Some, None, is_some, arith, eqb, eqb-true}
use Rattle.std.specs.Prelude.{option_map, option_and_then, unwrap_or, Contains, count_by}
use Rattle.std.specs.List.{flat_map, AllZip, AllByRecursion}
use Rattle.std.specs.Ordering.{nat_cmp, eq_by_cmp}
use Rattle.std.specs.FinMap.{get, find, entries, entries_sorted, get-entries, values}
use Rattle.std.proofs.lemmas.Bool.{eqb-false}
use Rattle.std.proofs.lemmas.List.{length-map}
use Rattle.std.proofs.lemmas.List.Concat.{flat_map-cons}
use Rattle.std.proofs.lemmas.List.Elements.{Contains-append_cases}
use Rattle.std.proofs.lemmas.List.Sums.{sum_by-cons}
use Rattle.std.proofs.lemmas.Option.{same_Some, slice_get-get_or}
use Rattle.mdb_model.specs.Pages.{Page, PageMap}
use Rattle.mdb_bytes.specs.declared.logical_pages.CatalogueEntry.{CatalogueEntry}
use Rattle.mdb_bytes.specs.declared.logical_pages.OpenEntry.{OpenEntry}
use Rattle.mdb_bytes.specs.Forms.{IsTable, AreLinked, IsUndoFile, IsWellFormed}
use Rattle.mdb_bytes.specs.PageReadings.{row_leaf_of, catalogue_of, open_list_of, undo_page_of, images_on, all_images, page_as, undo_page_count}
use Rattle.mdb_bytes.specs.TablePages.{RowLeaf}
use Rattle.mdb_bytes.specs.UndoPages.{UndoPage, UndoEntry}
use Rattle.leaf_runs.proofs.Gets.{some_catalogue, no_entry}
use Rattle.run_forms.specs.Stampless.{bytes_of_pages}
use Rattle.run_forms.proofs.Standing.{leaf_begins, catalogue_begins, list_begins, undo_begins}
use Rattle.run_forms.proofs.Stampless.{page_as_bytes, each_entry}

-- Lists

-- two lists that are empty together
both_empty : {A : Type 0} (xs ys : List A) → xs ++ ys ≡ [] → (xs ≡ []) × (ys ≡ [])
both_empty [] ys is = (refl, is)
both_empty (x ∷ xs) ys is = absurd cc

-- lists of which none has an item
all_empty : {A : Type 0} (xss : List (List A)) → AllByRecursion (λ xs. xs ≡ []) xss → flat_map (λ xs. xs) xss ≡ []
all_empty [] none = refl
all_empty (xs ∷ xss) none = flat_map-cons (λ xs. xs) xs xss ∙ (λ i. none.0 i ++ all_empty xss none.1 i)

-- a number of some lists is in one of them
in_one : (xss : List (List ℕ)) (n : ℕ) → Contains (flat_map (λ numbers. numbers) xss) n → (i : ℕ) × (i < length xss) × Contains (get_or xss i []) n
in_one [] n there = let lt = there.1 in absurd (omega (arith, lt))
in_one (xs ∷ xss) n there = by_case (in_one xss n) (Contains-append_cases xs (flat_map (λ numbers. numbers) xss) n there) where
  by_case : (Contains (flat_map (λ numbers. numbers) xss) n → (i : ℕ) × (i < length xss) × Contains (get_or xss i []) n) → Contains xs n ⊎ Contains (flat_map (λ numbers. numbers) xss) n
      → (i : ℕ) × (i < length (xs ∷ xss)) × Contains (get_or (xs ∷ xss) i []) n
  by_case more (inl here) = (0, omega arith, here)
  by_case more (inr later) = let m = more later in let lt = m.1 in (suc m.0, omega (arith, lt), m.2)

none_in : (n : ℕ) → Contains [] n → ⊥
none_in n there = let lt = there.1 in omega (arith, lt)

-- Before images

-- a page that is found has none where all have none
none_found : (n : ℕ) (page : Page) (es : List (ℕ × Page)) → flat_map (λ page. images_on page.bytes) (map (λ e. e.1) es) ≡ [] → find nat_cmp n es ≡ Some page → images_on page.bytes ≡ []
none_found n page [] none there = absurd cc
none_found n page (e ∷ es) none there = by_test (eq_by_cmp nat_cmp n e.0) (none_found n page es parts.1) there where
  parts : (images_on e.1.bytes ≡ []) × (flat_map (λ page. images_on page.bytes) (map (λ e. e.1) es) ≡ [])
  parts = both_empty (images_on e.1.bytes) _ (sym (flat_map-cons (λ (page : Page). images_on page.bytes) e.1 (map (λ e. e.1) es)) ∙ none)

  by_test : (b : Bool) → (find nat_cmp n es ≡ Some page → images_on page.bytes ≡ []) → cond b (Some e.1) (find nat_cmp n es) ≡ Some page → images_on page.bytes ≡ []
  by_test false more there = more there
  by_test true more there = ap (λ (page : Page). images_on page.bytes) (sym (same_Some e.1 page there)) ∙ parts.0

-- no page is counted where none is an undo page
count_none : (ps : List Page) → AllByRecursion (λ page. undo_page_of page.bytes ≡ None) ps → count_by (λ page. is_some (undo_page_of page.bytes)) ps ≡ 0
count_none [] none = refl
count_none (p ∷ ps) none = sum_by-cons (λ (page : Page). cond (is_some (undo_page_of page.bytes)) 1 0) p ps ∙ (λ i. cond (is_some (none.0 i)) 1 0 + count_none ps none.1 i)

module _ (pages : PageMap) (form : IsWellFormed pages) (bare : all_images pages ≡ []) where
  -- an undo page has no entries
  no_entries : (n : ℕ) (undo : UndoPage) → page_as undo_page_of pages n ≡ Some undo → length undo.entries ≡ 0
  no_entries n undo is = by_page (get pages n) refl is where
    by_page : (o : Option Page) → get pages n ≡ o → option_and_then (λ page. undo_page_of page.bytes) o ≡ Some undo → length undo.entries ≡ 0
    by_page None there is = absurd cc
    by_page (Some page) there is =
        let images : images_on page.bytes ≡ map (λ (e : UndoEntry). ((e.table, e.key), e.before)) undo.entries = ap (λ o. unwrap_or (option_map (λ (page : UndoPage). map (λ e. ((e.table, e.key), e.before)) page.entries) o) []) is in
        let none : images_on page.bytes ≡ [] = none_found n page (entries pages) bare (sym (get-entries pages n) ∙ there) in
        sym (length-map undo.entries (λ (e : UndoEntry). ((e.table, e.key), e.before))) ∙ ap length (sym images ∙ none)

  -- so each undo file is empty
  no_file : (entry : OpenEntry) (file : List UndoPage) → IsUndoFile pages entry file → file ≡ []
  no_file entry [] is = refl
  no_file entry (page ∷ before) is =
      let some = is.has_entries.0 in
      let none = no_entries entry.last_page page is.linked.0 in
      absurd (omega (arith, some, none))

  no_files : (items : List OpenEntry) (files : List (List UndoPage)) → AllZip (IsUndoFile pages) items files → AllByRecursion (λ file. file ≡ []) files
  no_files [] [] all = tt
  no_files [] (f ∷ fs) all = absurd all
  no_files (e ∷ es) [] all = absurd all
  no_files (e ∷ es) (f ∷ fs) all = (no_file e f all.0, no_files es fs all.1)

  none_named : (n : ℕ) → Contains (map (λ page. page.number) (flat_map (λ file. file) form.undo_files)) n → ⊥
  none_named n there =
      none_in n (subst (λ (ps : List UndoPage). Contains (map (λ page. page.number) ps) n) (all_empty form.undo_files (no_files form.open_list.entries.items form.undo_files form.undo)) there)

  -- a page of a table is a leaf
  linked_leaf : (table : ℕ) (ns : List ℕ) (n : ℕ) → AreLinked pages table ns → Contains ns n → (leaf : RowLeaf) × (page_as row_leaf_of pages n ≡ Some leaf)
  linked_leaf table [] n linked there = absurd (none_in n there)
  linked_leaf table (m ∷ ms) n linked there = by_place there.0 there.1 there.2 (linked_leaf table ms n linked.1) where
    by_place : (i : ℕ) → i < length (m ∷ ms) → get_or (m ∷ ms) i n ≡ n → (Contains ms n → (leaf : RowLeaf) × (page_as row_leaf_of pages n ≡ Some leaf)) → (leaf : RowLeaf) × (page_as row_leaf_of pages n ≡ Some leaf)
    by_place zero lt is more = (linked.0.leaf, subst (λ (k : ℕ). page_as row_leaf_of pages k ≡ Some linked.0.leaf) is linked.0.there)
    by_place (suc i) lt is more = more (i, omega (arith, lt), is)

  table_leaf : (table : ℕ) (entry : CatalogueEntry) (ns : List ℕ) (n : ℕ) → IsTable pages table entry ns → Contains ns n → (leaf : RowLeaf) × (page_as row_leaf_of pages n ≡ Some leaf)
  table_leaf table entry ns n is there = by_root (eqb entry.root 0) refl where
    by_root : (b : Bool) → eqb entry.root 0 ≡ b → (leaf : RowLeaf) × (page_as row_leaf_of pages n ≡ Some leaf)
    by_root false e = linked_leaf table ns n (is.with_rows (eqb-false entry.root 0 e)).linked there
    by_root true e = absurd (none_in n (subst (λ (ns : List ℕ). Contains ns n) (is.without_rows (eqb-true entry.root 0 e)) there))

  leaf_named : (n : ℕ) → Contains (flat_map (λ numbers. numbers) form.table_pages) n → (leaf : RowLeaf) × (page_as row_leaf_of pages n ≡ Some leaf)
  leaf_named n there =
      let at = in_one form.table_pages n there in
      let lt = at.1 in
      let all = form.all_tables in
      let long : length form.catalogue.entries ≡ 500 = some_catalogue (bytes_of_pages pages) form.catalogue (sym (page_as_bytes pages catalogue_of 0) ∙ form.page_0) in
      let numbers = get_or form.table_pages at.0 [] in
      let entry = get_or form.catalogue.entries at.0 no_entry in
      table_leaf (at.0 + 1) entry numbers n
      (form.tables at.0 entry numbers (slice_get-get_or form.catalogue.entries at.0 no_entry (omega (arith, lt, all, long))) (slice_get-get_or form.table_pages at.0 [] (omega (arith, lt)))) at.2

  -- each page that is found is another one, by its first byte
  module _ (n : ℕ) (page : Page) (there : get pages n ≡ Some page) where
    read_here : {X : Type 0} (reads : List ℕ → Option X) (x : X) (m : ℕ) → n ≡ m → page_as reads pages m ≡ Some x → reads page.bytes ≡ Some x
    read_here reads x m same is = sym (ap (option_and_then (λ (page : Page). reads page.bytes)) there) ∙ ap (λ (k : ℕ). page_as reads pages k) same ∙ is

    other_kind : (undo : UndoPage) → undo_page_of page.bytes ≡ Some undo → ⊥
    other_kind undo is = by_name ((form.named n).0 (ap is_some there)) where
      by_name : (n ≡ 0) ⊎ (n ≡ 1) ⊎ Contains (flat_map (λ numbers. numbers) form.table_pages) n ⊎ Contains (map (λ page. page.number) (flat_map (λ file. file) form.undo_files)) n → ⊥
      by_name (inl zero_is) =
          omega (arith, undo_begins page.bytes undo is, catalogue_begins page.bytes form.catalogue (read_here catalogue_of form.catalogue 0 zero_is form.page_0))
      by_name (inr (inl one_is)) =
          omega (arith, undo_begins page.bytes undo is, list_begins page.bytes form.open_list (read_here open_list_of form.open_list 1 one_is form.page_1))
      by_name (inr (inr (inl table))) =
          let leaf = leaf_named n table in
          omega (arith, undo_begins page.bytes undo is, leaf_begins page.bytes leaf.0 (read_here row_leaf_of leaf.0 n refl leaf.1))
      by_name (inr (inr (inr file))) = none_named n file

    no_undo_here : undo_page_of page.bytes ≡ None
    no_undo_here = by_undo (undo_page_of page.bytes) refl where
      by_undo : (o : Option UndoPage) → undo_page_of page.bytes ≡ o → o ≡ None
      by_undo None is = refl
      by_undo (Some undo) is = absurd (other_kind undo is)

  pub none_counted : undo_page_count pages ≡ 0
  none_counted = count_none (values pages)
      (each_entry (λ (page : Page). undo_page_of page.bytes ≡ None) (entries pages) (entries_sorted pages) (λ n page there. no_undo_here n page (get-entries pages n ∙ there)))
