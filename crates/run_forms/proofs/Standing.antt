-- What the bytes of a table area mean.
--     leaf_begins, catalogue_begins, list_begins, undo_begins      the kind of a page is its first
--         byte
--     no_undo_page      no page of a table area spells an undo page
--     standing_are, images_are, before_are, undo_are, committed_are      what the pages say
--     some_key      no row has an empty key
use Rattle.std.proofs.Common.{◌≡◌, ◌⊎◌, inl, inr, refl, sym, ap, ◌∙◌, ℕ, ◌+◌, ◌≤◌, Bool, true, cond, List, [], ◌∷◌, ◌++◌, map, length, Option, Some, None, is_some, arith}
use Rattle.std.specs.Prelude.{option_map, option_and_then, unwrap_or, count_by, ◌&&◌}
use Rattle.std.specs.Ordering.{eq_by_cmp}
use Rattle.std.specs.List.{flat_map, list_all, AllByRecursion}
use Rattle.std.proofs.lemmas.List.Concat.{flat_map-cons}
use Rattle.std.proofs.lemmas.List.Folds.{flat_map-map}
use Rattle.std.proofs.lemmas.List.Sums.{sum_by-cons}
use Rattle.std.specs.FinMap.{get, find, entries, entries_sorted, get-entries, values, empty, from_entries, get-from_entries}
use Rattle.mdb_model.specs.Tables.{Place, place_cmp}
use Rattle.mdb_model.specs.Pages.{Page, PageMap, committed, set_back}
use Rattle.mdb_model.specs.Sessions.{same_place}
use Rattle.mdb_model.proofs.Computing.{entries-empty}
use Rattle.mdb_bytes.specs.declared.logical_pages.Catalogue.{Catalogue}
use Rattle.mdb_bytes.specs.declared.logical_pages.OpenList.{OpenList}
use Rattle.mdb_bytes.specs.Fields.{number_at, all_differ}
use Rattle.mdb_bytes.specs.LogicalPages.{catalogue_fields, catalogue_fits, catalogue_format, open_list_fields, open_list_fits, open_list_format}
use Rattle.mdb_bytes.specs.TablePages.{Row, RowLeaf, row_leaf_fields, row_leaf_fits, row_leaf_format, longest_value}
use Rattle.mdb_bytes.specs.UndoPages.{UndoPage, undo_page_fields, undo_page_fits, undo_page_format}
use Rattle.mdb_bytes.specs.PageReadings.{row_leaf_of, catalogue_of, open_list_of, undo_page_of, rows_on, images_on, all_rows, all_images, once, standing_rows, rows_before, undo_page_count}
use Rattle.mdb_bytes.specs.Forms.{reading}
use Rattle.mdb_bytes.specs.Paged.{PageBytes}
use Rattle.mdb_bytes.proofs.Decoding.{and_left, and_right, decoded-spells}
use Rattle.mdb_bytes.proofs.NextRow.{place_total}
use Rattle.mdb_bytes.proofs.ReadBack.{byte_in}
use Rattle.row_page.specs.Entries.{by_bytes}
use Rattle.leaf_runs.specs.Runs.{leaf_at, rows_in_pages}
use Rattle.leaf_runs.specs.TableAreas.{IsTableArea}
use Rattle.leaf_runs.proofs.LeafLaw.{row_ok, bytes_ok, row_limits, leaf_page_of}
use Rattle.mdb_bytes.specs.TablePages.{row_fits}
use Rattle.leaf_runs.proofs.Places.{bytes_of_leaf}
use Rattle.leaf_runs.proofs.RowsLaw.{page_rows, there_on}
use Rattle.leaf_runs.proofs.Gets.{chains_of}
use Rattle.run_forms.specs.Stampless.{bytes_of_pages}
use Rattle.run_forms.proofs.Stampless.{get_bytes, values_bytes, each_entry}
use Rattle.run_forms.proofs.Differing.{places_differ}

-- a leaf begins with a 1, a catalogue with a 4, an open list with a 5, an undo page with a 3
pub leaf_begins : (bytes : List ℕ) (leaf : RowLeaf) → row_leaf_of bytes ≡ Some leaf → number_at 1 0 bytes ≡ 1
unfolding row_leaf_of
leaf_begins bytes leaf is =
    let s = decoded-spells (row_leaf_format longest_value) bytes leaf is in
    ap (number_at 1 0) s.1 ∙ byte_in (row_leaf_fields leaf) 0 1 (and_right (row_leaf_fits longest_value leaf) _ s.0) refl

pub catalogue_begins : (bytes : List ℕ) (catalogue : Catalogue) → catalogue_of bytes ≡ Some catalogue → number_at 1 0 bytes ≡ 4
unfolding catalogue_of
catalogue_begins bytes catalogue is =
    let s = decoded-spells catalogue_format bytes catalogue is in
    ap (number_at 1 0) s.1 ∙ byte_in (catalogue_fields catalogue) 0 4 (and_right (catalogue_fits catalogue) _ s.0) refl

pub list_begins : (bytes : List ℕ) (sessions : OpenList) → open_list_of bytes ≡ Some sessions → number_at 1 0 bytes ≡ 5
unfolding open_list_of
list_begins bytes sessions is =
    let s = decoded-spells open_list_format bytes sessions is in
    ap (number_at 1 0) s.1 ∙ byte_in (open_list_fields sessions) 0 5 (and_right (open_list_fits sessions) _ s.0) refl

pub undo_begins : (bytes : List ℕ) (page : UndoPage) → undo_page_of bytes ≡ Some page → number_at 1 0 bytes ≡ 3
unfolding undo_page_of
undo_begins bytes page is =
    let s = decoded-spells (undo_page_format longest_value) bytes page is in
    ap (number_at 1 0) s.1 ∙ byte_in (undo_page_fields page) 0 3 (and_right (undo_page_fits longest_value page) _ s.0) refl

-- no page of a table area spells an undo page
pub no_undo_page : (pages : PageBytes) → IsTableArea pages → (n : ℕ) (bytes : List ℕ) → get pages n ≡ Some bytes → undo_page_of bytes ≡ None
no_undo_page pages area n bytes there = by_undo (undo_page_of bytes) refl where
  not_three : (n ≡ 0) ⊎ (n ≡ 1) ⊎ ((leaf : RowLeaf) × (leaf_at pages n ≡ Some leaf)) → number_at 1 0 bytes ≡ 3 → ⊥
  not_three (inl zero_is) three =
      let four = catalogue_begins bytes area.runs.catalogue (sym (ap (option_and_then catalogue_of) (ap (get pages) (sym zero_is) ∙ there)) ∙ area.runs.page_0) in omega arith
  not_three (inr (inl one_is)) three =
      let five = list_begins bytes area.sessions (sym (ap (option_and_then open_list_of) (ap (get pages) (sym one_is) ∙ there)) ∙ area.page_1) in omega arith
  not_three (inr (inr (leaf, is))) three =
      let one = leaf_begins bytes leaf (sym (ap (option_and_then row_leaf_of) there) ∙ is) in omega arith

  by_undo : (o : Option UndoPage) → undo_page_of bytes ≡ o → o ≡ None
  by_undo None is = refl
  by_undo (Some page) is = absurd (not_three (area.named n (ap is_some there)) (undo_begins bytes page is))

-- Before images

-- the before images of an undo page
abbrev images_of : Option UndoPage → List (Place × Option (List ℕ))
images_of o = unwrap_or (option_map (λ page. map (λ e. ((e.table, e.key), e.before)) page.entries) o) []

-- pages without undo pages have no before images, and none is counted
no_images : (ps : List Page) → AllByRecursion (λ page. undo_page_of page.bytes ≡ None) ps → flat_map (λ page. images_on page.bytes) ps ≡ []
no_images [] all = refl
no_images (p ∷ ps) all = flat_map-cons (λ (page : Page). images_on page.bytes) p ps ∙ (λ i. images_of (all.0 i) ++ no_images ps all.1 i)

no_undo : (ps : List Page) → AllByRecursion (λ page. undo_page_of page.bytes ≡ None) ps → count_by (λ page. is_some (undo_page_of page.bytes)) ps ≡ 0
no_undo [] all = refl
no_undo (p ∷ ps) all = sum_by-cons (λ (page : Page). cond (is_some (undo_page_of page.bytes)) 1 0) p ps ∙ (λ i. cond (is_some (all.0 i)) 1 0 + no_undo ps all.1 i)

module _ (pages : PageMap) (area : IsTableArea (bytes_of_pages pages)) where
  -- no page of the map is an undo page
  no_pages : AllByRecursion (λ page. undo_page_of page.bytes ≡ None) (values pages)
  no_pages =
      each_entry (λ (page : Page). undo_page_of page.bytes ≡ None) (entries pages) (entries_sorted pages)
      (λ n page there. no_undo_page (bytes_of_pages pages) area n page.bytes (get_bytes pages n ∙ ap (option_map (λ (page : Page). page.bytes)) (get-entries pages n ∙ there)))

  -- so there are no before images
  pub images_are : all_images pages ≡ []
  images_are = no_images (values pages) no_pages

  pub before_are : rows_before pages ≡ Some empty
  before_are = ap once images_are

  -- and no undo page is counted
  pub undo_are : undo_page_count pages ≡ 0
  undo_are = no_undo (values pages) no_pages

  -- the rows on pages do not see the stamps
  rows_same : all_rows pages ≡ flat_map rows_on (values (bytes_of_pages pages))
  rows_same = sym (flat_map-map rows_on (λ (page : Page). page.bytes) (values pages)) ∙ ap (flat_map rows_on) (sym (values_bytes pages))

  -- the rows as they stand are those on the leaves
  pub standing_are : standing_rows pages ≡ Some (rows_in_pages (bytes_of_pages pages))
  standing_are =
      let bytes = bytes_of_pages pages in
      let rows : List (Place × List ℕ) = flat_map rows_on (values bytes) in
      let differ : all_differ same_place (map (λ e. e.0) rows) ≡ true = places_differ bytes area.runs (entries bytes) (entries_sorted bytes) (λ n b there. get-entries bytes n ∙ there) in
      ap once rows_same ∙ ap (λ (b : Bool). cond b (Some (from_entries {R = place_cmp} rows)) None) differ

  -- and these are committed
  pub committed_are : committed reading pages ≡ Some (rows_in_pages (bytes_of_pages pages))
  committed_are =
      (λ i. option_and_then (λ rows. option_map (λ images. set_back (entries images) rows) (before_are i)) (standing_are i))
      ∙ ap (λ es. Some (set_back es (rows_in_pages (bytes_of_pages pages)))) (entries-empty place_cmp)

-- Keys

-- rows with keys have none that is empty
none_empty : (rows : List Row) → list_all row_ok rows ≡ true → find by_bytes [] rows ≡ None
none_empty [] all = refl
none_empty (row ∷ rows) all = by_key row.0 refl (none_empty rows (and_right (row_ok row) (list_all row_ok rows) all)) where
  limits : (1 ≤ length row.0) × (length row.0 ≤ 256) × (length row.1 ≤ longest_value)
  limits = row_limits row (and_left (row_fits longest_value row) (bytes_ok row.0 && bytes_ok row.1) (and_left (row_ok row) (list_all row_ok rows) all))

  by_key : (key : List ℕ) → row.0 ≡ key → find by_bytes [] rows ≡ None → cond (eq_by_cmp by_bytes [] row.0) (Some row.1) (find by_bytes [] rows) ≡ None
  by_key [] is more = let one : 1 ≤ length row.0 = limits.0 in let none : length row.0 ≡ 0 = ap length is in absurd (omega (arith, one, none))
  by_key (byte ∷ key) is more = ap (λ (k : List ℕ). cond (eq_by_cmp by_bytes [] k) (Some row.1) (find by_bytes [] rows)) is ∙ more

-- no row has an empty key
pub some_key : (pages : PageBytes) (table : ℕ) (value : List ℕ) → IsTableArea pages → get (rows_in_pages pages) (table, []) ≡ Some value → ⊥
some_key pages table value area is =
    let t = there_on pages area.runs.runs (chains_of pages area.runs) table [] value (sym (get-from_entries place_total (page_rows (entries pages)) (table, [])) ∙ is) in
    let b = bytes_of_leaf pages t.0 t.1 t.2 in
    let none : find by_bytes [] t.1.rows ≡ None = none_empty t.1.rows (leaf_page_of b.0 t.1 b.2).keeps.rows in
    let wrong : Some value ≡ None = sym t.4 ∙ none in
    cc
