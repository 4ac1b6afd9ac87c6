-- What the logical pages of a map say: rows as they stand, and rows as they were.
--     row_leaf_of, index_of, undo_page_of, catalogue_of, open_list_of      the page that bytes
--         spell
--     page_as      the page of a number, read so
--     standing_rows, rows_before, undo_page_count      of a whole map
use Rattle.std.specs.Prelude.{ℕ, List, [], if◌then◌else◌, map, Option, Some, None, is_some, unwrap_or, option_map, option_and_then, count_by}
use Rattle.std.specs.List.{flat_map}
use Rattle.std.specs.FinMap.{FinMap, get, values, from_entries}
use Rattle.mdb_model.specs.Tables.{Place, place_cmp, Tables}
use Rattle.mdb_model.specs.Sessions.{same_place}
use Rattle.mdb_model.specs.Pages.{PageMap}
use Rattle.mdb_bytes.specs.declared.logical_pages.Catalogue.{Catalogue}
use Rattle.mdb_bytes.specs.declared.logical_pages.OpenList.{OpenList}
use Rattle.mdb_bytes.specs.Fields.{decoded, all_differ}
use Rattle.mdb_bytes.specs.LogicalPages.{catalogue_format, open_list_format}
use Rattle.mdb_bytes.specs.TablePages.{RowLeaf, IndexPage, row_leaf_format, index_format, longest_value}
use Rattle.mdb_bytes.specs.UndoPages.{UndoPage, undo_page_format}

-- the row leaf that bytes spell
unfoldable pub row_leaf_of : List ℕ → Option RowLeaf
row_leaf_of bytes = decoded (row_leaf_format longest_value) bytes

-- the index page that bytes spell
unfoldable pub index_of : List ℕ → Option IndexPage
index_of bytes = decoded index_format bytes

-- the undo page that bytes spell
unfoldable pub undo_page_of : List ℕ → Option UndoPage
undo_page_of bytes = decoded (undo_page_format longest_value) bytes

-- the catalogue that bytes spell
unfoldable pub catalogue_of : List ℕ → Option Catalogue
catalogue_of bytes = decoded catalogue_format bytes

-- the open list that bytes spell
unfoldable pub open_list_of : List ℕ → Option OpenList
open_list_of bytes = decoded open_list_format bytes

-- the page of a number, read so
abbrev pub page_as : {X : Type 0} → (List ℕ → Option X) → PageMap → ℕ → Option X
page_as reads pages number = option_and_then (λ page. reads page.bytes) (get pages number)

-- Rows

-- the rows of a leaf, each under its table
abbrev pub leaf_rows : RowLeaf → List (Place × List ℕ)
leaf_rows leaf = map (λ row. ((leaf.table, row.0), row.1)) leaf.rows

-- the rows on a page, which are none where it is no leaf
abbrev pub rows_on : List ℕ → List (Place × List ℕ)
rows_on bytes = unwrap_or (option_map leaf_rows (row_leaf_of bytes)) []

-- the rows on the leaves of a map
abbrev pub all_rows : PageMap → List (Place × List ℕ)
all_rows pages = flat_map (λ page. rows_on page.bytes) (values pages)

-- Before images

-- the entries on a page, which are none where it is no undo page
abbrev pub images_on : List ℕ → List (Place × Option (List ℕ))
images_on bytes =
    unwrap_or (option_map (λ page. map (λ e. ((e.table, e.key), e.before)) page.entries)
    (undo_page_of bytes)) []

-- the entries on the undo pages of a map
abbrev pub all_images : PageMap → List (Place × Option (List ℕ))
all_images pages = flat_map (λ page. images_on page.bytes) (values pages)

-- the map of these entries, or none where a place stands twice
abbrev pub once : {X : Type 0} → List (Place × X) → Option (FinMap place_cmp X)
once entries =
    if all_differ same_place (map (λ e. e.0) entries) then Some (from_entries entries) else None

-- the rows as they stand, or none where a key stands twice
abbrev pub standing_rows : PageMap → Option Tables
standing_rows pages = once (all_rows pages)

-- the row before, or none, of each key that an open transaction changed; none where a key stands
-- twice
abbrev pub rows_before : PageMap → Option (FinMap place_cmp (Option (List ℕ)))
rows_before pages = once (all_images pages)

-- how many pages are undo pages
abbrev pub undo_page_count : PageMap → ℕ
undo_page_count pages = count_by (λ page. is_some (undo_page_of page.bytes)) (values pages)
