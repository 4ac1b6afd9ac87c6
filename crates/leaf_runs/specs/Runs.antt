-- Tables as lists of leaves over pages.
--     Leaf, run_rows      a leaf of a run, with its page; the rows of a run
--     leaf_at, catalogue_at      the leaf and the catalogue that a page spells
--     IsChain      each leaf names the next one
--     IsTableRun      a table on its leaves, as the catalogue has it
--     AreRuns      all tables are runs, and each leaf belongs to one
--     rows_in_pages      the rows on all pages
-- These say of the bytes of pages what the rules on the form of a map of pages say of pages with
-- stamps.
use Rattle.std.specs.Prelude.{◌≡◌, ℕ, ◌+◌, ◌-◌, ◌<◌, ◌≤◌, [], ◌∷◌, ◌++◌, ◌⊎◌}
use Rattle.std.specs.Prelude.{List, T, Bool, true, false, map, length, Option, Some, None}
use Rattle.std.specs.Prelude.{option_and_then, slice_get, Contains}
use Rattle.std.specs.List.{flat_map}
use Rattle.std.specs.FinMap.{get, values, from_entries, is_sorted}
use Rattle.std.specs.FinMap.Entries.{below_all}
use Rattle.mdb_model.specs.Tables.{Tables}
use Rattle.mdb_bytes.specs.declared.logical_pages.CatalogueEntry.{CatalogueEntry}
use Rattle.mdb_bytes.specs.declared.logical_pages.Catalogue.{Catalogue}
use Rattle.mdb_bytes.specs.Parts.{page_room}
use Rattle.mdb_bytes.specs.TablePages.{Row, RowLeaf, rows_cost}
use Rattle.mdb_bytes.specs.PageReadings.{row_leaf_of, catalogue_of, rows_on}
use Rattle.mdb_bytes.specs.Forms.{Neighbours}
use Rattle.mdb_bytes.specs.Paged.{PageBytes}
use Rattle.row_page.specs.Entries.{by_bytes}
use Rattle.leaf_runs.specs.declared.leaf.Sight.{Sight}
use Rattle.leaf_runs.specs.Sights.{Sees}
use Rattle.leaf_runs.specs.Leaves.{all_below, IsRunLeaf}
use Rattle.leaf_runs.specs.Behind.{not_behind, IsFirstAfter}

-- a leaf of a run: its page and its rows
pub record Leaf : Type 0 where
  pub page : ℕ
  pub rows : List Row

-- the rows of a run, in order
abbrev pub run_rows : List Leaf → List Row
run_rows [] = []
run_rows (leaf ∷ leaves) = leaf.rows ++ run_rows leaves

-- the page of the first leaf, 0 where there is none
abbrev pub first_page : List Leaf → ℕ
first_page [] = 0
first_page (leaf ∷ leaves) = leaf.page

-- the page of the last leaf, or none
abbrev pub last_page : List Leaf → Option ℕ
last_page [] = None
last_page (leaf ∷ []) = Some leaf.page
last_page (leaf ∷ next ∷ leaves) = last_page (next ∷ leaves)

-- the leaf that a page spells
abbrev pub leaf_at : PageBytes → ℕ → Option RowLeaf
leaf_at pages number = option_and_then row_leaf_of (get pages number)

-- the catalogue that page 0 spells
abbrev pub catalogue_at : PageBytes → Option Catalogue
catalogue_at pages = option_and_then catalogue_of (get pages 0)

-- the leaf as its page spells it
abbrev pub leaf_value : (table : ℕ) → Leaf → (next : ℕ) → RowLeaf
leaf_value table leaf next =
    record { table = table; number = leaf.page; next = next; rows = leaf.rows }

-- the leaf stands on its page, is not empty, and names this page as the next one
pub record LeafStands (pages : PageBytes) (table : ℕ) (leaf : Leaf) (next : ℕ) : Type 0 where
  pub there : leaf_at pages leaf.page ≡ Some (leaf_value table leaf next)
  pub real : 0 < leaf.page
  pub small : leaf.page ≤ 65535
  pub has_rows : 0 < length leaf.rows

-- each leaf names the next one, and the last one names none
abbrev pub IsChain : PageBytes → (table : ℕ) → List Leaf → Type 0
IsChain pages table [] = Unit {0}
IsChain pages table (leaf ∷ leaves) =
    LeafStands pages table leaf (first_page leaves) × IsChain pages table leaves

-- the rows of two leaves do not go on one page
abbrev pub LeavesFillTwo : Leaf → Leaf → Type 0
LeavesFillTwo a b = page_room < rows_cost a.rows + rows_cost b.rows

-- a table on these leaves, as the catalogue has it
pub record IsTableRun (pages : PageBytes) (table : ℕ) (entry : CatalogueEntry)
    (leaves : List Leaf) : Type 0 where
  pub begins : entry.root ≡ first_page leaves
  pub linked : IsChain pages table leaves
  pub in_order : T (is_sorted by_bytes (run_rows leaves))
  pub filled : Neighbours LeavesFillTwo leaves
  pub count : entry.pages ≡ length leaves
  pub cost : entry.cost ≡ rows_cost (run_rows leaves)

-- each table is a run as the catalogue says, and each page that spells a leaf is one of its table's
-- run
pub record AreRuns (pages : PageBytes) : Type 0 where
  pub catalogue : Catalogue
  pub page_0 : catalogue_at pages ≡ Some catalogue
  pub runs : ℕ → List Leaf
  pub tables : (table : ℕ) (entry : CatalogueEntry) → 1 ≤ table → table ≤ 500
      → slice_get catalogue.entries (table - 1) ≡ Some entry
      → IsTableRun pages table entry (runs table)
  pub named : (number : ℕ) (leaf : RowLeaf) → leaf_at pages number ≡ Some leaf
      → Contains (map (λ leaf. leaf.page) (runs leaf.table)) number

-- the rows on the pages that spell a leaf, each under its table
abbrev pub rows_in_pages : PageBytes → Tables
rows_in_pages pages = from_entries (flat_map rows_on (values pages))

-- Walks

-- the catalogue has this entry of the table
abbrev pub HasEntry : PageBytes → (table : ℕ) → CatalogueEntry → Type 0
HasEntry pages table entry =
    (catalogue : Catalogue) × (catalogue_at pages ≡ Some catalogue)
    × (slice_get catalogue.entries (table - 1) ≡ Some entry)

-- a page is a leaf of the table with rows
abbrev pub HasRunLeaf : PageBytes → (table number : ℕ) → Type 0
HasRunLeaf pages table number =
    (bytes : List ℕ) × (get pages number ≡ Some bytes) × IsRunLeaf table number bytes

-- what a walk learned of a page on the way to a key
abbrev pub IsSeen : PageBytes → (page : ℕ) → (key : List ℕ) → Sight → Type 0
IsSeen pages page key sight =
    (leaf : RowLeaf) × (leaf_at pages page ≡ Some leaf) × Sees leaf key sight

-- what a scan learned of a page: whether it has a row after the key, and the next page
abbrev pub IsOnward : PageBytes → (page : ℕ) → (after : List ℕ) → (found : Bool) → (next : ℕ)
    → (key value : List ℕ) → Type 0
IsOnward pages page after found next key value =
    (leaf : RowLeaf) × (leaf_at pages page ≡ Some leaf) × (next ≡ leaf.next)
    × IsFirstAfter found leaf.rows after key value

-- the first row after a key was sought on a leaf, and on the next one where it has none
pub record IsRowScanned (pages : PageBytes) (page : ℕ) (after : List ℕ) (found : Bool)
    (key value : List ℕ) : Type 0 where
  pub leaf : RowLeaf
  pub there : leaf_at pages page ≡ Some leaf
  pub scanned : ((found ≡ true) × IsFirstAfter true leaf.rows after key value)
      ⊎ ((not_behind after leaf.rows ≡ true)
      × (((found ≡ false) × (leaf.next ≡ 0))
      ⊎ ((leaf.next ≡ 0 → ⊥)
      × ((next : RowLeaf) × (leaf_at pages leaf.next ≡ Some next)
      × IsFirstAfter found next.rows after key value))))

-- a page is a leaf of the table, and so is the one that it names as the next
abbrev pub HasTwoLeaves : PageBytes → (table number : ℕ) → Type 0
HasTwoLeaves pages table number =
    HasRunLeaf pages table number
    × ((leaf : RowLeaf) → leaf_at pages number ≡ Some leaf → (leaf.next ≡ 0 → ⊥)
    → HasRunLeaf pages table leaf.next)

-- a table that has rows stands on leaves
abbrev pub HasLeaves : PageBytes → (table : ℕ) → CatalogueEntry → Type 0
HasLeaves pages table entry =
    (leaves : List Leaf) × IsTableRun pages table entry leaves × (0 < length leaves)

-- the leaf of a run where a key stands or would stand, by the page of the leaf before it and by its
-- own page
pub record IsSpot (leaves : List Leaf) (key : List ℕ) (before : Option ℕ) (page : ℕ) : Type 0 where
  pub front : List Leaf
  pub here : Leaf
  pub back : List Leaf
  pub whole : leaves ≡ front ++ here ∷ back
  pub before_is : before ≡ last_page front
  pub page_is : here.page ≡ page
  pub lower : all_below key (run_rows front) ≡ true
  pub higher : T (below_all by_bytes key (run_rows back))
