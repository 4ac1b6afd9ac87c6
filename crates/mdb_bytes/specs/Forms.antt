-- Which page maps are well formed.
--     IsTree, IsLeafRun      the pages of a table, as a tree or as a list of leaves
--     IsTable      the pages of a table, as the catalogue has them
--     IsUndoFile      the undo pages of a transaction
--     IsWellFormed      all pages are in their forms and where they are named
--     reading      what the bytes of a page map mean, for the model
use Rattle.std.specs.Prelude.{◌≡◌, ◌≢◌, ◌⊎◌, ℕ, zero, suc, ◌+◌, ◌<◌, ◌≤◌, List, [], ◌∷◌, IsSome, IsTrue, ◌==◌, ◌↔◌, MatchBool, length, map, reverse, Option, Some, None, IfSome, unwrap_or, option_map, sum_by, slice_get, Contains}
use Rattle.std.specs.List.{flat_map, AllByRecursion, AllZip, range_with_len}
use Rattle.std.specs.Ordering.{nat_cmp}
use Rattle.std.specs.declared.cmp.Ordering.TheVariants.{Less}
use Rattle.std.specs.Cmp.Lexicographic.{slice_cmp}
use Rattle.std.specs.FinMap.{get}
use Rattle.mdb_model.specs.Pages.{PageMap, PageReading}
use Rattle.mdb_bytes.specs.declared.logical_pages.CatalogueEntry.{CatalogueEntry}
use Rattle.mdb_bytes.specs.declared.logical_pages.Catalogue.{Catalogue}
use Rattle.mdb_bytes.specs.declared.logical_pages.OpenEntry.{OpenEntry}
use Rattle.mdb_bytes.specs.declared.logical_pages.OpenList.{OpenList}
use Rattle.mdb_bytes.specs.Fields.{all_differ}
use Rattle.mdb_bytes.specs.Parts.{page_room}
use Rattle.mdb_bytes.specs.TablePages.{RowLeaf, Child, IndexPage, rows_cost, children_cost}
use Rattle.mdb_bytes.specs.UndoPages.{UndoPage, undo_entries_cost, undo_entry_len}
use Rattle.mdb_bytes.specs.PageReadings.{row_leaf_of, index_of, undo_page_of, catalogue_of, open_list_of, page_as, standing_rows, rows_before, undo_page_count}
use Rattle.mdb_bytes.specs.Stages.{tables_are_trees}

-- the key is not below the first one, and below the second one where there is one
abbrev pub IsBetween : List ℕ → Option (List ℕ) → List ℕ → Type 0
IsBetween low high key =
    (slice_cmp nat_cmp key low ≢ Less) × IfSome high (λ end. slice_cmp nat_cmp key end ≡ Less)

-- each and the next
abbrev pub Neighbours : {X : Type 0} → (X → X → Type 0) → List X → Type 0
Neighbours R [] = Unit {0}
Neighbours R (x ∷ []) = Unit {0}
Neighbours R (x ∷ y ∷ xs) = R x y × Neighbours R (y ∷ xs)

module _ (pages : PageMap) where
  -- what the rows on a page cost, and 0 where it is no leaf
  abbrev pub cost_of_rows : ℕ → ℕ
  cost_of_rows number =
      unwrap_or (option_map (λ leaf. rows_cost leaf.rows) (page_as row_leaf_of pages number)) 0

  -- the bytes that the entries on a page of a table use
  abbrev pub used_by : ℕ → ℕ
  used_by number =
      cost_of_rows number + unwrap_or (option_map (λ index. children_cost index.children)
      (page_as index_of pages number)) 0

  -- the rows of two neighbours do not go on one page
  abbrev pub FillTwo : ℕ → ℕ → Type 0
  FillTwo a b = page_room < used_by a + used_by b

  -- Trees

  -- a leaf of a table that is not empty, under its number, and no other follows it
  pub record IsLeafPage (table number : ℕ) (low : List ℕ) (high : Option (List ℕ)) : Type 0 where
    pub leaf : RowLeaf
    pub there : page_as row_leaf_of pages number ≡ Some leaf
    pub of_table : leaf.table ≡ table
    pub own_number : leaf.number ≡ number
    pub no_next : leaf.next ≡ 0
    pub has_rows : 0 < length leaf.rows
    pub within : AllByRecursion (λ row. IsBetween low high row.0) leaf.rows

  -- where the keys of a child end: at the separator of the next one
  abbrev pub end_before : List Child → Option (List ℕ) → Option (List ℕ)
  end_before [] high = high
  end_before (next ∷ more) high = Some next.0

  -- each child has the keys from its separator up to the next one's
  abbrev pub AreChildren : (ℕ → List ℕ → Option (List ℕ) → Type 0) → List Child → Option (List ℕ)
      → Type 0
  AreChildren IsChild [] high = Unit {0}
  AreChildren IsChild (child ∷ more) high =
      IsChild child.1 child.0 (end_before more high) × AreChildren IsChild more high

  -- an index page of a table at a level, whose first separator is where its keys begin, over such
  -- children
  pub record IsIndexPage (table level number : ℕ) (low : List ℕ) (high : Option (List ℕ))
      (IsChild : ℕ → List ℕ → Option (List ℕ) → Type 0) : Type 0 where
    pub index : IndexPage
    pub there : page_as index_of pages number ≡ Some index
    pub of_table : index.table ≡ table
    pub own_number : index.number ≡ number
    pub own_level : index.level ≡ level
    pub begins : IfSome (slice_get index.children 0) (λ child. child.0 ≡ low)
    pub has_children : 0 < length index.children
    pub children : AreChildren IsChild index.children high
    pub filled : Neighbours (λ a b. FillTwo a.1 b.1) index.children

  -- the page is the top of a tree of so many levels above the leaves, with keys in these bounds
  abbrev pub IsTree : (table level : ℕ) → (number : ℕ) → (low : List ℕ) → (high : Option (List ℕ))
      → Type 0
  IsTree table zero number low high = IsLeafPage table number low high
  IsTree table (suc level) number low high =
      IsIndexPage table (suc level) number low high (IsTree table level)

  -- the pages right below an index page
  abbrev pub children_of : ℕ → List ℕ
  children_of number =
      unwrap_or (option_map (λ index. map (λ child. child.1) index.children)
      (page_as index_of pages number)) []

  -- the pages of such a tree
  abbrev pub tree_pages_below : (level number : ℕ) → List ℕ
  tree_pages_below zero number = number ∷ []
  tree_pages_below (suc level) number =
      number ∷ flat_map (tree_pages_below level) (children_of number)

  -- a whole tree: at most eight levels, and a top that is an index page has two children or more
  pub record IsWholeTree (table number : ℕ) (numbers : List ℕ) : Type 0 where
    pub level : ℕ
    pub at_most : level ≤ 7
    pub tree : IsTree table level number [] None
    pub top : 0 < level → 2 ≤ length (children_of number)
    pub all : numbers ≡ tree_pages_below level number

  -- Lists of leaves, before there are trees

  -- a leaf of a table that is not empty, under its number, with this one next
  pub record IsRunPage (table number next : ℕ) : Type 0 where
    pub leaf : RowLeaf
    pub there : page_as row_leaf_of pages number ≡ Some leaf
    pub of_table : leaf.table ≡ table
    pub own_number : leaf.number ≡ number
    pub next_is : leaf.next ≡ next
    pub has_rows : 0 < length leaf.rows

  -- the first of page numbers, and 0 where there is none
  abbrev pub first_or_none : List ℕ → ℕ
  first_or_none [] = 0
  first_or_none (number ∷ numbers) = number

  -- each leaf names the next one, and the last one names none
  abbrev pub AreLinked : ℕ → List ℕ → Type 0
  AreLinked table [] = Unit {0}
  AreLinked table (number ∷ numbers) =
      IsRunPage table number (first_or_none numbers) × AreLinked table numbers

  -- the keys of a leaf
  abbrev pub keys_on : ℕ → List (List ℕ)
  keys_on number =
      unwrap_or (option_map (λ leaf. map (λ row. row.0) leaf.rows)
      (page_as row_leaf_of pages number)) []

  -- a list of leaves from the first one on, with all keys in order
  pub record IsLeafRun (table first : ℕ) (numbers : List ℕ) : Type 0 where
    pub begins : first_or_none numbers ≡ first
    pub linked : AreLinked table numbers
    pub in_order : Neighbours (λ a b. slice_cmp nat_cmp a b ≡ Less) (flat_map keys_on numbers)
    pub filled : Neighbours FillTwo numbers

  -- Tables

  -- the pages of a table that has rows
  abbrev pub IsBody : (table first : ℕ) (numbers : List ℕ) → Type 0
  IsBody table first numbers =
      MatchBool tables_are_trees (IsWholeTree table first numbers) (IsLeafRun table first numbers)

  -- a table on these pages, as the catalogue has it
  pub record IsTable (table : ℕ) (entry : CatalogueEntry) (numbers : List ℕ) : Type 0 where
    pub without_rows : entry.root ≡ 0 → numbers ≡ []
    pub with_rows : entry.root ≢ 0 → IsBody table entry.root numbers
    pub count : entry.pages ≡ length numbers
    pub cost : entry.cost ≡ sum_by cost_of_rows numbers

  -- Undo files

  -- from the page with the last entries on, each names the one with the entries before its own
  abbrev pub AreUndoPages : ℕ → List UndoPage → Type 0
  AreUndoPages number [] = number ≡ 0
  AreUndoPages number (page ∷ before) =
      (page_as undo_page_of pages number ≡ Some page) × (page.number ≡ number)
      × AreUndoPages page.next before

  -- a page was left only where the first entry of the page after it did not fit
  abbrev pub IsFullBefore : UndoPage → UndoPage → Type 0
  IsFullBefore after before =
      IfSome (slice_get after.entries 0) (λ entry. page_room < undo_entries_cost before.entries
      + undo_entry_len entry)

  -- each page has entries and was filled before the next one, and from the first one on entries are
  -- numbered from 1
  pub record IsUndoFile (entry : OpenEntry) (file : List UndoPage) : Type 0 where
    pub linked : AreUndoPages entry.last_page file
    pub has_entries : AllByRecursion (λ page. 0 < length page.entries) file
    pub packed : Neighbours IsFullBefore file
    pub numbered : map (λ e. e.number) (flat_map (λ page. page.entries) (reverse file))
        ≡ range_with_len 1 entry.count

  -- The whole map

  -- each table and each undo file is in order, and each page that is there is named
  pub record IsWellFormed : Type 0 where
    pub catalogue : Catalogue
    pub open_list : OpenList
    pub page_0 : page_as catalogue_of pages 0 ≡ Some catalogue
    pub page_1 : page_as open_list_of pages 1 ≡ Some open_list
    -- the pages of each table and of each open transaction
    pub table_pages : List (List ℕ)
    pub undo_files : List (List UndoPage)
    pub tables : (table : ℕ) (entry : CatalogueEntry) (numbers : List ℕ)
        → slice_get catalogue.entries table ≡ Some entry
        → slice_get table_pages table ≡ Some numbers
        → IsTable (table + 1) entry numbers
    pub all_tables : length table_pages ≡ 500
    pub undo : AllZip IsUndoFile open_list.entries.items undo_files
    -- no page is in two of them, or twice in one
    pub apart : IsTrue (all_differ (λ a b. a == b)
        (map (λ page. page.number) (flat_map (λ file. file) undo_files)))
    -- a page is there where one of these names it
    pub named : (number : ℕ) → IsSome (get pages number)
        ↔ ((number ≡ 0) ⊎ (number ≡ 1) ⊎ Contains (flat_map (λ numbers. numbers) table_pages) number
        ⊎ Contains (map (λ page. page.number) (flat_map (λ file. file) undo_files)) number)

-- what the bytes of a page map mean
abbrev pub reading : PageReading
reading = record {
  standing = standing_rows;
  before_images = rows_before;
  undo_pages = undo_page_count;
  IsWellFormed = λ pages. IsWellFormed pages;
}
