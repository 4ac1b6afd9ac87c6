-- What calls make of the pages of a table.
--     SetsLeaf      one page was made a leaf, and the others are as they were
--     HasLeaf      a page is a leaf of a table, with rows or without
--     IsPutOn      a row was put into a leaf
--     IsSplitOff, IsJoinedTo      a leaf was split in two; two leaves became one
use Rattle.std.specs.Prelude.{◌≡◌, ℕ, ◌+◌, ◌<◌, ◌≤◌, [], ◌++◌}
use Rattle.std.specs.Prelude.{List, T, Bool, true, false, length, take, drop, Some, None}
use Rattle.std.specs.FinMap.{get, put, is_sorted}
use Rattle.mdb_bytes.specs.Parts.{page_room}
use Rattle.mdb_bytes.specs.TablePages.{RowLeaf, rows_cost}
use Rattle.mdb_bytes.specs.Paged.{PageBytes}
use Rattle.row_page.specs.Entries.{by_bytes}
use Rattle.leaf_runs.specs.Edits.{with_rows, without, IsLeafNamed}
use Rattle.leaf_runs.specs.Runs.{leaf_at}

-- the page is this leaf, and every other page is as it was
pub record SetsLeaf (pages pages2 : PageBytes) (page : ℕ) (leaf : RowLeaf) : Type 0 where
  pub there : leaf_at pages2 page ≡ Some leaf
  pub others : (other : ℕ) → (other ≡ page → ⊥) → get pages2 other ≡ get pages other

-- a page is a leaf of the table, and names itself by its number
abbrev pub HasLeaf : PageBytes → (table number : ℕ) → Type 0
HasLeaf pages table number =
    (bytes : List ℕ) × (get pages number ≡ Some bytes)
    × ((leaf : RowLeaf) × IsLeafNamed table number bytes leaf)

-- the row was put in; or it has no room, and the leaf has no row of the key any more
abbrev pub IsPutOn : (done : Bool) → (pages pages2 : PageBytes) → (page : ℕ) → RowLeaf
    → (key value : List ℕ) → Type 0
IsPutOn true pages pages2 page leaf key value =
    SetsLeaf pages pages2 page (with_rows leaf leaf.next (put by_bytes key value leaf.rows))
IsPutOn false pages pages2 page leaf key value =
    SetsLeaf pages pages2 page (with_rows leaf leaf.next (without key leaf.rows))
    × (page_room < rows_cost (put by_bytes key value (without key leaf.rows)))

-- Several pages

-- the pages of two numbers may have changed, and no others
abbrev pub StaysBeside : (pages pages2 : PageBytes) → (a b : ℕ) → Type 0
StaysBeside pages pages2 a b =
    (other : ℕ) → (other ≡ a → ⊥) → (other ≡ b → ⊥) → get pages2 other ≡ get pages other

-- a page that did not live is a leaf of the table without rows
pub record IsNewLeaf (pages pages2 : PageBytes) (table page : ℕ) : Type 0 where
  pub fresh : get pages page ≡ None
  pub small : page ≤ 65535
  pub set : SetsLeaf pages pages2 page
      (record { table = table; number = page; next = 0; rows = [] })

-- the rows of a leaf from a place on were moved to a leaf without rows, which is the next one now
abbrev pub IsSplitOff : (pages pages2 : PageBytes) → (page other at : ℕ) → (leaf blank : RowLeaf)
    → Type 0
IsSplitOff pages pages2 page other at leaf blank =
    (leaf_at pages2 page ≡ Some (with_rows leaf other (take at leaf.rows)))
    × (leaf_at pages2 other ≡ Some (with_rows blank leaf.next (drop at leaf.rows)))
    × StaysBeside pages pages2 page other

-- the rows of the next leaf were moved after those of a leaf, and its page does not live any more
abbrev pub IsJoinedTo : (pages pages2 : PageBytes) → (page other : ℕ) → (leaf next : RowLeaf)
    → Type 0
IsJoinedTo pages pages2 page other leaf next =
    (leaf_at pages2 page ≡ Some (with_rows leaf next.next (leaf.rows ++ next.rows)))
    × (get pages2 other ≡ None) × StaysBeside pages pages2 page other

-- the page is such a leaf of the table, under its number
abbrev pub IsNamedAt : PageBytes → (table number : ℕ) → RowLeaf → Type 0
IsNamedAt pages table number leaf =
    (leaf_at pages number ≡ Some leaf) × (leaf.table ≡ table) × (leaf.number ≡ number)

-- the one page is a leaf with `at` rows or more, and the other one a leaf without rows
abbrev pub MaySplit : PageBytes → (table from to at : ℕ) → Type 0
MaySplit pages table from to at =
    (leaf : RowLeaf) × (blank : RowLeaf) × IsNamedAt pages table from leaf
    × IsNamedAt pages table to blank × (blank.rows ≡ []) × (at ≤ length leaf.rows)

-- the pages are leaves whose rows ascend and go on one page
abbrev pub MayJoin : PageBytes → (table first second : ℕ) → Type 0
MayJoin pages table first second =
    (leaf : RowLeaf) × (next : RowLeaf) × IsNamedAt pages table first leaf
    × IsNamedAt pages table second next × T (is_sorted by_bytes (leaf.rows ++ next.rows))
    × (rows_cost leaf.rows + rows_cost next.rows ≤ page_room)
