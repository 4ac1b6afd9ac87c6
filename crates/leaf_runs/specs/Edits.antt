-- What edits make of a leaf.
--     with_rows      a leaf with other rows
--     without      rows without the one of a key
--     IsTaken, IsPut      a row was taken out of a leaf; a row was put in
--     Splits, Joins      a leaf is split in two; two leaves become one
use Rattle.std.specs.Prelude.{◌≡◌, ℕ, ◌+◌, ◌<◌, ◌≤◌, [], ◌++◌}
use Rattle.std.specs.Prelude.{List, T, length, take, drop, Bool, true, false, not, Some, is_some}
use Rattle.std.specs.Ordering.{eq_by_cmp}
use Rattle.std.specs.FinMap.{find, put, is_sorted}
use Rattle.std.specs.FinMap.Entries.{where_key}
use Rattle.mdb_bytes.specs.Parts.{page_room}
use Rattle.mdb_bytes.specs.TablePages.{Row, RowLeaf, rows_cost}
use Rattle.mdb_bytes.specs.PageReadings.{row_leaf_of}
use Rattle.row_page.specs.Entries.{by_bytes}

-- the leaf with these rows, and this next page
abbrev pub with_rows : RowLeaf → ℕ → List Row → RowLeaf
with_rows leaf next rows =
    record { table = leaf.table; number = leaf.number; next = next; rows = rows }

-- the rows without the one of a key
abbrev pub without : List ℕ → List Row → List Row
without key rows = where_key by_bytes (λ other. not (eq_by_cmp by_bytes key other)) rows

-- the row was taken out, or there is none and the page is as it was
abbrev pub IsTaken : (taken : Bool) → RowLeaf → (key new : List ℕ) → Type 0
IsTaken taken leaf key new =
    (taken ≡ is_some (find by_bytes key leaf.rows))
    × (row_leaf_of new ≡ Some (with_rows leaf leaf.next (without key leaf.rows)))

-- the row was put in; or it has no room, and the leaf has no row of the key any more
abbrev pub IsPut : (done : Bool) → RowLeaf → (key value new : List ℕ) → Type 0
IsPut true leaf key value new =
    row_leaf_of new ≡ Some (with_rows leaf leaf.next (put by_bytes key value leaf.rows))
IsPut false leaf key value new =
    (row_leaf_of new ≡ Some (with_rows leaf leaf.next (without key leaf.rows)))
    × (page_room < rows_cost (put by_bytes key value (without key leaf.rows)))

-- the row was put in, or the page is as it was and there is no room
abbrev pub IsInserted : (done : Bool) → RowLeaf → (key value old new : List ℕ) → Type 0
IsInserted true leaf key value old new =
    row_leaf_of new ≡ Some (with_rows leaf leaf.next (put by_bytes key value leaf.rows))
IsInserted false leaf key value old new =
    (new ≡ old) × (page_room < rows_cost (put by_bytes key value leaf.rows))

-- Two pages

-- the bytes are the leaf of the table with this number
abbrev pub IsLeafNamed : (table number : ℕ) → List ℕ → RowLeaf → Type 0
IsLeafNamed table number bytes leaf =
    (row_leaf_of bytes ≡ Some leaf) × (leaf.table ≡ table) × (leaf.number ≡ number)

-- where the first page is such a leaf and the second one without rows, the rows from a place on
-- move there
abbrev pub Splits : (table from to at : ℕ) → Bool → (a b a2 b2 : List ℕ) → Type 0
Splits table from to at answer a b a2 b2 =
    (leaf blank : RowLeaf) → IsLeafNamed table from a leaf → IsLeafNamed table to b blank
    → blank.rows ≡ [] → at ≤ length leaf.rows
    → (answer ≡ true) × (row_leaf_of a2 ≡ Some (with_rows leaf to (take at leaf.rows)))
    × (row_leaf_of b2 ≡ Some (with_rows blank leaf.next (drop at leaf.rows)))

-- where both pages are such leaves, whose rows ascend and go on one page, all of them move to the
-- first one
abbrev pub Joins : (table first second : ℕ) → Bool → (a b a2 : List ℕ) → Type 0
Joins table first second answer a b a2 =
    (leaf next : RowLeaf) → IsLeafNamed table first a leaf → IsLeafNamed table second b next
    → T (is_sorted by_bytes (leaf.rows ++ next.rows))
    → rows_cost leaf.rows + rows_cost next.rows ≤ page_room
    → (answer ≡ true) × (row_leaf_of a2 ≡ Some (with_rows leaf next.next (leaf.rows ++ next.rows)))
