-- What a change makes of a table and of its entry in the catalogue.
--     with_entry, IsEntrySet, SetsEntry      the catalogue with another entry of one table; page 0
--         says so now
--     IsWholeRun, HasWholeRun, HasSomeRun      a table on its leaves, and on no other page
--     IsNewRun      a table has these rows now, on leaves as its new entry says
--     IsSettledRun, IsTakenRun      such leaves on the way, of which an only one may be without
--         rows
--     leaves_added      how many leaves a change has added
--     FindsSpot, HasFound      where a key stands or would stand, and what its row costs
--     PutsRow, DelsRow      what a put and a deletion make of the pages
use Rattle.std.specs.Prelude.{◌≡◌, ℕ, ◌-◌, ◌<◌}
use Rattle.std.specs.Prelude.{List, Option, Some, None, length, map, slice_set}
use Rattle.std.specs.Prelude.{Contains}
use Rattle.std.specs.FinMap.{get, insert, remove}
use Rattle.mdb_bytes.specs.declared.logical_pages.CatalogueEntry.{CatalogueEntry}
use Rattle.mdb_bytes.specs.declared.logical_pages.Catalogue.{Catalogue}
use Rattle.mdb_bytes.specs.TablePages.{Row, RowLeaf, rows_cost}
use Rattle.mdb_bytes.specs.PageReadings.{catalogue_of}
use Rattle.mdb_bytes.specs.Forms.{Neighbours}
use Rattle.mdb_bytes.specs.Paged.{PageBytes}
use Rattle.leaf_runs.specs.Runs.{Leaf, run_rows, first_page, leaf_at, catalogue_at, LeavesFillTwo}
use Rattle.leaf_runs.specs.Runs.{IsTableRun, IsSpot, AreRuns, rows_in_pages}
use Rattle.leaf_runs.specs.Loose.{IsLooseRun, StaysBesideTable, LeavesOthers, row_cost_of}

-- the catalogue with this entry of the table
abbrev pub with_entry : Catalogue → (table : ℕ) → CatalogueEntry → Catalogue
with_entry catalogue table entry =
    record { entries = slice_set catalogue.entries (table - 1) entry }

-- the page is a catalogue, and says this of the table now
abbrev pub IsEntrySet : (table : ℕ) → CatalogueEntry → (old new : List ℕ) → Type 0
IsEntrySet table entry old new =
    (catalogue : Catalogue) × (catalogue_of old ≡ Some catalogue)
    × (catalogue_of new ≡ Some (with_entry catalogue table entry))

-- page 0 says this of the table now, and all else is as it was
pub record SetsEntry (pages pages2 : PageBytes) (table : ℕ) (entry : CatalogueEntry) : Type 0 where
  pub catalogue : Catalogue
  pub was : catalogue_at pages ≡ Some catalogue
  pub is_now : catalogue_at pages2 ≡ Some (with_entry catalogue table entry)
  pub others : (other : ℕ) → (other ≡ 0 → ⊥) → get pages2 other ≡ get pages other

-- a table on these leaves as its entry says, and on no other page
pub record IsWholeRun (pages : PageBytes) (table : ℕ) (entry : CatalogueEntry)
    (leaves : List Leaf) : Type 0 where
  pub run : IsTableRun pages table entry leaves
  pub named : (number : ℕ) (leaf : RowLeaf) → leaf_at pages number ≡ Some leaf → leaf.table ≡ table
      → Contains (map (λ leaf. leaf.page) leaves) number

-- there are such leaves
abbrev pub HasWholeRun : PageBytes → (table : ℕ) → CatalogueEntry → Type 0
HasWholeRun pages table entry = (leaves : List Leaf) × IsWholeRun pages table entry leaves

-- there are such leaves, and one of them at least
abbrev pub HasSomeRun : PageBytes → (table : ℕ) → CatalogueEntry → Type 0
HasSomeRun pages table entry =
    (leaves : List Leaf) × IsWholeRun pages table entry leaves × (0 < length leaves)

-- a table has these rows now, on leaves as the entry says; the pages that are not of it stay
pub record IsNewRun (pages pages2 : PageBytes) (table : ℕ) (rows : List Row)
    (entry : CatalogueEntry) : Type 0 where
  pub leaves : List Leaf
  pub whole : IsWholeRun pages2 table entry leaves
  pub rows_are : run_rows leaves ≡ rows
  pub others : StaysBesideTable pages pages2 table

-- Rows taken out

-- leaves of a table that fill two pages each, as its entry says
pub record IsSettledRun (pages : PageBytes) (table : ℕ) (entry : CatalogueEntry)
    (leaves : List Leaf) : Type 0 where
  pub run : IsLooseRun pages table leaves
  pub some : 0 < length leaves
  pub filled : Neighbours LeavesFillTwo leaves
  pub begins : entry.root ≡ first_page leaves
  pub count : entry.pages ≡ length leaves
  pub cost : entry.cost ≡ rows_cost (run_rows leaves)

-- there are such leaves
abbrev pub HasSettledRun : PageBytes → CatalogueEntry → Type 0
HasSettledRun pages entry =
    (table : ℕ) × (leaves : List Leaf) × IsSettledRun pages table entry leaves

-- a table has these rows now, on such leaves; the pages that are not of it stay
pub record IsTakenRun (pages pages2 : PageBytes) (table : ℕ) (rows : List Row)
    (entry : CatalogueEntry) : Type 0 where
  pub leaves : List Leaf
  pub settled : IsSettledRun pages2 table entry leaves
  pub rows_are : run_rows leaves ≡ rows
  pub others : StaysBesideTable pages pages2 table

-- Entries

-- how many leaves a change has added: one where it made another
abbrev pub leaves_added : (other : Option ℕ) → ℕ
leaves_added None = 0
leaves_added (Some page) = 1

-- the row of a key was found at its spot, with what it costs there, or it would stand there
pub record FindsSpot (leaves : List Leaf) (key : List ℕ) (before : Option ℕ)
    (page cost : ℕ) : Type 0 where
  pub spot : IsSpot leaves key before page
  pub cost_is : cost ≡ row_cost_of key (run_rows leaves)

-- there are leaves of the table where it was found
abbrev pub HasFound : PageBytes → (table : ℕ) → CatalogueEntry → (key : List ℕ)
    → (before : Option ℕ) → (page cost : ℕ) → Type 0
HasFound pages table entry key before page cost =
    (leaves : List Leaf) × IsWholeRun pages table entry leaves
    × FindsSpot leaves key before page cost

-- Rows put and deleted

-- The rows are as before but for one that is put, on leaves that are in order. The pages of the
-- other tables are left.
pub record PutsRow (pages pages2 : PageBytes) (table : ℕ) (key value : List ℕ) : Type 0 where
  pub runs : AreRuns pages2
  pub rows : rows_in_pages pages2 ≡ insert (rows_in_pages pages) (table, key) value
  pub others : LeavesOthers pages pages2 table

-- The same of one that is taken away, if it was there.
pub record DelsRow (pages pages2 : PageBytes) (table : ℕ) (key : List ℕ) : Type 0 where
  pub runs : AreRuns pages2
  pub rows : rows_in_pages pages2 ≡ remove (rows_in_pages pages) (table, key)
  pub others : LeavesOthers pages pages2 table
