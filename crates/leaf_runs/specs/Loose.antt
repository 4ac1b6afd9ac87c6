-- Runs on the way through a change: leaves with rows or without, as full as they may be.
--     LeafIsAt, IsLooseChain, IsLooseRun      the leaves of a table in order
--     StaysBesideTable      only pages of one table may have changed
--     Rewrites      a table stands on these leaves now, and the pages of others stay
--     PartsAre, PutsRowInLeaf      a row was put into a leaf, which may be two now
--     IsJoinTry      a leaf and the next one were joined where they go on one page
--     IsChangedRun, JoinsLeaves      a run that is filled but for the leaves of a change; one that
--         is filled
--     LeavesOthers      what a change leaves of the other tables
--     row_cost_of      what the row of a key costs
use Rattle.std.specs.Prelude.{◌≡◌, ◌⊎◌, ℕ, ◌+◌, ◌<◌, ◌≤◌, [], ◌∷◌, ◌++◌}
use Rattle.std.specs.Prelude.{List, T, Bool, true, false, Option, Some, None, map, length, Contains}
use Rattle.std.specs.FinMap.{get, find, put, is_sorted}
use Rattle.std.specs.FinMap.Entries.{below_all}
use Rattle.mdb_bytes.specs.declared.logical_pages.CatalogueEntry.{CatalogueEntry}
use Rattle.mdb_bytes.specs.TablePages.{Row, RowLeaf, rows_cost}
use Rattle.mdb_bytes.specs.Forms.{Neighbours}
use Rattle.mdb_bytes.specs.Paged.{PageBytes}
use Rattle.row_page.specs.Entries.{by_bytes}
use Rattle.leaf_runs.specs.Leaves.{all_below}
use Rattle.leaf_runs.specs.Runs.{Leaf, run_rows, first_page, last_page, leaf_at, leaf_value}
use Rattle.leaf_runs.specs.Runs.{LeavesFillTwo, HasEntry}

-- the leaf stands on its page, with rows or without, and names this page as the next one
pub record LeafIsAt (pages : PageBytes) (table : ℕ) (leaf : Leaf) (next : ℕ) : Type 0 where
  pub there : leaf_at pages leaf.page ≡ Some (leaf_value table leaf next)
  pub real : 0 < leaf.page
  pub small : leaf.page ≤ 65535

-- each leaf names the next one, and the last one names none
abbrev pub IsLooseChain : PageBytes → (table : ℕ) → List Leaf → Type 0
IsLooseChain pages table [] = Unit {0}
IsLooseChain pages table (leaf ∷ leaves) =
    LeafIsAt pages table leaf (first_page leaves) × IsLooseChain pages table leaves

-- the rows of a table stand in order on these leaves, and on no other page
pub record IsLooseRun (pages : PageBytes) (table : ℕ) (leaves : List Leaf) : Type 0 where
  pub linked : IsLooseChain pages table leaves
  pub in_order : T (is_sorted by_bytes (run_rows leaves))
  pub named : (number : ℕ) (leaf : RowLeaf) → leaf_at pages number ≡ Some leaf → leaf.table ≡ table
      → Contains (map (λ leaf. leaf.page) leaves) number

-- the page does not live, or is a leaf of the table
abbrev pub IsFreeOrOf : PageBytes → (table number : ℕ) → Type 0
IsFreeOrOf pages table number =
    (get pages number ≡ None)
    ⊎ ((leaf : RowLeaf) × (leaf_at pages number ≡ Some leaf) × (leaf.table ≡ table))

-- a page that has changed did not live or was a leaf of the table, and so it is now
abbrev pub StaysBesideTable : (pages pages2 : PageBytes) → (table : ℕ) → Type 0
StaysBesideTable pages pages2 table =
    (number : ℕ)
    → (get pages2 number ≡ get pages number)
    ⊎ (IsFreeOrOf pages table number × IsFreeOrOf pages2 table number)

-- the table stands on these leaves now, and pages that are not of it stay
pub record Rewrites (pages pages2 : PageBytes) (table : ℕ) (leaves : List Leaf) : Type 0 where
  pub run : IsLooseRun pages2 table leaves
  pub others : StaysBesideTable pages pages2 table

-- Rows

-- the rows before a leaf are below the key, and those after it are above
pub record IsRound (front : List Leaf) (key : List ℕ) (back : List Leaf) : Type 0 where
  pub lower : all_below key (run_rows front) ≡ true
  pub higher : T (below_all by_bytes key (run_rows back))

-- one leaf on the page, or two: the one on it and then the one on another page
abbrev pub PartsAre : List Leaf → (page : ℕ) → (other : Option ℕ) → Type 0
PartsAre parts page None = (here : Leaf) × (here.page ≡ page) × (parts ≡ here ∷ [])
PartsAre parts page (Some other) =
    (here : Leaf) × (there : Leaf) × (here.page ≡ page) × (there.page ≡ other)
    × (parts ≡ here ∷ there ∷ [])

-- the row was put into a leaf, on whose place these leaves stand now
pub record PutsRowInLeaf (pages pages2 : PageBytes) (table : ℕ) (front : List Leaf) (here : Leaf)
    (back : List Leaf) (key value : List ℕ) (other : Option ℕ) : Type 0 where
  pub parts : List Leaf
  pub are : PartsAre parts here.page other
  pub rows : run_rows parts ≡ put by_bytes key value here.rows
  pub rewrites : Rewrites pages pages2 table (front ++ (parts ++ back))

-- a leaf of a run, by its page
pub record HasHere (pages : PageBytes) (table page : ℕ) : Type 0 where
  pub front : List Leaf
  pub here : Leaf
  pub back : List Leaf
  pub page_is : here.page ≡ page
  pub run : IsLooseRun pages table (front ++ here ∷ back)

-- a leaf of a run where a key stands or would stand, by its page
pub record HasSpot (pages : PageBytes) (table page : ℕ) (key : List ℕ) : Type 0 where
  pub front : List Leaf
  pub here : Leaf
  pub back : List Leaf
  pub page_is : here.page ≡ page
  pub run : IsLooseRun pages table (front ++ here ∷ back)
  pub round : IsRound front key back

-- Joins

abbrev pub one_if : Bool → ℕ
one_if true = 1
one_if false = 0

-- Where the leaves after a leaf fill two pages each, it was joined with the first of them if both
-- go on one page: now they do so from its page on. Its page is the same, and its rows are no fewer.
pub record IsJoinTry (pages pages2 : PageBytes) (table : ℕ) (front : List Leaf) (a : Leaf)
    (back : List Leaf) (joined : Bool) : Type 0 where
  pub here : Leaf
  pub rest : List Leaf
  pub rewrites : Rewrites pages pages2 table (front ++ here ∷ rest)
  pub page : here.page ≡ a.page
  pub grown : rows_cost a.rows ≤ rows_cost here.rows
  pub rows : here.rows ++ run_rows rest ≡ a.rows ++ run_rows back
  pub filled : Neighbours LeavesFillTwo (here ∷ rest)
  pub count : length rest + one_if joined ≡ length back

-- a run whose leaves fill two pages each, but for those of a change
pub record IsChangedRun (pages : PageBytes) (table : ℕ) (front parts back : List Leaf)
    (before : Option ℕ) (page : ℕ) (other : Option ℕ) : Type 0 where
  pub run : IsLooseRun pages table (front ++ (parts ++ back))
  pub before_is : before ≡ last_page front
  pub are : PartsAre parts page other
  pub filled_front : Neighbours LeavesFillTwo front
  pub filled_back : Neighbours LeavesFillTwo back

-- there is such a run
abbrev pub HasChangedRun : PageBytes → (table : ℕ) → (before : Option ℕ) → (page : ℕ)
    → (other : Option ℕ) → Type 0
HasChangedRun pages table before page other =
    (front : List Leaf) × (parts : List Leaf) × (back : List Leaf)
    × IsChangedRun pages table front parts back before page other

-- the rows stand on leaves that fill two pages each; `joined` leaves were joined to the one before
pub record JoinsLeaves (pages pages2 : PageBytes) (table : ℕ) (leaves : List Leaf)
    (joined : ℕ) : Type 0 where
  pub leaves2 : List Leaf
  pub rewrites : Rewrites pages pages2 table leaves2
  pub rows : run_rows leaves2 ≡ run_rows leaves
  pub begins : first_page leaves2 ≡ first_page leaves
  pub filled : Neighbours LeavesFillTwo leaves2
  pub count : length leaves2 + joined ≡ length leaves

-- What a change of a table leaves of the others

-- Pages that have changed did not live or were leaves of the table, and so they are now; page 0
-- aside, where the catalogue says the same of each other table.
pub record LeavesOthers (pages pages2 : PageBytes) (table : ℕ) : Type 0 where
  pub beside : (number : ℕ) → (number ≡ 0 → ⊥)
      → (get pages2 number ≡ get pages number)
      ⊎ (IsFreeOrOf pages table number × IsFreeOrOf pages2 table number)
  pub entries : (other : ℕ) (entry : CatalogueEntry) → 1 ≤ other → (other ≡ table → ⊥)
      → HasEntry pages other entry → HasEntry pages2 other entry

-- what the row of a key costs, 0 where there is none
abbrev pub row_cost_of : (key : List ℕ) → List Row → ℕ
row_cost_of key rows = cost_of_value (find by_bytes key rows) where
  cost_of_value : Option (List ℕ) → ℕ
  cost_of_value None = 0
  cost_of_value (Some value) = 8 + length key + length value
