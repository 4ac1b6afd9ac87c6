-- A leaf that is split at a key, and a row put into one of the two.
--     IsPlaceOn      where the rows after a key begin on a page
--     IsCutOff      the rows of a leaf after a key were moved to a new leaf, which is the next one
--         now
--     AreHalves      two leaves whose rows go on one page
--     IsPutOnOne      a row was put into one of two leaves
use Rattle.std.specs.Prelude.{◌≡◌, ◌⊎◌, ℕ, ◌+◌, ◌≤◌, List, take, drop, Some, None}
use Rattle.std.specs.FinMap.{get, find, put}
use Rattle.mdb_bytes.specs.Parts.{page_room}
use Rattle.mdb_bytes.specs.TablePages.{Row, RowLeaf, rows_cost}
use Rattle.mdb_bytes.specs.Paged.{PageBytes}
use Rattle.row_page.specs.Entries.{by_bytes}
use Rattle.leaf_runs.specs.Behind.{IsCut}
use Rattle.leaf_runs.specs.Edits.{with_rows}
use Rattle.leaf_runs.specs.Runs.{leaf_at}
use Rattle.leaf_runs.specs.Steps.{StaysBeside, IsNamedAt}

-- the rows of the leaf on a page that are after a key begin at this place
abbrev pub IsPlaceOn : PageBytes → (page : ℕ) → (key : List ℕ) → (at : ℕ) → Type 0
IsPlaceOn pages page key at =
    (leaf : RowLeaf) × (leaf_at pages page ≡ Some leaf) × IsCut leaf.rows key at

-- the rows of a leaf after a key were moved to a leaf on a page that did not live, which is the
-- next one now
pub record IsCutOff (pages pages2 : PageBytes) (table page : ℕ) (leaf : RowLeaf) (key : List ℕ)
    (other : ℕ) : Type 0 where
  pub at : ℕ
  pub cut : IsCut leaf.rows key at
  pub fresh : get pages other ≡ None
  pub small : other ≤ 65535
  pub first : leaf_at pages2 page ≡ Some (with_rows leaf other (take at leaf.rows))
  pub second : leaf_at pages2 other
      ≡ Some (record { table = table; number = other; next = leaf.next; rows = drop at leaf.rows })
  pub others : StaysBeside pages pages2 page other

-- two leaves of the table whose rows go on one page, and the first one has no row of the key
pub record AreHalves (pages : PageBytes) (table page other : ℕ) (key : List ℕ)
    (a b : RowLeaf) : Type 0 where
  pub first : IsNamedAt pages table page a
  pub second : IsNamedAt pages table other b
  pub apart : page ≡ other → ⊥
  pub lacks : find by_bytes key a.rows ≡ None
  pub fits : rows_cost a.rows + rows_cost b.rows ≤ page_room

-- the row was put into the one leaf or into the other
pub record IsPutOnOne (pages pages2 : PageBytes) (page other : ℕ) (a b : RowLeaf)
    (key value : List ℕ) : Type 0 where
  pub rows : List Row
  pub rows2 : List Row
  pub put_on : ((rows ≡ put by_bytes key value a.rows) × (rows2 ≡ b.rows))
      ⊎ ((rows ≡ a.rows) × (rows2 ≡ put by_bytes key value b.rows))
  pub first : leaf_at pages2 page ≡ Some (with_rows a a.next rows)
  pub second : leaf_at pages2 other ≡ Some (with_rows b b.next rows2)
  pub others : StaysBeside pages pages2 page other
