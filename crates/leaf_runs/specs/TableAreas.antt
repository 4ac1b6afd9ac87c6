-- Pages that tables and the open list name, and no others.
--     open_list_at      the open list that page 1 spells
--     IsTableArea      page 0 is the catalogue, page 1 the open list, and each other page a leaf
use Rattle.std.specs.Prelude.{◌≡◌, ◌⊎◌, ℕ, [], Option, Some, IsSome, option_and_then}
use Rattle.std.specs.FinMap.{get}
use Rattle.mdb_bytes.specs.declared.logical_pages.OpenList.{OpenList}
use Rattle.mdb_bytes.specs.TablePages.{RowLeaf}
use Rattle.mdb_bytes.specs.PageReadings.{open_list_of}
use Rattle.mdb_bytes.specs.Paged.{PageBytes}
use Rattle.leaf_runs.specs.Runs.{AreRuns, leaf_at}

-- the open list that page 1 spells
abbrev pub open_list_at : PageBytes → Option OpenList
open_list_at pages = option_and_then open_list_of (get pages 1)

-- All tables are runs. Page 1 is an open list without entries. Each other page that lives is the
-- catalogue or a leaf.
pub record IsTableArea (pages : PageBytes) : Type 0 where
  pub runs : AreRuns pages
  pub sessions : OpenList
  pub page_1 : open_list_at pages ≡ Some sessions
  pub no_session : sessions.entries.items ≡ []
  pub named : (number : ℕ) → IsSome (get pages number)
      → (number ≡ 0) ⊎ (number ≡ 1) ⊎ ((leaf : RowLeaf) × (leaf_at pages number ≡ Some leaf))
