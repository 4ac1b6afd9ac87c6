-- Rows on the pages of a store.
--     stored_rows      the rows of all tables
--     HasRows      what stands on the pages is known, and is tables
use Rattle.mdb_model.specs.Images.{Image}
use Rattle.mdb_model.specs.Tables.{Tables}
use Rattle.leaf_runs.specs.Runs.{rows_in_pages}
use Rattle.leaf_runs.specs.TableAreas.{IsTableArea}
use Rattle.page_store.specs.LogicalPages.{store_pages}
use Rattle.page_store.specs.Store.{Store, IsKnown}

-- the rows of all tables
abbrev pub stored_rows : Store → Image → Tables
stored_rows store seen = rows_in_pages (store_pages store seen)

-- what stands on the pages is known, and is tables in order and an open list without entries
abbrev pub HasRows : (tells : Type 0) → Store → Image → Type 0
HasRows tells store seen = IsKnown tells store seen × IsTableArea (store_pages store seen)
