-- A row leaf as a sorted list of rows.
--     key_of_row      the order of keys; the key of a row
--     IsRunLeaf      bytes are a leaf of a table with rows, under its number
--     all_below      whether the keys of rows are below a key
use Rattle.std.specs.Prelude.{◌≡◌, ℕ, ◌<◌, List, length, Bool, Some}
use Rattle.std.specs.List.{list_all}
use Rattle.std.specs.Ordering.{is_lt}
use Rattle.mdb_bytes.specs.TablePages.{Row, RowLeaf}
use Rattle.mdb_bytes.specs.PageReadings.{row_leaf_of}
use Rattle.row_page.specs.Entries.{by_bytes}

abbrev pub key_of_row : Row → List ℕ
key_of_row row = row.0

-- the bytes are a leaf of the table with one row or more, and with its number
pub record IsRunLeaf (table number : ℕ) (bytes : List ℕ) : Type 0 where
  pub leaf : RowLeaf
  pub there : row_leaf_of bytes ≡ Some leaf
  pub of_table : leaf.table ≡ table
  pub own_number : leaf.number ≡ number
  pub has_rows : 0 < length leaf.rows

-- whether all keys are below this one
abbrev pub all_below : List ℕ → List Row → Bool
all_below key rows = list_all (λ row. is_lt (by_bytes row.0 key)) rows
