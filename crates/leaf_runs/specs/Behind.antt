-- Rows after a key.
--     not_behind      no key of the rows is greater than this one
--     IsCut      where the rows after a key begin
--     IsFirstAfter      the first row after a key, or none
use Rattle.std.specs.Prelude.{◌≡◌, ℕ, ◌≤◌, ◌∷◌, ◌++◌}
use Rattle.std.specs.Prelude.{List, T, Bool, true, false, not, length, take, drop}
use Rattle.std.specs.List.{list_all}
use Rattle.std.specs.Ordering.{is_gt}
use Rattle.std.specs.FinMap.Entries.{below_all}
use Rattle.mdb_bytes.specs.TablePages.{Row}
use Rattle.row_page.specs.Entries.{by_bytes}

-- whether no key is greater than this one
abbrev pub not_behind : List ℕ → List Row → Bool
not_behind after rows = list_all (λ row. not (is_gt (by_bytes row.0 after))) rows

-- the rows from the place on are after the key, and those before it are not
pub record IsCut (rows : List Row) (after : List ℕ) (at : ℕ) : Type 0 where
  pub within : at ≤ length rows
  pub lower : not_behind after (take at rows) ≡ true
  pub higher : T (below_all by_bytes after (drop at rows))

-- this is the first row after the key, or there is none
abbrev pub IsFirstAfter : (found : Bool) → List Row → (after key value : List ℕ) → Type 0
IsFirstAfter true rows after key value =
    (front : List Row) × (back : List Row) × (rows ≡ front ++ (key, value) ∷ back)
    × (not_behind after front ≡ true) × T (below_all by_bytes after ((key, value) ∷ back))
IsFirstAfter false rows after key value = not_behind after rows ≡ true
