-- What a scan of a table takes at each step.
--     seen_rows      the rows that a session sees
--     as_row      the row that a change sets
--     only_before      a row whose key comes before a bound
--     IsBehind      where the first item after a key stands
use Rattle.std.specs.Prelude.{◌≡◌, ◌≢◌, List, length, slice_index_or, ℕ, ◌<◌, ◌≤◌, Option, Some, None, if◌then◌else◌}
use Rattle.std.specs.declared.cmp.Ordering.{Ordering}
use Rattle.std.specs.declared.cmp.Ordering.TheVariants.{Greater}
use Rattle.std.specs.FinMap.{values}
use Rattle.mdb_model.specs.declared.change.Change.{Change}
use Rattle.mdb_model.specs.declared.change.Change.TheVariants.{Put, Del}
use Rattle.mdb_model.specs.Tables.{Tables, with_changes}
use Rattle.mdb_bytes.specs.Held.{is_before}
use Rattle.transactions.specs.Ongoing.{Ongoing, changes_of}

-- the rows that a session sees: the committed ones with its own last change of each key
abbrev pub seen_rows : Tables → Ongoing → ℕ → Tables
seen_rows rows ongoing session = with_changes (values (changes_of ongoing session)) rows

-- the key and the value that a put sets; a deletion sets none
abbrev pub as_row : Change → Option (List ℕ × List ℕ)
as_row (Put table key value) = Some (key, value)
as_row (Del table key) = None

-- the row, if its key comes before the bound
abbrev pub only_before : (bound : List ℕ) → Option (List ℕ × List ℕ) → Option (List ℕ × List ℕ)
only_before bound None = None
only_before bound (Some row) = if is_before row.0 bound then Some row else None

module _ {K X : Type 0} (order : K → K → Ordering) (key_of : X → K) (items : List X)
    (key : K) (at : ℕ) where
  -- the items before the index have keys up to this one, and those from it on greater ones
  pub record IsBehind : Type 0 where
    pub in_range : at ≤ length items
    pub upto_before : (j : ℕ) (d : X) → j < at
        → order (key_of (slice_index_or items j d)) key ≢ Greater
    pub greater_after : (j : ℕ) (d : X) → at ≤ j → j < length items
        → order (key_of (slice_index_or items j d)) key ≡ Greater
