-- Where the parts of a change stand in the bytes of a group.
--     table_of, change_kind, change_key, value_of      the parts of a change
--     entry_in      the places of a change that begins at a place
--     IsEntry, FindsChange      places are those of a change; of the change with a number, counted
--         from 0
--     Skips      the bytes after the first changes
use Rattle.std.specs.Prelude.{◌≡◌, ℕ, ◌+◌, ◌-◌, ◌<◌, ◌≤◌, List, [], length, take, drop, slice_get, Option, Some, None}
use Rattle.std.specs.Borrow.{Bor}
use Rattle.mdb_model.specs.declared.change.Change.{Change}
use Rattle.mdb_model.specs.declared.change.Change.TheVariants.{Put, Del}
use Rattle.mdb_bytes.specs.declared.entry.ChangeEntry.{ChangeEntry}
use Rattle.mdb_bytes.specs.LoggedChanges.{HasChanges}

abbrev pub table_of : Change → ℕ
table_of (Put table key value) = table.0
table_of (Del table key) = table.0

abbrev pub change_kind : Change → ℕ
change_kind (Put table key value) = 1
change_kind (Del table key) = 2

abbrev pub change_key : Change → List ℕ
change_key (Put table key value) = key
change_key (Del table key) = key

-- empty where there is none
abbrev pub value_of : Change → List ℕ
value_of (Put table key value) = value
value_of (Del table key) = []

abbrev pub entry_in : (place : ℕ) → Change → ChangeEntry
entry_in place change = record {
  table = table_of change;
  kind = change_kind change;
  key = (place + 7, length (change_key change));
  value = (place + 7 + length (change_key change), length (value_of change));
}

-- these places in the bytes have the key and the value
abbrev pub IsEntry : List ℕ → ChangeEntry → Change → Type 0
IsEntry bytes entry change =
    (entry.table ≡ table_of change) × (entry.kind ≡ change_kind change)
    × (take entry.key.1 (drop entry.key.0 bytes) ≡ change_key change)
    × (entry.key.1 ≡ length (change_key change))
    × (take entry.value.1 (drop entry.value.0 bytes) ≡ value_of change)
    × (entry.value.1 ≡ length (value_of change))

-- the change with this number, or none where there are no more
abbrev pub FindsChange : List ℕ → List Change → ℕ → Option ChangeEntry → Type 0
FindsChange bytes changes i None = length changes ≤ i
FindsChange bytes changes i (Some entry) =
    (change : Change) × (slice_get changes i ≡ Some change) × IsEntry bytes entry change

-- what stands after n changes, or none where there are fewer
abbrev pub Skips : List ℕ → ℕ → Option (Bor (List ℕ)) → Type 0
Skips bytes n None = (changes : List Change) → HasChanges bytes changes → length changes < n
Skips bytes n (Some rest) =
    (length rest.now ≤ length bytes) × (drop (length bytes - length rest.now) bytes ≡ rest.now)
    × ((changes : List Change) → HasChanges bytes changes → HasChanges rest.now (drop n changes))
