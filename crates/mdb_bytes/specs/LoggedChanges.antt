-- The changes of a group, as they are read from its bytes.
--     change_of      the change that was read
--     IsWithinLimits      what holds of each change that is read, whatever the bytes
--     BeginsWithChange      bytes begin with a change
--     HasChanges, GivesChange      the changes that a reader has left; what it gives next
use Rattle.std.specs.Prelude.{◌≡◌, ℕ, ◌<◌, ◌≤◌, List, [], ◌∷◌, ◌++◌, ◌&&◌, length, Option, Some, None, IsTrue}
use Rattle.std.specs.List.{flat_map, list_all}
use Rattle.mdb_model.specs.declared.change.Change.{Change}
use Rattle.mdb_model.specs.declared.change.Change.TheVariants.{Put, Del}
use Rattle.mdb_model.specs.declared.name.Table.{Table}
use Rattle.mdb_bytes.specs.declared.changes.LoggedChange.{LoggedChange}
use Rattle.mdb_bytes.specs.declared.changes.LoggedChange.TheVariants.{Put as ReadPut, Del as ReadDel}
use Rattle.mdb_bytes.specs.Fields.{fields_fit, spelled}
use Rattle.mdb_bytes.specs.Groups.{change_fields, change_fits}

abbrev pub change_of : LoggedChange → Change
change_of (ReadPut table key value) = Put table key.now value.now
change_of (ReadDel table key) = Del table key.now

-- a table and a key within their limits
abbrev pub IsRowKey : Table → List ℕ → Type 0
IsRowKey table key = (1 ≤ table.0) × (table.0 ≤ 500) × (0 < length key) × (length key ≤ 256)

abbrev pub IsWithinLimits : LoggedChange → Type 0
IsWithinLimits (ReadPut table key value) = IsRowKey table key.now × (length value.now ≤ 1500)
IsWithinLimits (ReadDel table key) = IsRowKey table key.now

-- the bytes of a change that keeps its limits, and then the rest
abbrev pub BeginsWithChange : Change → (bytes rest : List ℕ) → Type 0
BeginsWithChange change bytes rest =
    IsTrue (change_fits change && fields_fit (change_fields change))
    × (bytes ≡ spelled (change_fields change) ++ rest)

-- the bytes of changes that keep their limits, one after the other
abbrev pub HasChanges : List ℕ → List Change → Type 0
HasChanges bytes changes =
    IsTrue (list_all change_fits changes && fields_fit (flat_map change_fields changes))
    × (bytes ≡ spelled (flat_map change_fields changes))

-- the first of the changes, while the others are left; or none where there is none
abbrev pub GivesChange : Option LoggedChange → (left : List ℕ) → List Change → Type 0
GivesChange None left changes = changes ≡ []
GivesChange (Some logged) left changes =
    (others : List Change) × (changes ≡ change_of logged ∷ others) × HasChanges left others
