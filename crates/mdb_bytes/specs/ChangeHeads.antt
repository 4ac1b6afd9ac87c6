-- The fixed front of a change.
use Rattle.std.specs.Prelude.{◌≡◌, ℕ, ◌≤◌, ◌⊎◌, List, length}
use Rattle.mdb_model.specs.declared.change.Change.{Change}
use Rattle.mdb_model.specs.declared.change.Change.TheVariants.{Put, Del}
use Rattle.mdb_bytes.specs.declared.changes.ChangeHead.{ChangeHead}
use Rattle.mdb_bytes.specs.Fields.{number_at}

-- what stands at its places
abbrev pub head_in : List ℕ → ChangeHead
head_in bytes =
    record {
      table = number_at 2 0 bytes;
      kind = number_at 1 2 bytes;
      key_len = number_at 2 3 bytes;
      value_len = number_at 2 5 bytes;
    }

-- that of a change
abbrev pub head_for : Change → ChangeHead
head_for (Put table key value) =
    record { table = table.0; kind = 1; key_len = length key; value_len = length value }
head_for (Del table key) = record { table = table.0; kind = 2; key_len = length key; value_len = 0 }

abbrev pub KeepsHead : ChangeHead → Type 0
KeepsHead h =
    (1 ≤ h.table) × (h.table ≤ 500) × (1 ≤ h.key_len) × (h.key_len ≤ 256) × (h.value_len ≤ 1500)
    × ((h.kind ≡ 1) ⊎ ((h.kind ≡ 2) × (h.value_len ≡ 0)))
