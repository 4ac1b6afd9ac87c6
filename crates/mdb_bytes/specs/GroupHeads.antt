-- The head of a group: its first 33 bytes.
--     group_head_fields, group_head_of      its fields; the head of a group
--     BeginsWithHead, FindsHead      bytes begin with a head; the head that they begin with, if
--         there is one
--     head_read      what stands at the places of a head
--     IsGroup      bytes are a group of this name and number
use Rattle.std.specs.Prelude.{◌≡◌, ℕ, ◌≤◌, List, [], ◌∷◌, ◌++◌, length, drop, Option, Some, None, IsTrue}
use Rattle.mdb_model.specs.declared.change.Change.{Change}
use Rattle.mdb_model.specs.declared.name.Name.{Name}
use Rattle.mdb_model.specs.Sessions.{group_bytes}
use Rattle.mdb_bytes.specs.declared.group.GroupHead.{GroupHead}
use Rattle.mdb_bytes.specs.Fields.{Field, Byte, Four, Eight, Spells, fields_fit, spelled, number_at}
use Rattle.mdb_bytes.specs.Groups.{Group, group_format, open_gate, longest_group}

abbrev pub group_head_fields : GroupHead → List Field
group_head_fields head =
    Byte open_gate ∷ Four head.length ∷ Eight head.name.birth ∷ Eight head.name.generation
    ∷ Eight head.number ∷ Four head.changes ∷ []

abbrev pub group_head_of : Group → GroupHead
group_head_of v =
    record {
      length = group_bytes v.changes;
      name = v.name;
      number = v.number;
      changes = length
          v.changes;
    }

-- the bytes of a head, and then the rest
abbrev pub BeginsWithHead : GroupHead → (bytes rest : List ℕ) → Type 0
BeginsWithHead head bytes rest =
    IsTrue (fields_fit (group_head_fields head))
    × (bytes ≡ spelled (group_head_fields head) ++ rest)

-- what stands at its places
abbrev pub head_read : List ℕ → GroupHead
head_read bytes = record {
  length = number_at 4 1 bytes;
  name = record { birth = number_at 8 5 bytes; generation = number_at 8 13 bytes };
  number = number_at 8 21 bytes;
  changes = number_at 4 29 bytes;
}

-- the head that the bytes begin with, or none where there is none
abbrev pub FindsHead : List ℕ → Option GroupHead → Type 0
FindsHead bytes (Some head) = BeginsWithHead head bytes (drop 33 bytes)
FindsHead bytes None = (head : GroupHead) (rest : List ℕ) → BeginsWithHead head bytes rest → ⊥

-- the head of a group of this name, number and length, which is not too long
abbrev pub IsHeadFor : GroupHead → Name → (number len : ℕ) → Type 0
IsHeadFor head name number len =
    (head.name ≡ name) × (head.number ≡ number) × (head.length ≡ len)
    × (head.length ≤ longest_group)

-- the group of some changes
abbrev pub IsGroup : Name → ℕ → List ℕ → Type 0
IsGroup name number bytes =
    (changes : List Change) × Spells group_format
    (record { name = name; number = number; changes = changes }) bytes
