-- The fixed front of the entries of pages.
--     row_head_in, child_head_in, undo_head_in      what stands at its places
--     row_head_for, child_head_for, undo_head_for      that of an entry
--     KeepsRowHead, KeepsUndoHead      its limits
--     HasWholeUndo      the bytes have room for the undo entry that their front tells
use Rattle.std.specs.Prelude.{◌≡◌, ℕ, ◌+◌, ◌<◌, ◌≤◌, ◌⊎◌, List, length}
use Rattle.mdb_bytes.specs.declared.row_leaf.RowHead.{RowHead}
use Rattle.mdb_bytes.specs.declared.index_page.ChildHead.{ChildHead}
use Rattle.mdb_bytes.specs.declared.undo_page.UndoHead.{UndoHead}
use Rattle.mdb_bytes.specs.Fields.{number_at, number_limit}
use Rattle.mdb_bytes.specs.TablePages.{Row, Child, longest_value}
use Rattle.mdb_bytes.specs.UndoPages.{UndoEntry, before_bytes, before_kind}

-- Rows

-- what stands at the places of the front of a row
abbrev pub row_head_in : List ℕ → RowHead
row_head_in bytes =
    record {
      key_len = number_at 2 0 bytes;
      value_len = number_at 2 2 bytes;
      zero = number_at 2 4
          bytes;
    }

-- the front of a row
abbrev pub row_head_for : Row → RowHead
row_head_for row = record { key_len = length row.0; value_len = length row.1; zero = 0 }

-- the limits of a row by its front
abbrev pub KeepsRowHead : RowHead → Type 0
KeepsRowHead h = (1 ≤ h.key_len) × (h.key_len ≤ 256) × (h.value_len ≤ longest_value) × (h.zero ≡ 0)

-- Children

-- what stands at the places of the front of a child
abbrev pub child_head_in : List ℕ → ChildHead
child_head_in bytes = record { key_len = number_at 2 0 bytes; child = number_at 4 2 bytes }

-- the front of a child
abbrev pub child_head_for : Child → ChildHead
child_head_for child = record { key_len = length child.0; child = child.1 }

-- Undo entries

-- what stands at the places of the front of an undo entry
abbrev pub undo_head_in : List ℕ → UndoHead
undo_head_in bytes = record {
  table = number_at 2 0 bytes;
  kind = number_at 1 2 bytes;
  zero = number_at 1 3 bytes;
  key_len = number_at 2 4 bytes;
  before_len = number_at 2 6 bytes;
  number = number_at 8 8 bytes;
}

-- the front of an undo entry
abbrev pub undo_head_for : UndoEntry → UndoHead
undo_head_for v = record {
  table = v.table;
  kind = before_kind v;
  zero = 0;
  key_len = length v.key;
  before_len = length (before_bytes v);
  number = v.number;
}

-- nothing stood there before where there was no row
abbrev pub KeepsUndoHead : UndoHead → Type 0
KeepsUndoHead h =
    ((1 ≤ h.table) × (h.table ≤ 500)) × ((h.kind ≡ 1) ⊎ ((h.kind ≡ 0) × (h.before_len ≡ 0)))
    × (h.zero ≡ 0)
    × ((1 ≤ h.key_len) × (h.key_len ≤ 256) × (h.before_len ≤ longest_value))
    × ((1 ≤ h.number) × (h.number < number_limit))

-- the bytes have room for the front and for what it tells
abbrev pub HasWholeUndo : List ℕ → UndoHead → Type 0
HasWholeUndo bytes h = (16 ≤ length bytes) × (16 + h.key_len + h.before_len ≤ length bytes)
