-- Where the parts of an entry stand in the bytes of a page.
--     HasPart      a part of the bytes is a byte string
--     IsRowEntry, IsChildEntry, IsUndoEntry      places are those of an entry
--     undo_entry_at      the places of an undo entry that begins at a place, by its front
--     FindsEntry      the entry with a number, counted from 0, or none where there is none
--     HasUndo, SkipsUndo      bytes are undo entries and more fields; the bytes after the first
--         entries
use Rattle.std.specs.Prelude.{◌≡◌, ℕ, ◌+◌, ◌-◌, ◌<◌, ◌≤◌, List, ◌++◌, length, take, drop, slice_get, true, Option, Some, None}
use Rattle.std.specs.List.{flat_map}
use Rattle.std.specs.Borrow.{Bor}
use Rattle.mdb_bytes.specs.declared.row_leaf.RowLeafEntry.{RowLeafEntry}
use Rattle.mdb_bytes.specs.declared.index_page.IndexPageEntry.{IndexPageEntry}
use Rattle.mdb_bytes.specs.declared.undo_page.UndoHead.{UndoHead}
use Rattle.mdb_bytes.specs.declared.undo_page.UndoPageEntry.{UndoPageEntry}
use Rattle.mdb_bytes.specs.Fields.{Field, fields_fit, spelled}
use Rattle.mdb_bytes.specs.TablePages.{Row, Child}
use Rattle.mdb_bytes.specs.UndoPages.{UndoEntry, before_bytes, before_kind, undo_entry_fields}

-- from this place on so many bytes are the byte string
abbrev pub HasPart : List ℕ → (ℕ × ℕ) → List ℕ → Type 0
HasPart bytes part text = (take part.1 (drop part.0 bytes) ≡ text) × (part.1 ≡ length text)

-- the places of a row
abbrev pub IsRowEntry : List ℕ → RowLeafEntry → Row → Type 0
IsRowEntry bytes entry row = HasPart bytes entry.key row.0 × HasPart bytes entry.value row.1

-- the places of a child, and the number of its page
abbrev pub IsChildEntry : List ℕ → IndexPageEntry → Child → Type 0
IsChildEntry bytes entry child = (entry.child ≡ child.1) × HasPart bytes entry.key child.0

-- the places of an undo entry, and its numbers
abbrev pub IsUndoEntry : List ℕ → UndoPageEntry → UndoEntry → Type 0
IsUndoEntry bytes entry v =
    (entry.table ≡ v.table) × (entry.kind ≡ before_kind v) × (entry.number ≡ v.number)
    × HasPart bytes entry.key v.key × HasPart bytes entry.before (before_bytes v)

-- the places of an undo entry that begins at a place, by its front
abbrev pub undo_entry_at : (place : ℕ) → UndoHead → UndoPageEntry
undo_entry_at place h = record {
  table = h.table;
  kind = h.kind;
  number = h.number;
  key = (place + 16, h.key_len);
  before = (place + 16 + h.key_len, h.before_len);
}

-- the entry with this number, or none where there are no more
abbrev pub FindsEntry : {E X : Type 0} → (E → X → Type 0) → List X → ℕ → Option E → Type 0
FindsEntry is xs i None = length xs ≤ i
FindsEntry {X = X} is xs i (Some entry) = (x : X) × (slice_get xs i ≡ Some x) × is entry x

-- the bytes of undo entries of any lengths, and of more fields after them
pub record HasUndo (bytes : List ℕ) (entries : List UndoEntry) (more : List Field) : Type 0 where
  pub fits : fields_fit (flat_map undo_entry_fields entries ++ more) ≡ true
  pub whole : bytes ≡ spelled (flat_map undo_entry_fields entries ++ more)

-- what stands after n undo entries, or none where there are fewer
abbrev pub SkipsUndo : List ℕ → ℕ → Option (Bor (List ℕ)) → Type 0
SkipsUndo bytes n None =
    (entries : List UndoEntry) (more : List Field) → HasUndo bytes entries more → length entries < n
SkipsUndo bytes n (Some rest) =
    (length rest.now ≤ length bytes) × (drop (length bytes - length rest.now) bytes ≡ rest.now)
    × ((entries : List UndoEntry) (more : List Field) → n ≤ length entries
    → HasUndo bytes entries more → HasUndo rest.now (drop n entries) more)
