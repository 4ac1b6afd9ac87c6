-- Undo pages: the rows as they were before open transactions changed them.
--     UndoPage, undo_page_format      the entries of a page in order, without a gap after its
--         header, and then zeros
use Rattle.std.specs.Prelude.{ℕ, ◌+◌, ◌-◌, List, [], ◌∷◌, ◌++◌, Bool, ◌&&◌, ◌==◌, nat_le, Option, Some, None, is_some, unwrap_or, if◌then◌else◌, length, drop, take, sum_by}
use Rattle.std.specs.List.{flat_map, list_all}
use Rattle.mdb_model.specs.Script.{is_table, is_key}
use Rattle.mdb_bytes.specs.Fields.{Field, Byte, Two, Eight, Zeros, Text, Format, number_at, read_run}
use Rattle.mdb_bytes.specs.Parts.{page_room}
use Rattle.mdb_bytes.specs.LogicalPages.{header_fields, own_number, count_on}

-- the value before, or none where there was no row; and the number of the entry in its file, from 1
pub record UndoEntry : Type 0 where
  pub table : ℕ
  pub key : List ℕ
  pub before : Option (List ℕ)
  pub number : ℕ

-- entries of an undo file, the earliest first
pub record UndoPage : Type 0 where
  pub number : ℕ
  -- the page with the earlier entries, or 0
  pub next : ℕ
  pub entries : List UndoEntry

-- empty where there was no row
abbrev pub before_bytes : UndoEntry → List ℕ
before_bytes v = unwrap_or v.before []

-- 1 where there was a row
abbrev pub before_kind : UndoEntry → ℕ
before_kind v = if is_some v.before then 1 else 0

-- how many bytes an entry has
abbrev pub undo_entry_len : UndoEntry → ℕ
undo_entry_len v = 16 + length v.key + length (before_bytes v)

-- how many bytes entries have, which are the used bytes of their page
abbrev pub undo_entries_cost : List UndoEntry → ℕ
undo_entries_cost entries = sum_by undo_entry_len entries

-- the fields of an entry, in order
abbrev pub undo_entry_fields : UndoEntry → List Field
undo_entry_fields v =
    Two v.table ∷ Byte (before_kind v) ∷ Byte 0 ∷ Two (length v.key) ∷ Two (length (before_bytes v))
    ∷ Eight v.number
    ∷ Text v.key ∷ Text (before_bytes v) ∷ []

-- with a value of at most so many bytes
abbrev pub undo_entry_fits : (longest : ℕ) → UndoEntry → Bool
undo_entry_fits longest v =
    (is_table v.table && is_key v.key) && (nat_le (length (before_bytes v)) longest
    && nat_le 1 v.number)

-- what stands at the places of an entry
abbrev pub undo_entry_reads : List ℕ → UndoEntry
undo_entry_reads bytes =
    let key_len = number_at 2 4 bytes in
    record {
      table = number_at 2 0 bytes;
      key = take key_len (drop 16 bytes);
      before =
          if number_at 1 2 bytes == 0 then None
          else Some (take (number_at 2 6 bytes) (drop (16 + key_len) bytes));
      number = number_at 8 8 bytes;
    }

-- the format of an entry
abbrev pub undo_entry_format : (longest : ℕ) → Format UndoEntry
undo_entry_format longest =
    record { fits = undo_entry_fits longest; fields = undo_entry_fields; reads = undo_entry_reads }

-- the fields of an undo page, in order
abbrev pub undo_page_fields : UndoPage → List Field
undo_page_fields v =
    header_fields 3 0 0 v.number (length v.entries) (undo_entries_cost v.entries) v.next
    ++ (flat_map undo_entry_fields v.entries
    ++ Zeros (page_room - undo_entries_cost v.entries) ∷ [])

-- with values of at most so many bytes
abbrev pub undo_page_fits : (longest : ℕ) → UndoPage → Bool
undo_page_fits longest v =
    nat_le (undo_entries_cost v.entries) page_room && list_all (undo_entry_fits longest) v.entries

-- what stands at the places of an undo page
abbrev pub undo_page_reads : List ℕ → UndoPage
undo_page_reads bytes = record {
  number = own_number bytes;
  next = number_at 4 12 bytes;
  entries = read_run undo_entry_reads undo_entry_len (count_on bytes) (drop 64 bytes);
}

-- the format of an undo page
abbrev pub undo_page_format : (longest : ℕ) → Format UndoPage
undo_page_format longest =
    record { fits = undo_page_fits longest; fields = undo_page_fields; reads = undo_page_reads }
