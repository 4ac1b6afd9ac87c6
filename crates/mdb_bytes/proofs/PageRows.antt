-- Worked pages, computed: what was spelled is read again, and other bytes are refused.
use Rattle.std.proofs.Common.{◌≡◌, refl, ℕ, ◌+◌, List, [], ◌∷◌, ◌++◌, length, replicate, take, drop, codes, Option, Some, None}
use Rattle.mdb_bytes.specs.Fields.{spelled, decoded, number_at, read_run}
use Rattle.mdb_bytes.specs.LogicalPages.{count_on, used_on}
use Rattle.mdb_bytes.specs.TablePages.{RowLeaf, IndexPage, row_leaf_format, row_leaf_fields, index_format, index_fields}
use Rattle.mdb_bytes.specs.UndoPages.{UndoPage, undo_page_format, undo_page_fields}

-- Row leaves

abbrev two_rows : RowLeaf
two_rows = record { table = 2; number = 5; next = 0; rows = (codes "bolt", codes "100") ∷ (codes "nut", []) ∷ [] }

abbrev leaf_bytes : List ℕ
leaf_bytes = spelled (row_leaf_fields two_rows)

leaf_length : length leaf_bytes ≡ 8192
unfolding spelled
leaf_length = refl

leaf_is_read : decoded (row_leaf_format 1500) leaf_bytes ≡ Some two_rows
unfolding spelled decoded number_at read_run
leaf_is_read = refl

-- at the end of the page the slot of the second row, and then that of the first
leaf_end : drop 8186 leaf_bytes ≡ 0 ∷ 0 ∷ 0 ∷ 77 ∷ 0 ∷ 64 ∷ []
unfolding spelled
leaf_end = refl

leaf_count : count_on leaf_bytes ≡ 2
unfolding spelled number_at
leaf_count = refl

leaf_used : used_on leaf_bytes ≡ 26
unfolding spelled number_at
leaf_used = refl

-- with another byte at a place
abbrev with_byte : (at byte : ℕ) → List ℕ → List ℕ
with_byte at byte bytes = take at bytes ++ (byte ∷ drop (at + 1) bytes)

abbrev leaf_of : List ℕ → Option RowLeaf
leaf_of bytes = decoded (row_leaf_format 1500) bytes

-- the same byte in its place is the same page
leaf_same : leaf_of (with_byte 8191 64 leaf_bytes) ≡ Some two_rows
unfolding spelled decoded number_at read_run
leaf_same = refl

slot_elsewhere : leaf_of (with_byte 8191 65 leaf_bytes) ≡ None
unfolding spelled decoded number_at read_run
slot_elsewhere = refl

byte_in_gap : leaf_of (with_byte 100 1 leaf_bytes) ≡ None
unfolding spelled decoded number_at read_run
byte_in_gap = refl

byte_in_header : leaf_of (with_byte 63 1 leaf_bytes) ≡ None
unfolding spelled decoded number_at read_run
byte_in_header = refl

other_used : leaf_of (with_byte 11 27 leaf_bytes) ≡ None
unfolding spelled decoded number_at read_run
other_used = refl

other_kind : leaf_of (with_byte 0 2 leaf_bytes) ≡ None
unfolding spelled decoded number_at read_run
other_kind = refl

other_level : leaf_of (with_byte 1 1 leaf_bytes) ≡ None
unfolding spelled decoded number_at read_run
other_level = refl

leaf_table_501 : leaf_of (with_byte 2 1 (with_byte 3 0xF5 leaf_bytes)) ≡ None
unfolding spelled decoded number_at read_run
leaf_table_501 = refl

keys_fall : leaf_of (spelled (row_leaf_fields (record two_rows { rows = (codes "nut", []) ∷ (codes "bolt", codes "100") ∷ [] }))) ≡ None
unfolding spelled decoded number_at read_run
keys_fall = refl

key_twice : leaf_of (spelled (row_leaf_fields (record two_rows { rows = (codes "nut", []) ∷ (codes "nut", []) ∷ [] }))) ≡ None
unfolding spelled decoded number_at read_run
key_twice = refl

abbrev long_key : RowLeaf
long_key = record two_rows { rows = (replicate 257 97, []) ∷ [] }

long_key_is_refused : leaf_of (spelled (row_leaf_fields long_key)) ≡ None
unfolding spelled decoded number_at read_run
long_key_is_refused = refl

abbrev long_value : RowLeaf
long_value = record two_rows { rows = (codes "nut", replicate 1501 7) ∷ [] }

long_value_is_refused : leaf_of (spelled (row_leaf_fields long_value)) ≡ None
unfolding spelled decoded number_at read_run
long_value_is_refused = refl

-- where longer values are allowed
long_value_is_read : decoded (row_leaf_format 1992) (spelled (row_leaf_fields long_value)) ≡ Some long_value
unfolding spelled decoded number_at read_run
long_value_is_read = refl

-- Index pages

abbrev two_children : IndexPage
two_children = record { level = 1; table = 2; number = 6; children = ([], 5) ∷ (codes "m", 8) ∷ [] }

abbrev index_bytes : List ℕ
index_bytes = spelled (index_fields two_children)

index_is_read : decoded index_format index_bytes ≡ Some two_children
unfolding spelled decoded number_at read_run
index_is_read = refl

index_entries : take 13 (drop 64 index_bytes) ≡ 0 ∷ 0 ∷ 0 ∷ 0 ∷ 0 ∷ 5 ∷ 0 ∷ 1 ∷ 0 ∷ 0 ∷ 0 ∷ 8 ∷ 0x6D ∷ []
unfolding spelled
index_entries = refl

level_8_is_refused : decoded index_format (with_byte 1 8 index_bytes) ≡ None
unfolding spelled decoded number_at read_run
level_8_is_refused = refl

next_is_refused : decoded index_format (with_byte 15 1 index_bytes) ≡ None
unfolding spelled decoded number_at read_run
next_is_refused = refl

-- Undo pages

abbrev two_images : UndoPage
two_images = record {
  number = 9;
  next = 7;
  entries =
      record { table = 1; key = codes "k"; before = None; number = 3 } ∷ record { table = 2; key = codes "nut"; before = Some (codes "250"); number = 4 } ∷ [];
}

abbrev undo_bytes : List ℕ
undo_bytes = spelled (undo_page_fields two_images)

undo_length : length undo_bytes ≡ 8192
unfolding spelled
undo_length = refl

undo_is_read : decoded (undo_page_format 1500) undo_bytes ≡ Some two_images
unfolding spelled decoded number_at read_run
undo_is_read = refl

undo_entry_first : take 17 (drop 64 undo_bytes) ≡ 0 ∷ 1 ∷ 0 ∷ 0 ∷ 0 ∷ 1 ∷ 0 ∷ 0 ∷ 0 ∷ 0 ∷ 0 ∷ 0 ∷ 0 ∷ 0 ∷ 0 ∷ 3 ∷ 0x6B ∷ []
unfolding spelled
undo_entry_first = refl

-- the second entry begins at byte 81
kind_2_is_refused : decoded (undo_page_format 1500) (with_byte 83 2 undo_bytes) ≡ None
unfolding spelled decoded number_at read_run
kind_2_is_refused = refl

-- a value before where there was no row
value_of_no_row : decoded (undo_page_format 1500) (with_byte 83 0 undo_bytes) ≡ None
unfolding spelled decoded number_at read_run
value_of_no_row = refl

number_0_is_refused : decoded (undo_page_format 1500) (with_byte 79 0 undo_bytes) ≡ None
unfolding spelled decoded number_at read_run
number_0_is_refused = refl
