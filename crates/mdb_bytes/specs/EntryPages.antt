-- Pages of entries: the header, the entries without a gap, zeros, and the slots.
--     Layout      how the entries of a page are spelled, and in which order they stand
--     row_layout, child_layout, undo_layout      that of each of the three
--     ascend      whether entries stand in order
--     BeginsWith, HasEntries      bytes begin with an entry; bytes are entries
--     IsEntryRun      bytes are so many entries in order, and these are their slots
--     page_head_fields, page_head_in      the header as a value
--     leaf_head, index_head, undo_head      that of each of the three
--     HasSections, FindsSections      the parts of a page
--     FindsFront      the place that the slot of an entry tells, and what stands there
use Rattle.std.specs.Prelude.{◌≡◌, ℕ, ◌+◌, ◌-◌, ◌*◌, ◌<◌, ◌≤◌, List, [], ◌∷◌, ◌++◌, length, map, drop, replicate, Bool, true, ◌&&◌, Option, Some, None, option_map, IsTrue}
use Rattle.std.specs.List.{flat_map, list_all}
use Rattle.std.specs.Borrow.{Bor}
use Rattle.std.specs.Ordering.{nat_cmp, is_lt}
use Rattle.std.specs.Cmp.Lexicographic.{slice_cmp}
use Rattle.mdb_bytes.specs.declared.page_sections.PageHead.{PageHead}
use Rattle.mdb_bytes.specs.declared.page_sections.Sections.{Sections}
use Rattle.mdb_bytes.specs.Fields.{Field, Two, Format, fields_fit, spelled, number_at}
use Rattle.mdb_bytes.specs.Parts.{page_len, page_room}
use Rattle.mdb_bytes.specs.LogicalPages.{header_fields, own_number, count_on, used_on}
use Rattle.mdb_bytes.specs.TablePages.{Row, row_format, row_len, row_cost, RowLeaf, rows_cost, Child, child_format, child_len, child_cost, IndexPage, children_cost, slot_fields}
use Rattle.mdb_bytes.specs.UndoPages.{UndoEntry, undo_entry_format, undo_entry_len, UndoPage, undo_entries_cost}

-- how the entries of a page are spelled, and where and in which order they stand
pub record Layout (X : Type 0) : Type 0 where
  pub entry : Format X
  -- the key by which the entries ascend, if they do
  pub key : X → Option (List ℕ)
  pub len : X → ℕ
  -- the length with that of the slot
  pub cost : X → ℕ
  -- the slot of an entry at a place; those of entries of these lengths from a place on
  pub slot : ℕ → List Field
  pub slots : ℕ → List ℕ → List Field

-- that of a row leaf
abbrev pub row_layout : (longest : ℕ) → Layout Row
row_layout longest =
    record {
      entry = row_format longest;
      key = λ row. Some row.0;
      len = row_len;
      cost = row_cost;
      slot = λ at. Two at ∷ [];
      slots = slot_fields;
    }

-- that of an index page
abbrev pub child_layout : Layout Child
child_layout =
    record {
      entry = child_format;
      key = λ child. Some child.0;
      len = child_len;
      cost = child_cost;
      slot = λ at. Two at ∷ [];
      slots = slot_fields;
    }

-- the entries of an undo page have no slots and no order
abbrev pub undo_layout : (longest : ℕ) → Layout UndoEntry
undo_layout longest =
    record {
      entry = undo_entry_format longest;
      key = λ v. None;
      len = undo_entry_len;
      cost =
          undo_entry_len;
      slot = λ at. [];
      slots = λ at lens. [];
    }

-- Entries

-- whether a key may stand after the last one, where there are keys
abbrev pub key_follows : Option (List ℕ) → Option (List ℕ) → Bool
key_follows None key = true
key_follows (Some last) None = true
key_follows (Some last) (Some key) = is_lt (slice_cmp nat_cmp last key)

-- the bytes of a key that is lent
abbrev pub key_in : Option (Bor (List ℕ)) → Option (List ℕ)
key_in key = option_map (λ key. key.now) key

-- whether each entry may stand after the one before, the first one after this key
abbrev pub ascend : {X : Type 0} → Layout X → (last : Option (List ℕ)) → List X → Bool
ascend layout last [] = true
ascend layout last (x ∷ xs) = key_follows last (layout.key x) && ascend layout (layout.key x) xs

-- the bytes of an entry that keeps its limits, and then the rest
abbrev pub BeginsWith : {X : Type 0} → Format X → X → (bytes rest : List ℕ) → Type 0
BeginsWith format x bytes rest =
    IsTrue (format.fits x && fields_fit (format.fields x))
    × (bytes ≡ spelled (format.fields x) ++ rest)

-- the bytes of entries that keep their limits, one after the other
abbrev pub HasEntries : {X : Type 0} → Format X → List ℕ → List X → Type 0
HasEntries format bytes xs =
    IsTrue (list_all format.fits xs && fields_fit (flat_map format.fields xs))
    × (bytes ≡ spelled (flat_map format.fields xs))

-- the bytes are so many entries, which stand after this key and ascend; the first is at this place
-- of its page
pub record IsEntryRun {X : Type 0} (layout : Layout X) (last : Option (List ℕ)) (count at : ℕ)
    (bytes slots : List ℕ) : Type 0 where
  pub entries : List X
  pub all : length entries ≡ count
  pub order : ascend layout last entries ≡ true
  pub spell : HasEntries layout.entry bytes entries
  pub place : slots ≡ spelled (layout.slots at (map layout.len entries))

-- The header

-- the fields of a header, in order
abbrev pub page_head_fields : PageHead → List Field
page_head_fields h = header_fields h.kind h.level h.table h.number h.count h.used h.next

-- what stands at its places
abbrev pub page_head_in : List ℕ → PageHead
page_head_in bytes = record {
  kind = number_at 1 0 bytes;
  level = number_at 1 1 bytes;
  table = number_at 2 2 bytes;
  number = own_number bytes;
  count = count_on bytes;
  used = used_on bytes;
  next = number_at 4 12 bytes;
}

-- the header of each kind of pages
abbrev pub leaf_head : RowLeaf → PageHead
leaf_head v =
    record {
      kind = 1;
      level = 0;
      table = v.table;
      number = v.number;
      count = length v.rows;
      used =
          rows_cost v.rows;
      next = v.next;
    }

abbrev pub index_head : IndexPage → PageHead
index_head v =
    record {
      kind = 2;
      level = v.level;
      table = v.table;
      number = v.number;
      count = length
          v.children;
      used = children_cost v.children;
      next = 0;
    }

abbrev pub undo_head : UndoPage → PageHead
undo_head v =
    record {
      kind = 3;
      level = 0;
      table = 0;
      number = v.number;
      count = length v.entries;
      used =
          undo_entries_cost v.entries;
      next = v.next;
    }

-- The parts of a page

-- the header, the entries, zeros where nothing is used, and the slots, each of so many bytes
pub record HasSections (slot_len : ℕ) (head : PageHead) (entries slots bytes : List ℕ)
    : Type 0 where
  pub fits : IsTrue (fields_fit (page_head_fields head))
  pub used : length entries + length slots ≡ head.used
  pub counted : length slots ≡ slot_len * head.count
  pub within : head.used ≤ page_room
  pub whole : bytes ≡ spelled (page_head_fields head)
      ++ (entries ++ (replicate (page_room - head.used) 0 ++ slots))

-- the parts of a page, or none where the bytes have no such parts
abbrev pub FindsSections : (slot_len : ℕ) → List ℕ → Option Sections → Type 0
FindsSections slot_len bytes None =
    (head : PageHead) (entries slots : List ℕ) → HasSections slot_len head entries slots bytes → ⊥
FindsSections slot_len bytes (Some s) = HasSections slot_len s.head s.entries.now s.slots.now bytes

-- the place in the slot with this number, counted from 0, and what stands from there on
abbrev pub FindsFront : List ℕ → (i : ℕ) → Option (ℕ × Bor (List ℕ)) → Type 0
FindsFront bytes i None =
    length bytes ≡ page_len → i < count_on bytes → 2 * i < page_room
    → length bytes < number_at 2 (length bytes - 2 * (i + 1)) bytes
FindsFront bytes i (Some r) =
    (length bytes ≡ page_len) × (i < count_on bytes) × (2 * i < page_room)
    × (r.0 ≡ number_at 2 (length bytes - 2 * (i + 1)) bytes)
    × (r.0 ≤ length bytes) × (r.1.now ≡ drop r.0 bytes)
