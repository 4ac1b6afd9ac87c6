-- The pages of tables: row leaves, and index pages above them.
--     slot_fields, entry_area      the slots of entries; all that stands after the header
--     RowLeaf, row_leaf_format      rows by ascending key
--     IndexPage, index_format      children by ascending separator
-- After the header the entries stand without a gap. At the end of the page stand the slots: the
-- place of each entry, that of the first one last. Between the two are zeros.
use Rattle.std.specs.Prelude.{ℕ, ◌+◌, ◌-◌, List, [], ◌∷◌, ◌++◌, Bool, ◌&&◌, nat_le, length, map, drop, take, sum_by}
use Rattle.std.specs.List.{flat_map, list_all}
use Rattle.std.specs.Ordering.{nat_cmp}
use Rattle.std.specs.Cmp.Lexicographic.{slice_cmp}
use Rattle.mdb_model.specs.Script.{is_table, is_key}
use Rattle.mdb_bytes.specs.Fields.{Field, Two, Four, Zeros, Text, Format, number_at, read_run, rises}
use Rattle.mdb_bytes.specs.Parts.{page_room}
use Rattle.mdb_bytes.specs.LogicalPages.{header_fields, own_number, count_on}

-- the slots of entries of these lengths, of which the first begins at a place
abbrev pub slot_fields : (at : ℕ) → (lens : List ℕ) → List Field
slot_fields at [] = []
slot_fields at (len ∷ lens) = slot_fields (at + len) lens ++ (Two at ∷ [])

-- the entries, zeros, and the slots; the cost of an entry is its length with its slot
abbrev pub entry_area : {X : Type 0} → (X → List Field) → (len cost : X → ℕ) → List X → List Field
entry_area fields len cost xs =
    flat_map fields xs ++ (Zeros (page_room - sum_by cost xs) ∷ slot_fields 64 (map len xs))

-- the longest value of a row
abbrev pub longest_value : ℕ
longest_value = 1500

-- Row leaves

-- a key and its value
abbrev pub Row : Type 0
Row = List ℕ × List ℕ

-- the rows of a table, or of a part of one, by ascending key
pub record RowLeaf : Type 0 where
  pub table : ℕ
  pub number : ℕ
  -- the next leaf where tables are lists of leaves, and 0 in a tree
  pub next : ℕ
  pub rows : List Row

-- what a row costs, the two bytes of its slot included
abbrev pub row_cost : Row → ℕ
row_cost row = 8 + length row.0 + length row.1

-- what rows cost, which are the used bytes of their leaf
abbrev pub rows_cost : List Row → ℕ
rows_cost rows = sum_by row_cost rows

-- the fields of a row, in order
abbrev pub row_fields : Row → List Field
row_fields row = Two (length row.0) ∷ Two (length row.1) ∷ Two 0 ∷ Text row.0 ∷ Text row.1 ∷ []

-- how many bytes a row has
abbrev pub row_len : Row → ℕ
row_len row = 6 + length row.0 + length row.1

-- with a value of at most so many bytes
abbrev pub row_fits : (longest : ℕ) → Row → Bool
row_fits longest row = is_key row.0 && nat_le (length row.1) longest

-- what stands at the places of a row
abbrev pub row_reads : List ℕ → Row
row_reads bytes =
    let key_len = number_at 2 0 bytes in
    (take key_len (drop 6 bytes), take (number_at 2 2 bytes) (drop (6 + key_len) bytes))

-- the format of a row
abbrev pub row_format : (longest : ℕ) → Format Row
row_format longest = record { fits = row_fits longest; fields = row_fields; reads = row_reads }

-- the fields of a row leaf, in order
abbrev pub row_leaf_fields : RowLeaf → List Field
row_leaf_fields v =
    header_fields 1 0 v.table v.number (length v.rows) (rows_cost v.rows) v.next
    ++ entry_area row_fields row_len row_cost v.rows

-- with values of at most so many bytes
abbrev pub row_leaf_fits : (longest : ℕ) → RowLeaf → Bool
row_leaf_fits longest v =
    (is_table v.table && nat_le (rows_cost v.rows) page_room)
    && (list_all (row_fits longest) v.rows && rises (slice_cmp nat_cmp) (map (λ row. row.0) v.rows))

-- what stands at the places of a row leaf
abbrev pub row_leaf_reads : List ℕ → RowLeaf
row_leaf_reads bytes = record {
  table = number_at 2 2 bytes;
  number = own_number bytes;
  next = number_at 4 12 bytes;
  rows = read_run row_reads row_len (count_on bytes) (drop 64 bytes);
}

-- the format of a row leaf
abbrev pub row_leaf_format : (longest : ℕ) → Format RowLeaf
row_leaf_format longest =
    record { fits = row_leaf_fits longest; fields = row_leaf_fields; reads = row_leaf_reads }

-- Index pages

-- a separator and the page below it: each key there is the separator or greater
abbrev pub Child : Type 0
Child = List ℕ × ℕ

-- the children of a page of a tree, by ascending separator
pub record IndexPage : Type 0 where
  pub level : ℕ
  pub table : ℕ
  pub number : ℕ
  pub children : List Child

-- the fields of a child, in order
abbrev pub child_fields : Child → List Field
child_fields child = Two (length child.0) ∷ Four child.1 ∷ Text child.0 ∷ []

-- how many bytes a child has
abbrev pub child_len : Child → ℕ
child_len child = 6 + length child.0

-- what a child costs, the two bytes of its slot included
abbrev pub child_cost : Child → ℕ
child_cost child = 8 + length child.0

-- what children cost, which are the used bytes of their page
abbrev pub children_cost : List Child → ℕ
children_cost children = sum_by child_cost children

-- a separator may be empty
abbrev pub child_fits : Child → Bool
child_fits child = nat_le (length child.0) 256

-- what stands at the places of a child
abbrev pub child_reads : List ℕ → Child
child_reads bytes = (take (number_at 2 0 bytes) (drop 6 bytes), number_at 4 2 bytes)

-- the format of a child
abbrev pub child_format : Format Child
child_format = record { fits = child_fits; fields = child_fields; reads = child_reads }

-- the fields of an index page, in order
abbrev pub index_fields : IndexPage → List Field
index_fields v =
    header_fields 2 v.level v.table v.number (length v.children) (children_cost v.children) 0
    ++ entry_area child_fields child_len child_cost v.children

-- the limits of an index page beside the room of its fields
abbrev pub index_fits : IndexPage → Bool
index_fits v =
    ((nat_le 1 v.level && nat_le v.level 7)
    && (is_table v.table && nat_le (children_cost v.children) page_room))
    && (list_all child_fits v.children && rises (slice_cmp nat_cmp)
    (map (λ child. child.0) v.children))

-- what stands at the places of an index page
abbrev pub index_reads : List ℕ → IndexPage
index_reads bytes = record {
  level = number_at 1 1 bytes;
  table = number_at 2 2 bytes;
  number = own_number bytes;
  children = read_run child_reads child_len (count_on bytes) (drop 64 bytes);
}

-- the format of an index page
abbrev pub index_format : Format IndexPage
index_format = record { fits = index_fits; fields = index_fields; reads = index_reads }
