-- Row leaves as pages of entries.
--     leaf_page_is      the bytes of a leaf are those of a page of entries
--     KeepsLeaf, keeps_leaf, leaf_keeps      the limits of a leaf, part by part
--     shows_leaf      bytes that spell a leaf show its head and its entries
--     spells_leaf      and the other way round
use Rattle.std.proofs.Common.{◌≡◌, refl, sym, ap, subst, ◌∙◌, ℕ, zero, suc, ◌+◌, ◌-◌, ◌*◌, ◌<◌, ◌≤◌, ◌^◌, ◌↔◌, Bool, true, false, ◌&&◌, T, List, [], ◌∷◌, ◌++◌, map, length, Some, IsTrue, nat_lt, nat_le, arith, inl}
use Rattle.std.specs.Prelude.{replicate}
use Rattle.std.specs.List.{flat_map, list_all}
use Rattle.std.proofs.lemmas.List.{append-nil, length-map}
use Rattle.std.proofs.lemmas.List.Concat.{flat_map-cons}
use Rattle.std.proofs.lemmas.List.Folds.{list_all-append}
use Rattle.std.proofs.lemmas.List.Sums.{sum_by-cons}
use Rattle.std.proofs.lemmas.Bool.{leb-true, le-leb, lt-ltb, ltb-true}
use Rattle.std.specs.Ordering.{nat_cmp}
use Rattle.std.specs.Cmp.Lexicographic.{slice_cmp, nat_list_cmp_total}
use Rattle.std.specs.FinMap.{is_sorted}
use Rattle.byteorder.specs.Endian.{big_bytes}
use Rattle.mdb_model.specs.Script.{is_table, is_key}
use Rattle.mdb_bytes.specs.Fields.{Field, Two, Zeros, Spells, field_fits, fields_fit, spelled, rises}
use Rattle.mdb_bytes.specs.Parts.{KeepsLimits, page_room}
use Rattle.mdb_bytes.specs.LogicalPages.{header_fields}
use Rattle.mdb_bytes.specs.TablePages.{Row, RowLeaf, row_fields, row_len, row_cost, row_fits, rows_cost, slot_fields, row_leaf_fields, row_leaf_fits, row_leaf_reads, row_leaf_format, longest_value}
use Rattle.mdb_bytes.specs.PageReadings.{row_leaf_of}
use Rattle.mdb_bytes.proofs.Decoding.{and_left, and_right, and_both, decoded-spells, spelled-decoded}
use Rattle.mdb_bytes.proofs.PagesBack.{row_leaf_again}
use Rattle.mdb_bytes.proofs.GroupLaw.{spelled-append}
use Rattle.row_page.specs.Page.{joined_cells, slots, page_body, used}
use Rattle.row_page.specs.Entries.{PageEntry, Head, AreEntries, AllKept, Ascend, ShowsEntries, IsPage, page_head_of, entries_of, page_bytes, cell_of, cells, empty_entry, by_bytes}
use Rattle.row_page.proofs.ReadBack.{is_page, head_is, entries_are}
use Rattle.row_page.proofs.Entries.{length-cell}
use Rattle.sorted_places.proofs.Sorted.{sorted-index, sorted_from_rises, rises_from_sorted}
use Rattle.mdb_bytes.specs.declared.page_sections.PageHead.{PageHead}
use Rattle.mdb_bytes.specs.EntryPages.{leaf_head}
use Rattle.leaf_runs.specs.Leaves.{key_of_row, IsRunLeaf}

abbrev pub entry_of : Row → PageEntry
entry_of row = record { key = row.0; rest = row.1 }

abbrev pub head_for : RowLeaf → Head
head_for v = record { kind = 1; level = 0; table = v.table; own = v.number; next = v.next }

-- a row is a cell
row_cell : (row : Row) → spelled (row_fields row) ≡ cell_of true (entry_of row)
unfolding spelled cell_of
row_cell row = ap (λ (t : List ℕ). big_bytes 2 (length row.0) ++ (big_bytes 2 (length row.1) ++ (0 ∷ 0 ∷ [] ++ (row.0 ++ t)))) (append-nil row.1)

rows_run : (rows : List Row) → spelled (flat_map row_fields rows) ≡ joined_cells (cells true (map entry_of rows))
unfolding spelled joined_cells
rows_run [] = refl
rows_run (row ∷ rows) =
    ap spelled (flat_map-cons row_fields row rows) ∙ spelled-append (row_fields row) (flat_map row_fields rows)
    ∙ (λ i. row_cell row i ++ rows_run rows i)

rows_slots : (at : ℕ) (rows : List Row) → spelled (slot_fields at (map row_len rows)) ≡ slots at (cells true (map entry_of rows))
unfolding spelled slots
rows_slots at [] = refl
rows_slots at (row ∷ rows) =
    spelled-append (slot_fields (at + row_len row) (map row_len rows)) (Two at ∷ [])
    ∙ (λ i. rows_slots (at + row_len row) rows i ++ append-nil (big_bytes 2 at) i)
    ∙ ap (λ (n : ℕ). slots (at + n) (cells true (map entry_of rows)) ++ big_bytes 2 at) (sym (length-cell true (entry_of row)))

-- what rows cost is what their cells use
pub rows_used : (rows : List Row) → used (cells true (map entry_of rows)) ≡ rows_cost rows
unfolding joined_cells
rows_used [] = refl
rows_used (row ∷ rows) =
    let rest = rows_used rows in
    let one = length-cell true (entry_of row) in
    let cost : rows_cost (row ∷ rows) ≡ row_cost row + rows_cost rows = sum_by-cons row_cost row rows in
    let both = length_append (cell_of true (entry_of row)) (joined_cells (cells true (map entry_of rows))) in
    omega arith
  where
    length_append : (a b : List ℕ) → length (a ++ b) ≡ length a + length b
    length_append [] b = omega arith
    length_append (x ∷ a) b = let more = length_append a b in omega arith

-- the bytes of a leaf are those of a page of entries
pub leaf_page_is : (v : RowLeaf) → spelled (row_leaf_fields v) ≡ page_bytes (head_for v) (map entry_of v.rows)
unfolding spelled page_bytes page_body
leaf_page_is v =
    let cs = cells true (map entry_of v.rows) in
    let header : List Field = header_fields 1 0 v.table v.number (length v.rows) (rows_cost v.rows) v.next in
    let area : List Field = Zeros (page_room - rows_cost v.rows) ∷ slot_fields 64 (map row_len v.rows) in
    spelled-append header (flat_map row_fields v.rows ++ area)
    ∙ ap (λ (t : List ℕ). spelled header ++ t)
    (spelled-append (flat_map row_fields v.rows) area
    ∙ (λ i. rows_run v.rows i ++ (replicate (page_room - sym (rows_used v.rows) i) 0 ++ rows_slots 64 v.rows i)))
    ∙ (λ i. spelled (header_fields 1 0 v.table v.number (sym (length-map v.rows entry_of) i) (sym (rows_used v.rows) i) v.next) ++ page_body 8128 cs)

-- The limits of a leaf

abbrev pub bytes_ok : List ℕ → Bool
bytes_ok xs = list_all (λ b. nat_lt b 256) xs

-- a row within its limits, of bytes
abbrev pub row_ok : Row → Bool
row_ok row = row_fits longest_value row && (bytes_ok row.0 && bytes_ok row.1)

pub record KeepsLeaf (v : RowLeaf) : Type 0 where
  pub table : IsTrue (is_table v.table)
  pub number : v.number < 2 ^ 32
  pub next : v.next < 2 ^ 32
  pub fits : rows_cost v.rows ≤ page_room
  pub rows : list_all row_ok v.rows ≡ true
  pub up : T (is_sorted by_bytes v.rows)

pub rows_id : (rows : List Row) → map (λ (r : Row). let same : Row = (r.0, r.1) in same) rows ≡ rows
rows_id [] = refl
rows_id (row ∷ rows) = ap (λ (rs : List Row). row ∷ rs) (rows_id rows)

pub rows_back : (rows : List Row) → map (λ (e : PageEntry). let same : Row = (e.key, e.rest) in same) (map entry_of rows) ≡ rows
rows_back [] = refl
rows_back (row ∷ rows) = ap (λ (rs : List Row). row ∷ rs) (rows_back rows)

rows_ok : (rows : List Row) → list_all (row_fits longest_value) rows ≡ true → fields_fit (flat_map row_fields rows) ≡ true → list_all row_ok rows ≡ true
rows_ok [] fits fields = refl
rows_ok (row ∷ rows) fits fields =
    let parts : (fields_fit (row_fields row) && fields_fit (flat_map row_fields rows)) ≡ true =
    sym (list_all-append field_fits (row_fields row) (flat_map row_fields rows)) ∙ ap fields_fit (sym (flat_map-cons row_fields row rows)) ∙ fields in
    let here : fields_fit (row_fields row) ≡ true = and_left (fields_fit (row_fields row)) _ parts in
    let texts : (bytes_ok row.0 && (bytes_ok row.1 && true)) ≡ true = and_right (nat_lt (length row.1) (2 ^ 16)) _ (and_right (nat_lt (length row.0) (2 ^ 16)) _ here) in
    and_both (row_ok row) (list_all row_ok rows)
    (and_both (row_fits longest_value row) (bytes_ok row.0 && bytes_ok row.1) (and_left (row_fits longest_value row) _ fits)
    (and_both (bytes_ok row.0) (bytes_ok row.1) (and_left (bytes_ok row.0) _ texts) (and_left (bytes_ok row.1) _ (and_right (bytes_ok row.0) _ texts))))
    (rows_ok rows (and_right (row_fits longest_value row) _ fits) (and_right (fields_fit (row_fields row)) _ parts))

pub row_limits : (row : Row) → row_fits longest_value row ≡ true → (1 ≤ length row.0) × (length row.0 ≤ 256) × (length row.1 ≤ longest_value)
row_limits row fits =
    let key = and_left (is_key row.0) (nat_le (length row.1) longest_value) fits in (
      leb-true 1 (length row.0) (and_left (nat_le 1 (length row.0)) _ key),
      leb-true (length row.0) 256 (and_right (nat_le 1 (length row.0)) _ key),
      leb-true (length row.1) longest_value (and_right (is_key row.0) (nat_le (length row.1) longest_value) fits),
    )

rows_fields : (rows : List Row) → list_all row_ok rows ≡ true → (list_all (row_fits longest_value) rows ≡ true) × (fields_fit (flat_map row_fields rows) ≡ true)
rows_fields [] all = (refl, refl)
rows_fields (row ∷ rows) all =
    let here : row_ok row ≡ true = and_left (row_ok row) _ all in
    let fits : row_fits longest_value row ≡ true = and_left (row_fits longest_value row) _ here in
    let texts : (bytes_ok row.0 && bytes_ok row.1) ≡ true = and_right (row_fits longest_value row) _ here in
    let more = rows_fields rows (and_right (row_ok row) _ all) in
    let limits = row_limits row fits in
    let fields : fields_fit (row_fields row) ≡ true =
    and_both (nat_lt (length row.0) (2 ^ 16)) _ (lt-ltb (length row.0) (2 ^ 16) (omega arith))
    (and_both (nat_lt (length row.1) (2 ^ 16)) (bytes_ok row.0 && (bytes_ok row.1 && true)) (lt-ltb (length row.1) (2 ^ 16) (omega arith))
    (and_both (bytes_ok row.0) (bytes_ok row.1 && true) (and_left (bytes_ok row.0) _ texts) (and_both (bytes_ok row.1) true (and_right (bytes_ok row.0) _ texts) refl))) in (
      and_both (row_fits longest_value row) (list_all (row_fits longest_value) rows) fits more.0,
      ap fields_fit (flat_map-cons row_fields row rows) ∙ list_all-append field_fits (row_fields row) (flat_map row_fields rows)
          ∙ and_both (fields_fit (row_fields row)) (fields_fit (flat_map row_fields rows)) fields more.1,
    )

slots_fit : (at : ℕ) (rows : List Row) → at + rows_cost rows < 2 ^ 16 → fields_fit (slot_fields at (map row_len rows)) ≡ true
slots_fit at [] lt = refl
slots_fit at (row ∷ rows) lt =
    let cost : rows_cost (row ∷ rows) ≡ row_cost row + rows_cost rows = sum_by-cons row_cost row rows in
    list_all-append field_fits (slot_fields (at + row_len row) (map row_len rows)) (Two at ∷ [])
    ∙ and_both (fields_fit (slot_fields (at + row_len row) (map row_len rows))) (fields_fit (Two at ∷ [])) (slots_fit (at + row_len row) rows (omega arith))
    (and_both (nat_lt at (2 ^ 16)) true (lt-ltb at (2 ^ 16) (omega arith)) refl)

pub few_rows : (rows : List Row) → 8 * length rows ≤ rows_cost rows
few_rows [] = omega arith
few_rows (row ∷ rows) = let more = few_rows rows in let cost : rows_cost (row ∷ rows) ≡ row_cost row + rows_cost rows = sum_by-cons row_cost row rows in omega arith

-- a leaf within its limits, part by part
pub leaf_keeps : (v : RowLeaf) → KeepsLimits (row_leaf_format longest_value) v → KeepsLeaf v
leaf_keeps v kept =
    let header : List Field = header_fields 1 0 v.table v.number (length v.rows) (rows_cost v.rows) v.next in
    let area : List Field = Zeros (page_room - rows_cost v.rows) ∷ slot_fields 64 (map row_len v.rows) in
    let fits : row_leaf_fits longest_value v ≡ true = and_left (row_leaf_fits longest_value v) _ kept in
    let front : (is_table v.table && nat_le (rows_cost v.rows) page_room) ≡ true = and_left (is_table v.table && nat_le (rows_cost v.rows) page_room) _ fits in
    let rows : (list_all (row_fits longest_value) v.rows && rises (slice_cmp nat_cmp) (map key_of_row v.rows)) ≡ true = and_right (is_table v.table && nat_le (rows_cost v.rows) page_room) _ fits in
    let fields : (fields_fit header && fields_fit (flat_map row_fields v.rows ++ area)) ≡ true =
    sym (list_all-append field_fits header (flat_map row_fields v.rows ++ area)) ∙ and_right (row_leaf_fits longest_value v) _ kept in
    let body : (fields_fit (flat_map row_fields v.rows) && fields_fit area) ≡ true =
    sym (list_all-append field_fits (flat_map row_fields v.rows) area) ∙ and_right (fields_fit header) _ fields in
    let numbers : (nat_lt v.number (2 ^ 32) && (nat_lt (length v.rows) (2 ^ 16) && (nat_lt (rows_cost v.rows) (2 ^ 16) && (nat_lt v.next (2 ^ 32) && true)))) ≡ true =
    and_right (nat_lt v.table (2 ^ 16)) _ (and_left (fields_fit header) _ fields) in record {
      table = and_left (is_table v.table) _ front;
      number = ltb-true v.number (2 ^ 32) (and_left (nat_lt v.number (2 ^ 32)) _ numbers);
      next = ltb-true v.next (2 ^ 32) (and_left (nat_lt v.next (2 ^ 32)) true (and_right (nat_lt (rows_cost v.rows) (2 ^ 16)) _ (and_right (nat_lt (length v.rows) (2 ^ 16)) _ (and_right (nat_lt v.number (2 ^ 32)) _ numbers))));
      fits = leb-true (rows_cost v.rows) page_room (and_right (is_table v.table) _ front);
      rows = rows_ok v.rows (and_left (list_all (row_fits longest_value) v.rows) _ rows) (and_left (fields_fit (flat_map row_fields v.rows)) _ body);
      up = subst (λ (rs : List Row). T (is_sorted by_bytes rs)) (rows_id v.rows)
          (sorted_from_rises by_bytes key_of_row (λ (r : Row). r.1) v.rows (and_right (list_all (row_fits longest_value) v.rows) _ rows));
    }

pub keeps_leaf : (v : RowLeaf) → KeepsLeaf v → KeepsLimits (row_leaf_format longest_value) v
keeps_leaf v k =
    let header : List Field = header_fields 1 0 v.table v.number (length v.rows) (rows_cost v.rows) v.next in
    let area : List Field = Zeros (page_room - rows_cost v.rows) ∷ slot_fields 64 (map row_len v.rows) in
    let few = few_rows v.rows in
    let fit = k.fits in
    let parts = rows_fields v.rows k.rows in
    let table : v.table ≤ 500 = leb-true v.table 500 (and_right (nat_le 1 v.table) _ k.table) in
    let rises_is : rises (slice_cmp nat_cmp) (map key_of_row v.rows) ≡ true =
    rises_from_sorted by_bytes key_of_row (λ (r : Row). r.1) v.rows (subst (λ (rs : List Row). T (is_sorted by_bytes rs)) (sym (rows_id v.rows)) k.up) in
    let head : fields_fit header ≡ true =
    and_both (nat_lt v.table (2 ^ 16)) _ (lt-ltb v.table (2 ^ 16) (omega arith))
    (and_both (nat_lt v.number (2 ^ 32)) _ (lt-ltb v.number (2 ^ 32) k.number)
    (and_both (nat_lt (length v.rows) (2 ^ 16)) _ (lt-ltb (length v.rows) (2 ^ 16) (omega arith))
    (and_both (nat_lt (rows_cost v.rows) (2 ^ 16)) _ (lt-ltb (rows_cost v.rows) (2 ^ 16) (omega arith))
    (and_both (nat_lt v.next (2 ^ 32)) true (lt-ltb v.next (2 ^ 32) k.next) refl)))) in
    and_both (row_leaf_fits longest_value v) (fields_fit (row_leaf_fields v))
    (and_both (is_table v.table && nat_le (rows_cost v.rows) page_room) (list_all (row_fits longest_value) v.rows && rises (slice_cmp nat_cmp) (map key_of_row v.rows))
    (and_both (is_table v.table) (nat_le (rows_cost v.rows) page_room) k.table (le-leb (rows_cost v.rows) page_room k.fits))
    (and_both (list_all (row_fits longest_value) v.rows) (rises (slice_cmp nat_cmp) (map key_of_row v.rows)) parts.0 rises_is))
    (list_all-append field_fits header (flat_map row_fields v.rows ++ area)
    ∙ and_both (fields_fit header) (fields_fit (flat_map row_fields v.rows ++ area)) head
    (list_all-append field_fits (flat_map row_fields v.rows) area
    ∙ and_both (fields_fit (flat_map row_fields v.rows)) (fields_fit area) parts.1 (slots_fit 64 v.rows (omega arith))))

-- Pages of entries

all_kept : (rows : List Row) → list_all row_ok rows ≡ true → AllKept true (map entry_of rows)
all_kept [] all i lt = absurd (omega arith)
all_kept (row ∷ rows) all zero lt = let limits = row_limits row (and_left (row_fits longest_value row) _ (and_left (row_ok row) _ all)) in (limits.0, limits.1, omega arith)
all_kept (row ∷ rows) all (suc i) lt = all_kept rows (and_right (row_ok row) _ all) i (omega arith)

keys_ascend : (rows : List Row) → T (is_sorted by_bytes rows) → Ascend (map entry_of rows)
keys_ascend rows up i j lt inside =
    sorted-index by_bytes (λ (e : PageEntry). e.key) (λ (e : PageEntry). e.rest) nat_list_cmp_total (map entry_of rows) (subst (λ (rs : List Row). T (is_sorted by_bytes rs)) (sym (rows_back rows)) up) i j empty_entry lt inside

pub entries_kept : (v : RowLeaf) → KeepsLeaf v → AreEntries true (map entry_of v.rows)
entries_kept v k = record {
  fits = subst (λ (n : ℕ). n ≤ 8128) (sym (rows_used v.rows)) k.fits;
  kept = all_kept v.rows k.rows;
  ascend = keys_ascend v.rows k.up;
}

-- bytes that spell a leaf show its head and its entries
pub shows_leaf : (v : RowLeaf) (bytes : List ℕ) → Spells (row_leaf_format longest_value) v bytes → ShowsEntries bytes (head_for v) (map entry_of v.rows)
shows_leaf v bytes s =
    let k = leaf_keeps v s.0 in record {
      head = record {
        kind = inl (refl, refl);
        table = (leb-true 1 v.table (and_left (nat_le 1 v.table) _ k.table), leb-true v.table 500 (and_right (nat_le 1 v.table) _ k.table));
        own = k.number;
        next = k.next;
      };
      entries = entries_kept v k;
      bytes = s.1 ∙ leaf_page_is v;
    }

-- The law in both directions

-- the bytes are the page of a leaf, whose limits are kept
pub record IsLeafPage (bytes : List ℕ) (v : RowLeaf) : Type 0 where
  pub page : IsPage bytes
  pub head : page_head_of bytes ≡ head_for v
  pub entries : entries_of bytes ≡ map entry_of v.rows
  pub keeps : KeepsLeaf v

pub leaf_page_of : (bytes : List ℕ) (v : RowLeaf) → row_leaf_of bytes ≡ Some v → IsLeafPage bytes v
unfolding row_leaf_of
leaf_page_of bytes v e =
    let s = decoded-spells (row_leaf_format longest_value) bytes v e in
    let shown = shows_leaf v bytes s in record {
      page = is_page bytes (head_for v) (map entry_of v.rows) shown;
      head = head_is bytes (head_for v) (map entry_of v.rows) shown;
      entries = entries_are bytes (head_for v) (map entry_of v.rows) shown;
      keeps = leaf_keeps v s.0;
    }

pub page_leaf_of : (bytes : List ℕ) (v : RowLeaf) → IsLeafPage bytes v → row_leaf_of bytes ≡ Some v
unfolding row_leaf_of
page_leaf_of bytes v p =
    let whole : bytes ≡ page_bytes (head_for v) (map entry_of v.rows) = p.page.bytes ∙ (λ i. page_bytes (p.head i) (p.entries i)) in
    spelled-decoded (row_leaf_format longest_value) (row_leaf_again longest_value) bytes v (keeps_leaf v p.keeps, whole ∙ sym (leaf_page_is v))

-- what is read of the bytes of a leaf
pub leaf_reads : (bytes : List ℕ) (v : RowLeaf) → row_leaf_of bytes ≡ Some v → row_leaf_reads bytes ≡ v
unfolding row_leaf_of
leaf_reads bytes v e =
    let s = decoded-spells (row_leaf_format longest_value) bytes v e in ap row_leaf_reads s.1 ∙ row_leaf_again longest_value v s.0

pub leaf_spells : (bytes : List ℕ) (v : RowLeaf) → row_leaf_of bytes ≡ Some v → Spells (row_leaf_format longest_value) v bytes
unfolding row_leaf_of
leaf_spells bytes v e = decoded-spells (row_leaf_format longest_value) bytes v e

pub spelled_leaf : (bytes : List ℕ) (v : RowLeaf) → Spells (row_leaf_format longest_value) v bytes → row_leaf_of bytes ≡ Some v
unfolding row_leaf_of
spelled_leaf bytes v s = spelled-decoded (row_leaf_format longest_value) (row_leaf_again longest_value) bytes v s

-- a leaf by its header
pub run_leaf_by : (table number : ℕ) (bytes : List ℕ) (head : PageHead) (r : Bool) → ((v : RowLeaf) × Spells (row_leaf_format longest_value) v bytes)
    → ((longest : ℕ) → (v : RowLeaf) → Spells (row_leaf_format longest) v bytes → head ≡ leaf_head v)
    → (IsTrue r ↔ ((head.table ≡ table) × (head.number ≡ number) × (1 ≤ head.count))) → IsTrue r ↔ IsRunLeaf table number bytes
run_leaf_by table number bytes head r w reads is = (
  λ t. (let same = reads longest_value w.0 w.1 in
      let named = is.0 t in record {
        leaf = w.0;
        there = spelled_leaf bytes w.0 w.1;
        of_table = ap (λ (h : PageHead). h.table) (sym same) ∙ named.0;
        own_number = ap (λ (h : PageHead). h.number) (sym same) ∙ named.1;
        has_rows = (let many = named.2 in let count : head.count ≡ length w.0.rows = ap (λ (h : PageHead). h.count) same in omega arith);
      }),
  λ l. (let same = reads longest_value l.leaf (leaf_spells bytes l.leaf l.there) in
      let many = l.has_rows in
      let count : head.count ≡ length l.leaf.rows = ap (λ (h : PageHead). h.count) same in
      is.1 (ap (λ (h : PageHead). h.table) same ∙ l.of_table, ap (λ (h : PageHead). h.number) same ∙ l.own_number, omega arith)),
)

pub no_run_leaf : (table number : ℕ) (bytes : List ℕ) → ¬ ((v : RowLeaf) × Spells (row_leaf_format longest_value) v bytes) → IsTrue false ↔ IsRunLeaf table number bytes
no_run_leaf table number bytes out = (λ f. absurd cc, λ l. absurd (out (l.leaf, leaf_spells bytes l.leaf l.there)))

-- what the header of a leaf says
pub leaf_head_is : (bytes : List ℕ) (head : PageHead) (leaf : RowLeaf) → ((longest : ℕ) → (v : RowLeaf) → Spells (row_leaf_format longest) v bytes → head ≡ leaf_head v)
    → row_leaf_of bytes ≡ Some leaf → head ≡ leaf_head leaf
leaf_head_is bytes head leaf reads there = reads longest_value leaf (leaf_spells bytes leaf there)

-- the header of a leaf of a table with rows
pub run_leaf_head : (table number : ℕ) (bytes : List ℕ) (head : PageHead) → ((longest : ℕ) → (v : RowLeaf) → Spells (row_leaf_format longest) v bytes → head ≡ leaf_head v)
    → IsRunLeaf table number bytes → ((head.kind ≡ 1) × (head.level ≡ 0)) × ((head.table ≡ table) × (head.number ≡ number) × (1 ≤ head.count))
run_leaf_head table number bytes head reads l =
    let same = leaf_head_is bytes head l.leaf reads l.there in
    let many = l.has_rows in
    let count : head.count ≡ length l.leaf.rows = ap (λ (h : PageHead). h.count) same in (
      (ap (λ (h : PageHead). h.kind) same, ap (λ (h : PageHead). h.level) same),
      (ap (λ (h : PageHead). h.table) same ∙ l.of_table, ap (λ (h : PageHead). h.number) same ∙ l.own_number, omega arith),
    )
