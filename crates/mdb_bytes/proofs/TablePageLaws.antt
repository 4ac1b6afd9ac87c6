-- The pages of tables as pages of entries.
--     leaf_page, page_leaf      a row leaf
--     index_page_of, page_index      an index page
use Rattle.std.proofs.Common.{◌≡◌, refl, sym, subst, ℕ, ◌≤◌, true, List}
use Rattle.std.specs.Prelude.{◌&&◌, IsTrue, map, nat_le}
use Rattle.std.specs.List.{list_all}
use Rattle.std.specs.Ordering.{nat_cmp}
use Rattle.std.specs.Cmp.Lexicographic.{slice_cmp}
use Rattle.std.proofs.lemmas.Bool.{leb-true, le-leb}
use Rattle.mdb_model.specs.Script.{is_table}
use Rattle.mdb_bytes.specs.declared.page_sections.PageHead.{PageHead}
use Rattle.mdb_bytes.specs.Fields.{Spells, fields_fit, rises}
use Rattle.mdb_bytes.specs.Parts.{page_room}
use Rattle.mdb_bytes.specs.TablePages.{Row, RowLeaf, row_fits, rows_cost, row_leaf_fields, row_leaf_fits, row_leaf_format, Child, IndexPage, child_fits, children_cost, index_fields, index_fits, index_format}
use Rattle.mdb_bytes.specs.EntryPages.{row_layout, child_layout, leaf_head, index_head}
use Rattle.mdb_bytes.proofs.Decoding.{and_left, and_right, and_both}
use Rattle.mdb_bytes.proofs.KeyOrder.{ascend-rises, rises-ascend}
use Rattle.mdb_bytes.proofs.EntryPageLaws.{IsEntryPage}

table_within : (n : ℕ) → IsTrue (is_table n) → (1 ≤ n) × (n ≤ 500)
table_within n t = (leb-true 1 n (and_left (nat_le 1 n) _ t), leb-true n 500 (and_right (nat_le 1 n) _ t))

table_is : (n : ℕ) → 1 ≤ n → n ≤ 500 → IsTrue (is_table n)
table_is n a b = and_both (nat_le 1 n) (nat_le n 500) (le-leb 1 n a) (le-leb n 500 b)

-- Row leaves

abbrev pub IsLeafHead : PageHead → Type 0
IsLeafHead h = (h.kind ≡ 1) × (h.level ≡ 0) × (1 ≤ h.table) × (h.table ≤ 500)

pub leaf_page : (longest : ℕ) (bytes : List ℕ) (v : RowLeaf) → Spells (row_leaf_format longest) v bytes → IsLeafHead (leaf_head v) × IsEntryPage (row_layout longest) (leaf_head v) v.rows bytes
leaf_page longest bytes v s =
    let fits = and_left (row_leaf_fits longest v) _ s.0 in
    let front = and_left (is_table v.table && nat_le (rows_cost v.rows) page_room) _ fits in
    let rows = and_right (is_table v.table && nat_le (rows_cost v.rows) page_room) _ fits in
    let table = table_within v.table (and_left (is_table v.table) _ front) in (
      (refl, refl, table.0, table.1),
      record {
        keeps = and_left (list_all (row_fits longest) v.rows) _ rows;
        order = rises-ascend (row_layout longest) (λ row. row.0) (λ row. refl) v.rows (and_right (list_all (row_fits longest) v.rows) _ rows);
        counted = refl;
        used = refl;
        within = leb-true (rows_cost v.rows) page_room (and_right (is_table v.table) _ front);
        fits = and_right (row_leaf_fits longest v) _ s.0;
        whole = s.1;
      },
    )

pub page_leaf : (longest : ℕ) (bytes : List ℕ) (head : PageHead) → IsLeafHead head → (rows : List Row) → IsEntryPage (row_layout longest) head rows bytes
    → (v : RowLeaf) × Spells (row_leaf_format longest) v bytes
page_leaf longest bytes head is rows p =
    let v : RowLeaf = record { table = head.table; number = head.number; next = head.next; rows = rows } in
    let same : head ≡ leaf_head v =
    λ i. record { kind = is.0 i; level = is.1 i; table = head.table; number = head.number; count = sym p.counted i; used = sym p.used i; next = head.next } in
    let q : IsEntryPage (row_layout longest) (leaf_head v) rows bytes = subst (λ h. IsEntryPage (row_layout longest) h rows bytes) same p in
    let fits : IsTrue (row_leaf_fits longest v) =
    and_both (is_table v.table && nat_le (rows_cost rows) page_room) (list_all (row_fits longest) rows && rises (slice_cmp nat_cmp) (map (λ (row : Row). row.0) rows))
    (and_both (is_table v.table) (nat_le (rows_cost rows) page_room) (table_is v.table is.2 is.3) (le-leb (rows_cost rows) page_room q.within))
    (and_both (list_all (row_fits longest) rows) (rises (slice_cmp nat_cmp) (map (λ (row : Row). row.0) rows)) q.keeps (ascend-rises (row_layout longest) (λ row. row.0) (λ row. refl) rows q.order)) in
    (v, (and_both (row_leaf_fits longest v) (fields_fit (row_leaf_fields v)) fits q.fits, q.whole))

-- Index pages

abbrev pub IsIndexHead : PageHead → Type 0
IsIndexHead h = (h.kind ≡ 2) × ((1 ≤ h.level) × (h.level ≤ 7)) × ((1 ≤ h.table) × (h.table ≤ 500)) × (h.next ≡ 0)

pub index_page_of : (bytes : List ℕ) (v : IndexPage) → Spells index_format v bytes → IsIndexHead (index_head v) × IsEntryPage child_layout (index_head v) v.children bytes
index_page_of bytes v s =
    let fits = and_left (index_fits v) _ s.0 in
    let numbers = (nat_le 1 v.level && nat_le v.level 7) && (is_table v.table && nat_le (children_cost v.children) page_room) in
    let front : numbers ≡ true = and_left numbers _ fits in
    let children = and_right numbers _ fits in
    let level = and_left (nat_le 1 v.level && nat_le v.level 7) _ front in
    let others = and_right (nat_le 1 v.level && nat_le v.level 7) _ front in
    let table = table_within v.table (and_left (is_table v.table) _ others) in (
      (refl, (leb-true 1 v.level (and_left (nat_le 1 v.level) _ level), leb-true v.level 7 (and_right (nat_le 1 v.level) _ level)), table, refl),
      record {
        keeps = and_left (list_all child_fits v.children) _ children;
        order = rises-ascend child_layout (λ child. child.0) (λ child. refl) v.children (and_right (list_all child_fits v.children) _ children);
        counted = refl;
        used = refl;
        within = leb-true (children_cost v.children) page_room (and_right (is_table v.table) _ others);
        fits = and_right (index_fits v) _ s.0;
        whole = s.1;
      },
    )

pub page_index : (bytes : List ℕ) (head : PageHead) → IsIndexHead head → (children : List Child) → IsEntryPage child_layout head children bytes → (v : IndexPage) × Spells index_format v bytes
page_index bytes head is children p =
    let v : IndexPage = record { level = head.level; table = head.table; number = head.number; children = children } in
    let same : head ≡ index_head v =
    λ i. record { kind = is.0 i; level = head.level; table = head.table; number = head.number; count = sym p.counted i; used = sym p.used i; next = is.3 i } in
    let q : IsEntryPage child_layout (index_head v) children bytes = subst (λ h. IsEntryPage child_layout h children bytes) same p in
    let keys = map (λ (child : Child). child.0) children in
    let fits : IsTrue (index_fits v) =
    and_both ((nat_le 1 v.level && nat_le v.level 7) && (is_table v.table && nat_le (children_cost children) page_room)) (list_all child_fits children && rises (slice_cmp nat_cmp) keys)
    (and_both (nat_le 1 v.level && nat_le v.level 7) (is_table v.table && nat_le (children_cost children) page_room)
    (and_both (nat_le 1 v.level) (nat_le v.level 7) (le-leb 1 v.level is.1.0) (le-leb v.level 7 is.1.1))
    (and_both (is_table v.table) (nat_le (children_cost children) page_room) (table_is v.table is.2.0 is.2.1) (le-leb (children_cost children) page_room q.within)))
    (and_both (list_all child_fits children) (rises (slice_cmp nat_cmp) keys) q.keeps (ascend-rises child_layout (λ child. child.0) (λ child. refl) children q.order)) in
    (v, (and_both (index_fits v) (fields_fit (index_fields v)) fits q.fits, q.whole))
