-- Where the parts of an entry stand.
use Rattle.std.proofs.Common.{◌≡◌, refl, sym, ap, subst, ◌∙◌, ℕ, ◌+◌, ◌≤◌, true, List, ◌++◌, length, take, drop, Some, None, arith}
use Rattle.std.specs.List.{list_all}
use Rattle.std.specs.Borrow.{Bor}
use Rattle.std.proofs.lemmas.List.{drop-drop, take_at, drop_at}
use Rattle.mdb_bytes.specs.declared.row_leaf.RowHead.{RowHead}
use Rattle.mdb_bytes.specs.declared.index_page.ChildHead.{ChildHead}
use Rattle.mdb_bytes.specs.Fields.{Field, Spells, field_fits, spelled}
use Rattle.mdb_bytes.specs.TablePages.{Row, RowLeaf, row_fields, row_leaf_format, Child, IndexPage, child_fields, index_format}
use Rattle.mdb_bytes.specs.EntryPages.{row_layout, child_layout, FindsFront, leaf_head, index_head}
use Rattle.mdb_bytes.specs.EntryHeads.{row_head_in, row_head_for, child_head_in, child_head_for}
use Rattle.mdb_bytes.specs.PageEntries.{HasPart, IsRowEntry, IsChildEntry, FindsEntry}
use Rattle.mdb_bytes.proofs.NumberBytes.{AreBytes}
use Rattle.mdb_bytes.proofs.PartBytes.{length-spelled}
use Rattle.mdb_bytes.proofs.TableLaws.{fields_len-append}
use Rattle.mdb_bytes.proofs.RowEntries.{row_law, row_front_says}
use Rattle.mdb_bytes.proofs.ChildEntries.{child_law, child_front_says}
use Rattle.mdb_bytes.proofs.TablePageLaws.{leaf_page, index_page_of}
use Rattle.mdb_bytes.proofs.PageFronts.{front_none, front_some}

-- a byte string that stands after some bytes
pub part_behind : (bytes front text rest : List ℕ) (place at : ℕ) → front ≡ drop place bytes → drop at front ≡ text ++ rest → HasPart bytes (place + at, length text) text
part_behind bytes front text rest place at is behind =
    (ap (take (length text)) (sym (drop-drop at place bytes) ∙ ap (drop at) (sym is) ∙ behind) ∙ take_at text rest (length text) refl, refl)

-- Rows

row_body : (row : Row) (more : List Field) → drop 6 (spelled (row_fields row ++ more)) ≡ row.0 ++ (row.1 ++ spelled more)
unfolding spelled
row_body row more = refl

-- the row that a front tells
pub row_there : (bytes front : List ℕ) (place : ℕ) (row : Row) (more : List Field) (head : RowHead) → front ≡ drop place bytes → front ≡ spelled (row_fields row ++ more)
    → list_all field_fits (row_fields row ++ more) ≡ true → head ≡ row_head_in front
    → (6 + head.key_len + head.value_len ≤ length front) × IsRowEntry bytes (record { key = (place + 6, head.key_len); value = (place + 6 + head.key_len, head.value_len) }) row
row_there bytes front place row more head is whole fit head_is =
    let same : row_head_for row ≡ head = sym (head_is ∙ ap row_head_in whole ∙ row_front_says row more fit) in
    let body : drop 6 front ≡ row.0 ++ (row.1 ++ spelled more) = ap (drop 6) whole ∙ row_body row more in
    let behind : drop (6 + length row.0) front ≡ row.1 ++ spelled more =
    sym (drop-drop (length row.0) 6 front) ∙ ap (drop (length row.0)) body ∙ drop_at row.0 (row.1 ++ spelled more) (length row.0) refl in
    let value_place : place + (6 + length row.0) ≡ place + 6 + length row.0 = omega arith in
    let value : HasPart bytes (place + 6 + length row.0, length row.1) row.1 =
    subst (λ (n : ℕ). HasPart bytes (n, length row.1) row.1) value_place (part_behind bytes front row.1 (spelled more) place (6 + length row.0) is behind) in
    let long : 6 + length row.0 + length row.1 ≤ length front =
    let len = ap length whole ∙ length-spelled (row_fields row ++ more) ∙ fields_len-append (row_fields row) more in omega arith in
    subst (λ (h : RowHead). (6 + h.key_len + h.value_len ≤ length front) × IsRowEntry bytes (record { key = (place + 6, h.key_len); value = (place + 6 + h.key_len, h.value_len) }) row) same
    (long, (part_behind bytes front row.0 (row.1 ++ spelled more) place 6 is body, value))

module _ (longest : ℕ) (bytes : List ℕ) (all : AreBytes bytes) (i : ℕ) (v : RowLeaf) (s : Spells (row_leaf_format longest) v bytes) where
  pub no_row : FindsFront bytes i None → length v.rows ≤ i
  no_row none = front_none (row_layout longest) 2 (row_law longest) (leaf_head v) v.rows bytes (leaf_page longest bytes v s).1 all refl (λ at. refl) i none

  pub row_found : (r : ℕ × Bor (List ℕ)) → FindsFront bytes i (Some r) → (head : RowHead) → head ≡ row_head_in r.1.now
      → (6 + head.key_len + head.value_len ≤ length r.1.now)
      × FindsEntry (IsRowEntry bytes) v.rows i (Some (record { key = (r.0 + 6, head.key_len); value = (r.0 + 6 + head.key_len, head.value_len) }))
  row_found r found head head_is =
      let x = front_some (row_layout longest) 2 (row_law longest) (leaf_head v) v.rows bytes (leaf_page longest bytes v s).1 all refl (λ at. refl) i r found in
      let there = row_there bytes r.1.now r.0 x.0 x.2 head found.5 x.3 x.4 head_is in
      (there.0, (x.0, x.1, there.1))

  pub row_long : (r : ℕ × Bor (List ℕ)) → FindsFront bytes i (Some r) → 6 ≤ length r.1.now
  row_long r found = let long = (row_found r found (row_head_in r.1.now) refl).0 in omega arith

-- Children

child_body : (child : Child) (more : List Field) → drop 6 (spelled (child_fields child ++ more)) ≡ child.0 ++ spelled more
unfolding spelled
child_body child more = refl

-- the child that a front tells
pub child_there : (bytes front : List ℕ) (place : ℕ) (child : Child) (more : List Field) (head : ChildHead) → front ≡ drop place bytes → front ≡ spelled (child_fields child ++ more)
    → list_all field_fits (child_fields child ++ more) ≡ true → head ≡ child_head_in front
    → (6 + head.key_len ≤ length front) × IsChildEntry bytes (record { child = head.child; key = (place + 6, head.key_len) }) child
child_there bytes front place child more head is whole fit head_is =
    let same : child_head_for child ≡ head = sym (head_is ∙ ap child_head_in whole ∙ child_front_says child more fit) in
    let body : drop 6 front ≡ child.0 ++ spelled more = ap (drop 6) whole ∙ child_body child more in
    let long : 6 + length child.0 ≤ length front =
    let len = ap length whole ∙ length-spelled (child_fields child ++ more) ∙ fields_len-append (child_fields child) more in omega arith in
    subst (λ (h : ChildHead). (6 + h.key_len ≤ length front) × IsChildEntry bytes (record { child = h.child; key = (place + 6, h.key_len) }) child) same
    (long, (refl, part_behind bytes front child.0 (spelled more) place 6 is body))

module _ (bytes : List ℕ) (all : AreBytes bytes) (i : ℕ) (v : IndexPage) (s : Spells index_format v bytes) where
  pub no_child : FindsFront bytes i None → length v.children ≤ i
  no_child none = front_none child_layout 2 child_law (index_head v) v.children bytes (index_page_of bytes v s).1 all refl (λ at. refl) i none

  pub child_found : (r : ℕ × Bor (List ℕ)) → FindsFront bytes i (Some r) → (head : ChildHead) → head ≡ child_head_in r.1.now
      → (6 + head.key_len ≤ length r.1.now) × FindsEntry (IsChildEntry bytes) v.children i (Some (record { child = head.child; key = (r.0 + 6, head.key_len) }))
  child_found r found head head_is =
      let x = front_some child_layout 2 child_law (index_head v) v.children bytes (index_page_of bytes v s).1 all refl (λ at. refl) i r found in
      let there = child_there bytes r.1.now r.0 x.0 x.2 head found.5 x.3 x.4 head_is in
      (there.0, (x.0, x.1, there.1))

  pub child_long : (r : ℕ × Bor (List ℕ)) → FindsFront bytes i (Some r) → 6 ≤ length r.1.now
  child_long r found = let long = (child_found r found (child_head_in r.1.now) refl).0 in omega arith
