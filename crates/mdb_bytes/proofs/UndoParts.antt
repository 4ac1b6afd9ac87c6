-- Where the parts of an undo entry stand.
use Rattle.std.proofs.Common.{◌≡◌, refl, sym, ap, subst, ◌∙◌, ℕ, zero, suc, ◌+◌, ◌-◌, ◌<◌, ◌≤◌, true, List, [], ◌∷◌, ◌++◌, length, drop, Some, None, arith, append_assoc}
use Rattle.std.specs.Prelude.{slice_get}
use Rattle.std.specs.List.{flat_map, list_all}
use Rattle.std.specs.Borrow.{Bor}
use Rattle.std.proofs.lemmas.List.{drop-drop, drop_at, length-drop}
use Rattle.std.proofs.lemmas.List.Concat.{flat_map-cons}
use Rattle.mdb_bytes.specs.declared.undo_page.UndoHead.{UndoHead}
use Rattle.mdb_bytes.specs.Fields.{Field, Zeros, Spells, field_fits, spelled}
use Rattle.mdb_bytes.specs.Parts.{page_room, fields_len}
use Rattle.mdb_bytes.specs.LogicalPages.{count_on}
use Rattle.mdb_bytes.specs.UndoPages.{UndoEntry, UndoPage, before_bytes, undo_entry_len, undo_entry_fields, undo_entries_cost, undo_page_format}
use Rattle.mdb_bytes.specs.EntryPages.{undo_layout, page_head_fields, undo_head}
use Rattle.mdb_bytes.specs.EntryHeads.{undo_head_in, undo_head_for, HasWholeUndo}
use Rattle.mdb_bytes.specs.PageEntries.{HasPart, IsUndoEntry, FindsEntry, undo_entry_at, HasUndo, SkipsUndo}
use Rattle.mdb_bytes.proofs.NumberBytes.{AreBytes}
use Rattle.mdb_bytes.proofs.PartBytes.{length-spelled}
use Rattle.mdb_bytes.proofs.GroupBack.{all_right}
use Rattle.mdb_bytes.proofs.TableLaws.{fields_len-append, drop_fields}
use Rattle.mdb_bytes.proofs.PageParts.{parts_say}
use Rattle.mdb_bytes.proofs.EntryPageLaws.{page_parts}
use Rattle.mdb_bytes.proofs.UndoEntries.{undo_law, undo_front_says}
use Rattle.mdb_bytes.proofs.UndoPageLaws.{undo_page_of}
use Rattle.mdb_bytes.proofs.EntryParts.{part_behind}

-- The first of some entries

abbrev others : List UndoEntry → List Field → List Field
others entries more = flat_map undo_entry_fields entries ++ more

first_parts : (v : UndoEntry) (entries : List UndoEntry) (more : List Field) → others (v ∷ entries) more ≡ undo_entry_fields v ++ others entries more
first_parts v entries more =
    ap (λ fs. fs ++ more) (flat_map-cons undo_entry_fields v entries) ∙ append_assoc (undo_entry_fields v) (flat_map undo_entry_fields entries) more

-- its front, and the bytes of its parts
pub record FirstSays (bytes : List ℕ) (v : UndoEntry) (rest : List ℕ) : Type 0 where
  pub head : undo_head_in bytes ≡ undo_head_for v
  pub body : drop 16 bytes ≡ v.key ++ (before_bytes v ++ rest)
  pub long : length bytes ≡ undo_entry_len v + length rest
  pub behind : drop (undo_entry_len v) bytes ≡ rest

undo_body : (v : UndoEntry) (more : List Field) → drop 16 (spelled (undo_entry_fields v ++ more)) ≡ v.key ++ (before_bytes v ++ spelled more)
unfolding spelled
undo_body v more = refl

len_of : (v : UndoEntry) → fields_len (undo_entry_fields v) ≡ undo_entry_len v
len_of v = omega arith

pub first_says : (bytes : List ℕ) (v : UndoEntry) (entries : List UndoEntry) (more : List Field) → HasUndo bytes (v ∷ entries) more
    → FirstSays bytes v (spelled (others entries more)) × HasUndo (spelled (others entries more)) entries more
first_says bytes v entries more h =
    let rest : List Field = others entries more in
    let whole : bytes ≡ spelled (undo_entry_fields v ++ rest) = h.whole ∙ ap spelled (first_parts v entries more) in
    let fit : list_all field_fits (undo_entry_fields v ++ rest) ≡ true = ap (list_all field_fits) (sym (first_parts v entries more)) ∙ h.fits in (
      record {
        head = ap undo_head_in whole ∙ undo_front_says v rest fit;
        body = ap (drop 16) whole ∙ undo_body v rest;
        long = ap length whole ∙ length-spelled (undo_entry_fields v ++ rest) ∙ fields_len-append (undo_entry_fields v) rest
            ∙ (λ i. len_of v i + sym (length-spelled rest) i);
        behind = ap (drop (undo_entry_len v)) whole ∙ drop_fields (undo_entry_fields v) rest (undo_entry_len v) (len_of v);
      },
      record { fits = all_right (undo_entry_fields v) rest fit; whole = refl },
    )

first_whole : (bytes : List ℕ) (v : UndoEntry) (rest : List ℕ) → FirstSays bytes v rest → HasWholeUndo bytes (undo_head_in bytes)
first_whole bytes v rest says = let long = says.long in subst (λ h. HasWholeUndo bytes h) (sym says.head) (omega arith, omega arith)

-- One step

drop_first : {A : Type 0} (xs : List A) (i : ℕ) → i < length xs → (x : A) × (rest : List A) × (drop i xs ≡ x ∷ rest) × (drop (i + 1) xs ≡ rest) × (slice_get xs i ≡ Some x)
drop_first [] i lt = absurd (omega arith)
drop_first (x ∷ xs) zero lt = (x, xs, refl, refl, refl)
drop_first (x ∷ xs) (suc i) lt =
    let more = drop_first xs i (omega arith) in
    let next : suc i + 1 ≡ suc (i + 1) = omega arith in
    (more.0, more.1, more.2, ap (λ (n : ℕ). drop n (x ∷ xs)) next ∙ more.3, more.4)

-- no entry is there where its front does not fit
pub skip_lacks : (rest : List ℕ) (i n : ℕ) (entries : List UndoEntry) (more : List Field) → i < n → n ≤ length entries → ¬ HasWholeUndo rest (undo_head_in rest)
    → HasUndo rest (drop i entries) more → ⊥
skip_lacks rest i n entries more lt le short h =
    let first = drop_first entries i (omega arith) in
    let says = first_says rest first.0 first.1 more (subst (λ xs. HasUndo rest xs more) first.2 h) in
    short (first_whole rest first.0 (spelled (others first.1 more)) says.0)

pub skip_on : (rest behind : List ℕ) (head : UndoHead) (i n : ℕ) (entries : List UndoEntry) (more : List Field) → i < n → n ≤ length entries → head ≡ undo_head_in rest
    → behind ≡ drop (16 + head.key_len + head.before_len) rest → HasUndo rest (drop i entries) more → HasUndo behind (drop (i + 1) entries) more
skip_on rest behind head i n entries more lt le head_is behind_is h =
    let first = drop_first entries i (omega arith) in
    let says = first_says rest first.0 first.1 more (subst (λ xs. HasUndo rest xs more) first.2 h) in
    let same : undo_head_for first.0 ≡ head = sym (head_is ∙ says.0.head) in
    let past : spelled (others first.1 more) ≡ behind =
    sym says.0.behind ∙ ap (λ (h : UndoHead). drop (16 + h.key_len + h.before_len) rest) same ∙ sym behind_is in
    subst (λ xs. HasUndo behind xs more) (sym first.3) (subst (λ t. HasUndo t first.1 more) past says.1)

-- what is left keeps its place when the front goes
pub left_on : (all rest behind : List ℕ) (head : UndoHead) → length rest ≤ length all → drop (length all - length rest) all ≡ rest → HasWholeUndo rest head
    → behind ≡ drop (16 + head.key_len + head.before_len) rest → (length behind ≤ length all) × (drop (length all - length behind) all ≡ behind)
left_on all rest behind head le from whole is =
    let size : ℕ = 16 + head.key_len + head.before_len in
    let within = whole.1 in
    let len : length behind ≡ length rest - size = ap length is ∙ length-drop size rest in
    let place : length all - length behind ≡ (length all - length rest) + size = omega arith in
    (omega arith, ap (λ (n : ℕ). drop n all) place ∙ sym (drop-drop size (length all - length rest) all) ∙ ap (drop size) from ∙ sym is)

-- In a page

module _ (longest : ℕ) (bytes : List ℕ) (v : UndoPage) (s : Spells (undo_page_format longest) v bytes) where
  abbrev tail : List Field
  tail = Zeros (page_room - undo_entries_cost v.entries) ∷ []

  pub page_undo_entries : HasUndo (drop 64 bytes) v.entries tail
  page_undo_entries =
      let page = (undo_page_of longest bytes v s).1 in record {
        fits = all_right (page_head_fields (undo_head v)) (others v.entries tail) page.fits;
        whole = ap (drop 64) page.whole ∙ drop_fields (page_head_fields (undo_head v)) (others v.entries tail) 64 refl;
      }

  module _ (all : AreBytes bytes) where
    pub page_undo_count : (count_on bytes ≡ length v.entries) × (64 ≤ length bytes)
    page_undo_count =
        let page = (undo_page_of longest bytes v s).1 in
        let says = parts_say 0 (undo_head v) (spelled (flat_map undo_entry_fields v.entries)) (spelled []) bytes all (page_parts (undo_layout longest) 0 (undo_law longest) (undo_head v) v.entries bytes page) in
        let long = says.long in
        (ap (λ h. h.count) says.header, omega arith)

    pub undo_skipped : (body : List ℕ) (i : ℕ) → body ≡ drop 64 bytes → i < count_on bytes → SkipsUndo body i None → ⊥
    undo_skipped body i is lt skips =
        let count = page_undo_count.0 in
        let few = skips v.entries tail (subst (λ t. HasUndo t v.entries tail) (sym is) page_undo_entries) in
        omega arith

    -- the entry after those that were skipped
    pub undo_at : (body : List ℕ) (rest : Bor (List ℕ)) (i : ℕ) → body ≡ drop 64 bytes → i < count_on bytes → SkipsUndo body i (Some rest)
        → (x : UndoEntry) × (behind : List ℕ) × (slice_get v.entries i ≡ Some x) × FirstSays rest.now x behind
    undo_at body rest i is lt skips =
        let count = page_undo_count.0 in
        let first = drop_first v.entries i (omega arith) in
        let left = skips.2 v.entries tail (omega arith) (subst (λ t. HasUndo t v.entries tail) (sym is) page_undo_entries) in
        let says = first_says rest.now first.0 first.1 tail (subst (λ xs. HasUndo rest.now xs tail) first.2 left) in
        (first.0, spelled (others first.1 tail), first.4, says.0)

    pub undo_lacks : (body : List ℕ) (rest : Bor (List ℕ)) (i : ℕ) → body ≡ drop 64 bytes → i < count_on bytes → SkipsUndo body i (Some rest) → ¬ HasWholeUndo rest.now (undo_head_in rest.now) → ⊥
    undo_lacks body rest i is lt skips short = let x = undo_at body rest i is lt skips in short (first_whole rest.now x.0 x.1 x.3)

    pub undo_there : (body : List ℕ) (rest : Bor (List ℕ)) (head : UndoHead) (i : ℕ) → body ≡ drop 64 bytes → i < count_on bytes → SkipsUndo body i (Some rest) → head ≡ undo_head_in rest.now
        → FindsEntry (IsUndoEntry bytes) v.entries i (Some (undo_entry_at (length bytes - length rest.now) head))
    undo_there body rest head i is lt skips head_is =
        let long = page_undo_count.1 in
        let x = undo_at body rest i is lt skips in
        let says = x.3 in
        let same : undo_head_for x.0 ≡ head = sym (head_is ∙ says.head) in
        let place : ℕ = length bytes - length rest.now in
        let body_len : length body ≡ length bytes - 64 = ap length is ∙ length-drop 64 bytes in
        let le = skips.0 in
        let split : place ≡ 64 + (length body - length rest.now) = omega arith in
        let from : rest.now ≡ drop place bytes =
        sym (ap (λ (n : ℕ). drop n bytes) split ∙ sym (drop-drop (length body - length rest.now) 64 bytes) ∙ ap (drop (length body - length rest.now)) (sym is) ∙ skips.1) in
        let behind_key : drop (16 + length x.0.key) rest.now ≡ before_bytes x.0 ++ x.1 =
        sym (drop-drop (length x.0.key) 16 rest.now) ∙ ap (drop (length x.0.key)) says.body ∙ drop_at x.0.key (before_bytes x.0 ++ x.1) (length x.0.key) refl in
        let before_place : place + (16 + length x.0.key) ≡ place + 16 + length x.0.key = omega arith in
        let key = part_behind bytes rest.now x.0.key (before_bytes x.0 ++ x.1) place 16 from says.body in
        let before : HasPart bytes (place + 16 + length x.0.key, length (before_bytes x.0)) (before_bytes x.0) =
        subst (λ (n : ℕ). HasPart bytes (n, length (before_bytes x.0)) (before_bytes x.0)) before_place (part_behind bytes rest.now (before_bytes x.0) x.1 place (16 + length x.0.key) from behind_key) in
        (x.0, x.2, subst (λ (h : UndoHead). IsUndoEntry bytes (undo_entry_at place h) x.0) same (refl, refl, refl, key, before))
