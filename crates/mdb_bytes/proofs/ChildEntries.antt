-- Children in the bytes of a page.
--     child_law      what holds of their layout
--     child_short, child_bad, child_no_body      when bytes begin with no child
--     child_begins      when they begin with one
use Rattle.std.proofs.Common.{◌≡◌, refl, sym, ap, subst, ◌∙◌, ℕ, ◌+◌, ◌<◌, ◌≤◌, ◌^◌, true, List, [], ◌∷◌, ◌++◌, length, take, drop, arith}
use Rattle.std.specs.Prelude.{nat_lt, IsTrue}
use Rattle.std.specs.List.{list_all}
use Rattle.std.proofs.lemmas.Bool.{leb-true, le-leb, lt-ltb}
use Rattle.std.proofs.lemmas.List.{append-nil, take_at, take-append-drop, length-take}
use Rattle.byteorder.specs.Endian.{big_bytes}
use Rattle.mdb_bytes.specs.declared.index_page.ChildHead.{ChildHead}
use Rattle.mdb_bytes.specs.Fields.{Field, Text, field_fits, fields_fit, spelled, number_at}
use Rattle.mdb_bytes.specs.TablePages.{Child, child_fields, child_fits, child_reads, child_len, child_format}
use Rattle.mdb_bytes.specs.EntryPages.{child_layout, BeginsWith}
use Rattle.mdb_bytes.specs.EntryHeads.{child_head_in, child_head_for}
use Rattle.mdb_bytes.proofs.Decoding.{and_left, and_both}
use Rattle.mdb_bytes.proofs.ReadBack.{two_in, four_in}
use Rattle.mdb_bytes.proofs.NumberBytes.{AreBytes, bytes-drop, bytes-take, bytes_pass}
use Rattle.mdb_bytes.proofs.NumberSteps.{number_step, number_below}
use Rattle.mdb_bytes.proofs.EntryRuns.{IsLayout, with_rest, begins_longer}

-- a child that was spelled is read again
child_again : (child : Child) (more : List Field) → list_all field_fits (child_fields child ++ more) ≡ true → child_reads (spelled (child_fields child ++ more)) ≡ child
unfolding spelled
child_again child more fit =
    let fs = child_fields child ++ more in
    let bytes = spelled fs in
    let key_len : number_at 2 0 bytes ≡ length child.0 = two_in fs 0 (length child.0) fit refl in
    let page : number_at 4 2 bytes ≡ child.1 = four_in fs 2 child.1 fit refl in
    let key : take (number_at 2 0 bytes) (drop 6 bytes) ≡ child.0 = ap (λ n. take n (drop 6 bytes)) key_len ∙ take_at child.0 (spelled more) (length child.0) refl in
    λ i. (key i, page i)

-- what stands at the front of a child that was spelled
pub child_front_says : (child : Child) (more : List Field) → list_all field_fits (child_fields child ++ more) ≡ true → child_head_in (spelled (child_fields child ++ more)) ≡ child_head_for child
child_front_says child more fit =
    let fs = child_fields child ++ more in
    λ i. record { key_len = two_in fs 0 (length child.0) fit refl i; child = four_in fs 2 child.1 fit refl i }

-- what holds of the layout of children
pub child_law : IsLayout child_layout 2
child_law = record {
  again = child_again;
  len_is = λ child. omega arith;
  cost_is = λ child. omega arith;
  slot_is = λ at. refl;
  slot_fits = λ at lt. and_both (nat_lt at (2 ^ 16)) true (lt-ltb at (2 ^ 16) lt) refl;
  none = λ at. refl;
  more = λ at len lens. refl;
}

-- Bytes that begin with a child

-- what bytes say that begin with a child
child_says : (child : Child) (bytes rest : List ℕ) → AreBytes bytes → BeginsWith child_format child bytes rest
    → (child_head_in bytes ≡ child_head_for child) × (length child.0 ≤ 256) × (length bytes ≡ child_len child + length rest)
child_says child bytes rest all b =
    let whole = with_rest child_layout child bytes rest all b in (
      ap child_head_in whole.0 ∙ child_front_says child (Text rest ∷ []) whole.1,
      leb-true (length child.0) 256 (and_left (child_fits child) _ b.0),
      begins_longer child_layout 2 child_law child bytes rest b,
    )

-- bytes that are too short, or whose front breaks a limit or tells more than there is, begin with no child
pub child_short : (bytes : List ℕ) → AreBytes bytes → length bytes < 6 → (child : Child) (rest : List ℕ) → BeginsWith child_format child bytes rest → ⊥
child_short bytes all lt child rest b = let says = child_says child bytes rest all b in omega (arith, says.2)

pub child_bad : (bytes : List ℕ) (head : ChildHead) → AreBytes bytes → head ≡ child_head_in bytes → 256 < head.key_len
    → (child : Child) (rest : List ℕ) → BeginsWith child_format child bytes rest → ⊥
child_bad bytes head all is long child rest b =
    let says = child_says child bytes rest all b in
    let k : head.key_len ≡ length child.0 = ap (λ h. h.key_len) (is ∙ says.0) in
    omega (arith, says.1)

pub child_no_body : (bytes : List ℕ) (head : ChildHead) → AreBytes bytes → head ≡ child_head_in bytes → length bytes < 6 + head.key_len
    → (child : Child) (rest : List ℕ) → BeginsWith child_format child bytes rest → ⊥
child_no_body bytes head all is lt child rest b =
    let says = child_says child bytes rest all b in
    let k : head.key_len ≡ length child.0 = ap (λ h. h.key_len) (is ∙ says.0) in
    omega (arith, says.2)

-- what was cut from the bytes by a front that keeps its limits
pub record IsChildCut (bytes : List ℕ) (head : ChildHead) (key rest : List ℕ) : Type 0 where
  pub all : AreBytes bytes
  pub long : 6 ≤ length bytes
  pub head_is : head ≡ child_head_in bytes
  pub kept : head.key_len ≤ 256
  pub room : head.key_len ≤ length (drop 6 bytes)
  pub key_is : key ≡ take head.key_len (drop 6 bytes)
  pub rest_is : rest ≡ drop head.key_len (drop 6 bytes)

-- the numbers at the front, spelled
child_front : (bytes : List ℕ) → AreBytes bytes → 6 ≤ length bytes → bytes ≡ big_bytes 2 (number_at 2 0 bytes) ++ (big_bytes 4 (number_at 4 2 bytes) ++ drop 6 bytes)
child_front bytes all le =
    number_step 2 0 bytes all (omega arith) ∙ ap (λ t. big_bytes 2 (number_at 2 0 bytes) ++ t) (number_step 4 2 bytes all (omega arith))

-- the same of a child
child_spelled : (key rest : List ℕ) (page : ℕ) → big_bytes 2 (length key) ++ (big_bytes 4 page ++ (key ++ rest)) ≡ spelled (child_fields (key, page)) ++ rest
unfolding spelled
child_spelled key rest page = ap (λ t. big_bytes 2 (length key) ++ (big_bytes 4 page ++ (t ++ rest))) (sym (append-nil key))

-- its fields have room
child_room : (key : List ℕ) (page : ℕ) → length key ≤ 256 → page < 2 ^ 32 → AreBytes key → IsTrue (fields_fit (child_fields (key, page)))
child_room key page k p bytes_k =
    and_both (nat_lt (length key) (2 ^ 16)) _ (lt-ltb (length key) (2 ^ 16) (omega arith)) (
    and_both (nat_lt page (2 ^ 32)) _ (lt-ltb page (2 ^ 32) p) (
    and_both (list_all (λ b. nat_lt b 256) key) true (bytes_pass key bytes_k) refl))

-- what was cut is a child
pub child_begins : (bytes : List ℕ) (head : ChildHead) (key rest : List ℕ) → IsChildCut bytes head key rest → BeginsWith child_format (key, head.child) bytes rest
child_begins bytes head key rest cut =
    let kept = cut.kept in
    let room = cut.room in
    let k : length key ≡ head.key_len = ap length cut.key_is ∙ omega (arith, length-take head.key_len (drop 6 bytes)) in
    let body : drop 6 bytes ≡ key ++ rest = sym ((λ i. cut.key_is i ++ cut.rest_is i) ∙ take-append-drop head.key_len (drop 6 bytes)) in
    let k_is : number_at 2 0 bytes ≡ length key = sym (k ∙ ap (λ h. h.key_len) cut.head_is) in
    let page_is : number_at 4 2 bytes ≡ head.child = sym (ap (λ (h : ChildHead). h.child) cut.head_is) in
    let small : head.child < 2 ^ 32 = subst (λ n. n < 2 ^ 32) page_is (number_below 4 2 bytes cut.all) in
    let key_bytes : AreBytes key = subst AreBytes (sym cut.key_is) (bytes-take head.key_len (drop 6 bytes) (bytes-drop 6 bytes cut.all)) in
    let high : length key ≤ 256 = omega arith in (
      and_both (child_fits (key, head.child)) (fields_fit (child_fields (key, head.child))) (le-leb (length key) 256 high) (child_room key head.child high small key_bytes),
      child_front bytes cut.all cut.long ∙ (λ i. big_bytes 2 (k_is i) ++ (big_bytes 4 (page_is i) ++ body i)) ∙ child_spelled key rest head.child,
    )
