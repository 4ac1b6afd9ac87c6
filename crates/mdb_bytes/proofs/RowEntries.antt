-- Rows in the bytes of a page.
--     row_law      what holds of their layout
--     row_short, row_bad, row_no_body      when bytes begin with no row
--     row_begins      when they begin with one
use Rattle.std.proofs.Common.{◌≡◌, refl, sym, ap, subst, ◌∙◌, ℕ, ◌+◌, ◌<◌, ◌≤◌, ◌^◌, true, List, [], ◌∷◌, ◌++◌, length, take, drop, arith, append_assoc}
use Rattle.std.specs.Prelude.{nat_lt, nat_le, IsTrue}
use Rattle.std.specs.List.{list_all}
use Rattle.std.proofs.lemmas.Bool.{leb-true, le-leb, lt-ltb}
use Rattle.std.proofs.lemmas.List.{append-nil, drop-drop, take_at, drop_at, take-append-drop, length-take, length-drop}
use Rattle.byteorder.specs.Endian.{big_bytes}
use Rattle.mdb_model.specs.Script.{is_key}
use Rattle.mdb_bytes.specs.declared.row_leaf.RowHead.{RowHead}
use Rattle.mdb_bytes.specs.Fields.{Field, Text, field_fits, fields_fit, spelled, number_at}
use Rattle.mdb_bytes.specs.TablePages.{Row, row_fields, row_fits, row_reads, row_len, row_format, longest_value}
use Rattle.mdb_bytes.specs.EntryPages.{row_layout, BeginsWith}
use Rattle.mdb_bytes.specs.EntryHeads.{row_head_in, row_head_for, KeepsRowHead}
use Rattle.mdb_bytes.proofs.Decoding.{and_left, and_right, and_both}
use Rattle.mdb_bytes.proofs.ReadBack.{two_in}
use Rattle.mdb_bytes.proofs.NumberBytes.{AreBytes, bytes-drop, bytes-take, bytes_pass}
use Rattle.mdb_bytes.proofs.NumberSteps.{number_step}
use Rattle.mdb_bytes.proofs.EntryRuns.{IsLayout, with_rest, begins_longer}

-- a row that was spelled is read again
row_again : (row : Row) (more : List Field) → list_all field_fits (row_fields row ++ more) ≡ true → row_reads (spelled (row_fields row ++ more)) ≡ row
unfolding spelled
row_again row more fit =
    let fs = row_fields row ++ more in
    let bytes = spelled fs in
    let key_len : number_at 2 0 bytes ≡ length row.0 = two_in fs 0 (length row.0) fit refl in
    let value_len : number_at 2 2 bytes ≡ length row.1 = two_in fs 2 (length row.1) fit refl in
    let first : take (number_at 2 0 bytes) (drop 6 bytes) ≡ row.0 = ap (λ n. take n (drop 6 bytes)) key_len ∙ take_at row.0 (row.1 ++ spelled more) (length row.0) refl in
    let rest : drop (6 + number_at 2 0 bytes) bytes ≡ row.1 ++ spelled more =
    ap (λ n. drop (6 + n) bytes) key_len ∙ sym (drop-drop (length row.0) 6 bytes) ∙ drop_at row.0 (row.1 ++ spelled more) (length row.0) refl in
    let second : take (number_at 2 2 bytes) (drop (6 + number_at 2 0 bytes) bytes) ≡ row.1 =
    (λ i. take (value_len i) (rest i)) ∙ take_at row.1 (spelled more) (length row.1) refl in
    λ i. (first i, second i)

-- what stands at the front of a row that was spelled
pub row_front_says : (row : Row) (more : List Field) → list_all field_fits (row_fields row ++ more) ≡ true → row_head_in (spelled (row_fields row ++ more)) ≡ row_head_for row
row_front_says row more fit =
    let fs = row_fields row ++ more in
    λ i. record { key_len = two_in fs 0 (length row.0) fit refl i; value_len = two_in fs 2 (length row.1) fit refl i; zero = two_in fs 4 0 fit refl i }

-- what holds of the layout of rows
pub row_law : (longest : ℕ) → IsLayout (row_layout longest) 2
row_law longest = record {
  again = row_again;
  len_is = λ row. omega arith;
  cost_is = λ row. omega arith;
  slot_is = λ at. refl;
  slot_fits = λ at lt. and_both (nat_lt at (2 ^ 16)) true (lt-ltb at (2 ^ 16) lt) refl;
  none = λ at. refl;
  more = λ at len lens. refl;
}

-- Bytes that begin with a row

-- a row within its limits has a front within its limits
row_kept : (row : Row) → IsTrue (row_fits longest_value row) → KeepsRowHead (row_head_for row)
row_kept row fits =
    let key = and_left (is_key row.0) (nat_le (length row.1) longest_value) fits in (
      leb-true 1 (length row.0) (and_left (nat_le 1 (length row.0)) _ key),
      leb-true (length row.0) 256 (and_right (nat_le 1 (length row.0)) _ key),
      leb-true (length row.1) longest_value (and_right (is_key row.0) (nat_le (length row.1) longest_value) fits),
      refl,
    )

-- what bytes say that begin with a row
row_says : (row : Row) (bytes rest : List ℕ) → AreBytes bytes → BeginsWith (row_format longest_value) row bytes rest
    → (row_head_in bytes ≡ row_head_for row) × KeepsRowHead (row_head_for row) × (length bytes ≡ row_len row + length rest)
row_says row bytes rest all b =
    let whole = with_rest (row_layout longest_value) row bytes rest all b in (
      ap row_head_in whole.0 ∙ row_front_says row (Text rest ∷ []) whole.1,
      row_kept row (and_left (row_fits longest_value row) _ b.0),
      begins_longer (row_layout longest_value) 2 (row_law longest_value) row bytes rest b,
    )

-- bytes that are too short, or whose front breaks a limit or tells more than there is, begin with no row
pub row_short : (bytes : List ℕ) → AreBytes bytes → length bytes < 6 → (row : Row) (rest : List ℕ) → BeginsWith (row_format longest_value) row bytes rest → ⊥
row_short bytes all lt row rest b = let says = row_says row bytes rest all b in omega (arith, says.2)

pub row_bad : (bytes : List ℕ) (head : RowHead) → AreBytes bytes → head ≡ row_head_in bytes → ¬ (KeepsRowHead head)
    → (row : Row) (rest : List ℕ) → BeginsWith (row_format longest_value) row bytes rest → ⊥
row_bad bytes head all is bad row rest b = let says = row_says row bytes rest all b in bad (subst KeepsRowHead (sym (is ∙ says.0)) says.1)

pub row_no_body : (bytes : List ℕ) (head : RowHead) → AreBytes bytes → head ≡ row_head_in bytes → length bytes < 6 + head.key_len + head.value_len
    → (row : Row) (rest : List ℕ) → BeginsWith (row_format longest_value) row bytes rest → ⊥
row_no_body bytes head all is lt row rest b =
    let says = row_says row bytes rest all b in
    let same : head ≡ row_head_for row = is ∙ says.0 in
    let k : head.key_len ≡ length row.0 = ap (λ h. h.key_len) same in
    let v : head.value_len ≡ length row.1 = ap (λ h. h.value_len) same in
    omega (arith, says.2)

-- what was cut from the bytes by a front that keeps its limits
pub record IsRowCut (bytes : List ℕ) (head : RowHead) (key value rest : List ℕ) : Type 0 where
  pub all : AreBytes bytes
  pub long : 6 ≤ length bytes
  pub head_is : head ≡ row_head_in bytes
  pub kept : KeepsRowHead head
  pub room : head.key_len + head.value_len ≤ length (drop 6 bytes)
  pub key_is : key ≡ take head.key_len (drop 6 bytes)
  pub value_is : value ≡ take head.value_len (drop head.key_len (drop 6 bytes))
  pub rest_is : rest ≡ drop head.value_len (drop head.key_len (drop 6 bytes))

-- the numbers at the front, spelled
row_front : (bytes : List ℕ) → AreBytes bytes → 6 ≤ length bytes
    → bytes ≡ big_bytes 2 (number_at 2 0 bytes) ++ (big_bytes 2 (number_at 2 2 bytes) ++ (big_bytes 2 (number_at 2 4 bytes) ++ drop 6 bytes))
row_front bytes all le =
    number_step 2 0 bytes all (omega arith)
    ∙ ap (λ t. big_bytes 2 (number_at 2 0 bytes) ++ t) (number_step 2 2 bytes all (omega arith)
    ∙ ap (λ t. big_bytes 2 (number_at 2 2 bytes) ++ t) (number_step 2 4 bytes all (omega arith)))

-- the same of a row
row_spelled : (key value rest : List ℕ)
    → big_bytes 2 (length key) ++ (big_bytes 2 (length value) ++ (big_bytes 2 0 ++ (key ++ (value ++ rest)))) ≡ spelled (row_fields (key, value)) ++ rest
unfolding spelled
row_spelled key value rest =
    let body : key ++ (value ++ rest) ≡ (key ++ (value ++ [])) ++ rest = ap (λ t. key ++ (t ++ rest)) (sym (append-nil value)) ∙ sym (append_assoc key (value ++ []) rest) in
    ap (λ t. big_bytes 2 (length key) ++ (big_bytes 2 (length value) ++ (big_bytes 2 0 ++ t))) body

-- its fields have room
row_room : (key value : List ℕ) → length key ≤ 256 → length value ≤ longest_value → AreBytes key → AreBytes value → IsTrue (fields_fit (row_fields (key, value)))
row_room key value k v bytes_k bytes_v =
    and_both (nat_lt (length key) (2 ^ 16)) _ (lt-ltb (length key) (2 ^ 16) (omega arith)) (
    and_both (nat_lt (length value) (2 ^ 16)) _ (lt-ltb (length value) (2 ^ 16) (omega arith)) (
    and_both (nat_lt 0 (2 ^ 16)) _ refl (
    and_both (list_all (λ b. nat_lt b 256) key) _ (bytes_pass key bytes_k) (
    and_both (list_all (λ b. nat_lt b 256) value) true (bytes_pass value bytes_v) refl))))

-- what was cut is a row
pub row_begins : (bytes : List ℕ) (head : RowHead) (key value rest : List ℕ) → IsRowCut bytes head key value rest → BeginsWith (row_format longest_value) (key, value) bytes rest
row_begins bytes head key value rest cut =
    let body_bytes = bytes-drop 6 bytes cut.all in
    let kept = cut.kept in
    let room = cut.room in
    let k : length key ≡ head.key_len = ap length cut.key_is ∙ omega (arith, length-take head.key_len (drop 6 bytes)) in
    let v : length value ≡ head.value_len =
    ap length cut.value_is ∙ omega (arith, length-take head.value_len (drop head.key_len (drop 6 bytes)), length-drop head.key_len (drop 6 bytes)) in
    let behind : value ++ rest ≡ drop head.key_len (drop 6 bytes) =
    (λ i. cut.value_is i ++ cut.rest_is i) ∙ take-append-drop head.value_len (drop head.key_len (drop 6 bytes)) in
    let body : drop 6 bytes ≡ key ++ (value ++ rest) = sym ((λ i. cut.key_is i ++ behind i) ∙ take-append-drop head.key_len (drop 6 bytes)) in
    let k_is : number_at 2 0 bytes ≡ length key = sym (k ∙ ap (λ h. h.key_len) cut.head_is) in
    let v_is : number_at 2 2 bytes ≡ length value = sym (v ∙ ap (λ h. h.value_len) cut.head_is) in
    let zero_is : number_at 2 4 bytes ≡ 0 = sym (ap (λ (h : RowHead). h.zero) cut.head_is) ∙ kept.3 in
    let key_bytes : AreBytes key = subst AreBytes (sym cut.key_is) (bytes-take head.key_len (drop 6 bytes) body_bytes) in
    let value_bytes : AreBytes value = subst AreBytes (sym cut.value_is) (bytes-take head.value_len (drop head.key_len (drop 6 bytes)) (bytes-drop head.key_len (drop 6 bytes) body_bytes)) in
    let low : 1 ≤ length key = omega arith in
    let high : length key ≤ 256 = omega arith in
    let most : length value ≤ longest_value = omega arith in
    let fits : IsTrue (row_fits longest_value (key, value)) =
    and_both (is_key key) (nat_le (length value) longest_value)
    (and_both (nat_le 1 (length key)) (nat_le (length key) 256) (le-leb 1 (length key) low) (le-leb (length key) 256 high))
    (le-leb (length value) longest_value most) in (
      and_both (row_fits longest_value (key, value)) (fields_fit (row_fields (key, value))) fits (row_room key value high most key_bytes value_bytes),
      row_front bytes cut.all cut.long
          ∙ (λ i. big_bytes 2 (k_is i) ++ (big_bytes 2 (v_is i) ++ (big_bytes 2 (zero_is i) ++ body i)))
          ∙ row_spelled key value rest,
    )
