-- Undo entries in the bytes of a page.
--     undo_law      what holds of their layout
--     undo_not_whole, undo_bad      when bytes begin with no entry
--     undo_begins, undo_found      when they begin with one, and which it is
use Rattle.std.proofs.Common.{◌≡◌, refl, sym, ap, subst, ◌∙◌, ℕ, ◌+◌, ◌<◌, ◌≤◌, ◌^◌, ◌==◌, ◌⊎◌, inl, inr, true, List, [], ◌∷◌, ◌++◌, length, take, drop, Option, Some, None, arith, append_assoc}
use Rattle.std.specs.Prelude.{nat_lt, nat_le, ◌&&◌, IsTrue, if◌then◌else◌, is_some, unwrap_or}
use Rattle.std.specs.List.{list_all}
use Rattle.std.proofs.lemmas.Bool.{leb-true, le-leb, lt-ltb, ltb-true}
use Rattle.std.proofs.lemmas.List.{append-nil, drop-drop, take_at, drop_at, take-append-drop, length-take, length-drop, nil_from_length}
use Rattle.byteorder.specs.Endian.{big_bytes}
use Rattle.mdb_model.specs.Script.{is_table, is_key}
use Rattle.mdb_bytes.specs.declared.undo_page.UndoHead.{UndoHead}
use Rattle.mdb_bytes.specs.Fields.{Field, Text, field_fits, fields_fit, spelled, number_at, number_limit}
use Rattle.mdb_bytes.specs.TablePages.{longest_value}
use Rattle.mdb_bytes.specs.UndoPages.{UndoEntry, before_bytes, before_kind, undo_entry_fields, undo_entry_fits, undo_entry_reads, undo_entry_len, undo_entry_format}
use Rattle.mdb_bytes.specs.EntryPages.{undo_layout, BeginsWith}
use Rattle.mdb_bytes.specs.EntryHeads.{undo_head_in, undo_head_for, KeepsUndoHead, HasWholeUndo}
use Rattle.mdb_bytes.proofs.Decoding.{and_left, and_right, and_both}
use Rattle.mdb_bytes.proofs.ReadBack.{byte_in, two_in, eight_in}
use Rattle.mdb_bytes.proofs.NumberBytes.{AreBytes, bytes-drop, bytes-take, bytes_pass}
use Rattle.mdb_bytes.proofs.NumberSteps.{number_step}
use Rattle.mdb_bytes.proofs.EntryRuns.{IsLayout, with_rest, begins_longer}

-- the value before is read again
before_again : (o : Option (List ℕ)) (kind : ℕ) (text : List ℕ) → kind ≡ (if is_some o then 1 else 0) → text ≡ unwrap_or o [] → (if kind == 0 then None else Some text) ≡ o
before_again None kind text k b = ap (λ (k : ℕ). if k == 0 then None else Some text) k
before_again (Some x) kind text k b = ap (λ (k : ℕ). if k == 0 then None else Some text) k ∙ ap Some b

-- what stands at the front of an entry that was spelled
pub undo_front_says : (v : UndoEntry) (more : List Field) → list_all field_fits (undo_entry_fields v ++ more) ≡ true → undo_head_in (spelled (undo_entry_fields v ++ more)) ≡ undo_head_for v
undo_front_says v more fit =
    let fs = undo_entry_fields v ++ more in
    λ i. record {
      table = two_in fs 0 v.table fit refl i;
      kind = byte_in fs 2 (before_kind v) fit refl i;
      zero = byte_in fs 3 0 fit refl i;
      key_len = two_in fs 4 (length v.key) fit refl i;
      before_len = two_in fs 6 (length (before_bytes v)) fit refl i;
      number = eight_in fs 8 v.number fit refl i;
    }

-- an entry that was spelled is read again
undo_again : (v : UndoEntry) (more : List Field) → list_all field_fits (undo_entry_fields v ++ more) ≡ true → undo_entry_reads (spelled (undo_entry_fields v ++ more)) ≡ v
unfolding spelled
undo_again v more fit =
    let fs = undo_entry_fields v ++ more in
    let bytes = spelled fs in
    let key_len : number_at 2 4 bytes ≡ length v.key = two_in fs 4 (length v.key) fit refl in
    let before_len : number_at 2 6 bytes ≡ length (before_bytes v) = two_in fs 6 (length (before_bytes v)) fit refl in
    let key : take (number_at 2 4 bytes) (drop 16 bytes) ≡ v.key =
    ap (λ n. take n (drop 16 bytes)) key_len ∙ take_at v.key (before_bytes v ++ spelled more) (length v.key) refl in
    let rest : drop (16 + number_at 2 4 bytes) bytes ≡ before_bytes v ++ spelled more =
    ap (λ n. drop (16 + n) bytes) key_len ∙ sym (drop-drop (length v.key) 16 bytes) ∙ drop_at v.key (before_bytes v ++ spelled more) (length v.key) refl in
    let text : take (number_at 2 6 bytes) (drop (16 + number_at 2 4 bytes) bytes) ≡ before_bytes v =
    (λ i. take (before_len i) (rest i)) ∙ take_at (before_bytes v) (spelled more) (length (before_bytes v)) refl in
    let before = before_again v.before (number_at 1 2 bytes) (take (number_at 2 6 bytes) (drop (16 + number_at 2 4 bytes) bytes)) (byte_in fs 2 (before_kind v) fit refl) text in
    λ i. record { table = two_in fs 0 v.table fit refl i; key = key i; before = before i; number = eight_in fs 8 v.number fit refl i }

-- what holds of the layout of undo entries
pub undo_law : (longest : ℕ) → IsLayout (undo_layout longest) 0
undo_law longest = record {
  again = undo_again;
  len_is = λ v. omega arith;
  cost_is = λ v. omega arith;
  slot_is = λ at. refl;
  slot_fits = λ at lt. refl;
  none = λ at. refl;
  more = λ at len lens. refl;
}

-- Bytes that begin with an entry

-- the kind by the value before
abbrev kind_by : Option (List ℕ) → ℕ
kind_by o = if is_some o then 1 else 0

-- there is a row before, or nothing of it
kind_kept : (o : Option (List ℕ)) → (kind_by o ≡ 1) ⊎ ((kind_by o ≡ 0) × (length (unwrap_or o []) ≡ 0))
kind_kept None = inr (refl, refl)
kind_kept (Some x) = inl refl

-- an entry within its limits has a front within its limits
undo_kept : (v : UndoEntry) → IsTrue (undo_entry_fits longest_value v) → IsTrue (fields_fit (undo_entry_fields v)) → KeepsUndoHead (undo_head_for v)
undo_kept v fits room =
    let place = and_left (is_table v.table && is_key v.key) _ fits in
    let others = and_right (is_table v.table && is_key v.key) _ fits in
    let table = and_left (is_table v.table) _ place in
    let key = and_right (is_table v.table) _ place in
    let behind_table = and_right (nat_lt v.table (2 ^ 16)) _ room in
    let behind_kind = and_right (nat_lt (before_kind v) 256) _ behind_table in
    let behind_zero = and_right (nat_lt 0 256) _ behind_kind in
    let behind_key_len = and_right (nat_lt (length v.key) (2 ^ 16)) _ behind_zero in
    let behind_before_len = and_right (nat_lt (length (before_bytes v)) (2 ^ 16)) _ behind_key_len in (
      (leb-true 1 v.table (and_left (nat_le 1 v.table) _ table), leb-true v.table 500 (and_right (nat_le 1 v.table) _ table)),
      kind_kept v.before,
      refl,
      (
        leb-true 1 (length v.key) (and_left (nat_le 1 (length v.key)) _ key),
        leb-true (length v.key) 256 (and_right (nat_le 1 (length v.key)) _ key),
        leb-true (length (before_bytes v)) longest_value (and_left (nat_le (length (before_bytes v)) longest_value) _ others),
      ),
      (leb-true 1 v.number (and_right (nat_le (length (before_bytes v)) longest_value) _ others), ltb-true v.number number_limit (and_left (nat_lt v.number number_limit) _ behind_before_len)),
    )

-- what bytes say that begin with an entry
undo_says : (v : UndoEntry) (bytes rest : List ℕ) → AreBytes bytes → BeginsWith (undo_entry_format longest_value) v bytes rest
    → (undo_head_in bytes ≡ undo_head_for v) × KeepsUndoHead (undo_head_for v) × (length bytes ≡ undo_entry_len v + length rest)
undo_says v bytes rest all b =
    let whole = with_rest (undo_layout longest_value) v bytes rest all b in (
      ap undo_head_in whole.0 ∙ undo_front_says v (Text rest ∷ []) whole.1,
      undo_kept v (and_left (undo_entry_fits longest_value v) _ b.0) (and_right (undo_entry_fits longest_value v) _ b.0),
      begins_longer (undo_layout longest_value) 0 (undo_law longest_value) v bytes rest b,
    )

-- bytes that are too short for their front, or whose front breaks a limit, begin with no entry
pub undo_not_whole : (bytes : List ℕ) → AreBytes bytes → ¬ HasWholeUndo bytes (undo_head_in bytes) → (v : UndoEntry) (rest : List ℕ) → BeginsWith (undo_entry_format longest_value) v bytes rest → ⊥
undo_not_whole bytes all short v rest b =
    let says = undo_says v bytes rest all b in
    let len = says.2 in
    short (subst (λ h. HasWholeUndo bytes h) (sym says.0) (omega arith, omega arith))

pub undo_bad : (bytes : List ℕ) (head : UndoHead) → AreBytes bytes → head ≡ undo_head_in bytes → ¬ (KeepsUndoHead head)
    → (v : UndoEntry) (rest : List ℕ) → BeginsWith (undo_entry_format longest_value) v bytes rest → ⊥
undo_bad bytes head all is bad v rest b = let says = undo_says v bytes rest all b in bad (subst KeepsUndoHead (sym (is ∙ says.0)) says.1)

-- the entry of a front that keeps its limits
pub record IsUndoCut (bytes : List ℕ) (head : UndoHead) (v : UndoEntry) (rest : List ℕ) : Type 0 where
  pub all : AreBytes bytes
  pub whole : HasWholeUndo bytes head
  pub head_is : head ≡ undo_head_in bytes
  pub kept : KeepsUndoHead head
  pub table_is : v.table ≡ head.table
  pub kind_is : before_kind v ≡ head.kind
  pub number_is : v.number ≡ head.number
  pub key_is : v.key ≡ take head.key_len (drop 16 bytes)
  pub before_is : before_bytes v ≡ take head.before_len (drop head.key_len (drop 16 bytes))
  pub rest_is : rest ≡ drop (16 + head.key_len + head.before_len) bytes

-- the numbers at the front, spelled
undo_front : (bytes : List ℕ) → AreBytes bytes → 16 ≤ length bytes
    → bytes ≡ big_bytes 2 (number_at 2 0 bytes) ++ (big_bytes 1 (number_at 1 2 bytes) ++ (big_bytes 1 (number_at 1 3 bytes) ++ (big_bytes 2 (number_at 2 4 bytes)
    ++ (big_bytes 2 (number_at 2 6 bytes) ++ (big_bytes 8 (number_at 8 8 bytes) ++ drop 16 bytes)))))
undo_front bytes all le =
    number_step 2 0 bytes all (omega arith)
    ∙ ap (λ t. big_bytes 2 (number_at 2 0 bytes) ++ t) (number_step 1 2 bytes all (omega arith)
    ∙ ap (λ t. big_bytes 1 (number_at 1 2 bytes) ++ t) (number_step 1 3 bytes all (omega arith)
    ∙ ap (λ t. big_bytes 1 (number_at 1 3 bytes) ++ t) (number_step 2 4 bytes all (omega arith)
    ∙ ap (λ t. big_bytes 2 (number_at 2 4 bytes) ++ t) (number_step 2 6 bytes all (omega arith)
    ∙ ap (λ t. big_bytes 2 (number_at 2 6 bytes) ++ t) (number_step 8 8 bytes all (omega arith))))))

-- the same of an entry
undo_spelled : (v : UndoEntry) (rest : List ℕ)
    → big_bytes 2 v.table ++ (big_bytes 1 (before_kind v) ++ (big_bytes 1 0 ++ (big_bytes 2 (length v.key) ++ (big_bytes 2 (length (before_bytes v)) ++ (big_bytes 8 v.number
    ++ (v.key ++ (before_bytes v ++ rest))))))) ≡ spelled (undo_entry_fields v) ++ rest
unfolding spelled
undo_spelled v rest =
    let body : v.key ++ (before_bytes v ++ rest) ≡ (v.key ++ (before_bytes v ++ [])) ++ rest =
    ap (λ t. v.key ++ (t ++ rest)) (sym (append-nil (before_bytes v))) ∙ sym (append_assoc v.key (before_bytes v ++ []) rest) in
    ap (λ t. big_bytes 2 v.table ++ (big_bytes 1 (before_kind v) ++ (big_bytes 1 0 ++ (big_bytes 2 (length v.key) ++ (big_bytes 2 (length (before_bytes v)) ++ (big_bytes 8 v.number ++ t)))))) body

-- a kind is a byte
kind_low : (o : Option (List ℕ)) → IsTrue (nat_lt (kind_by o) 256)
kind_low None = refl
kind_low (Some x) = refl

-- its fields have room
undo_room : (v : UndoEntry) → v.table ≤ 500 → length v.key ≤ 256 → length (before_bytes v) ≤ longest_value → v.number < number_limit → AreBytes v.key → AreBytes (before_bytes v)
    → IsTrue (fields_fit (undo_entry_fields v))
undo_room v t k b n bytes_k bytes_b =
    and_both (nat_lt v.table (2 ^ 16)) _ (lt-ltb v.table (2 ^ 16) (omega arith)) (
    and_both (nat_lt (before_kind v) 256) _ (kind_low v.before) (
    and_both (nat_lt 0 256) _ refl (
    and_both (nat_lt (length v.key) (2 ^ 16)) _ (lt-ltb (length v.key) (2 ^ 16) (omega arith)) (
    and_both (nat_lt (length (before_bytes v)) (2 ^ 16)) _ (lt-ltb (length (before_bytes v)) (2 ^ 16) (omega arith)) (
    and_both (nat_lt v.number number_limit) _ (lt-ltb v.number number_limit n) (
    and_both (list_all (λ b. nat_lt b 256) v.key) _ (bytes_pass v.key bytes_k) (
    and_both (list_all (λ b. nat_lt b 256) (before_bytes v)) true (bytes_pass (before_bytes v) bytes_b) refl)))))))

-- what was cut is an entry
pub undo_begins : (bytes : List ℕ) (head : UndoHead) (v : UndoEntry) (rest : List ℕ) → IsUndoCut bytes head v rest → BeginsWith (undo_entry_format longest_value) v bytes rest
undo_begins bytes head v rest cut =
    let body_bytes = bytes-drop 16 bytes cut.all in
    let kept = cut.kept in
    let whole = cut.whole in
    let text = before_bytes v in
    let k : length v.key ≡ head.key_len = ap length cut.key_is ∙ omega (arith, length-take head.key_len (drop 16 bytes), length-drop 16 bytes) in
    let b : length text ≡ head.before_len =
    ap length cut.before_is
    ∙ omega (arith, length-take head.before_len (drop head.key_len (drop 16 bytes)), length-drop head.key_len (drop 16 bytes), length-drop 16 bytes) in
    let past : rest ≡ drop head.before_len (drop head.key_len (drop 16 bytes)) =
    cut.rest_is ∙ sym (ap (drop head.before_len) (drop-drop head.key_len 16 bytes) ∙ drop-drop head.before_len (16 + head.key_len) bytes) in
    let behind : text ++ rest ≡ drop head.key_len (drop 16 bytes) =
    (λ i. cut.before_is i ++ past i) ∙ take-append-drop head.before_len (drop head.key_len (drop 16 bytes)) in
    let body : drop 16 bytes ≡ v.key ++ (text ++ rest) = sym ((λ i. cut.key_is i ++ behind i) ∙ take-append-drop head.key_len (drop 16 bytes)) in
    let table_is : number_at 2 0 bytes ≡ v.table = sym (cut.table_is ∙ ap (λ (h : UndoHead). h.table) cut.head_is) in
    let kind_is : number_at 1 2 bytes ≡ before_kind v = sym (cut.kind_is ∙ ap (λ (h : UndoHead). h.kind) cut.head_is) in
    let zero_is : number_at 1 3 bytes ≡ 0 = sym (ap (λ (h : UndoHead). h.zero) cut.head_is) ∙ kept.2 in
    let k_is : number_at 2 4 bytes ≡ length v.key = sym (k ∙ ap (λ (h : UndoHead). h.key_len) cut.head_is) in
    let b_is : number_at 2 6 bytes ≡ length text = sym (b ∙ ap (λ (h : UndoHead). h.before_len) cut.head_is) in
    let number_is : number_at 8 8 bytes ≡ v.number = sym (cut.number_is ∙ ap (λ (h : UndoHead). h.number) cut.head_is) in
    let key_bytes : AreBytes v.key = subst AreBytes (sym cut.key_is) (bytes-take head.key_len (drop 16 bytes) body_bytes) in
    let text_bytes : AreBytes text = subst AreBytes (sym cut.before_is) (bytes-take head.before_len (drop head.key_len (drop 16 bytes)) (bytes-drop head.key_len (drop 16 bytes) body_bytes)) in
    let table_same = cut.table_is in
    let number_same = cut.number_is in
    let tables = kept.0 in
    let lengths = kept.3 in
    let numbers = kept.4 in
    let t_low : 1 ≤ v.table = omega arith in
    let t_high : v.table ≤ 500 = omega arith in
    let k_low : 1 ≤ length v.key = omega arith in
    let k_high : length v.key ≤ 256 = omega arith in
    let b_high : length text ≤ longest_value = omega arith in
    let n_low : 1 ≤ v.number = omega arith in
    let n_high : v.number < number_limit = subst (λ n. n < number_limit) (sym number_same) numbers.1 in
    let fits : IsTrue (undo_entry_fits longest_value v) =
    and_both (is_table v.table && is_key v.key) (nat_le (length text) longest_value && nat_le 1 v.number)
    (and_both (is_table v.table) (is_key v.key)
    (and_both (nat_le 1 v.table) (nat_le v.table 500) (le-leb 1 v.table t_low) (le-leb v.table 500 t_high))
    (and_both (nat_le 1 (length v.key)) (nat_le (length v.key) 256) (le-leb 1 (length v.key) k_low) (le-leb (length v.key) 256 k_high)))
    (and_both (nat_le (length text) longest_value) (nat_le 1 v.number) (le-leb (length text) longest_value b_high) (le-leb 1 v.number n_low)) in (
      and_both (undo_entry_fits longest_value v) (fields_fit (undo_entry_fields v)) fits (undo_room v t_high k_high b_high n_high key_bytes text_bytes),
      undo_front bytes cut.all whole.0
          ∙ (λ i. big_bytes 2 (table_is i) ++ (big_bytes 1 (kind_is i) ++ (big_bytes 1 (zero_is i) ++ (big_bytes 2 (k_is i) ++ (big_bytes 2 (b_is i) ++ (big_bytes 8 (number_is i) ++ body i))))))
          ∙ undo_spelled v rest,
    )

-- one of the two kinds of entries
pub undo_found : (bytes : List ℕ) (head : UndoHead) (rest : List ℕ) → AreBytes bytes → HasWholeUndo bytes head → head ≡ undo_head_in bytes → KeepsUndoHead head
    → rest ≡ drop (16 + head.key_len + head.before_len) bytes → (v : UndoEntry) × BeginsWith (undo_entry_format longest_value) v bytes rest
undo_found bytes head rest all whole is kept rest_is =
    let key : List ℕ = take head.key_len (drop 16 bytes) in
    let text : List ℕ = take head.before_len (drop head.key_len (drop 16 bytes)) in
    elim kept.1 [
      | inl row ↦
          let v : UndoEntry = record { table = head.table; key = key; before = Some text; number = head.number } in (
            v,
            undo_begins bytes head v rest (record {
              all = all;
              whole = whole;
              head_is = is;
              kept = kept;
              table_is = refl;
              kind_is = sym row;
              number_is = refl;
              key_is = refl;
              before_is = refl;
              rest_is = rest_is;
            }),
          )
      | inr none ↦
          let v : UndoEntry = record { table = head.table; key = key; before = None; number = head.number } in
          let none_len = none.1 in
          let empty : text ≡ [] = nil_from_length text (omega (arith, length-take head.before_len (drop head.key_len (drop 16 bytes)))) in (
            v,
            undo_begins bytes head v rest (record {
              all = all;
              whole = whole;
              head_is = is;
              kept = kept;
              table_is = refl;
              kind_is = sym none.0;
              number_is = refl;
              key_is = refl;
              before_is = sym empty;
              rest_is = rest_is;
            }),
          )
    ]
