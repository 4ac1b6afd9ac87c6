-- What stands at the front of bytes that begin with a change.
use Rattle.std.proofs.Common.{◌≡◌, refl, sym, ap, subst, ◌∙◌, ℕ, suc, ◌+◌, ◌<◌, ◌≤◌, ◌≢◌, inl, inr, true, List, [], ◌∷◌, ◌++◌, length, take, drop, arith, append_assoc, length-append}
use Rattle.std.specs.Prelude.{nat_lt, nat_le, ◌&&◌, IsTrue, ◌^◌}
use Rattle.std.specs.List.{list_all}
use Rattle.std.proofs.lemmas.Bool.{leb-true, le-leb, lt-ltb}
use Rattle.std.proofs.lemmas.List.{append-nil, drop-drop, drop_at, take-append-drop, length-take, length-drop, nil_from_length}
use Rattle.std.proofs.lemmas.List.Folds.{list_all-append}
use Rattle.byteorder.specs.Endian.{big_bytes}
use Rattle.mdb_model.specs.declared.change.Change.{Change}
use Rattle.mdb_model.specs.declared.change.Change.TheVariants.{Put, Del}
use Rattle.mdb_model.specs.declared.name.Table.{Table}
use Rattle.mdb_model.specs.Sessions.{change_bytes}
use Rattle.mdb_model.specs.Script.{is_within, is_table, is_key, is_value}
use Rattle.mdb_bytes.specs.declared.changes.ChangeHead.{ChangeHead}
use Rattle.mdb_bytes.specs.Fields.{Text, field_fits, fields_fit, spelled, number_at}
use Rattle.mdb_bytes.specs.Groups.{change_fields, change_fits, change_reads}
use Rattle.mdb_bytes.specs.LoggedChanges.{BeginsWithChange}
use Rattle.mdb_bytes.specs.ChangeHeads.{head_in, head_for, KeepsHead}
use Rattle.mdb_bytes.proofs.Decoding.{and_left, and_right, and_both}
use Rattle.mdb_bytes.proofs.ReadBack.{byte_in, two_in}
use Rattle.mdb_bytes.proofs.GroupLaw.{spelled-append, length-change}
use Rattle.mdb_bytes.proofs.GroupBack.{change_again}
use Rattle.mdb_bytes.proofs.NumberBytes.{AreBytes, bytes-drop, bytes-take, bytes_pass, number-then_rest}

-- the bytes of a change are bytes
abbrev pub AreChangeBytes : Change → Type 0
AreChangeBytes (Put table key value) = AreBytes key × AreBytes value
AreChangeBytes (Del table key) = AreBytes key

-- a rest as one more field
spelled-with_rest : (c : Change) (rest : List ℕ) → spelled (change_fields c ++ (Text rest ∷ [])) ≡ spelled (change_fields c) ++ rest
unfolding spelled
spelled-with_rest c rest = spelled-append (change_fields c) (Text rest ∷ []) ∙ ap (λ t. spelled (change_fields c) ++ t) (append-nil rest)

pub right_bytes : (xs ys : List ℕ) → AreBytes (xs ++ ys) → AreBytes ys
right_bytes [] ys all = all
right_bytes (x ∷ xs) ys all = right_bytes xs ys (λ k. all (suc k))

pub rest_bytes : (c : Change) (bytes rest : List ℕ) → AreBytes bytes → BeginsWithChange c bytes rest → AreBytes rest
rest_bytes c bytes rest all b = right_bytes (spelled (change_fields c)) rest (subst AreBytes b.1 all)

fit-with_rest : (c : Change) (rest : List ℕ) → IsTrue (fields_fit (change_fields c)) → AreBytes rest → list_all field_fits (change_fields c ++ (Text rest ∷ [])) ≡ true
fit-with_rest c rest fit all =
    list_all-append field_fits (change_fields c) (Text rest ∷ [])
    ∙ and_both (list_all field_fits (change_fields c)) _ fit (and_both (field_fits (Text rest)) true (bytes_pass rest all) refl)

head_again : (c : Change) (rest : List ℕ) → list_all field_fits (change_fields c ++ (Text rest ∷ [])) ≡ true
    → head_in (spelled (change_fields c ++ (Text rest ∷ []))) ≡ head_for c
head_again (Put table key value) rest fit =
    let fs = change_fields (Put table key value) ++ (Text rest ∷ []) in
    λ i. record { table = two_in fs 0 table.0 fit refl i; kind = byte_in fs 2 1 fit refl i; key_len = two_in fs 3 (length key) fit refl i; value_len = two_in fs 5 (length value) fit refl i }
head_again (Del table key) rest fit =
    let fs = change_fields (Del table key) ++ (Text rest ∷ []) in
    λ i. record { table = two_in fs 0 table.0 fit refl i; kind = byte_in fs 2 2 fit refl i; key_len = two_in fs 3 (length key) fit refl i; value_len = two_in fs 5 0 fit refl i }

within : (low high n : ℕ) → IsTrue (is_within low high n) → (low ≤ n) × (n ≤ high)
within low high n e = (leb-true low n (and_left (nat_le low n) _ e), leb-true n high (and_right (nat_le low n) _ e))

is_in : (low high n : ℕ) → low ≤ n → n ≤ high → IsTrue (is_within low high n)
is_in low high n a b = and_both (nat_le low n) (nat_le n high) (le-leb low n a) (le-leb n high b)

head_kept : (c : Change) → IsTrue (change_fits c) → KeepsHead (head_for c)
head_kept (Put table key value) fit =
    let row = and_left (is_table table.0 && is_key key) (is_value value) fit in
    let t = within 1 500 table.0 (and_left (is_table table.0) (is_key key) row) in
    let k = within 1 256 (length key) (and_right (is_table table.0) (is_key key) row) in
    (t.0, t.1, k.0, k.1, leb-true (length value) 1500 (and_right (is_table table.0 && is_key key) (is_value value) fit), inl refl)
head_kept (Del table key) fit =
    let t = within 1 500 table.0 (and_left (is_table table.0) (is_key key) fit) in
    let k = within 1 256 (length key) (and_right (is_table table.0) (is_key key) fit) in
    (t.0, t.1, k.0, k.1, omega arith, inr (refl, refl))

-- the front of bytes that begin with a change says its lengths
pub front-says : (c : Change) (bytes rest : List ℕ) → AreBytes bytes → BeginsWithChange c bytes rest
    → (head_in bytes ≡ head_for c) × KeepsHead (head_for c) × (length bytes ≡ change_bytes c + length rest)
front-says c bytes rest all b =
    let fit = and_left (change_fits c) _ b.0 in
    let fit_too = fit-with_rest c rest (and_right (change_fits c) _ b.0) (rest_bytes c bytes rest all b) in (
      ap head_in (b.1 ∙ sym (spelled-with_rest c rest)) ∙ head_again c rest fit_too,
      head_kept c fit,
      ap length b.1 ∙ length-append (spelled (change_fields c)) rest ∙ ap (λ n. n + length rest) (length-change c),
    )

-- bytes begin with one change at most
pub same_first : (c d : Change) (bytes rest more : List ℕ) → AreBytes bytes → BeginsWithChange c bytes rest → BeginsWithChange d bytes more → (c ≡ d) × (rest ≡ more)
same_first c d bytes rest more all b o =
    let reads : (c : Change) (rest : List ℕ) → BeginsWithChange c bytes rest → change_reads bytes ≡ c = λ c rest b.
    ap change_reads (b.1 ∙ sym (spelled-with_rest c rest)) ∙ change_again c (Text rest ∷ []) (fit-with_rest c rest (and_right (change_fits c) _ b.0) (rest_bytes c bytes rest all b)) in
    let behind : (c : Change) (rest : List ℕ) → BeginsWithChange c bytes rest → drop (change_bytes c) bytes ≡ rest = λ c rest b.
    ap (drop (change_bytes c)) b.1 ∙ drop_at (spelled (change_fields c)) rest (change_bytes c) (length-change c) in
    let same : c ≡ d = sym (reads c rest b) ∙ reads d more o in
    (same, sym (behind c rest b) ∙ ap (λ c. drop (change_bytes c) bytes) same ∙ behind d more o)

-- the numbers at the front, spelled
front_of : (bytes : List ℕ) → AreBytes bytes → 7 ≤ length bytes
    → bytes ≡ big_bytes 2 (number_at 2 0 bytes) ++ (big_bytes 1 (number_at 1 2 bytes) ++ (big_bytes 2 (number_at 2 3 bytes) ++ (big_bytes 2 (number_at 2 5 bytes) ++ drop 7 bytes)))
unfolding number_at
front_of bytes all le =
    let table = number-then_rest 2 bytes all (omega arith) in
    let kind = number-then_rest 1 (drop 2 bytes) (bytes-drop 2 bytes all) (omega (arith, length-drop 2 bytes)) in
    let key_len = number-then_rest 2 (drop 3 bytes) (bytes-drop 3 bytes all) (omega (arith, length-drop 3 bytes)) in
    let value_len = number-then_rest 2 (drop 5 bytes) (bytes-drop 5 bytes all) (omega (arith, length-drop 5 bytes)) in
    sym table
    ∙ ap (λ t. big_bytes 2 (number_at 2 0 bytes) ++ t) (sym kind ∙ ap (λ t. big_bytes 1 (number_at 1 2 bytes) ++ t) (drop-drop 1 2 bytes
    ∙ sym key_len ∙ ap (λ t. big_bytes 2 (number_at 2 3 bytes) ++ t) (drop-drop 2 3 bytes
    ∙ sym value_len ∙ ap (λ t. big_bytes 2 (number_at 2 5 bytes) ++ t) (drop-drop 2 5 bytes))))

-- the same with the lengths of what follows
front_with : (bytes key value rest : List ℕ) → AreBytes bytes → 7 ≤ length bytes → length key ≡ number_at 2 3 bytes → length value ≡ number_at 2 5 bytes
    → drop 7 bytes ≡ key ++ (value ++ rest)
    → bytes ≡ big_bytes 2 (number_at 2 0 bytes) ++ (big_bytes 1 (number_at 1 2 bytes) ++ (big_bytes 2 (length key) ++ (big_bytes 2 (length value) ++ (key ++ (value ++ rest)))))
front_with bytes key value rest all le k v body =
    let k_is = sym k in
    let v_is = sym v in
    front_of bytes all le ∙ (λ i. big_bytes 2 (number_at 2 0 bytes) ++ (big_bytes 1 (number_at 1 2 bytes) ++ (big_bytes 2 (k_is i) ++ (big_bytes 2 (v_is i) ++ body i))))

put_spelled : (table : Table) (key value rest : List ℕ)
    → big_bytes 2 table.0 ++ (big_bytes 1 1 ++ (big_bytes 2 (length key) ++ (big_bytes 2 (length value) ++ (key ++ (value ++ rest))))) ≡ spelled (change_fields (Put table key value)) ++ rest
unfolding spelled
put_spelled table key value rest =
    let body : key ++ (value ++ rest) ≡ (key ++ (value ++ [])) ++ rest = ap (λ t. key ++ (t ++ rest)) (sym (append-nil value)) ∙ sym (append_assoc key (value ++ []) rest) in
    ap (λ t. big_bytes 2 table.0 ++ (big_bytes 1 1 ++ (big_bytes 2 (length key) ++ (big_bytes 2 (length value) ++ t)))) body

del_spelled : (table : Table) (key rest : List ℕ)
    → big_bytes 2 table.0 ++ (big_bytes 1 2 ++ (big_bytes 2 (length key) ++ (big_bytes 2 0 ++ (key ++ rest)))) ≡ spelled (change_fields (Del table key)) ++ rest
unfolding spelled
del_spelled table key rest =
    let body : key ++ rest ≡ (key ++ []) ++ rest = ap (λ t. t ++ rest) (sym (append-nil key)) in
    ap (λ t. big_bytes 2 table.0 ++ (big_bytes 1 2 ++ (big_bytes 2 (length key) ++ (big_bytes 2 0 ++ t)))) body

row_fits : (table : Table) (key : List ℕ) → 1 ≤ table.0 → table.0 ≤ 500 → 1 ≤ length key → length key ≤ 256 → IsTrue (is_table table.0 && is_key key)
row_fits table key a b c d = and_both (is_table table.0) (is_key key) (is_in 1 500 table.0 a b) (is_in 1 256 (length key) c d)

-- the fields of a change within its limits have room
put_fields_fit : (table : Table) (key value : List ℕ) → table.0 ≤ 500 → length key ≤ 256 → length value ≤ 1500 → AreBytes key → AreBytes value → IsTrue (fields_fit (change_fields (Put table key value)))
put_fields_fit table key value t k v bytes_k bytes_v =
    and_both (nat_lt table.0 (2 ^ 16)) _ (lt-ltb table.0 (2 ^ 16) (omega arith)) (
    and_both (nat_lt 1 256) _ refl (
    and_both (nat_lt (length key) (2 ^ 16)) _ (lt-ltb (length key) (2 ^ 16) (omega arith)) (
    and_both (nat_lt (length value) (2 ^ 16)) _ (lt-ltb (length value) (2 ^ 16) (omega arith)) (
    and_both (list_all (λ b. nat_lt b 256) key) _ (bytes_pass key bytes_k) (
    and_both (list_all (λ b. nat_lt b 256) value) true (bytes_pass value bytes_v) refl)))))

del_fields_fit : (table : Table) (key : List ℕ) → table.0 ≤ 500 → length key ≤ 256 → AreBytes key → IsTrue (fields_fit (change_fields (Del table key)))
del_fields_fit table key t k bytes_k =
    and_both (nat_lt table.0 (2 ^ 16)) _ (lt-ltb table.0 (2 ^ 16) (omega arith)) (
    and_both (nat_lt 2 256) _ refl (
    and_both (nat_lt (length key) (2 ^ 16)) _ (lt-ltb (length key) (2 ^ 16) (omega arith)) (
    and_both (nat_lt 0 (2 ^ 16)) _ refl (
    and_both (list_all (λ b. nat_lt b 256) key) true (bytes_pass key bytes_k) refl))))

-- the fields of each change within its limits have room, where its bytes are bytes
pub change_fields_fit : (c : Change) → IsTrue (change_fits c) → AreChangeBytes c → IsTrue (fields_fit (change_fields c))
change_fields_fit (Put table key value) fit bytes = let h = head_kept (Put table key value) fit in put_fields_fit table key value h.1 h.3 h.4 bytes.0 bytes.1
change_fields_fit (Del table key) fit bytes = let h = head_kept (Del table key) fit in del_fields_fit table key h.1 h.3 bytes

-- what was cut from the bytes by a front that keeps its limits
pub record IsCut (bytes : List ℕ) (head : ChangeHead) (key value rest : List ℕ) : Type 0 where
  pub all : AreBytes bytes
  pub long : 7 ≤ length bytes
  pub head_is : head ≡ head_in bytes
  pub kept : KeepsHead head
  pub key_is : key ≡ take head.key_len (drop 7 bytes)
  pub value_is : value ≡ take head.value_len (drop head.key_len (drop 7 bytes))
  pub rest_is : rest ≡ drop head.value_len (drop head.key_len (drop 7 bytes))
  pub room : head.key_len + head.value_len ≤ length (drop 7 bytes)

cut_key : (bytes : List ℕ) (head : ChangeHead) (key value rest : List ℕ) → IsCut bytes head key value rest → length key ≡ head.key_len
cut_key bytes head key value rest cut = let room = cut.room in ap length cut.key_is ∙ omega (arith, length-take head.key_len (drop 7 bytes))

cut_value : (bytes : List ℕ) (head : ChangeHead) (key value rest : List ℕ) → IsCut bytes head key value rest → length value ≡ head.value_len
cut_value bytes head key value rest cut =
    let room = cut.room in
    ap length cut.value_is ∙ omega (arith, length-take head.value_len (drop head.key_len (drop 7 bytes)), length-drop head.key_len (drop 7 bytes))

cut_body : (bytes : List ℕ) (head : ChangeHead) (key value rest : List ℕ) → IsCut bytes head key value rest → drop 7 bytes ≡ key ++ (value ++ rest)
cut_body bytes head key value rest cut =
    let behind : value ++ rest ≡ drop head.key_len (drop 7 bytes) =
    (λ i. cut.value_is i ++ cut.rest_is i) ∙ take-append-drop head.value_len (drop head.key_len (drop 7 bytes)) in
    sym ((λ i. cut.key_is i ++ behind i) ∙ take-append-drop head.key_len (drop 7 bytes))

key_bytes : (bytes : List ℕ) (head : ChangeHead) (key value rest : List ℕ) → IsCut bytes head key value rest → AreBytes key
key_bytes bytes head key value rest cut = subst AreBytes (sym cut.key_is) (bytes-take head.key_len (drop 7 bytes) (bytes-drop 7 bytes cut.all))

value_bytes : (bytes : List ℕ) (head : ChangeHead) (key value rest : List ℕ) → IsCut bytes head key value rest → AreBytes value
value_bytes bytes head key value rest cut =
    subst AreBytes (sym cut.value_is) (bytes-take head.value_len (drop head.key_len (drop 7 bytes)) (bytes-drop head.key_len (drop 7 bytes) (bytes-drop 7 bytes cut.all)))

cut_whole : (bytes : List ℕ) (head : ChangeHead) (key value rest : List ℕ) → IsCut bytes head key value rest
    → bytes ≡ big_bytes 2 head.table ++ (big_bytes 1 head.kind ++ (big_bytes 2 (length key) ++ (big_bytes 2 (length value) ++ (key ++ (value ++ rest)))))
cut_whole bytes head key value rest cut =
    let same : (h : ChangeHead) → h ≡ head_in bytes → length key ≡ h.key_len → length value ≡ h.value_len
    → bytes ≡ big_bytes 2 h.table ++ (big_bytes 1 h.kind ++ (big_bytes 2 (length key) ++ (big_bytes 2 (length value) ++ (key ++ (value ++ rest))))) = λ h e k v.
    front_with bytes key value rest cut.all cut.long (k ∙ ap (λ h. h.key_len) e) (v ∙ ap (λ h. h.value_len) e) (cut_body bytes head key value rest cut)
    ∙ ap (λ (h : ChangeHead). big_bytes 2 h.table ++ (big_bytes 1 h.kind ++ (big_bytes 2 (length key) ++ (big_bytes 2 (length value) ++ (key ++ (value ++ rest)))))) (sym e) in
    same head cut.head_is (cut_key bytes head key value rest cut) (cut_value bytes head key value rest cut)

pub put_begins : (bytes : List ℕ) (head : ChangeHead) (key value rest : List ℕ) → IsCut bytes head key value rest → head.kind ≡ 1
    → BeginsWithChange (Put (record { 0 = head.table }) key value) bytes rest
put_begins bytes head key value rest cut kind =
    let table : Table = record { 0 = head.table } in
    let kept = cut.kept in
    let k = cut_key bytes head key value rest cut in
    let v = cut_value bytes head key value rest cut in
    let key_low : 1 ≤ length key = omega arith in
    let key_high : length key ≤ 256 = omega arith in
    let value_high : length value ≤ 1500 = omega arith in
    let fits = and_both (is_table table.0 && is_key key) (is_value value) (row_fits table key kept.0 kept.1 key_low key_high) (le-leb (length value) 1500 value_high) in
    let room = put_fields_fit table key value kept.1 key_high value_high (key_bytes bytes head key value rest cut) (value_bytes bytes head key value rest cut) in (
      and_both (change_fits (Put table key value)) (fields_fit (change_fields (Put table key value))) fits room,
      cut_whole bytes head key value rest cut
          ∙ ap (λ n. big_bytes 2 head.table ++ (big_bytes 1 n ++ (big_bytes 2 (length key) ++ (big_bytes 2 (length value) ++ (key ++ (value ++ rest)))))) kind
          ∙ put_spelled table key value rest,
    )

pub del_begins : (bytes : List ℕ) (head : ChangeHead) (key value rest : List ℕ) → IsCut bytes head key value rest → head.kind ≢ 1
    → BeginsWithChange (Del (record { 0 = head.table }) key) bytes rest
del_begins bytes head key value rest cut kind =
    let table : Table = record { 0 = head.table } in
    let kept = cut.kept in
    let k = cut_key bytes head key value rest cut in
    let other : (head.kind ≡ 2) × (head.value_len ≡ 0) = elim kept.5 [ inl put ↦ absurd (kind put) | inr del ↦ del ] in
    let v : length value ≡ 0 = cut_value bytes head key value rest cut ∙ other.1 in
    let none : value ≡ [] = nil_from_length value v in
    let key_low : 1 ≤ length key = omega arith in
    let key_high : length key ≤ 256 = omega arith in
    let room = del_fields_fit table key kept.1 key_high (key_bytes bytes head key value rest cut) in (
      and_both (change_fits (Del table key)) (fields_fit (change_fields (Del table key))) (row_fits table key kept.0 kept.1 key_low key_high) room,
      cut_whole bytes head key value rest cut
          ∙ (λ i. big_bytes 2 head.table ++ (big_bytes 1 (other.0 i) ++ (big_bytes 2 (length key) ++ (big_bytes 2 (length (none i)) ++ (key ++ (none i ++ rest))))))
          ∙ del_spelled table key rest,
    )

-- When bytes begin with no change

head_len : (c : Change) → change_bytes c ≡ 7 + (head_for c).key_len + (head_for c).value_len
head_len (Put table key value) = refl
head_len (Del table key) = omega arith

pub too_short : (bytes : List ℕ) → AreBytes bytes → length bytes < 7 → (c : Change) (rest : List ℕ) → BeginsWithChange c bytes rest → ⊥
too_short bytes all lt c rest b = let says = front-says c bytes rest all b in let len = head_len c in omega (arith, says.2)

pub bad_head : (bytes : List ℕ) (head : ChangeHead) → AreBytes bytes → head ≡ head_in bytes → ¬ (KeepsHead head) → (c : Change) (rest : List ℕ) → BeginsWithChange c bytes rest → ⊥
bad_head bytes head all is bad c rest b = let says = front-says c bytes rest all b in bad (subst KeepsHead (sym (is ∙ says.0)) says.1)

pub no_body : (bytes : List ℕ) (head : ChangeHead) → AreBytes bytes → head ≡ head_in bytes → length (drop 7 bytes) < head.key_len + head.value_len
    → (c : Change) (rest : List ℕ) → BeginsWithChange c bytes rest → ⊥
no_body bytes head all is lt c rest b =
    let says = front-says c bytes rest all b in
    let same : head ≡ head_for c = is ∙ says.0 in
    let k : head.key_len ≡ (head_for c).key_len = ap (λ h. h.key_len) same in
    let v : head.value_len ≡ (head_for c).value_len = ap (λ h. h.value_len) same in
    let len = head_len c in
    omega (arith, says.2, length-drop 7 bytes)
