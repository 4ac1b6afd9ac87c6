-- What was spelled is read again: a number stands at the place of its field.
--     byte_in, two_in, four_in, eight_in      the number of a field at a place
use Rattle.std.proofs.Common.{◌≡◌, refl, sym, ap, subst, ◌∙◌, ℕ, ◌+◌, ◌-◌, ◌^◌, ◌<◌, ◌≤◌, true, cond, inl, inr, List, [], ◌∷◌, ◌++◌, length, drop, Option, Some, None, arith}
use Rattle.std.specs.Prelude.{nat_eq, nat_le, if◌then◌else◌}
use Rattle.std.specs.List.{list_all}
use Rattle.std.proofs.lemmas.List.{drop-drop, drop_at, length-replicate}
use Rattle.std.proofs.lemmas.Bool.{eqb-true, leb-true, ltb-true, cases_Bool}
use Rattle.std.proofs.lemmas.Option.{same_Some}
use Rattle.byteorder.specs.Endian.{big_number}
use Rattle.byteorder.specs.Numbers.{big_number-reads_back}
use Rattle.mdb_bytes.specs.Fields.{Field, Byte, Two, Four, Eight, Zeros, Text, field_bytes, field_fits, spelled, number_at}
use Rattle.mdb_bytes.proofs.Decoding.{and_left, and_right}

abbrev pub field_len : Field → ℕ
field_len (Byte n) = 1
field_len (Two n) = 2
field_len (Four n) = 4
field_len (Eight n) = 8
field_len (Zeros n) = n
field_len (Text bytes) = length bytes

length-field : (f : Field) → length (field_bytes f) ≡ field_len f
length-field (Byte n) = refl
length-field (Two n) = refl
length-field (Four n) = refl
length-field (Eight n) = refl
length-field (Zeros n) = length-replicate n 0
length-field (Text bytes) = refl

-- the field that begins at a place
abbrev pub field_at : ℕ → List Field → Option Field
field_at at [] = None
field_at at (f ∷ fs) = if nat_eq at 0 then Some f else if nat_le (field_len f) at then field_at (at - field_len f) fs else None

-- what stands from the place of a field on begins with its bytes, and the number fits
found : (fs : List Field) (at : ℕ) (f : Field) → list_all field_fits fs ≡ true → field_at at fs ≡ Some f → (rest : List ℕ) × (drop at (spelled fs) ≡ field_bytes f ++ rest) × (field_fits f ≡ true)
unfolding spelled
found [] at f fit e = absurd cc
found (g ∷ fs) at f fit e =
    elim (cases_Bool (nat_eq at 0)) [
      | inl here ↦
          let zero_is : at ≡ 0 = eqb-true at 0 here in
          let chosen : Some g ≡ Some f = rw here at e in
          let same : g ≡ f = same_Some g f chosen in
          (spelled fs, rw (zero_is, same) refl, subst (λ f. field_fits f ≡ true) same (and_left _ _ fit))
      | inr past ↦
          let e1 : cond (nat_le (field_len g) at) (field_at (at - field_len g) fs) None ≡ Some f = rw past at e in
          elim (cases_Bool (nat_le (field_len g) at)) [
            | inl le ↦
                let far : field_len g ≤ at = leb-true (field_len g) at le in
                let e2 : field_at (at - field_len g) fs ≡ Some f = rw le at e1 in
                let more = found fs (at - field_len g) f (and_right (field_fits g) _ fit) e2 in
                let split : at ≡ field_len g + (at - field_len g) = omega arith in
                let moved : drop at (field_bytes g ++ spelled fs) ≡ drop (at - field_len g) (spelled fs) =
                ap (λ (k : ℕ). drop k (field_bytes g ++ spelled fs)) split
                ∙ sym (drop-drop (at - field_len g) (field_len g) (field_bytes g ++ spelled fs))
                ∙ ap (drop (at - field_len g)) (drop_at (field_bytes g) (spelled fs) (field_len g) (length-field g)) in
                (more.0, moved ∙ more.1, more.2)
            | inr short ↦ let e2 : None ≡ Some f = rw short at e1 in absurd cc
          ]
    ]

pub byte_in : (fs : List Field) (at n : ℕ) → list_all field_fits fs ≡ true → field_at at fs ≡ Some (Byte n) → number_at 1 at (spelled fs) ≡ n
unfolding number_at
byte_in fs at n fit e =
    let f = found fs at (Byte n) fit e in
    ap (big_number 1) f.1 ∙ big_number-reads_back 1 n f.0 (ltb-true n 256 f.2)

pub two_in : (fs : List Field) (at n : ℕ) → list_all field_fits fs ≡ true → field_at at fs ≡ Some (Two n) → number_at 2 at (spelled fs) ≡ n
unfolding number_at
two_in fs at n fit e =
    let f = found fs at (Two n) fit e in
    ap (big_number 2) f.1 ∙ big_number-reads_back 2 n f.0 (ltb-true n (2 ^ 16) f.2)

pub four_in : (fs : List Field) (at n : ℕ) → list_all field_fits fs ≡ true → field_at at fs ≡ Some (Four n) → number_at 4 at (spelled fs) ≡ n
unfolding number_at
four_in fs at n fit e =
    let f = found fs at (Four n) fit e in
    ap (big_number 4) f.1 ∙ big_number-reads_back 4 n f.0 (ltb-true n (2 ^ 32) f.2)

pub eight_in : (fs : List Field) (at n : ℕ) → list_all field_fits fs ≡ true → field_at at fs ≡ Some (Eight n) → number_at 8 at (spelled fs) ≡ n
unfolding number_at
eight_in fs at n fit e =
    let f = found fs at (Eight n) fit e in
    let small : n < 2 ^ 62 = ltb-true n (2 ^ 62) f.2 in
    ap (big_number 8) f.1 ∙ big_number-reads_back 8 n f.0 (omega arith)
