-- A number that stands in a list of fields is read at its place, whatever follows the fields.
--     two_in, four_in, byte_in      the number of a field
use Rattle.std.proofs.Common.{◌≡◌, ℕ, ◌+◌, ◌-◌, ◌^◌, ◌<◌, ◌≤◌, cond, List, [], ◌∷◌, ◌++◌, length, drop, Some, None, refl, sym, ap, ◌∙◌, arith, append_assoc, inl, inr}
use Rattle.std.proofs.lemmas.List.{drop-drop, drop_at, length-replicate}
use Rattle.std.proofs.lemmas.Bool.{eqb-true, leb-true, cases_Bool}
use Rattle.std.specs.Prelude.{nat_eq, nat_le}
use Rattle.std.proofs.lemmas.Option.{same_Some}
use Rattle.byteorder.specs.Endian.{big_number}
use Rattle.byteorder.specs.Numbers.{big_number-reads_back}
use Rattle.mdb_bytes.specs.Fields.{Field, Byte, Two, Four, Eight, Zeros, Text, field_bytes, spelled, number_at}
use Rattle.mdb_bytes.proofs.ReadBack.{field_at, field_len}

-- the bytes of a field
length-field : (f : Field) → length (field_bytes f) ≡ field_len f
length-field (Byte n) = refl
length-field (Two n) = refl
length-field (Four n) = refl
length-field (Eight n) = refl
length-field (Zeros n) = length-replicate n 0
length-field (Text bytes) = refl

-- what stands from the place of a field on begins with its bytes
pub stands : (fs : List Field) (more : List ℕ) (at : ℕ) (f : Field) → field_at at fs ≡ Some f → (rest : List ℕ) × (drop at (spelled fs ++ more) ≡ field_bytes f ++ rest)
unfolding spelled
stands [] more at f e = absurd cc
stands (g ∷ fs) more at f e =
    let assoc : (field_bytes g ++ spelled fs) ++ more ≡ field_bytes g ++ (spelled fs ++ more) = append_assoc (field_bytes g) (spelled fs) more in
    elim (cases_Bool (nat_eq at 0)) [
      | inl here ↦
          let zero_is : at ≡ 0 = eqb-true at 0 here in
          let chosen : Some g ≡ Some f = rw here at e in
          let same : g ≡ f = same_Some g f chosen in
          (spelled fs ++ more, ap (drop at) assoc ∙ rw (zero_is, same) refl)
      | inr past ↦
          let e1 : cond (nat_le (field_len g) at) (field_at (at - field_len g) fs) None ≡ Some f = rw past at e in
          elim (cases_Bool (nat_le (field_len g) at)) [
            | inl le ↦
                let far : field_len g ≤ at = leb-true (field_len g) at le in
                let e2 : field_at (at - field_len g) fs ≡ Some f = rw le at e1 in
                let ih = stands fs more (at - field_len g) f e2 in
                let split : at ≡ field_len g + (at - field_len g) = omega arith in
                let len = length-field g in
                let moved : drop at (field_bytes g ++ (spelled fs ++ more)) ≡ drop (at - field_len g) (spelled fs ++ more) =
                ap (λ (k : ℕ). drop k (field_bytes g ++ (spelled fs ++ more))) split
                ∙ sym (drop-drop (at - field_len g) (field_len g) (field_bytes g ++ (spelled fs ++ more)))
                ∙ ap (drop (at - field_len g)) (drop_at (field_bytes g) (spelled fs ++ more) (field_len g) len) in
                (ih.0, ap (drop at) assoc ∙ moved ∙ ih.1)
            | inr short ↦ let e2 : None ≡ Some f = rw short at e1 in absurd cc
          ]
    ]

-- a number of two bytes at its place
pub two_in : (fs : List Field) (more : List ℕ) (at n : ℕ) → n < 2 ^ 16 → field_at at fs ≡ Some (Two n) → number_at 2 at (spelled fs ++ more) ≡ n
unfolding number_at
two_in fs more at n lt e = let s = stands fs more at (Two n) e in ap (big_number 2) s.1 ∙ big_number-reads_back 2 n s.0 lt

-- a number of four bytes at its place
pub four_in : (fs : List Field) (more : List ℕ) (at n : ℕ) → n < 2 ^ 32 → field_at at fs ≡ Some (Four n) → number_at 4 at (spelled fs ++ more) ≡ n
unfolding number_at
four_in fs more at n lt e = let s = stands fs more at (Four n) e in ap (big_number 4) s.1 ∙ big_number-reads_back 4 n s.0 lt

-- a byte at its place
pub byte_in : (fs : List Field) (more : List ℕ) (at n : ℕ) → n < 2 ^ 8 → field_at at fs ≡ Some (Byte n) → number_at 1 at (spelled fs ++ more) ≡ n
unfolding number_at
byte_in fs more at n lt e = let s = stands fs more at (Byte n) e in ap (big_number 1) s.1 ∙ big_number-reads_back 1 n s.0 lt
