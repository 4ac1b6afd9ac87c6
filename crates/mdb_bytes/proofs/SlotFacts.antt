-- Slots at the end of bytes, and bytes of which nothing is left.
use Rattle.std.proofs.Common.{◌≡◌, sym, ap, ◌∙◌, ℕ, ◌+◌, ◌-◌, ◌<◌, ◌≤◌, ◌^◌, ◌↔◌, Bool, true, false, List, [], ◌∷◌, ◌++◌, length, take, drop, eqb, arith, length-append}
use Rattle.std.specs.Prelude.{IsTrue}
use Rattle.std.proofs.lemmas.Bool.{eqb-true, eq-eqb}
use Rattle.std.proofs.lemmas.List.{drop_at, take_all, take-append-drop, length-drop, nil_from_length}
use Rattle.byteorder.specs.Endian.{big_bytes, big_number}
use Rattle.byteorder.specs.Numbers.{big_number-reads_back}
use Rattle.mdb_bytes.specs.Fields.{Two, spelled, number_at}
use Rattle.mdb_bytes.proofs.NumberBytes.{AreBytes, bytes-drop, number-spells}

-- the bytes of a slot
abbrev slot_of : ℕ → List ℕ
slot_of place = spelled (Two place ∷ [])

-- a slot has two bytes
pub slot_longer : (slots others : List ℕ) (place : ℕ) → slots ≡ others ++ slot_of place → length slots ≡ length others + 2
unfolding spelled
slot_longer slots others place e = ap length e ∙ length-append others (big_bytes 2 place)

-- the last slot tells its place
pub slot_tells : (slots others : List ℕ) (place : ℕ) → place < 2 ^ 16 → slots ≡ others ++ slot_of place → number_at 2 0 (drop (length slots - 2) slots) ≡ place
unfolding spelled number_at
slot_tells slots others place lt e =
    let longer = slot_longer slots others place e in
    let len : length others ≡ length slots - 2 = omega arith in
    let last : drop (length slots - 2) slots ≡ big_bytes 2 place ++ [] = ap (drop (length slots - 2)) e ∙ drop_at others (big_bytes 2 place ++ []) (length slots - 2) len in
    ap (big_number 2) last ∙ big_number-reads_back 2 place [] lt

-- the last two bytes are the slot of the place that they tell
pub slot_there : (slots : List ℕ) (place : ℕ) → AreBytes slots → 2 ≤ length slots → number_at 2 0 (drop (length slots - 2) slots) ≡ place
    → slots ≡ take (length slots - 2) slots ++ slot_of place
unfolding spelled number_at
slot_there slots place all le is =
    let last = drop (length slots - 2) slots in
    let len : length last ≡ 2 = omega (arith, length-drop (length slots - 2) slots) in
    let spells : big_bytes 2 (big_number 2 last) ≡ last = number-spells 2 last (bytes-drop (length slots - 2) slots all) (omega arith) ∙ take_all 2 last (omega arith) in
    sym (take-append-drop (length slots - 2) slots) ∙ ap (λ t. take (length slots - 2) slots ++ t) (sym spells ∙ ap (big_bytes 2) is)

-- two tests for an end
pub both_empty : (a b : Bool) (xs ys : List ℕ) → a ≡ eqb (length xs) 0 → a ≡ true → b ≡ eqb (length ys) 0 → IsTrue b ↔ ((xs ≡ []) × (ys ≡ []))
both_empty a b xs ys first is second = (
  λ t. (nil_from_length xs (eqb-true (length xs) 0 (sym first ∙ is)), nil_from_length ys (eqb-true (length ys) 0 (sym second ∙ t))),
  λ none. let len : length ys ≡ 0 = ap length none.1 in second ∙ eq-eqb (length ys) 0 len,
)

-- a first test that fails
pub some_left : (a : Bool) (xs ys : List ℕ) → a ≡ eqb (length xs) 0 → a ≡ false → IsTrue a ↔ ((xs ≡ []) × (ys ≡ []))
some_left a xs ys first is =
    (λ t. (let both : true ≡ false = sym t ∙ is in absurd cc), λ none. let len : length xs ≡ 0 = ap length none.0 in first ∙ eq-eqb (length xs) 0 len)
