-- The blocks as the bits of words.
use Rattle.std.proofs.Common.{◌≡◌, ◌≢◌, inl, inr, ℕ, ◌+◌, ◌*◌, ◌/◌, ◌%◌, ◌^◌, ◌<◌, ◌≤◌, List, Bool, true, false, eqb, length, get_or, set, replicate, ap, sym, subst, ◌∙◌, arith, bit_and, bit_or}
use Rattle.std.specs.Int.{bit_at, bit_not, w64, trailing_zeros}
use Rattle.std.proofs.lemmas.Bool.{cases_eq, cases_lt, eq-eqb, ne_eqb}
use Rattle.std.proofs.lemmas.List.{ext_get_or, length-replicate, get_or-replicate, get_or-set_same, get_or-set_other, length-set, get_or_past}
use Rattle.std.proofs.lemmas.List.FromFn.{get_or-map-range_with_len, length-map-range_with_len}
use Rattle.std.proofs.lemmas.Nat.Bits.{bit_at-zero, bit_at_set_same, bit_at_set_other, bit_at_clear_same, bit_at_clear_other, bit_at-trailing_zeros}
use Rattle.free_blocks.specs.Free.{has_bit, flags_of, IsFirstBit}

-- as many tests as blocks
pub length_flags : (words : List ℕ) (n : ℕ) → length (flags_of words n) ≡ n
unfolding flags_of
length_flags words n = length-map-range_with_len (has_bit words) 0 n

-- one test
pub flag_at : (words : List ℕ) (n b : ℕ) → b < n → get_or (flags_of words n) b false ≡ has_bit words b
unfolding flags_of
flag_at words n b lt = get_or-map-range_with_len (has_bit words) 0 n b b false lt (omega arith)

-- a bit of a word that is 0
pub bit_of_zero : (words : List ℕ) (b : ℕ) → get_or words (b / 64) 0 ≡ 0 → has_bit words b ≡ false
unfolding has_bit
bit_of_zero words b zero = ne_eqb _ _ (λ is. let e = ap (λ (w : ℕ). bit_at w (b % 64)) zero ∙ bit_at-zero (b % 64) in omega (arith, e, is))

-- no bit past the last word
pub bit_past : (words : List ℕ) (b : ℕ) → length words ≤ b / 64 → has_bit words b ≡ false
bit_past words b past = bit_of_zero words b (get_or_past words (b / 64) 0 past)

-- the bit of a word
bit_is : (words : List ℕ) (b : ℕ) (t : ℕ) → bit_at (get_or words (b / 64) 0) (b % 64) ≡ t → has_bit words b ≡ eqb t 1
unfolding has_bit
bit_is words b t is = ap (λ (x : ℕ). eqb x 1) is

-- no bit of words that are all 0
pub none_of : (words b : ℕ) → has_bit (replicate words 0) b ≡ false
none_of words b = bit_of_zero (replicate words 0) b (elim (cases_lt (b / 64) words) [
  | inl lt ↦ get_or-replicate {A = ℕ} words (b / 64) 0 0 lt
  | inr ge ↦ get_or_past {X = ℕ} (replicate words 0) (b / 64) 0 (let long : length {A = ℕ} (replicate words 0) ≡ words = length-replicate {A = ℕ} words 0 in omega (arith, long, ge))
])

-- no block is free where every word is 0
pub flags_none : (words n : ℕ) → flags_of (replicate words 0) n ≡ replicate n false
flags_none words n = ext_get_or false _ _ (length_flags _ n ∙ sym (length-replicate n false)) (λ i lt.
    let small : i < n = omega (arith, length_flags (replicate words 0) n, lt) in
    flag_at (replicate words 0) n i small ∙ none_of words i ∙ sym (get_or-replicate n i false false small))

-- two numbers with the same quotient and rest
same_place : (a b : ℕ) → a / 64 ≡ b / 64 → a % 64 ≡ b % 64 → a ≡ b
same_place a b quotient rest = omega (arith, quotient, rest)

-- one word changed: its other bits and all other words are as before, so all other bits are
changed : (words : List ℕ) (b c w : ℕ) → ((i : ℕ) → i < 64 → i ≢ b % 64 → bit_at w i ≡ bit_at (get_or words (b / 64) 0) i) → b / 64 < length words → c ≢ b
    → has_bit (set words (b / 64) w) c ≡ has_bit words c
unfolding has_bit
changed words b c w others there ne = elim (cases_eq (c / 64) (b / 64)) [
  | inl same ↦
      let at : get_or (set words (b / 64) w) (c / 64) 0 ≡ w = subst (λ (k : ℕ). get_or (set words (b / 64) w) k 0 ≡ w) (sym same) (get_or-set_same words (b / 64) w 0 there) in
      ap (λ (x : ℕ). eqb (bit_at x (c % 64)) 1) at
      ∙ ap (λ (x : ℕ). eqb x 1) (others (c % 64) (omega arith) (λ rest. ne (same_place c b same rest)))
      ∙ ap (λ (k : ℕ). eqb (bit_at (get_or words k 0) (c % 64)) 1) (sym same)
  | inr other ↦ ap (λ (x : ℕ). eqb (bit_at x (c % 64)) 1) (get_or-set_other words (b / 64) (c / 64) w 0 other)
]

-- the bit that changed
changed_here : (words : List ℕ) (b w t : ℕ) → b / 64 < length words → bit_at w (b % 64) ≡ t → has_bit (set words (b / 64) w) b ≡ eqb t 1
changed_here words b w t there is = bit_is (set words (b / 64) w) b t (ap (λ (x : ℕ). bit_at x (b % 64)) (get_or-set_same words (b / 64) w 0 there) ∙ is)

-- the tests where one bit changed
changed_flags : (words : List ℕ) (n b w : ℕ) (t : Bool) → b < n → has_bit (set words (b / 64) w) b ≡ t → ((c : ℕ) → c ≢ b → has_bit (set words (b / 64) w) c ≡ has_bit words c)
    → flags_of (set words (b / 64) w) n ≡ set (flags_of words n) b t
changed_flags words n b w t lt here others = ext_get_or false _ _ (length_flags _ n ∙ sym (length-set (flags_of words n) b t ∙ length_flags words n)) (λ i within.
    let small : i < n = omega (arith, length_flags (set words (b / 64) w) n, within) in
    flag_at (set words (b / 64) w) n i small ∙ elim (cases_eq i b) [
      | inl is ↦ subst (λ (k : ℕ). has_bit (set words (b / 64) w) k ≡ get_or (set (flags_of words n) b t) k false) (sym is) (here ∙ sym (get_or-set_same (flags_of words n) b t false (omega (arith, length_flags words n, lt))))
      | inr ne ↦ others i ne ∙ sym (flag_at words n i small) ∙ sym (get_or-set_other (flags_of words n) b i t false ne)
    ])

-- the word of block b, where it is set or cleared
abbrev pub set_word : List ℕ → ℕ → ℕ
set_word words b = bit_or (get_or words (b / 64) 0) (1 * 2 ^ (b % 64) % 2 ^ 64)

-- the same, with the bit cleared
abbrev pub clear_word : List ℕ → ℕ → ℕ
clear_word words b = bit_and (get_or words (b / 64) 0) (bit_not w64 (1 * 2 ^ (b % 64) % 2 ^ 64))

-- every other bit stays where one is set
pub set_other : (words : List ℕ) (b c : ℕ) → b / 64 < length words → c ≢ b → has_bit (set words (b / 64) (set_word words b)) c ≡ has_bit words c
set_other words b c there ne = changed words b c (set_word words b) (λ i lt other. bit_at_set_other w64 (get_or words (b / 64) 0) (b % 64) (omega arith) i other) there ne

-- every other bit stays where one is cleared
pub clear_other : (words : List ℕ) (b c : ℕ) → b / 64 < length words → c ≢ b → has_bit (set words (b / 64) (clear_word words b)) c ≡ has_bit words c
clear_other words b c there ne = changed words b c (clear_word words b) (λ i lt other. bit_at_clear_other w64 (get_or words (b / 64) 0) (b % 64) (omega arith) i lt other) there ne

-- the tests where one is set
pub set_flags : (words : List ℕ) (n b : ℕ) → b < n → b / 64 < length words → flags_of (set words (b / 64) (set_word words b)) n ≡ set (flags_of words n) b true
set_flags words n b lt there = changed_flags words n b (set_word words b) true lt
    (changed_here words b (set_word words b) 1 there (bit_at_set_same w64 (get_or words (b / 64) 0) (b % 64) (omega arith)))
    (λ c ne. set_other words b c there ne)

-- the tests where one is cleared
pub clear_flags : (words : List ℕ) (n b : ℕ) → b < n → b / 64 < length words → flags_of (set words (b / 64) (clear_word words b)) n ≡ set (flags_of words n) b false
clear_flags words n b lt there = changed_flags words n b (clear_word words b) false lt
    (changed_here words b (clear_word words b) 0 there (bit_at_clear_same w64 (get_or words (b / 64) 0) (b % 64) (omega arith)))
    (λ c ne. clear_other words b c there ne)

-- the lowest set bit of the first word that is not 0
pub first_bit : (words : List ℕ) (i : ℕ) → i < length words → 0 < get_or words i 0 → get_or words i 0 < 2 ^ 64 → ((k : ℕ) → k < i → get_or words k 0 ≡ 0)
    → IsFirstBit words (64 * i + trailing_zeros w64 (get_or words i 0))
unfolding has_bit
first_bit words i there some small zeros = record {
  there = omega (arith, at, there);
  zeros = λ k lt. zeros k (omega (arith, at, lt));
  set = eq-eqb _ _ (ap (λ (k : ℕ). bit_at (get_or words k 0) (b % 64)) at ∙ ap (λ (k : ℕ). bit_at (get_or words i 0) k) rest ∙ lowest.1);
  none = λ k lt. elim (cases_lt (k / 64) i) [
    | inl less ↦ bit_of_zero words k (zeros (k / 64) less)
    | inr more ↦
        let same : k / 64 ≡ i = omega (arith, lt, more, lowest.0) in
        let early : k % 64 < trailing_zeros w64 (get_or words i 0) = omega (arith, lt, same) in
        ne_eqb _ _ (λ is.
        let e : bit_at (get_or words (k / 64) 0) (k % 64) ≡ 0 = ap (λ (j : ℕ). bit_at (get_or words j 0) (k % 64)) same ∙ lowest.2 (k % 64) early in
        omega (arith, e, is))
  ];
}
  where
    lowest : (trailing_zeros w64 (get_or words i 0) < 64) × (bit_at (get_or words i 0) (trailing_zeros w64 (get_or words i 0)) ≡ 1) × ((k : ℕ) → k < trailing_zeros w64 (get_or words i 0) → bit_at (get_or words i 0) k ≡ 0)
    lowest = bit_at-trailing_zeros w64 (get_or words i 0) some small

    b : ℕ
    b = 64 * i + trailing_zeros w64 (get_or words i 0)

    at : b / 64 ≡ i
    at = omega (arith, lowest.0)

    rest : b % 64 ≡ trailing_zeros w64 (get_or words i 0)
    rest = omega (arith, lowest.0)

-- no bit is set where every word is 0
pub no_bit : (words : List ℕ) → ((k : ℕ) → k < length words → get_or words k 0 ≡ 0) → (b : ℕ) → has_bit words b ≡ false
no_bit words zeros b = bit_of_zero words b (elim (cases_lt (b / 64) (length words)) [
  | inl lt ↦ zeros (b / 64) lt
  | inr ge ↦ get_or_past words (b / 64) 0 ge
])
