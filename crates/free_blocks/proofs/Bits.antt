-- The marks of a block as the bits of a number.
use Rattle.std.proofs.Common.{◌≡◌, ◌≢◌, ◌↔◌, inl, inr, ℕ, ◌*◌, ◌/◌, ◌%◌, ◌^◌, ◌<◌, List, [], Bool, true, false, not, eqb, nat_eq, length, get_or, set, replicate, ap, sym, ◌∙◌, arith, bit_and, bit_or, IsTrue}
use Rattle.std.specs.Int.{bit_at, bit_not, w16, trailing_zeros}
use Rattle.std.proofs.lemmas.Bool.{cases_eq, cases_lt, eq-eqb, ne_eqb, false≢true}
use Rattle.std.proofs.lemmas.List.{ext_get_or, get_or-map, map-set, length-map, length-replicate, get_or-replicate, get_or-set_same, get_or-set_other, length-set, get_or_past}
use Rattle.std.proofs.lemmas.List.FromFn.{get_or-map-range_with_len, length-map-range_with_len}
use Rattle.std.proofs.lemmas.Nat.Bits.{shr_and_one, bit_at-zero, bit_at_set_same, bit_at_set_other, bit_at_clear_same, bit_at_clear_other, bit_at-trailing_zeros}
use Rattle.free_blocks.specs.Marked.{HasMark, IsMarked, with_mark, tests_of, marks_of}

-- sixteen tests
length_tests : (n : ℕ) → length (tests_of n) ≡ 16
unfolding tests_of
length_tests n = length-map-range_with_len (λ (i : ℕ). eqb (bit_at n i) 1) 0 16

-- one test
test_at : (n i : ℕ) → i < 16 → get_or (tests_of n) i false ≡ eqb (bit_at n i) 1
unfolding tests_of
test_at n i lt = get_or-map-range_with_len (λ (k : ℕ). eqb (bit_at n k) 1) 0 16 i i false lt (omega arith)

-- 0 has no bit set
tests_none : tests_of 0 ≡ replicate 16 false
tests_none = ext_get_or false _ _ (length_tests 0 ∙ sym (length-replicate 16 false)) (λ i lt.
    let small : i < 16 = omega (arith, length_tests 0, lt) in
    test_at 0 i small ∙ ap (λ (x : ℕ). eqb x 1) (bit_at-zero i) ∙ sym (get_or-replicate 16 i false false small))

-- no number has a bit set
pub marks_none : (n : ℕ) → marks_of (replicate n 0) ≡ replicate n (replicate 16 false)
marks_none n = ext_get_or [] _ _ (length-map (replicate n 0) tests_of ∙ long ∙ sym (length-replicate n (replicate 16 false))) (λ i lt.
    let e : length (marks_of (replicate n 0)) ≡ n = length-map (replicate n 0) tests_of ∙ long in
    let small : i < n = omega (arith, e, lt) in
    get_or-map tests_of (replicate n 0) i 0 [] (omega (arith, long, small)) ∙ ap tests_of (get_or-replicate n i 0 0 small) ∙ tests_none
    ∙ sym (get_or-replicate n i (replicate 16 false) [] small))
  where
    long : length {A = ℕ} (replicate n 0) ≡ n
    long = length-replicate {A = ℕ} n 0

-- a block of the list has a number
pub has_number : (bits : List ℕ) (b : ℕ) (marks : List (List Bool)) → marks_of bits ≡ marks → b < length marks → b < length bits
has_number bits b marks is lt = let e : length (marks_of bits) ≡ length marks = ap length is in let l = length-map bits tests_of in omega (arith, e, l, lt)

-- the tests of one block
tests_are : (bits : List ℕ) (b w : ℕ) (marks : List (List Bool)) → marks_of bits ≡ marks → b < length bits → w ≡ get_or bits b w → get_or marks b [] ≡ tests_of w
tests_are bits b w marks is lt read = sym (ap (λ (l : List (List Bool)). get_or l b []) is) ∙ get_or-map tests_of bits b w [] lt ∙ ap tests_of (sym read)

-- a number with one other bit
changed : (n m i : ℕ) (on : Bool) → i < 16 → eqb (bit_at m i) 1 ≡ on → ((k : ℕ) → k < 16 → k ≢ i → bit_at m k ≡ bit_at n k) → tests_of m ≡ set (tests_of n) i on
changed n m i on lt here others = ext_get_or false _ _ (length_tests m ∙ sym (length-set (tests_of n) i on ∙ length_tests n)) (λ k within.
    let small : k < 16 = omega (arith, length_tests m, within) in
    test_at m k small ∙ elim (cases_eq k i) [
      | inl is ↦ ap (λ (j : ℕ). eqb (bit_at m j) 1) is ∙ here ∙ sym (ap (λ (j : ℕ). get_or (set (tests_of n) i on) j false) is ∙ get_or-set_same (tests_of n) i on false (omega (arith, length_tests n, lt)))
      | inr ne ↦ ap (λ (x : ℕ). eqb x 1) (others k small ne) ∙ sym (test_at n k small) ∙ sym (get_or-set_other (tests_of n) i k on false ne)
    ])

-- one number changed
stored : (bits : List ℕ) (b w m i : ℕ) (on : Bool) (marks : List (List Bool)) → marks_of bits ≡ marks → b < length bits → w ≡ get_or bits b w → tests_of m ≡ set (tests_of w) i on
    → marks_of (set bits b m) ≡ with_mark marks b i on
stored bits b w m i on marks is lt read new =
    map-set tests_of bits b m ∙ ap (λ (l : List (List Bool)). set l b (tests_of m)) is ∙ ap (λ (l : List Bool). set marks b l) (new ∙ ap (λ (l : List Bool). set l i on) (sym (tests_are bits b w marks is lt read)))

-- a mark is set
pub mark_set : (bits : List ℕ) (b w i : ℕ) (marks : List (List Bool)) → marks_of bits ≡ marks → b < length marks → i < 16 → w ≡ get_or bits b w
    → marks_of (set bits b (bit_or w (1 * 2 ^ i % 2 ^ 16))) ≡ with_mark marks b i true
mark_set bits b w i marks is lt kind read = stored bits b w (bit_or w (1 * 2 ^ i % 2 ^ 16)) i true marks is (has_number bits b marks is lt) read
    (changed w (bit_or w (1 * 2 ^ i % 2 ^ 16)) i true kind (eq-eqb _ _ (bit_at_set_same w16 w i kind)) (λ k small ne. bit_at_set_other w16 w i kind k ne))

-- a mark is taken away
pub mark_cleared : (bits : List ℕ) (b w i : ℕ) (marks : List (List Bool)) → marks_of bits ≡ marks → b < length marks → i < 16 → w ≡ get_or bits b w
    → marks_of (set bits b (bit_and w (bit_not w16 (1 * 2 ^ i % 2 ^ 16)))) ≡ with_mark marks b i false
mark_cleared bits b w i marks is lt kind read = stored bits b w (bit_and w (bit_not w16 (1 * 2 ^ i % 2 ^ 16))) i false marks is (has_number bits b marks is lt) read
    (changed w (bit_and w (bit_not w16 (1 * 2 ^ i % 2 ^ 16))) i false kind (ap (λ (x : ℕ). eqb x 1) (bit_at_clear_same w16 w i kind)) (λ k small ne. bit_at_clear_other w16 w i kind k small ne))

-- `(w >> i) & 1 == 1` is the mark
pub mark_shown : (bits : List ℕ) (b w i : ℕ) (marks : List (List Bool)) → marks_of bits ≡ marks → b < length marks → i < 16 → w ≡ get_or bits b w
    → IsTrue (nat_eq (bit_and (w / 2 ^ i) 1) 1) ↔ HasMark marks b i
mark_shown bits b w i marks is lt kind read =
    let e : nat_eq (bit_and (w / 2 ^ i) 1) 1 ≡ get_or (get_or marks b []) i false =
    ap (λ (x : ℕ). eqb x 1) (shr_and_one w i) ∙ sym (test_at w i kind) ∙ sym (ap (λ (l : List Bool). get_or l i false) (tests_are bits b w marks is (has_number bits b marks is lt) read)) in
    ((λ is. sym e ∙ is), (λ is. e ∙ is))

-- a number that is not 0 has a bit set
some_bit : (w : ℕ) → w < 2 ^ 16 → w ≢ 0 → (i : ℕ) × (get_or (tests_of w) i false ≡ true)
some_bit w small some =
    let low = bit_at-trailing_zeros w16 w (omega (arith, some)) small in
    (trailing_zeros w16 w, test_at w (trailing_zeros w16 w) low.0 ∙ eq-eqb _ _ low.1)

-- 0 has none
zero_bit : (i : ℕ) → get_or (tests_of 0) i false ≡ true → ⊥
zero_bit i is = elim (cases_lt i 16) [
  | inl lt ↦ false≢true (sym (test_at 0 i lt ∙ ap (λ (x : ℕ). eqb x 1) (bit_at-zero i)) ∙ is)
  | inr ge ↦ false≢true (sym (get_or_past (tests_of 0) i false (omega (arith, length_tests 0, ge))) ∙ is)
]

-- a block has a mark exactly where its number is not 0
pub any_mark : (bits : List ℕ) (b w : ℕ) (marks : List (List Bool)) → marks_of bits ≡ marks → b < length marks → w ≡ get_or bits b w → w < 2 ^ 16
    → IsTrue (not (nat_eq w 0)) ↔ IsMarked marks b
any_mark bits b w marks is lt read small =
    let tests : get_or marks b [] ≡ tests_of w = tests_are bits b w marks is (has_number bits b marks is lt) read in (
      (λ some. let bit = some_bit w small (λ zero. false≢true (sym (ap not (eq-eqb w 0 zero)) ∙ some)) in (bit.0, ap (λ (l : List Bool). get_or l bit.0 false) tests ∙ bit.1)),
      (λ any. ap not (ne_eqb w 0 (λ zero. zero_bit any.0 (sym (ap (λ (l : List Bool). get_or l any.0 false) (tests ∙ ap tests_of zero)) ∙ any.1)))),
    )
