-- What is kept of the words, where one block is given or taken.
use Rattle.std.proofs.Common.{◌≡◌, ◌↔◌, inl, inr, ℕ, ◌+◌, ◌-◌, ◌*◌, ◌/◌, ◌%◌, ◌^◌, ◌<◌, ◌≤◌, min, List, Bool, true, false, eqb, nat_eq, length, get_or, set, replicate, refl, ap, sym, subst, ◌∙◌, arith, bit_and, bit_or, IsTrue}
use Rattle.std.specs.Int.{bit_at, bit_not, w64, div_ceil}
use Rattle.std.proofs.lemmas.Bool.{cases_lt}
use Rattle.std.proofs.lemmas.List.{get_or_default, get_or-set_other, length-set, length-replicate}
use Rattle.std.proofs.lemmas.List.Sums.{count_by-le-length}
use Rattle.std.proofs.lemmas.Nat.Bits.{shr_and_one}
use Rattle.free_blocks.specs.Free.{IsFree, IsLeastFree, free_count, has_bit, flags_of, IsFirstBit, IsPacked}
use Rattle.free_blocks.proofs.Counts.{one_more, one_less, none_free, not_free}
use Rattle.free_blocks.proofs.Words.{length_flags, flag_at, none_of, set_word, clear_word, set_other, clear_other, set_flags, clear_flags}

-- a test that does not hold
is_false : (x : Bool) → (x ≡ true → ⊥) → x ≡ false
is_false true closed = absurd (closed refl)
is_false false closed = refl

-- a block of the list
pub is_below : (words : List ℕ) (blocks b : ℕ) (flags : List Bool) → flags_of words blocks ≡ flags → b < length flags → b < blocks
is_below words blocks b flags is lt = let e = length_flags words blocks in let f : length (flags_of words blocks) ≡ length flags = ap length is in omega (arith, e, f, lt)

-- a block of the list has a word
pub has_word : (words : List ℕ) (blocks low count b : ℕ) → IsPacked words blocks low count → b < blocks → b / 64 < length words
has_word words blocks low count b packed lt = omega (arith, packed.long, lt)

-- the test of a block
pub test_is : (words : List ℕ) (blocks b : ℕ) (flags : List Bool) → flags_of words blocks ≡ flags → b < blocks → has_bit words b ≡ get_or flags b false
test_is words blocks b flags is lt = sym (flag_at words blocks b lt) ∙ ap (λ (l : List Bool). get_or l b false) is

-- no more blocks are free than there are
pub count_small : (words : List ℕ) (blocks : ℕ) → free_count (flags_of words blocks) ≤ blocks
count_small words blocks = let e = count_by-le-length (λ (free : Bool). free) (flags_of words blocks) in omega (arith, e, length_flags words blocks)

-- the bound on the number of blocks
pub bound_is : (words : List ℕ) (blocks low count : ℕ) (flags : List Bool) → IsPacked words blocks low count → flags_of words blocks ≡ flags → length flags ≤ 65536
bound_is words blocks low count flags packed is =
    let e : length flags ≡ blocks = sym (ap length is) ∙ length_flags words blocks in
    omega (arith, e, packed.small)

-- the count of one block more is still small
pub count_more : (words : List ℕ) (blocks low count b : ℕ) (flags : List Bool) → IsPacked words blocks low count → flags_of words blocks ≡ flags
    → b < length flags → (IsFree flags b → ⊥) → count + 1 ≤ 65536
count_more words blocks low count b flags packed is lt taken =
    let size : length flags ≡ blocks = sym (ap length is) ∙ length_flags words blocks in
    let more = one_more flags b lt (is_false (get_or flags b false) taken) in
    let e : free_count (set flags b true) ≤ length (set flags b true) = count_by-le-length (λ (free : Bool). free) (set flags b true) in
    let l = length-set flags b true in
    let f : count ≡ free_count flags = packed.counted ∙ ap free_count is in
    omega (arith, size, more, e, l, f, packed.small)

-- `(w >> i) & 1 == 1` is the bit
shown : (words : List ℕ) (b w : ℕ) → b / 64 < length words → w ≡ get_or words (b / 64) w → nat_eq (bit_and (w / 2 ^ (b % 64)) 1) 1 ≡ has_bit words b
unfolding has_bit
shown words b w there read =
    ap (λ (x : ℕ). eqb x 1) (shr_and_one w (b % 64)) ∙ ap (λ (x : ℕ). eqb (bit_at x (b % 64)) 1) (read ∙ get_or_default words (b / 64) w 0 there)

-- so it is true exactly where the block is free
pub tested : (words : List ℕ) (blocks b w : ℕ) (flags : List Bool) → flags_of words blocks ≡ flags → b < blocks → b / 64 < length words → w ≡ get_or words (b / 64) w
    → IsTrue (nat_eq (bit_and (w / 2 ^ (b % 64)) 1) 1) ↔ IsFree flags b
tested words blocks b w flags is lt there read =
    let e : nat_eq (bit_and (w / 2 ^ (b % 64)) 1) 1 ≡ get_or flags b false = shown words b w there read ∙ test_is words blocks b flags is lt in
    ((λ is. sym e ∙ is), (λ is. e ∙ is))

-- no block is free at first
pub packed_none : (words : List ℕ) (n blocks : ℕ) → words ≡ replicate n 0 → n ≡ div_ceil blocks 64 → blocks ≤ 65536 → IsPacked words blocks 0 0
packed_none words n blocks is enough small = subst (λ (l : List ℕ). IsPacked l blocks 0 0) (sym is) (record {
  long = let l : length {A = ℕ} (replicate n 0) ≡ n = length-replicate {A = ℕ} n 0 in omega (arith, l, enough);
  small = small;
  few = let l : length {A = ℕ} (replicate n 0) ≡ n = length-replicate {A = ℕ} n 0 in omega (arith, l, enough, small);
  beyond = λ b past. none_of n b;
  below = λ k lt. absurd (omega (arith, lt));
  counted = sym (none_free (flags_of (replicate n 0) blocks) (λ k lt. flag_at (replicate n 0) blocks k (omega (arith, length_flags (replicate n 0) blocks, lt)) ∙ none_of n k));
})

-- the word that is kept where a block is given
given_word : (words : List ℕ) (b w : ℕ) → b / 64 < length words → w ≡ get_or words (b / 64) w → bit_or w (1 * 2 ^ (b % 64) % 2 ^ 64) ≡ set_word words b
given_word words b w there read = ap (λ (x : ℕ). bit_or x (1 * 2 ^ (b % 64) % 2 ^ 64)) (read ∙ get_or_default words (b / 64) w 0 there)

-- the word that is kept where a block is taken
taken_word : (words : List ℕ) (b w : ℕ) → b / 64 < length words → w ≡ get_or words (b / 64) w → bit_and w (bit_not w64 (1 * 2 ^ (b % 64) % 2 ^ 64)) ≡ clear_word words b
taken_word words b w there read = ap (λ (x : ℕ). bit_and x (bit_not w64 (1 * 2 ^ (b % 64) % 2 ^ 64))) (read ∙ get_or_default words (b / 64) w 0 there)

-- the tests where a block is given
pub given_flags : (words : List ℕ) (blocks low count b w : ℕ) (flags : List Bool) → IsPacked words blocks low count → flags_of words blocks ≡ flags
    → b < length flags → w ≡ get_or words (b / 64) w → flags_of (set words (b / 64) (bit_or w (1 * 2 ^ (b % 64) % 2 ^ 64))) blocks ≡ set flags b true
given_flags words blocks low count b w flags packed is lt read =
    let small = is_below words blocks b flags is lt in
    let there = has_word words blocks low count b packed small in
    ap (λ (x : ℕ). flags_of (set words (b / 64) x) blocks) (given_word words b w there read) ∙ set_flags words blocks b small there ∙ ap (λ (l : List Bool). set l b true) is

-- what is kept where a block is given
pub given : (words : List ℕ) (blocks low count b w less : ℕ) (flags : List Bool) → IsPacked words blocks low count → flags_of words blocks ≡ flags
    → b < length flags → (IsFree flags b → ⊥) → w ≡ get_or words (b / 64) w → less ≡ min low (b / 64)
    → IsPacked (set words (b / 64) (bit_or w (1 * 2 ^ (b % 64) % 2 ^ 64))) blocks less (count + 1)
given words blocks low count b w less flags packed is lt taken read least =
    subst (λ (x : ℕ). IsPacked (set words (b / 64) x) blocks less (count + 1)) (sym (given_word words b w there read)) (record {
      long = omega (arith, long, packed.long);
      small = packed.small;
      few = omega (arith, long, packed.few);
      beyond = λ c past. set_other words b c there (omega (arith, past, small)) ∙ packed.beyond c past;
      below = λ k before. get_or-set_other words (b / 64) k (set_word words b) 0 (omega (arith, before, least)) ∙ packed.below k (omega (arith, before, least));
      counted = counted;
    })
  where
    small : b < blocks
    small = is_below words blocks b flags is lt

    there : b / 64 < length words
    there = has_word words blocks low count b packed small

    long : length (set words (b / 64) (set_word words b)) ≡ length words
    long = length-set words (b / 64) (set_word words b)

    counted : count + 1 ≡ free_count (flags_of (set words (b / 64) (set_word words b)) blocks)
    counted =
        let more = one_more flags b lt (is_false (get_or flags b false) taken) in
        let old : count ≡ free_count flags = packed.counted ∙ ap free_count is in
        let new : free_count (flags_of (set words (b / 64) (set_word words b)) blocks) ≡ free_count (set flags b true) = ap free_count (set_flags words blocks b small there ∙ ap (λ (l : List Bool). set l b true) is) in
        omega (arith, more, old, new)

-- a set bit is that of a block
pub first_below : (words : List ℕ) (blocks low count b : ℕ) → IsPacked words blocks low count → IsFirstBit words b → b < blocks
first_below words blocks low count b packed first = elim (cases_lt b blocks) [
  | inl lt ↦ lt
  | inr past ↦ absurd (let e : false ≡ true = sym (packed.beyond b past) ∙ first.set in cc)
]

-- the first bit is that of the least free block
pub least_is : (words : List ℕ) (blocks low count b : ℕ) (flags : List Bool) → IsPacked words blocks low count → flags_of words blocks ≡ flags → IsFirstBit words b → IsLeastFree flags b
least_is words blocks low count b flags packed is first =
    let lt = first_below words blocks low count b packed first in
    (sym (test_is words blocks b flags is lt) ∙ first.set, λ k less. not_free flags k (sym (test_is words blocks k flags is (omega (arith, less, lt))) ∙ first.none k less))

-- the tests where a block is taken
pub taken_flags : (words : List ℕ) (blocks low count b w : ℕ) (flags : List Bool) → IsPacked words blocks low count → flags_of words blocks ≡ flags → IsFirstBit words b
    → w ≡ get_or words (b / 64) w → flags_of (set words (b / 64) (bit_and w (bit_not w64 (1 * 2 ^ (b % 64) % 2 ^ 64)))) blocks ≡ set flags b false
taken_flags words blocks low count b w flags packed is first read =
    ap (λ (x : ℕ). flags_of (set words (b / 64) x) blocks) (taken_word words b w first.there read)
    ∙ clear_flags words blocks b (first_below words blocks low count b packed first) first.there ∙ ap (λ (l : List Bool). set l b false) is

-- a block is free, so the count is not 0
pub some_free : (words : List ℕ) (blocks low count b : ℕ) → IsPacked words blocks low count → IsFirstBit words b
    → free_count (set (flags_of words blocks) b false) + 1 ≡ count
some_free words blocks low count b packed first =
    let lt = first_below words blocks low count b packed first in
    let less = one_less (flags_of words blocks) b (omega (arith, length_flags words blocks, lt)) (flag_at words blocks b lt ∙ first.set) in
    omega (arith, less, packed.counted)

-- what is kept where a block is taken
pub taken : (words : List ℕ) (blocks low count b w : ℕ) → IsPacked words blocks low count → IsFirstBit words b → w ≡ get_or words (b / 64) w
    → IsPacked (set words (b / 64) (bit_and w (bit_not w64 (1 * 2 ^ (b % 64) % 2 ^ 64)))) blocks (b / 64) (count - 1)
taken words blocks low count b w packed first read =
    subst (λ (x : ℕ). IsPacked (set words (b / 64) x) blocks (b / 64) (count - 1)) (sym (taken_word words b w first.there read)) (record {
      long = omega (arith, long, packed.long);
      small = packed.small;
      few = omega (arith, long, packed.few);
      beyond = λ c past. clear_other words b c first.there (omega (arith, past, small)) ∙ packed.beyond c past;
      below = λ k before. get_or-set_other words (b / 64) k (clear_word words b) 0 (omega (arith, before)) ∙ first.zeros k before;
      counted = counted;
    })
  where
    small : b < blocks
    small = first_below words blocks low count b packed first

    long : length (set words (b / 64) (clear_word words b)) ≡ length words
    long = length-set words (b / 64) (clear_word words b)

    counted : count - 1 ≡ free_count (flags_of (set words (b / 64) (clear_word words b)) blocks)
    counted =
        let less = some_free words blocks low count b packed first in
        let new : free_count (flags_of (set words (b / 64) (clear_word words b)) blocks) ≡ free_count (set (flags_of words blocks) b false) = ap free_count (clear_flags words blocks b small first.there) in
        omega (arith, less, new)

-- where no bit is set no block is free
pub none_left : (words : List ℕ) (blocks : ℕ) (flags : List Bool) → flags_of words blocks ≡ flags → ((k : ℕ) → has_bit words k ≡ false) → free_count flags ≡ 0
none_left words blocks flags is none = none_free flags (λ k lt. sym (test_is words blocks k flags is (is_below words blocks k flags is lt)) ∙ none k)
