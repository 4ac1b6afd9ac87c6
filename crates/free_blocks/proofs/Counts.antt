-- How many blocks are free after one more or one fewer is.
use Rattle.std.proofs.Common.{◌≡◌, inl, inr, ℕ, suc, ◌+◌, ◌<◌, List, [], ◌∷◌, Bool, true, false, cond, length, get_or, refl, ap, sym, ◌∙◌, arith, set}
use Rattle.std.proofs.lemmas.List.Sums.{sum_by-set, sum_by-cons, get_or-le-sum_by}
use Rattle.std.proofs.lemmas.Bool.{false≢true, cases_lt}
use Rattle.std.proofs.lemmas.List.{get_or_past}
use Rattle.free_blocks.specs.Free.{free_count, IsFree}

-- what one test adds to the count
abbrev one_of : Bool → ℕ
one_of x = cond x 1 0

-- where no test holds the count is 0
pub none_free : (flags : List Bool) → ((k : ℕ) → k < length flags → get_or flags k false ≡ false) → free_count flags ≡ 0
none_free [] none = refl
none_free (x ∷ xs) none =
    let rest = none_free xs (λ k lt. none (suc k) (omega (arith, lt))) in
    let head : x ≡ false = none 0 (omega arith) in
    let e = sum_by-cons one_of x xs in
    let z : one_of x ≡ 0 = ap one_of head in
    omega (arith, e, z, rest)

-- a block that was not free is free now
pub one_more : (flags : List Bool) (b : ℕ) → b < length flags → get_or flags b false ≡ false → free_count (set flags b true) ≡ free_count flags + 1
one_more flags b lt was =
    let e = sum_by-set one_of flags b true false lt in
    let z : one_of (get_or flags b false) ≡ 0 = ap one_of was in
    omega (arith, e, z)

-- a block that was free is not free now
pub one_less : (flags : List Bool) (b : ℕ) → b < length flags → get_or flags b false ≡ true → free_count (set flags b false) + 1 ≡ free_count flags
one_less flags b lt was =
    let e = sum_by-set one_of flags b false false lt in
    let z : one_of (get_or flags b false) ≡ 1 = ap one_of was in
    omega (arith, e, z)

-- a test that does not hold
pub not_free : (flags : List Bool) (k : ℕ) → get_or flags k false ≡ false → IsFree flags k → ⊥
not_free flags k closed opened = false≢true (sym closed ∙ opened)

-- where a block is free the count is not 0
pub some_count : (flags : List Bool) (b : ℕ) → IsFree flags b → 0 < free_count flags
some_count flags b is = elim (cases_lt b (length flags)) [
  | inl lt ↦
      let e = get_or-le-sum_by one_of flags b false lt in
      let one : one_of (get_or flags b false) ≡ 1 = ap one_of is in
      omega (arith, e, one)
  | inr past ↦ absurd (not_free flags b (get_or_past flags b false past) is)
]
