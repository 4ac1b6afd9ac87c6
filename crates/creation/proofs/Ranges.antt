-- Numbers in a row.
--     range_more      one more
use Rattle.std.proofs.Common.{◌≡◌, ap, ◌∙◌, ℕ, zero, suc, ◌+◌, List, ◌++◌, [], ◌∷◌, arith}
use Rattle.std.specs.List.{range_with_len}

-- one more
pub range_more : (a n : ℕ) → range_with_len a (n + 1) ≡ range_with_len a n ++ (a + n) ∷ []
range_more a n = let same : n + 1 ≡ suc n = omega arith in ap (range_with_len a) same ∙ next a n
  where
    next : (a n : ℕ) → range_with_len a (suc n) ≡ range_with_len a n ++ (a + n) ∷ []
    next a zero = let same : a ≡ a + 0 = omega arith in ap (λ (m : ℕ). m ∷ []) same
    next a (suc n) = ap (λ (xs : List ℕ). a ∷ xs) (next (a + 1) n ∙ ap (λ (m : ℕ). range_with_len (a + 1) n ++ m ∷ []) (moved a n))
      where
        moved : (a n : ℕ) → a + 1 + n ≡ a + suc n
        moved a n = omega arith
