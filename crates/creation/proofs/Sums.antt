-- Sums of the first items of a list.
--     item_less, part_less      an item, and the first ones, are no more than all
--     sum_more, sum_all      one item more; all of them
use Rattle.std.proofs.Common.{◌≡◌, refl, ap, ◌∙◌, ℕ, zero, suc, ◌+◌, ◌<◌, ◌≤◌, List, [], ◌∷◌, length, get_or, sum, take, arith}
use Rattle.std.proofs.lemmas.List.Sums.{sum_by-cons}

-- no item of a list is more than all of them
pub item_less : (xs : List ℕ) (i : ℕ) → get_or xs i 0 ≤ sum xs
item_less [] i = omega arith
item_less (x ∷ xs) zero = let here : get_or (x ∷ xs) 0 0 ≡ x = refl in omega (arith, here, sum_by-cons (λ (n : ℕ). n) x xs)
item_less (x ∷ xs) (suc i) = let there : get_or (x ∷ xs) (suc i) 0 ≡ get_or xs i 0 = refl in omega (arith, there, sum_by-cons (λ (n : ℕ). n) x xs, item_less xs i)

-- nor are the first ones
pub part_less : (n : ℕ) (xs : List ℕ) → sum (take n xs) ≤ sum xs
part_less zero xs = omega arith
part_less (suc n) [] = omega arith
part_less (suc n) (x ∷ xs) = omega (arith, part_less n xs, sum_by-cons (λ (m : ℕ). m) x xs, sum_by-cons (λ (m : ℕ). m) x (take n xs), ap sum (taken n x xs))
  where
    taken : (n x : ℕ) (xs : List ℕ) → take (suc n) (x ∷ xs) ≡ x ∷ take n xs
    taken n x xs = refl

-- one item more
sum_next : (n : ℕ) (xs : List ℕ) → n < length xs → sum (take (suc n) xs) ≡ sum (take n xs) + get_or xs n 0
sum_next n [] small = absurd (omega (arith, small))
sum_next zero (x ∷ xs) small = let here : get_or (x ∷ xs) 0 0 ≡ x = refl in let none : sum (take 0 xs) ≡ 0 = refl in omega (arith, sum_by-cons (λ (m : ℕ). m) x (take 0 xs), none, here)
sum_next (suc n) (x ∷ xs) small =
    let there : get_or (x ∷ xs) (suc n) 0 ≡ get_or xs n 0 = refl in
    let more : sum (take (suc (suc n)) (x ∷ xs)) ≡ sum (x ∷ take (suc n) xs) = refl in
    let some : sum (take (suc n) (x ∷ xs)) ≡ sum (x ∷ take n xs) = refl in
    omega (arith, sum_by-cons (λ (m : ℕ). m) x (take (suc n) xs), sum_by-cons (λ (m : ℕ). m) x (take n xs), sum_next n xs (omega (arith, small)), there, more, some)

pub sum_more : (n : ℕ) (xs : List ℕ) → n < length xs → sum (take (n + 1) xs) ≡ sum (take n xs) + get_or xs n 0
sum_more n xs small = let same : n + 1 ≡ suc n = omega arith in ap (λ (m : ℕ). sum (take m xs)) same ∙ sum_next n xs small

-- all of them
pub sum_all : (n : ℕ) (xs : List ℕ) → n ≡ length xs → sum (take n xs) ≡ sum xs
sum_all zero [] is = refl
sum_all (suc n) [] is = absurd (omega (arith, is))
sum_all zero (x ∷ xs) is = absurd (omega (arith, is))
sum_all (suc n) (x ∷ xs) is =
    let some : sum (take (suc n) (x ∷ xs)) ≡ sum (x ∷ take n xs) = refl in
    omega (arith, some, sum_by-cons (λ (m : ℕ). m) x (take n xs), sum_by-cons (λ (m : ℕ). m) x xs, sum_all n xs (omega (arith, is)))
