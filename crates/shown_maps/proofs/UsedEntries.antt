-- The entries of a list that have a block.
--     used_from      those, with their numbers from k on
--     used_map      two functions that agree on them
--     used_all      what holds of each of them
--     taken_all      what holds of each of the first entries
use Rattle.std.proofs.Common.{◌≡◌, ◌≢◌, refl, sym, ap, subst, ◌∙◌, ℕ, zero, suc, ◌+◌, ◌<◌, ◌==◌, Bool, true, false, cond, List, [], ◌∷◌, length, map, filter, take, arith}
use Rattle.std.specs.Prelude.{not, if◌then◌else◌}
use Rattle.std.specs.List.{enumerate_from, AllByRecursion}
use Rattle.std.proofs.lemmas.Bool.{eqb-true, ne_eqb, cases_eq}
use Rattle.mdb_bytes.specs.declared.converter_pages.ConverterEntry.{ConverterEntry}
use Rattle.mdb_bytes.specs.KeptMaps.{Placed}
use Rattle.converter.specs.Maps.{entry_at, block_of}

-- those, with their numbers from k on
abbrev pub used_from : ℕ → List ConverterEntry → List Placed
used_from k xs = filter (λ e. not (e.1.block == 0)) (enumerate_from k xs)

-- a number that is tested against 0
pub some_or_none : (n : ℕ) → (P : Bool → Type 0) → ((n == 0) ≡ true → P true) → (0 < n → (n == 0) ≡ false → P false) → P (n == 0)
some_or_none n P none some = elim (n == 0) as (λ b. (n == 0) ≡ b → P b) [
  | true ↦ λ e. none e
  | false ↦ λ e. some (omega (arith, not_zero e)) e
] refl
  where
    not_zero : (n == 0) ≡ false → n ≢ 0
    not_zero e z = (let t : (0 == 0) ≡ false = subst (λ k. (k == 0) ≡ false) z e in absurd cc)

-- two functions that agree on them
pub used_map : {B : Type 0} (f g : Placed → B) (k : ℕ) (xs : List ConverterEntry)
    → ((i : ℕ) → i < length xs → 0 < block_of xs i → f (k + i, entry_at xs i) ≡ g (k + i, entry_at xs i)) → map f (used_from k xs) ≡ map g (used_from k xs)
used_map f g k [] same = refl
used_map f g k (x ∷ xs) same =
    let rest : map f (used_from (k + 1) xs) ≡ map g (used_from (k + 1) xs) =
    used_map f g (k + 1) xs (λ i lt some. subst (λ (n : ℕ). f (n, entry_at xs i) ≡ g (n, entry_at xs i)) (omega arith) (same (suc i) (omega (arith, lt)) some)) in
    some_or_none x.block (λ b. map f (cond (not b) ((k, x) ∷ used_from (k + 1) xs) (used_from (k + 1) xs)) ≡ map g (cond (not b) ((k, x) ∷ used_from (k + 1) xs) (used_from (k + 1) xs)))
    (λ e. rest)
    (λ some e. (let first : f (k, x) ≡ g (k, x) = subst (λ (n : ℕ). f (n, x) ≡ g (n, x)) (omega arith) (same 0 (omega arith) some) in λ i. first i ∷ rest i))

-- what holds of each of them
pub used_all : (P : Placed → Type 0) (k : ℕ) (xs : List ConverterEntry) → ((i : ℕ) → i < length xs → 0 < block_of xs i → P (k + i, entry_at xs i)) → AllByRecursion P (used_from k xs)
used_all P k [] each = tt
used_all P k (x ∷ xs) each =
    let rest : AllByRecursion P (used_from (k + 1) xs) =
    used_all P (k + 1) xs (λ i lt some. subst (λ (n : ℕ). P (n, entry_at xs i)) (omega arith) (each (suc i) (omega (arith, lt)) some)) in
    some_or_none x.block (λ b. AllByRecursion P (cond (not b) ((k, x) ∷ used_from (k + 1) xs) (used_from (k + 1) xs)))
    (λ e. rest)
    (λ some e. (subst (λ (n : ℕ). P (n, x)) (omega arith) (each 0 (omega arith) some), rest))

-- what holds of each of the first entries
pub taken_all : (P : ℕ → Type 0) (n : ℕ) (xs : List ConverterEntry) → ((i : ℕ) → i < n → i < length xs → P (block_of xs i)) → AllByRecursion P (map (λ e. e.block) (take n xs))
taken_all P zero xs each = none xs
  where
    none : (xs : List ConverterEntry) → AllByRecursion P (map (λ e. e.block) (take 0 xs))
    none [] = tt
    none (x ∷ xs) = tt
taken_all P (suc n) [] each = tt
taken_all P (suc n) (x ∷ xs) each = (each 0 (omega arith) (omega arith), taken_all P n xs (λ i lt less. each (suc i) (omega (arith, lt)) (omega (arith, less))))
