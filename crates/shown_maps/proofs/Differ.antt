-- What it says that no two numbers of a list are the same.
--     used_at      what holds of each entry that has a block holds at its number
--     front_apart, front_front, back_of      of two lists after another
--     used_apart      of the blocks of entries
use Rattle.std.proofs.Common.{◌≡◌, ◌≢◌, refl, sym, ap, subst, ◌∙◌, ℕ, zero, suc, ◌+◌, ◌<◌, ◌==◌, Bool, true, false, not, ◌&&◌, ◌||◌, cond, List, [], ◌∷◌, ◌++◌, length, map, get_or, arith}
use Rattle.std.specs.List.{list_any, AllByRecursion}
use Rattle.std.proofs.lemmas.Bool.{and_parts, eq-eqb, eqb-true, false≢true}
use Rattle.mdb_bytes.specs.declared.converter_pages.ConverterEntry.{ConverterEntry}
use Rattle.mdb_bytes.specs.Fields.{all_differ}
use Rattle.mdb_bytes.specs.KeptMaps.{Placed}
use Rattle.converter.specs.Maps.{entry_at, block_of}
use Rattle.shown_maps.proofs.UsedEntries.{used_from, some_or_none}

abbrev pub same : ℕ → ℕ → Bool
same a b = a == b

-- what holds of each entry that has a block holds at its number
pub used_at : (P : Placed → Type 0) (k : ℕ) (xs : List ConverterEntry) → AllByRecursion P (used_from k xs) → (i : ℕ) → i < length xs → 0 < block_of xs i → P (k + i, entry_at xs i)
used_at P k [] all i lt some = absurd (omega (arith, lt))
used_at P k (x ∷ xs) all zero lt some =
    some_or_none x.block (λ b. AllByRecursion P (cond (not b) ((k, x) ∷ used_from (k + 1) xs) (used_from (k + 1) xs)) → P (k + 0, x))
    (λ e all. absurd (none e some))
    (λ more e all. subst (λ (n : ℕ). P (n, x)) (omega arith) all.0) all
  where
    none : (x.block == 0) ≡ true → 0 < x.block → ⊥
    none e some = omega (arith, eqb-true x.block 0 e, some)
used_at P k (x ∷ xs) all (suc i) lt some =
    let rest : AllByRecursion P (used_from (k + 1) xs) =
    some_or_none x.block (λ b. AllByRecursion P (cond (not b) ((k, x) ∷ used_from (k + 1) xs) (used_from (k + 1) xs)) → AllByRecursion P (used_from (k + 1) xs))
    (λ e all. all) (λ more e all. all.1) all in
    subst (λ (n : ℕ). P (n, entry_at xs i)) (omega arith) (used_at P (k + 1) xs rest i (omega (arith, lt)) some)

-- what holds of the blocks of each
pub all_blocks : (P : ℕ → Type 0) (es : List Placed) → AllByRecursion P (map (λ e. e.1.block) es) → AllByRecursion (λ e. P e.1.block) es
all_blocks P [] all = tt
all_blocks P (e ∷ es) all = (all.0, all_blocks P es all.1)

-- a number that is none of them differs from each
pub none_any : (x : ℕ) (ys : List ℕ) → list_any (same x) ys ≡ false → AllByRecursion (λ y. x ≢ y) ys
none_any x [] none = tt
none_any x (y ∷ ys) none = (
  λ is. false≢true (sym none ∙ (λ i. eq-eqb x y is i || list_any (same x) ys)),
  none_any x ys (later (x == y) (list_any (same x) ys) none),
)
  where
    later : (a b : Bool) → (a || b) ≡ false → b ≡ false
    later true b e = absurd (false≢true (sym e))
    later false b e = e

not_true : (b : Bool) → not b ≡ true → b ≡ false
not_true true e = absurd (false≢true e)
not_true false e = refl

-- the first of some numbers is none of the others, and these differ
pub first_differs : (x : ℕ) (xs : List ℕ) → all_differ same (x ∷ xs) ≡ true → AllByRecursion (λ y. x ≢ y) xs × (all_differ same xs ≡ true)
first_differs x xs all = let p = and_parts (not (list_any (same x) xs)) (all_differ same xs) all in (none_any x xs (not_true (list_any (same x) xs) p.0), p.1)

after_front : (P : ℕ → Type 0) (xs ys : List ℕ) → AllByRecursion P (xs ++ ys) → AllByRecursion P ys
after_front P [] ys all = all
after_front P (x ∷ xs) ys all = after_front P xs ys all.1

in_front : (P : ℕ → Type 0) (xs ys : List ℕ) → AllByRecursion P (xs ++ ys) → (i : ℕ) → i < length xs → P (get_or xs i 0)
in_front P [] ys all i lt = absurd (omega (arith, lt))
in_front P (x ∷ xs) ys all zero lt = all.0
in_front P (x ∷ xs) ys all (suc i) lt = in_front P xs ys all.1 i (omega (arith, lt))

-- of two lists after another: a number of the first is none of the second
pub front_apart : (xs ys : List ℕ) → all_differ same (xs ++ ys) ≡ true → (i : ℕ) → i < length xs → AllByRecursion (λ y. get_or xs i 0 ≢ y) ys
front_apart [] ys all i lt = absurd (omega (arith, lt))
front_apart (x ∷ xs) ys all zero lt = after_front (λ y. x ≢ y) xs ys (first_differs x (xs ++ ys) all).0
front_apart (x ∷ xs) ys all (suc i) lt = front_apart xs ys (first_differs x (xs ++ ys) all).1 i (omega (arith, lt))

-- no two of the first are the same
pub front_front : (xs ys : List ℕ) → all_differ same (xs ++ ys) ≡ true → (i j : ℕ) → i < j → j < length xs → get_or xs i 0 ≢ get_or xs j 0
front_front [] ys all i j le lt = absurd (omega (arith, lt))
front_front (x ∷ xs) ys all i zero le lt = absurd (omega (arith, le))
front_front (x ∷ xs) ys all zero (suc j) le lt = in_front (λ y. x ≢ y) xs ys (first_differs x (xs ++ ys) all).0 j (omega (arith, lt))
front_front (x ∷ xs) ys all (suc i) (suc j) le lt = front_front xs ys (first_differs x (xs ++ ys) all).1 i j (omega (arith, le)) (omega (arith, lt))

-- nor two of the second
pub back_of : (xs ys : List ℕ) → all_differ same (xs ++ ys) ≡ true → all_differ same ys ≡ true
back_of [] ys all = all
back_of (x ∷ xs) ys all = back_of xs ys (first_differs x (xs ++ ys) all).1

-- no two entries have the same block
pub used_apart : (k : ℕ) (es : List ConverterEntry) → all_differ same (map (λ e. e.1.block) (used_from k es)) ≡ true
    → (p q : ℕ) → p < q → q < length es → 0 < block_of es p → block_of es p ≡ block_of es q → ⊥
used_apart k [] all p q less lt some is = omega (arith, lt)
used_apart k (x ∷ xs) all p zero less lt some is = omega (arith, less)
used_apart k (x ∷ xs) all zero (suc q) less lt some is =
    some_or_none x.block (λ b. all_differ same (map (λ e. e.1.block) (cond (not b) ((k, x) ∷ used_from (k + 1) xs) (used_from (k + 1) xs))) ≡ true → ⊥)
    (λ e all. omega (arith, eqb-true x.block 0 e, some))
    (λ more e all. used_at (λ e. x.block ≢ e.1.block) (k + 1) xs (all_blocks (λ y. x.block ≢ y) (used_from (k + 1) xs) (first_differs x.block (map (λ e. e.1.block) (used_from (k + 1) xs)) all).0) q (omega (arith, lt)) (omega (arith, some, is)) is) all
used_apart k (x ∷ xs) all (suc p) (suc q) less lt some is =
    let rest : all_differ same (map (λ e. e.1.block) (used_from (k + 1) xs)) ≡ true =
    some_or_none x.block (λ b. all_differ same (map (λ e. e.1.block) (cond (not b) ((k, x) ∷ used_from (k + 1) xs) (used_from (k + 1) xs))) ≡ true → all_differ same (map (λ e. e.1.block) (used_from (k + 1) xs)) ≡ true)
    (λ e all. all) (λ more e all. (first_differs x.block (map (λ e. e.1.block) (used_from (k + 1) xs)) all).1) all in
    used_apart (k + 1) xs rest p q (omega (arith, less)) (omega (arith, lt)) some is
