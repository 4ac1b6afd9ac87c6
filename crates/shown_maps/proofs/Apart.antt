-- The blocks of a map of an area are apart.
--     blocks_apart, shares_none      the law
use Rattle.std.proofs.Common.{◌≡◌, ◌≢◌, refl, sym, ap, subst, ◌∙◌, ℕ, zero, suc, ◌+◌, ◌<◌, ◌≤◌, ◌==◌, Bool, true, false, not, ◌&&◌, ◌||◌, cond, List, [], ◌∷◌, ◌++◌, length, map, take, drop, get_or, arith}
use Rattle.std.specs.Prelude.{IsTrue}
use Rattle.std.specs.List.{list_any, AllByRecursion}
use Rattle.std.proofs.lemmas.Bool.{ne_eqb}
use Rattle.std.proofs.lemmas.List.{get_or-drop, length-drop}
use Rattle.mdb_bytes.specs.declared.converter_pages.ConverterEntry.{ConverterEntry}
use Rattle.mdb_bytes.specs.Fields.{all_differ}
use Rattle.mdb_bytes.specs.KeptMaps.{Placed, placed}
use Rattle.mdb_bytes.specs.Firsts.{no_entry}
use Rattle.converter.specs.Maps.{entry_at, block_of}
use Rattle.standing.specs.WholeStanding.{BlocksAreApart, ShareNoBlock}
use Rattle.page_store.specs.WholeSavepoint.{IsInArea}
use Rattle.shown_maps.specs.ShownMaps.{shown_map}
use Rattle.shown_maps.proofs.UsedEntries.{used_from, some_or_none, used_all, taken_all}

abbrev same : ℕ → ℕ → Bool
same a b = a == b

-- their blocks
abbrev blocks_from : ℕ → List ConverterEntry → List ℕ
blocks_from k xs = map (λ e. e.1.block) (used_from k xs)

-- a number that is none of them
none_used : (n k : ℕ) (xs : List ConverterEntry) → ((i : ℕ) → i < length xs → 0 < block_of xs i → n ≢ block_of xs i) → list_any (same n) (blocks_from k xs) ≡ false
none_used n k [] other = refl
none_used n k (x ∷ xs) other =
    let rest : list_any (same n) (blocks_from (k + 1) xs) ≡ false = none_used n (k + 1) xs (λ i lt some. other (suc i) (omega (arith, lt)) some) in
    some_or_none x.block (λ b. list_any (same n) (map (λ e. e.1.block) (cond (not b) ((k, x) ∷ used_from (k + 1) xs) (used_from (k + 1) xs))) ≡ false)
    (λ e. rest)
    (λ some e. (λ i. ne_eqb n x.block (other 0 (omega arith) some) i || rest i))

-- no two of them are the same
used_differ : (k : ℕ) (xs : List ConverterEntry) → ((p q : ℕ) → 0 < block_of xs p → block_of xs p ≡ block_of xs q → p ≡ q) → all_differ same (blocks_from k xs) ≡ true
used_differ k [] apart = refl
used_differ k (x ∷ xs) apart =
    let rest : all_differ same (blocks_from (k + 1) xs) ≡ true = used_differ (k + 1) xs (λ p q some is. omega (arith, apart (suc p) (suc q) some is)) in
    some_or_none x.block (λ b. all_differ same (map (λ e. e.1.block) (cond (not b) ((k, x) ∷ used_from (k + 1) xs) (used_from (k + 1) xs))) ≡ true)
    (λ e. rest)
    (λ some e. (λ i. not (none_used x.block (k + 1) xs (λ j lt more is. omega (arith, apart 0 (suc j) some is)) i) && rest i))

-- a number that is none of the first blocks, nor of the others
none_front : (n k : ℕ) (ys xs : List ConverterEntry) → ((i : ℕ) → i < length ys → n ≢ block_of ys i) → list_any (same n) (blocks_from k xs) ≡ false
    → list_any (same n) (map (λ e. e.block) ys ++ blocks_from k xs) ≡ false
none_front n k [] xs other none = none
none_front n k (y ∷ ys) xs other none = λ i. ne_eqb n y.block (other 0 (omega arith)) i || none_front n k ys xs (λ j lt. other (suc j) (omega (arith, lt))) none i

-- the entries of one list after another
front_is : (ys xs : List ConverterEntry) (i : ℕ) → i < length ys → block_of (ys ++ xs) i ≡ block_of ys i
front_is [] xs i lt = absurd (omega (arith, lt))
front_is (y ∷ ys) xs zero lt = refl
front_is (y ∷ ys) xs (suc i) lt = front_is ys xs i (omega (arith, lt))

back_is : (ys xs : List ConverterEntry) (i : ℕ) → block_of (ys ++ xs) (length ys + i) ≡ block_of xs i
back_is [] xs i = ap (block_of xs) (omega arith)
back_is (y ∷ ys) xs i =
    let on : length (y ∷ ys) + i ≡ suc (length ys + i) = omega arith in
    ap (block_of (y ∷ (ys ++ xs))) on ∙ back_is ys xs i

-- the first blocks, and those of the others that have one, all differ
all_apart : (k : ℕ) (ys xs : List ConverterEntry) → ((i : ℕ) → i < length ys → 0 < block_of ys i)
    → ((p q : ℕ) → 0 < block_of (ys ++ xs) p → block_of (ys ++ xs) p ≡ block_of (ys ++ xs) q → p ≡ q)
    → all_differ same (map (λ e. e.block) ys ++ blocks_from k xs) ≡ true
all_apart k [] xs own apart = used_differ k xs apart
all_apart k (y ∷ ys) xs own apart =
    let rest : all_differ same (map (λ e. e.block) ys ++ blocks_from k xs) ≡ true =
    all_apart k ys xs (λ i lt. own (suc i) (omega (arith, lt))) (λ p q some is. omega (arith, apart (suc p) (suc q) some is)) in
    let some : 0 < y.block = own 0 (omega arith) in
    let front : (i : ℕ) → i < length ys → y.block ≢ block_of ys i =
    λ i lt is. omega (arith, apart 0 (suc i) some (is ∙ sym (front_is ys xs i lt))) in
    let back : (i : ℕ) → i < length xs → 0 < block_of xs i → y.block ≢ block_of xs i =
    λ i lt more is. omega (arith, apart 0 (suc (length ys + i)) some (is ∙ sym (back_is ys xs i))) in
    λ i. not (none_front y.block k ys xs front (none_used y.block k xs back) i) && rest i

take_drop : (n : ℕ) (xs : List ConverterEntry) → take n xs ++ drop n xs ≡ xs
take_drop zero [] = refl
take_drop zero (x ∷ xs) = refl
take_drop (suc n) [] = refl
take_drop (suc n) (x ∷ xs) = λ i. x ∷ take_drop n xs i

taken_is : (n i : ℕ) (xs : List ConverterEntry) → i < length (take n xs) → (i < n) × (block_of (take n xs) i ≡ block_of xs i)
taken_is zero i [] lt = absurd (omega (arith, lt))
taken_is zero i (x ∷ xs) lt = absurd (omega (arith, lt))
taken_is (suc n) i [] lt = absurd (omega (arith, lt))
taken_is (suc n) zero (x ∷ xs) lt = (omega arith, refl)
taken_is (suc n) (suc i) (x ∷ xs) lt = let r = taken_is n i xs (omega (arith, lt)) in (omega (arith, r.0), r.1)

module _ (m : List ConverterEntry) (conv n : ℕ) (pages : ℕ → List ℕ) (area : IsInArea conv n m) where
  -- the block of a page
  at : (i : ℕ) → block_of (drop conv m) i ≡ block_of m (conv + i)
  at i = ap (λ (e : ConverterEntry). e.block) (get_or-drop conv m i no_entry)

  long : length (drop conv m) ≡ n
  long = length-drop conv m ∙ omega (arith, area.long)

  pub blocks_apart : BlocksAreApart (shown_map conv m pages) n
  blocks_apart = record {
    numbers = used_all (λ e. e.0 < n) 0 (drop conv m) (λ i lt some. omega (arith, lt, long));
    converter = taken_all (λ block. (2 ≤ block) × (block < n)) conv m (λ i lt less. (omega (arith, area.high i (area.own i lt)), area.below i));
    placed = used_all (λ e. (2 ≤ e.1.block) × (e.1.block < n)) 0 (drop conv m)
        (λ i lt some. (omega (arith, at i, area.high (conv + i) (omega (arith, some, at i))), omega (arith, at i, area.below (conv + i))));
    once = all_apart 0 (take conv m) (drop conv m) (λ i lt. (let t = taken_is conv i m lt in omega (arith, t.1, area.own i t.0)))
        (subst (λ (xs : List ConverterEntry). (p q : ℕ) → 0 < block_of xs p → block_of xs p ≡ block_of xs q → p ≡ q) (sym (take_drop conv m)) area.apart);
  }

  pub shares_none : ShareNoBlock (shown_map conv m pages) (shown_map conv m pages)
  shares_none = record {
    pages = used_all (λ p. AllByRecursion (λ q. p.1.block ≡ q.1.block → p.0 ≡ q.0) (placed (drop conv m))) 0 (drop conv m)
        (λ i lt some. used_all (λ (q : Placed). block_of (drop conv m) i ≡ q.1.block → 0 + i ≡ q.0) 0 (drop conv m)
        (λ j less more is. omega (arith, area.apart (conv + i) (conv + j) (omega (arith, some, at i)) (sym (at i) ∙ is ∙ at j))));
    converter = used_all (λ p. AllByRecursion (λ block. p.1.block ≢ block) (map (λ e. e.block) (take conv m))) 0 (drop conv m)
        (λ i lt some. taken_all (λ block. block_of (drop conv m) i ≢ block) conv m
        (λ q low less is. omega (arith, low, area.apart (conv + i) q (omega (arith, some, at i)) (sym (at i) ∙ is))));
  }
