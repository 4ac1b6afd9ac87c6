-- The blocks of the first savepoint.
--     block_two, block_three, block_leaf, block_root      their bytes
--     root_keeps, words_low      the root keeps the limits of its format
use Rattle.std.proofs.Common.{◌≡◌, refl, sym, ap, ◌∙◌, ℕ, zero, suc, ◌+◌, ◌-◌, ◌^◌, ◌<◌, ◌≤◌, ◌==◌, Bool, true, ◌&&◌, nat_lt, lt-ltb, le-ltb, ne_eqb, List, [], ◌∷◌, length, get_or, arith}
use Rattle.std.specs.Prelude.{if◌then◌else◌, nat_le}
use Rattle.std.specs.List.{list_all, range_with_len}
use Rattle.std.proofs.lemmas.Bool.{le-leb}
use Rattle.std.proofs.lemmas.List.FromFn.{length-range_with_len}
use Rattle.mdb_bytes.specs.Fields.{fields_fit, spelled}
use Rattle.mdb_bytes.specs.Parts.{KeepsLimits, word_format, page_room}
use Rattle.mdb_bytes.specs.ConverterPages.{converter_leaf_fields, converter_root_fields, converter_root_front, converter_root_format}
use Rattle.mdb_bytes.specs.LogicalPages.{catalogue_fields, open_list_fields}
use Rattle.mdb_bytes.specs.Firsts.{leaf_count, first_root_block, first_catalogue, first_open_list, first_leaf, first_root, first_block}
use Rattle.mdb_bytes.proofs.TableLaws.{room-section}

pub block_two : (blocks block : ℕ) → block ≡ 2 → spelled (catalogue_fields first_catalogue) ≡ first_block blocks block
unfolding first_block
block_two blocks block is = sym (ap (first_block blocks) is)

pub block_three : (blocks block : ℕ) → block ≡ 3 → spelled (open_list_fields first_open_list) ≡ first_block blocks block
unfolding first_block
block_three blocks block is = sym (ap (first_block blocks) is)

-- what is written behind the open list
behind : (blocks block : ℕ) → (block ≡ 2 → ⊥) → (block ≡ 3 → ⊥)
    → first_block blocks block ≡ (if nat_lt block (first_root_block blocks) then spelled (converter_leaf_fields (first_leaf (block - 4))) else spelled (converter_root_fields (first_root blocks)))
unfolding first_block
behind blocks block two three =
    ap (λ (b : Bool). if b then spelled (catalogue_fields first_catalogue) else if block == 3 then spelled (open_list_fields first_open_list) else if nat_lt block (first_root_block blocks) then spelled (converter_leaf_fields (first_leaf (block - 4))) else spelled (converter_root_fields (first_root blocks))) (ne_eqb block 2 two)
    ∙ ap (λ (b : Bool). if b then spelled (open_list_fields first_open_list) else if nat_lt block (first_root_block blocks) then spelled (converter_leaf_fields (first_leaf (block - 4))) else spelled (converter_root_fields (first_root blocks))) (ne_eqb block 3 three)

pub block_leaf : (blocks block : ℕ) → (block ≡ 2 → ⊥) → (block ≡ 3 → ⊥) → block < first_root_block blocks → spelled (converter_leaf_fields (first_leaf (block - 4))) ≡ first_block blocks block
block_leaf blocks block two three less =
    sym (behind blocks block two three
    ∙ ap (λ (b : Bool). if b then spelled (converter_leaf_fields (first_leaf (block - 4))) else spelled (converter_root_fields (first_root blocks))) (lt-ltb block (first_root_block blocks) less))

pub block_root : (blocks block : ℕ) → (block ≡ 2 → ⊥) → (block ≡ 3 → ⊥) → first_root_block blocks ≤ block → spelled (converter_root_fields (first_root blocks)) ≡ first_block blocks block
block_root blocks block two three past =
    sym (behind blocks block two three
    ∙ ap (λ (b : Bool). if b then spelled (converter_leaf_fields (first_leaf (block - 4))) else spelled (converter_root_fields (first_root blocks))) (le-ltb block (first_root_block blocks) past))

-- numbers that have room in four bytes
pub words_low : (xs : List ℕ) → ((i : ℕ) → i < length xs → get_or xs i 0 < 2 ^ 32) → list_all (λ (x : ℕ). fields_fit (word_format.fields x)) xs ≡ true
words_low [] low = refl
words_low (x ∷ xs) low =
    let here : x < 2 ^ 32 = low 0 (omega arith) in
    (λ i. (lt-ltb x (2 ^ 32) here i && true) && words_low xs (λ k small. low (suc k) (omega (arith, small))) i)

range_low : (a n : ℕ) → a + n < 2 ^ 32 → list_all (λ (x : ℕ). fields_fit (word_format.fields x)) (range_with_len a n) ≡ true
range_low a zero low = refl
range_low a (suc n) low =
    let here : a < 2 ^ 32 = omega (arith, low) in
    (λ i. (lt-ltb a (2 ^ 32) here i && true) && range_low (a + 1) n (omega (arith, low)) i)

-- the root keeps the limits of its format
pub root_keeps : (blocks : ℕ) → blocks ≤ 65536 → KeepsLimits converter_root_format (first_root blocks)
root_keeps blocks small =
    let count : length (range_with_len 4 (leaf_count blocks)) ≡ leaf_count blocks = length-range_with_len 4 (leaf_count blocks) in
    let few : nat_le (length (range_with_len 4 (leaf_count blocks))) 110 ≡ true = le-leb (length (range_with_len 4 (leaf_count blocks))) 110 (omega (arith, count, small)) in
    let counted : nat_lt (length (range_with_len 4 (leaf_count blocks))) (2 ^ 32) ≡ true = lt-ltb (length (range_with_len 4 (leaf_count blocks))) (2 ^ 32) (omega (arith, count, small)) in
    let rows = range_low 4 (leaf_count blocks) (omega (arith, small)) in
    let front : fields_fit (converter_root_front (first_root blocks)) ≡ true = front_fits (nat_lt (length (range_with_len 4 (leaf_count blocks))) (2 ^ 32)) counted in
    let whole = room-section word_format.fields 4 page_room (converter_root_front (first_root blocks)) (range_with_len 4 (leaf_count blocks)) in
    (λ i. few i && whole i) ∙ (λ i. true && (front i && rows i))
  where
    front_fits : (b : Bool) → b ≡ true → (true && (true && (b && (true && true)))) ≡ true
    front_fits b is = cc
