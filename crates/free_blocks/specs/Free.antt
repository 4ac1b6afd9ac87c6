-- Which blocks are free: one test for each block.
--     IsFree, IsLeastFree      a block is free; it is the least one that is
--     free_count      how many blocks are free
--     has_bit, flags_of      the same tests as the bits of a row of words
--     IsFirstBit      the lowest bit that is set
--     IsPacked      what is kept of such a row
use Rattle.std.specs.Prelude.{◌≡◌, ℕ, ◌*◌, ◌/◌, ◌%◌, ◌<◌, ◌≤◌}
use Rattle.std.specs.Prelude.{List, Bool, true, false, eqb, length, map, get_or}
use Rattle.std.specs.List.{count_by, range_with_len}
use Rattle.std.specs.Int.{bit_at}

-- block b is free
abbrev pub IsFree : List Bool → ℕ → Type 0
IsFree flags b = get_or flags b false ≡ true

-- block b is free, and none below it
abbrev pub IsLeastFree : List Bool → ℕ → Type 0
IsLeastFree flags b = IsFree flags b × ((k : ℕ) → k < b → IsFree flags k → ⊥)

-- how many blocks are free
abbrev pub free_count : List Bool → ℕ
free_count flags = count_by (λ free. free) flags

-- bit b of a row of words of 64 bits, the lowest bit of a word first
unfoldable pub has_bit : List ℕ → ℕ → Bool
has_bit words b = eqb (bit_at (get_or words (b / 64) 0) (b % 64)) 1

-- the first n bits of such a row
unfoldable pub flags_of : List ℕ → ℕ → List Bool
flags_of words n = map (has_bit words) (range_with_len 0 n)

-- Bit b is set, in one of the words, and none before it.
pub record IsFirstBit (words : List ℕ) (b : ℕ) : Type 0 where
  pub there : b / 64 < length words
  pub zeros : (k : ℕ) → k < b / 64 → get_or words k 0 ≡ 0
  pub set : has_bit words b ≡ true
  pub none : (k : ℕ) → k < b → has_bit words k ≡ false

-- The words have a bit for each block and none set past the last, none of the words before `low`
-- has one set, and as many are set as `count` says. The numbers are those of src/free.rt.
pub record IsPacked (words : List ℕ) (blocks low count : ℕ) : Type 0 where
  -- (1)
  pub long : blocks ≤ 64 * length words
  pub small : blocks ≤ 65536
  pub few : length words ≤ 1024
  -- (2)
  pub beyond : (b : ℕ) → blocks ≤ b → has_bit words b ≡ false
  -- (3)
  pub below : (k : ℕ) → k < low → get_or words k 0 ≡ 0
  -- (4)
  pub counted : count ≡ free_count (flags_of words blocks)
