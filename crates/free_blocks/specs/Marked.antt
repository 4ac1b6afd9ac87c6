-- Marks of blocks: for each block sixteen tests.
--     HasMark, IsMarked      a block has one mark, or any
--     with_mark      one mark of a block set or taken away
--     tests_of, marks_of      the same tests as the bits of numbers
use Rattle.std.specs.Prelude.{◌≡◌, ℕ, List, [], Bool, true, false, eqb, map, get_or, slice_set}
use Rattle.std.specs.List.{range_with_len}
use Rattle.std.specs.Int.{bit_at}

-- block b has mark i
abbrev pub HasMark : List (List Bool) → ℕ → ℕ → Type 0
HasMark marks b i = get_or (get_or marks b []) i false ≡ true

-- block b has a mark
abbrev pub IsMarked : List (List Bool) → ℕ → Type 0
IsMarked marks b = (i : ℕ) × HasMark marks b i

-- mark i of block b set, or taken away
abbrev pub with_mark : List (List Bool) → (b i : ℕ) (on : Bool) → List (List Bool)
with_mark marks b i on = slice_set marks b (slice_set (get_or marks b []) i on)

-- the sixteen lowest bits of a number
unfoldable pub tests_of : ℕ → List Bool
tests_of n = map (λ i. eqb (bit_at n i) 1) (range_with_len 0 16)

-- those of each number
abbrev pub marks_of : List ℕ → List (List Bool)
marks_of numbers = map tests_of numbers
