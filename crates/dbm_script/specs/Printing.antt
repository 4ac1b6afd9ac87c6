-- Parts of printed lines.
use Rattle.std.specs.Prelude.{ℕ, List, [], ◌∷◌, ◌++◌, decimal}

-- a space and the digits of each number, and then the rest
abbrev pub numbers_then : List ℕ → List ℕ → List ℕ
numbers_then [] rest = rest
numbers_then (n ∷ numbers) rest = 32 ∷ decimal n ++ numbers_then numbers rest
