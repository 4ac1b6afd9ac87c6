-- What a text makes of an output that tells what was said.
use Rattle.std.specs.Prelude.{◌≡◌, ℕ, ◌≤◌, List, ◌++◌, length, take, Option, Some, IfSome}

-- the text is added
abbrev pub Adds : Option (List ℕ) → Option (List ℕ) → List ℕ → Type 0
Adds old new text = IfSome old (λ said. new ≡ Some (said ++ text))

-- a front part of it is
abbrev pub AddsPart : Option (List ℕ) → Option (List ℕ) → List ℕ → Type 0
AddsPart old new text =
    IfSome old (λ said. (n : ℕ) × (n ≤ length text) × (new ≡ Some (said ++ take n text)))
