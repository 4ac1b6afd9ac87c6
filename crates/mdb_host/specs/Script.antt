-- What a source of bytes gives.
use Rattle.std.specs.Prelude.{◌≡◌, ℕ, ◌<◌, ◌≤◌, List, [], length, take, drop, Option, Some, None, MatchOption}

-- n bytes were taken from the front of what was left, and stand at the front of the buffer. None
-- are taken into a buffer with room only where none are left
pub record Takes (n : ℕ) (old new into : List ℕ) : Type 0 where
  pub within : n ≤ length old
  pub taken : take n into ≡ take n old
  pub rest : new ≡ drop n old
  pub ends : n ≡ 0 → 0 < length into → old ≡ []

-- the same where what is left is known, and it stays unknown where it is not
abbrev pub TakesFrom : Option (List ℕ) → Option (List ℕ) → ℕ → List ℕ → Type 0
TakesFrom old new n into =
    MatchOption old (new ≡ None) (λ left. (rest : List ℕ) × (new ≡ Some rest)
    × Takes n left rest into)
