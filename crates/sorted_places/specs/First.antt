-- The first row of a table after a key, said of each key.
--     IsFirst      the first key after another at which there is a row, and the value there; or
--         there is none
use Rattle.std.specs.Prelude.{◌≡◌, ℕ, List, Bool, true, false, Option, Some, None, IsTrue}
use Rattle.mdb_bytes.specs.Held.{is_before}

-- the key comes after the other, has the value, and no key between them has one; or no key after
-- the other has one
abbrev pub IsFirst : {V : Type 0} → (row : List ℕ → Option V) → (after : List ℕ) → (found : Bool)
    → (key : List ℕ) → (value : V) → Type 0
IsFirst row after true key value =
    IsTrue (is_before after key) × (row key ≡ Some value)
    × ((k : List ℕ) → IsTrue (is_before after k) → IsTrue (is_before k key) → row k ≡ None)
IsFirst row after false key value = (k : List ℕ) → IsTrue (is_before after k) → row k ≡ None
