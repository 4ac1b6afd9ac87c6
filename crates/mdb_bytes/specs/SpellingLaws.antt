-- What holds of every spelling.
--     NumbersReadBack, BytesSpellBack      the bytes of a number and the number of bytes are
--         inverse to one another
--     HasOneValue      bytes spell one value at most
use Rattle.std.specs.Prelude.{◌≡◌, ℕ, ◌^◌, ◌<◌, ◌≤◌, List, ◌++◌, length, take, slice_index}
use Rattle.byteorder.specs.Endian.{big_bytes, big_number}
use Rattle.mdb_bytes.specs.Fields.{Format, Spells}

-- a number that has room in n bytes is read again from the bytes that it is spelled by, whatever
-- follows
abbrev pub NumbersReadBack : Type 0
NumbersReadBack =
    (n number : ℕ) (rest : List ℕ) → number < 256 ^ n
    → big_number n (big_bytes n number ++ rest) ≡ number

-- a number that was read from n bytes is spelled by them
abbrev pub BytesSpellBack : Type 0
BytesSpellBack =
    (n : ℕ) (bytes : List ℕ) → ((k : ℕ) → slice_index bytes k < 256) → n ≤ length bytes
    → big_bytes n (big_number n bytes) ≡ take n bytes

-- two values that the same bytes spell are the same
abbrev pub HasOneValue : {X : Type 0} → Format X → Type 0
HasOneValue {X = X} format =
    (a b : X) (bytes : List ℕ) → Spells format a bytes → Spells format b bytes → a ≡ b
