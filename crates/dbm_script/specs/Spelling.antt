-- What a byte string spells, as it stands in a line.
--     bytes_spelled      the bytes
--     IsSpelled      the text spells them, and they are no more than a value may have
use Rattle.std.specs.Prelude.{◌≡◌, ℕ, ◌≤◌, List, [], Bool, true, false, ◌||◌, Some, unwrap_or, IsTrue, length}
use Rattle.std.specs.List.{list_all}
use Rattle.mdb_model.specs.Script.{is_digit, is_within, is_plain, hex_bytes}

-- a hexadecimal digit, in either case
abbrev pub is_hex_digit : ℕ → Bool
is_hex_digit b = is_digit b || is_within 65 70 b || is_within 97 102 b

-- the bytes that the digits stand for, or else the text itself
abbrev pub bytes_spelled : Bool → List ℕ → List ℕ
bytes_spelled true text = unwrap_or (hex_bytes text) []
bytes_spelled false text = text

-- the digits do stand for bytes, or else each byte of the text stands for itself
abbrev pub IsSound : Bool → List ℕ → Type 0
IsSound true text = hex_bytes text ≡ Some (bytes_spelled true text)
IsSound false text = IsTrue (list_all is_plain text)

-- and the bytes are no more than a value may have
abbrev pub IsSpelled : Bool → List ℕ → Type 0
IsSpelled in_digits text = IsSound in_digits text × (length (bytes_spelled in_digits text) ≤ 1500)
