-- A line cut into parts, in one way.
--     first_text, rest_after      the first part as it is spelled, and what follows it
--     FitsLine      parts stand in a line, one after another
--     Follows      parts of which the first ones were read already
use Rattle.std.specs.Prelude.{◌≡◌, ℕ, List, [], ◌∷◌, Bool, false, not, Some, ◌&&◌, ◌==◌, if◌then◌else◌, IsTrue}
use Rattle.mdb_model.specs.Script.{Part, Word, Number, Bytes, SpellsPart, is_blank_byte, past_blanks, number_of, same_word}

-- whether quotes are open past this byte
abbrev pub quoted_past : ℕ → Bool → Bool
quoted_past b quoted = if b == 39 then not quoted else quoted

-- what stands before the first blank outside quotes
abbrev pub token : Bool → List ℕ → List ℕ
token quoted [] = []
token quoted (b ∷ bytes) =
    if is_blank_byte b && not quoted then [] else b ∷ token (quoted_past b quoted) bytes

-- and from that blank on
abbrev pub after_token : Bool → List ℕ → List ℕ
after_token quoted [] = []
after_token quoted (b ∷ bytes) =
    if is_blank_byte b && not quoted then b ∷ bytes else after_token (quoted_past b quoted) bytes

-- the first part as it is spelled
unfoldable pub first_text : List ℕ → List ℕ
first_text rest = token false (past_blanks rest)

-- what follows it
unfoldable pub rest_after : List ℕ → List ℕ
rest_after rest = after_token false (past_blanks rest)

-- the parts stand in the line in this order, and nothing after them
abbrev pub FitsLine : List Part → List ℕ → Type 0
FitsLine [] rest = past_blanks rest ≡ []
FitsLine (part ∷ parts) rest = SpellsPart part (first_text rest) × FitsLine parts (rest_after rest)

-- the same part
abbrev pub IsSame : Part → Part → Type 0
IsSame (Word word) (Word other) = IsTrue (same_word word other)
IsSame (Number n) (Number other) = n ≡ other
IsSame (Bytes bytes) (Bytes other) = bytes ≡ other
IsSame _ _ = ⊥

-- the parts begin with those of the front, and the others stand in what is left of the line
abbrev pub Follows : List Part → List Part → List ℕ → Type 0
Follows [] parts rest = FitsLine parts rest
Follows (first ∷ front) [] rest = ⊥
Follows (first ∷ front) (part ∷ parts) rest = IsSame first part × Follows front parts rest

-- numbers stand one after another, and what is left is after them
abbrev pub AreNumbers : List ℕ → List ℕ → List ℕ → Type 0
AreNumbers [] rest left = left ≡ rest
AreNumbers (n ∷ numbers) rest left =
    (number_of (first_text rest) ≡ Some n) × AreNumbers numbers (rest_after rest) left
