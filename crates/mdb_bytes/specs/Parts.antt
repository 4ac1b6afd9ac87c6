-- The parts that a record is written by.
--     field_of      the field that a part stands for
--     field_len, fields_len      how many bytes a field and a list of fields have
--     KeepsLimits      a value keeps the limits of its format
--     HasLength      each value of a format has so many bytes
--     page_len, page_room      the bytes of a page
--     table_fields      rows of fields in their room
--     word_format      a number of four bytes as a row
--     ascend_from      whether numbers ascend
use Rattle.std.specs.Prelude.{◌≡◌, ℕ, ◌+◌, ◌-◌, ◌*◌, List, [], ◌∷◌, ◌++◌, length, Bool, true, ◌&&◌, nat_lt, IsTrue}
use Rattle.std.specs.List.{flat_map}
use Rattle.byteorder.specs.Endian.{big_bytes}
use Rattle.mdb_bytes.specs.declared.parts.Part.{Part}
use Rattle.mdb_bytes.specs.declared.parts.Part.TheVariants.{Byte as BytePart, Two as TwoPart, Four as FourPart, Eight as EightPart, Zeros as ZerosPart, Letters}
use Rattle.mdb_bytes.specs.Fields.{Field, Byte, Two, Four, Eight, Zeros, Text, Format, fields_fit, number_at, spelled}

-- the field that a part stands for
abbrev pub field_of : Part → Field
field_of (BytePart n) = Byte n
field_of (TwoPart n) = Two n
field_of (FourPart n) = Four n
field_of (EightPart n) = Eight n
field_of (ZerosPart n) = Zeros n
field_of (Letters n) = Text (big_bytes 8 n)

-- how many bytes a field has
abbrev pub field_len : Field → ℕ
field_len (Byte n) = 1
field_len (Two n) = 2
field_len (Four n) = 4
field_len (Eight n) = 8
field_len (Zeros n) = n
field_len (Text bytes) = length bytes

-- how many bytes fields have
abbrev pub fields_len : List Field → ℕ
fields_len [] = 0
fields_len (field ∷ fields) = field_len field + fields_len fields

-- its numbers are within their limits and have room in their fields
abbrev pub KeepsLimits : {X : Type 0} → Format X → X → Type 0
KeepsLimits format v = IsTrue (format.fits v && fields_fit (format.fields v))

-- each value that keeps its limits has so many bytes
abbrev pub HasLength : {X : Type 0} → Format X → ℕ → Type 0
HasLength {X = X} format n = (v : X) → KeepsLimits format v → length (spelled (format.fields v)) ≡ n

-- Tables

-- the bytes of a page, and those after its first 64
abbrev pub page_len : ℕ
page_len = 8192

-- the bytes of a page after its first 64
abbrev pub page_room : ℕ
page_room = 8128

-- rows one after the other, and then zeros up to the end of their room
abbrev pub table_fields : {X : Type 0} → (X → List Field) → (size room : ℕ) → List X → List Field
table_fields fields size room rows = flat_map fields rows ++ Zeros (room - size * length rows) ∷ []

-- a number of four bytes, as a row
abbrev pub word_format : Format ℕ
word_format = record { fits = λ n. true; fields = λ n. Four n ∷ []; reads = number_at 4 0 }

-- whether each number is more than the one before, the first more than this one
abbrev pub ascend_from : ℕ → List ℕ → Bool
ascend_from last [] = true
ascend_from last (n ∷ ns) = nat_lt last n && ascend_from n ns
