-- The parts of records as bytes.
--     letters_fit      letters are bytes
--     length-spelled      how many bytes fields have
use Rattle.std.proofs.Common.{◌≡◌, refl, ◌∙◌, ap, ℕ, zero, suc, ◌<◌, List, [], ◌∷◌, length, true, arith, length-append}
use Rattle.std.proofs.Math.Nat.{mod-lt}
use Rattle.std.proofs.lemmas.List.{length-replicate}
use Rattle.std.specs.Int.{byte_at, bytes_high_first}
use Rattle.byteorder.specs.Endian.{big_bytes}
use Rattle.mdb_bytes.specs.declared.parts.Part.{Part}
use Rattle.mdb_bytes.specs.declared.parts.Part.TheVariants.{Letters}
use Rattle.mdb_bytes.specs.Fields.{Field, Byte, Two, Four, Eight, Zeros, Text, field_bytes, field_fits, spelled}
use Rattle.mdb_bytes.specs.Parts.{field_of, field_len, fields_len}
use Rattle.mdb_bytes.proofs.NumberBytes.{AreBytes, bytes_pass}

-- one byte of a number
byte_below : (k n : ℕ) → byte_at k n < 256
byte_below zero n = mod-lt n (omega arith)
byte_below (suc k) n = mod-lt _ (omega arith)

-- the bytes of a number are bytes
number_bytes : (n x : ℕ) → AreBytes (bytes_high_first n x)
number_bytes zero x k = omega arith
number_bytes (suc n) x zero = byte_below n x
number_bytes (suc n) x (suc k) = number_bytes n x k

-- letters that are the bytes of a number
pub letters_fit : (n : ℕ) → field_fits (Text (big_bytes 8 n)) ≡ true
letters_fit n = bytes_pass (big_bytes 8 n) (number_bytes 8 n)

-- the same of a part
pub letters_part_fits : (part : Part) (n : ℕ) → part ≡ Letters n → field_fits (field_of part) ≡ true
letters_part_fits part n is = ap (λ p. field_fits (field_of p)) is ∙ letters_fit n

-- how many bytes one field has
length-field : (f : Field) → length (field_bytes f) ≡ field_len f
length-field (Byte n) = refl
length-field (Two n) = refl
length-field (Four n) = refl
length-field (Eight n) = refl
length-field (Zeros n) = length-replicate n 0
length-field (Text bytes) = refl

-- how many bytes fields have
pub length-spelled : (fs : List Field) → length (spelled fs) ≡ fields_len fs
unfolding spelled
length-spelled [] = refl
length-spelled (f ∷ fs) = let a = length-field f in let b = length-spelled fs in omega (arith, length-append (field_bytes f) (spelled fs))
