-- Bytes at places of a device.
--     length_of, part_is      a device that is there, and a part of its bytes
--     has_append, has_kept      bytes one after another, and bytes beside a write
--     begins_with      a device whose first bytes are known
--     torn_within      a write in a wider range
use Rattle.std.proofs.Common.{◌≡◌, sym, ap, ◌∙◌, inl, inr, ◌⊎◌, ℕ, ◌+◌, ◌-◌, ◌<◌, ◌≤◌, List, ◌++◌, length, get_or, take, drop, Option, Some, None, arith, length-take, length-drop, length-append}
use Rattle.std.proofs.lemmas.Bool.{cases_lt}
use Rattle.std.proofs.lemmas.Grind.{same_number_lists}
use Rattle.std.proofs.lemmas.List.{get_or-take, get_or-drop, get_or_append_left, get_or-append-add, take-append-drop}
use Rattle.mdb_model.specs.declared.fault.Device.{Device}
use Rattle.mdb_model.specs.Images.{Image, size_of, bytes_of, byte_at}
use Rattle.mdb_host.specs.Disk.{Torn, Has, Outside, IsWithin}

-- how many bytes a device has that is there
pub length_of : (o : Option (List ℕ)) (n : ℕ) → size_of o ≡ Some n → length (bytes_of o) ≡ n
length_of None n is = absurd cc
length_of (Some bytes) n is = cc

-- a part of bytes that stand there, of any length: a long literal would be unfolded
pub part_is : (n at : ℕ) (xs bytes : List ℕ) → length bytes ≡ n → at + n ≤ length xs → ((k : ℕ) → k < n → get_or xs (at + k) 0 ≡ get_or bytes k 0) → take n (drop at xs) ≡ bytes
part_is n at xs bytes len fits same =
    let long : length (take n (drop at xs)) ≡ length bytes = length-take n (drop at xs) ∙ omega (arith, length-drop at xs, len, fits) in
    same_number_lists (take n (drop at xs)) bytes long (λ k lt.
    let short : k < n = omega (arith, lt, long, len) in
    get_or-take n (drop at xs) k 0 short ∙ get_or-drop at xs k 0 ∙ same k short)

-- bytes one after another
pub has_append : (image : Image) (d : Device) (at next : ℕ) (xs ys : List ℕ) → next ≡ at + length xs → Has image d at xs → Has image d next ys → Has image d at (xs ++ ys)
has_append image d at next xs ys is first second i lt = elim (cases_lt i (length xs)) [
  | inl low ↦ first i low ∙ sym (get_or_append_left xs ys 0 i low)
  | inr high ↦
      let j = i - length xs in
      let here : i ≡ length xs + j = omega (arith, high) in
      let there : at + i ≡ next + j = omega (arith, here, is) in
      ap (λ (k : ℕ). byte_at (image d) k) there ∙ second j (omega (arith, lt, length-append xs ys, here)) ∙ sym (get_or-append-add xs ys j 0) ∙ ap (λ (k : ℕ). get_or (xs ++ ys) k 0) (sym here)
]

-- bytes that stand beside a write
pub has_kept : (d : Device) (at n place : ℕ) (bytes : List ℕ) (a b : Image) → Torn d at n a b → (place + length bytes ≤ at) ⊎ (at + n ≤ place) → Has a d place bytes → Has b d place bytes
has_kept d at n place bytes a b torn beside has i lt = torn.outside (place + i) (out beside) ∙ has i lt
  where
    -- each of them is beside it
    out : (place + length bytes ≤ at) ⊎ (at + n ≤ place) → Outside at n (place + i)
    out (inl front) = inl (omega (arith, front, lt))
    out (inr behind) = inr (omega (arith, behind))

-- a device whose first bytes are known has the rest behind them
pub begins_with : (o : Option (List ℕ)) (front : List ℕ) (size : ℕ) → size_of o ≡ Some size → length front ≤ size → ((k : ℕ) → k < length front → byte_at o k ≡ get_or front k 0)
    → (rest : List ℕ) × (o ≡ Some (front ++ rest))
begins_with None front size is fits same = absurd cc
begins_with (Some bytes) front size is fits same =
    let n = length front in
    let long : length bytes ≡ size = length_of (Some bytes) size is in
    let len : length (take n bytes) ≡ n = length-take n bytes ∙ omega (arith, long, fits) in
    let front_is : take n bytes ≡ front = same_number_lists (take n bytes) front len (λ k lt. let short : k < n = omega (arith, lt, len) in get_or-take n bytes k 0 short ∙ same k short) in
    (drop n bytes, ap Some (sym (take-append-drop n bytes) ∙ ap (λ (l : List ℕ). l ++ drop n bytes) front_is))

-- a write in a wider range
pub torn_within : (d : Device) (at n low len : ℕ) (a b : Image) → low ≤ at → at + n ≤ low + len → Torn d at n a b → Torn d low len a b
torn_within d at n low len a b from to torn = record { others = torn.others; size = torn.size; outside = λ k out. torn.outside k (narrower k out) }
  where
    -- what is outside the range is outside the write
    narrower : (k : ℕ) → Outside low len k → Outside at n k
    narrower k (inl below) = inl (omega (arith, from, below))
    narrower k (inr above) = inr (omega (arith, to, above))

-- an image with the same size has the room that another has
pub within_same : (a b : Image) (d : Device) (at n : ℕ) → IsWithin a d at n → size_of (b d) ≡ size_of (a d) → IsWithin b d at n
within_same a b d at n within size = (within.0, size ∙ within.1, within.2)
