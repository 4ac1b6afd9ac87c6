-- Bytes at a place of a device.
use Rattle.std.proofs.Common.{◌≡◌, ◌∙◌, ◌<◌, ℕ, ◌+◌, ◌≤◌, List, ◌++◌, length, take, drop, get_or, refl, sym, ap, arith, length-append, Option, Some, None, nat_le}
use Rattle.std.proofs.lemmas.List.{length-take-le, get_or_append_left, get_or-append-add, get_or-take, get_or-drop}
use Rattle.std.proofs.lemmas.Bool.{cond-true, le-leb}
use Rattle.mdb_model.specs.declared.fault.Device.{Device}
use Rattle.mdb_model.specs.Images.{Image, size_of, byte_at, bytes_of}
use Rattle.mdb_host.specs.Disk.{Has}
use Rattle.mdb_host.specs.Memory.{written_over}

pub over_fits : (at : ℕ) (bytes old : List ℕ) (o : Option (List ℕ)) → o ≡ Some old → at + length bytes ≤ length old → written_over at bytes o ≡ Some (take at old ++ bytes ++ drop (at + length bytes) old)
over_fits at bytes old o is fits = ap (written_over at bytes) is ∙ cond-true (nat_le (at + length bytes) (length old)) (Some (take at old ++ bytes ++ drop (at + length bytes) old)) (Some old) (le-leb (at + length bytes) (length old) fits)

pub over_has : (at : ℕ) (bytes : List ℕ) (o : Option (List ℕ)) (size : ℕ) → size_of o ≡ Some size → at + length bytes ≤ size → (i : ℕ) → i < length bytes → byte_at (written_over at bytes o) (at + i) ≡ get_or bytes i 0
over_has at bytes None size is le i lt = cc
over_has at bytes (Some old) size is le i lt =
    let e : length old ≡ size = cc in
    let fits : at + length bytes ≤ length old = omega (arith, e, le) in
    let len : length (take at old) ≡ at = length-take-le at old (omega (arith, fits)) in
    let j : at + i ≡ length (take at old) + i = omega (arith, len) in
    ap (λ o. byte_at o (at + i)) (over_fits at bytes old (Some old) refl fits)
    ∙ get_or_append_left (take at old ++ bytes) (drop (at + length bytes) old) 0 (at + i) (omega (arith, length-append (take at old) bytes, len))
    ∙ ap (λ (k : ℕ). get_or (take at old ++ bytes) k 0) j ∙ get_or-append-add (take at old) bytes i 0

-- a buffer filled from a device has what is there
pub filled_has : (seen held : Image) (d : Device) (at n : ℕ) (into : List ℕ) → held ≡ seen → length into ≡ n → into ≡ take n (drop at (bytes_of (held d))) → Has seen d at into
filled_has seen held d at n into same len is i lt =
    let old = bytes_of (held d) in
    let there : byte_at (held d) (at + i) ≡ get_or into i 0 = sym (ap (λ (l : List ℕ). get_or l i 0) is ∙ get_or-take n (drop at old) i 0 (omega (arith, lt, len)) ∙ get_or-drop at old i 0) in
    ap (λ (image : Image). byte_at (image d) (at + i)) (sym same) ∙ there
