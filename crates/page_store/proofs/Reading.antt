-- Blocks that are read.
use Rattle.std.proofs.Common.{◌≡◌, ℕ, ◌+◌, ◌*◌, ◌/◌, ◌≤◌, List, length, Option, Some, None, arith}
use Rattle.std.proofs.lemmas.Option.{same_Some}
use Rattle.mdb_model.specs.declared.fault.Device.{Device}
use Rattle.mdb_model.specs.Images.{Image, size_of}
use Rattle.mdb_host.specs.Disk.{IsWithin, page_count}

-- a device with a range has pages
pub none_within : (image : Image) (d : Device) (at n : ℕ) → IsWithin image d at n → page_count (image d) ≡ None → ⊥
none_within image d at n within none = lacks (image d) within.0 within.1 none
  where
    lacks : (x : Option (List ℕ)) (size : ℕ) → size_of x ≡ Some size → page_count x ≡ None → ⊥
    lacks None size is none = cc
    lacks (Some bytes) size is none = cc

-- and with a page more than its number
pub short_within : (image : Image) (d : Device) (page pages : ℕ) → IsWithin image d (8192 * page) 8192 → page_count (image d) ≡ Some pages → pages ≤ page → ⊥
short_within image d page pages within is le = short (image d) within.0 within.1 within.2 is
  where
    short : (x : Option (List ℕ)) (size : ℕ) → size_of x ≡ Some size → 8192 * page + 8192 ≤ size → page_count x ≡ Some pages → ⊥
    short None size is far has = cc
    short (Some bytes) size is far has = omega (arith, same_Some (length bytes) size is, far, same_Some (length bytes / 8192) pages has, le)
