-- Devices and pages of zeros.
--     zeros_at      a byte of zeros
--     byte_of_page      a byte of a page
use Rattle.std.proofs.Common.{◌≡◌, refl, ap, ◌∙◌, ℕ, zero, suc, ◌+◌, ◌*◌, ◌<◌, List, get_or, length, replicate, drop, Option, Some, arith}
use Rattle.std.proofs.lemmas.List.{get_or-take, get_or-drop}
use Rattle.mdb_model.specs.declared.fault.Device.{Device}
use Rattle.mdb_model.specs.Images.{Image, bytes_of, byte_at}
use Rattle.volume_disk.specs.Blocks.{device_page}

-- a byte of zeros
pub zeros_at : (n k : ℕ) → get_or (replicate n zero) k zero ≡ zero
zeros_at zero k = refl
zeros_at (suc n) zero = refl
zeros_at (suc n) (suc k) = zeros_at n k

pub zeros_device : (o : Option (List ℕ)) (n k : ℕ) → o ≡ Some (replicate n 0) → byte_at o k ≡ 0
zeros_device o n k is = ap (λ (x : Option (List ℕ)). byte_at x k) is ∙ zeros_at n k

pub zeros_len : (n : ℕ) → length (replicate n zero) ≡ n
zeros_len zero = refl
zeros_len (suc n) = omega (arith, zeros_len n, longer n)
  where
    longer : (n : ℕ) → length (replicate (suc n) zero) ≡ suc (length (replicate n zero))
    longer n = refl

-- a byte of a page
pub byte_of_page : (image : Image) (d : Device) (p k : ℕ) → k < 8192 → get_or (device_page image d p) k 0 ≡ byte_at (image d) (8192 * p + k)
unfolding device_page
byte_of_page image d p k small = get_or-take 8192 (drop (8192 * p) (bytes_of (image d))) k 0 small ∙ get_or-drop (8192 * p) (bytes_of (image d)) k 0
