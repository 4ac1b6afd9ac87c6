-- The ring: the log volume after its first two pages, by positions that never fall.
--     ring_byte      the byte at a position
--     HasRing      the log volume has a ring of so many bytes
--     IsRingSize      the sizes that a ring may have
--     ring_size      that of a log volume
--     page_at      the page of the log volume that a position lies on
use Rattle.std.specs.Prelude.{◌≡◌, ℕ, ◌+◌, ◌-◌, ◌*◌, ◌/◌, ◌%◌, ◌≤◌, Some}
use Rattle.mdb_model.specs.declared.fault.Device.TheVariants.{Log}
use Rattle.mdb_model.specs.Images.{Image, size_of, byte_at}

abbrev pub ring_byte : (size : ℕ) → Image → (position : ℕ) → ℕ
ring_byte size image position = byte_at (image Log) (16384 + position % size)

abbrev pub HasRing : (size : ℕ) → Image → Type 0
HasRing size image = size_of (image Log) ≡ Some (16384 + size)

-- a log volume has 4 to 65,536 pages of 8,192 bytes, two of which are no part of the ring
pub record IsRingSize (size : ℕ) : Type 0 where
  pub pages : ℕ
  pub is : size ≡ pages * 8192
  pub least : 2 ≤ pages
  pub most : pages ≤ 65534

-- the bytes of the ring of a log volume of so many pages
abbrev pub ring_size : (pages : ℕ) → ℕ
ring_size pages = (pages - 2) * 8192

abbrev pub page_at : (size position : ℕ) → ℕ
page_at size position = 2 + position % size / 8192
