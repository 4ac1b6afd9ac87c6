-- The data volumes as one row of blocks.
--     place      the volume and the page of a block
--     device_page, block_at      the bytes of a page and of a block
--     IsArea      the volumes are there with their sizes
--     Writes      the blocks of a set hold anything, all else is as before
--     IsDurable, AreVolumesDurable      a crash leaves of each block, of each of the first volumes,
--         what a read gives
--     IsCounted      what is kept of the sizes
use Rattle.std.specs.Prelude.{◌≡◌, ℕ, ◌+◌, ◌-◌, ◌*◌, ◌<◌, ◌≤◌, List, [], ◌∷◌, if◌then◌else◌}
use Rattle.std.specs.Prelude.{length, take, drop, get_or, sum, nat_lt}
use Rattle.mdb_model.specs.declared.fault.Device.{Device}
use Rattle.mdb_model.specs.declared.fault.Device.TheVariants.{Data}
use Rattle.mdb_model.specs.Images.{Image, bytes_of, byte_at}
use Rattle.mdb_host.specs.Disk.{Disk, SameSizes, IsWithin}

-- how many blocks the volumes have together, and how many they may have
pub record IsCounted (sizes : List ℕ) (blocks : ℕ) : Type 0 where
  pub blocks_is : blocks ≡ sum sizes
  pub bound : sum sizes ≤ 65536
  pub volumes : length sizes ≤ 8

-- the volume of a block, counted from v on, and the page there
abbrev pub place : ℕ → List ℕ → ℕ → ℕ × ℕ
place v [] b = (v, b)
place v (n ∷ ns) b = if nat_lt b n then (v, b) else place (v + 1) ns (b - n)

-- the bytes of a page of a device
unfoldable pub device_page : Image → Device → ℕ → List ℕ
device_page image d p = take 8192 (drop (8192 * p) (bytes_of (image d)))

-- the bytes of a block
abbrev pub block_at : List ℕ → Image → ℕ → List ℕ
block_at sizes image b = device_page image (Data (place 1 sizes b).0) (place 1 sizes b).1

-- each volume is there with as many pages as its size says, or more
abbrev pub IsArea : List ℕ → Image → Type 0
IsArea sizes image =
    (i : ℕ) → i < length sizes → IsWithin image (Data (i + 1)) 0 (8192 * get_or sizes i 0)

-- The blocks of a set hold anything. Every other block, all that the volumes have past their
-- blocks, every other device and all sizes are as before.
pub record Writes (sizes : List ℕ) (set : ℕ → Type 0) (old new : Image) : Type 0 where
  pub others : (e : Device) → ((i : ℕ) → i < length sizes → e ≡ Data (i + 1) → ⊥) → new e ≡ old e
  pub same_sizes : SameSizes old new
  pub outside : (b : ℕ) → b < sum sizes → (set b → ⊥) → block_at sizes new b ≡ block_at sizes old b
  pub past : (i k : ℕ) → i < length sizes → 8192 * get_or sizes i 0 ≤ k
      → byte_at (new (Data (i + 1))) k ≡ byte_at (old (Data (i + 1))) k

-- a crash now leaves of each block what a read gives
abbrev pub IsDurable : List ℕ → Disk → Type 0
IsDurable sizes disk =
    (image : Image) → disk.may_leave disk.now image → (b : ℕ) → b < sum sizes
    → block_at sizes image b ≡ block_at sizes disk.seen b

-- a crash now leaves of the first n volumes what a read gives
abbrev pub AreVolumesDurable : ℕ → Disk → Type 0
AreVolumesDurable n disk =
    (image : Image) → disk.may_leave disk.now image → (k : ℕ) → k < n
    → image (Data (k + 1)) ≡ disk.seen (Data (k + 1))
