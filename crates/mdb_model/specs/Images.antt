-- The devices as bytes.
--     Image      the bytes of each device that is there
--     bytes_of, size_of, byte_at      the bytes of one device, its length, one byte
use Rattle.std.specs.Prelude.{ℕ, List, [], length, get_or, Option, Some, None}
use Rattle.mdb_model.specs.declared.fault.Device.{Device}

-- none where a device is absent
abbrev pub Image : Type 0
Image = Device → Option (List ℕ)

-- the bytes of a device, none where it is absent
abbrev pub bytes_of : Option (List ℕ) → List ℕ
bytes_of None = []
bytes_of (Some bytes) = bytes

-- whether it is there, and how many bytes it has
abbrev pub size_of : Option (List ℕ) → Option ℕ
size_of None = None
size_of (Some bytes) = Some (length bytes)

-- one byte of a device
abbrev pub byte_at : Option (List ℕ) → ℕ → ℕ
byte_at device k = get_or (bytes_of device) k 0
