-- The devices that a database may have, by numbers.
--     device_count      how many they are, and which
--     SyncedUpTo      a crash leaves of the first of them what a read gives
use Rattle.std.specs.Prelude.{ℕ, ◌<◌}
use Rattle.mdb_host.specs.Disk.{Disk, Synced}
use Rattle.mdb_host.specs.Places.{device_at}

-- eight data volumes, the log volume and 99 media
abbrev pub device_count : ℕ
device_count = 108

-- a crash leaves of the first n of them what a read gives
abbrev pub SyncedUpTo : (n : ℕ) → Disk → Type 0
SyncedUpTo n disk = (number : ℕ) → number < n → Synced disk (device_at number)
