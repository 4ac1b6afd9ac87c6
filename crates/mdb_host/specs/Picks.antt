-- What a host in memory has kept, in words of its own.
--     image_at      the image of a moment by a pick
--     host_disk, host_faults, host_say_faults      what it tells as a host
--     reads_of      how often `read` was called
--     fails_of      the numbers of the calls that are to fail
use Rattle.std.specs.Prelude.{ℕ, List, take}
use Rattle.mdb_model.specs.Images.{Image}
use Rattle.mdb_host.specs.Disk.{Disk}
use Rattle.mdb_host.specs.Memory.{image_of, disk_of, picked}
use Rattle.mdb_host.specs.declared.memory.MemHost.{MemHost}

-- each range that is not synced at that moment holds what its digit of the pick says, all else what
-- a read gave then
abbrev pub image_at : MemHost → ℕ → ℕ → Image
image_at host at pick = picked pick 0 (take at host.calls.items) (image_of host.start.slots.items)

abbrev pub host_disk : MemHost → Disk
host_disk host = disk_of (image_of host.start.slots.items) host.calls.items

abbrev pub host_faults : MemHost → ℕ
host_faults host = host.faults

abbrev pub host_say_faults : MemHost → ℕ
host_say_faults host = host.say_faults

abbrev pub reads_of : MemHost → ℕ
reads_of host = host.reads

abbrev pub fails_of : MemHost → List ℕ
fails_of host = host.plan.fails.items
