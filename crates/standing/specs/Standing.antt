-- What the creation of a database leaves.
--     Creation      what a database is named and how large it is
--     at_rest      a world that is off, of these commits
--     Site      what a database was created with
--     AreVolumes, IsSite      the limits of it
--     HasRecords      the devices are there, with what the creation wrote on them
--     IsNew      and no commit stands in the log yet
use Rattle.std.specs.Prelude.{◌≡◌, ◌≢◌, ℕ, ◌+◌, ◌*◌, ◌^◌, ◌<◌, ◌≤◌, List, length, get_or, sum, None, Some}
use Rattle.mdb_model.specs.declared.change.Commit.{Commit}
use Rattle.mdb_model.specs.declared.fault.Device.TheVariants.{Data, Log, Medium}
use Rattle.mdb_model.specs.declared.name.Name.{Name}
use Rattle.mdb_model.specs.Images.{Image, size_of}
use Rattle.mdb_model.specs.History.{no_history}
use Rattle.mdb_model.specs.Worlds.{World, created}
use Rattle.mdb_bytes.specs.Firsts.{first_name, first_restart, first_log_info, first_block, first_root_block}
use Rattle.mdb_bytes.specs.Groups.{open_gate}
use Rattle.mdb_bytes.specs.Rings.{ring_byte, ring_size}
use Rattle.gate_slots.specs.declared.body.SlotBody.TheVariants.{Restart, Log as LogBody}
use Rattle.gate_slots.specs.declared.place.SlotPlace.{SlotPlace}
use Rattle.gate_slots.specs.Slots.{in_force}
use Rattle.volume_disk.specs.Blocks.{block_at}

-- its name, the blocks of its data area and the bytes of its ring
pub record Creation : Type 0 where
  pub name : Name
  pub blocks : ℕ
  pub ring : ℕ

abbrev pub at_rest : Creation → List Commit → World
at_rest made commits =
    record (created made.name.birth made.blocks made.ring)
    { name = made.name; history = record no_history { commits = commits } }

-- its birth, the blocks of each data volume and the pages of the log volume
pub record Site : Type 0 where
  pub birth : ℕ
  pub volumes : List ℕ
  pub log_pages : ℕ

abbrev pub ring_of : Site → ℕ
ring_of site = ring_size site.log_pages

abbrev pub creation_at : Site → Creation
creation_at site =
    record { name = first_name site.birth; blocks = sum site.volumes; ring = ring_of site }

-- what the volumes of a data area have: 1 to 8 of at least 64 blocks each, 512 to 65,536 together
pub record AreVolumes (volumes : List ℕ) : Type 0 where
  pub some : 1 ≤ length volumes
  pub few : length volumes ≤ 8
  pub each : (i : ℕ) → i < length volumes → 64 ≤ get_or volumes i 0
  pub least : 512 ≤ sum volumes
  pub most : sum volumes ≤ 65536

-- the limits that a database is created within
pub record IsSite (site : Site) : Type 0 where
  pub low : 1 ≤ site.birth
  pub high : site.birth < 2 ^ 61
  pub volumes : AreVolumes site.volumes
  pub least : 4 ≤ site.log_pages
  pub most : site.log_pages ≤ 65536

-- the two slots of the restart record, in the first data volume, and those of the log info, in the
-- log volume
abbrev pub data_slots : SlotPlace
data_slots = record { device = Data 1; page = 0 }

abbrev pub log_slots : SlotPlace
log_slots = record { device = Log; page = 0 }

-- The data volumes and the log volume are there with their sizes, and no medium is. The records in
-- force and the blocks of the first savepoint are as the creation wrote them.
pub record HasRecords (site : Site) (image : Image) : Type 0 where
  pub limits : IsSite site
  pub volumes : (i : ℕ) → i < length site.volumes
      → size_of (image (Data (i + 1))) ≡ Some (get_or site.volumes i 0 * 8192)
  pub log : size_of (image Log) ≡ Some (site.log_pages * 8192)
  pub media : (medium : ℕ) → 1 ≤ medium → medium ≤ 99 → image (Medium medium) ≡ None
  pub restart : in_force image data_slots ≡ Some (Restart (first_restart site.birth site.volumes))
  pub log_info : in_force image log_slots
      ≡ Some (LogBody (first_log_info site.birth site.log_pages))
  pub pages : (block : ℕ) → 2 ≤ block → block ≤ first_root_block (sum site.volumes)
      → block_at site.volumes image block ≡ first_block (sum site.volumes) block

-- a new database: the log begins with no open gate
pub record IsNew (site : Site) (image : Image) : Type 0 where
  pub records : HasRecords site image
  pub log : ring_byte (ring_of site) image 0 ≢ open_gate
