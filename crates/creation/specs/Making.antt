-- How far a database is made.
--     HasZeroVolumes      the log volume and the first data volumes are there, with zeros
--     HasAllButRecords      and the blocks of the first savepoint are written
--     IsLogged      and the log info
--     Each      each image that a crash may leave now has it
use Rattle.std.specs.Prelude.{◌≡◌, ℕ, ◌+◌, ◌*◌, ◌<◌, ◌≤◌, List, length, get_or, sum, replicate, None, Some}
use Rattle.mdb_model.specs.declared.fault.Device.TheVariants.{Data, Log, Medium}
use Rattle.mdb_model.specs.Images.{Image, size_of, byte_at}
use Rattle.mdb_host.specs.Disk.{Disk}
use Rattle.mdb_bytes.specs.Firsts.{first_log_info, first_block, first_root_block}
use Rattle.gate_slots.specs.declared.body.SlotBody.TheVariants.{Log as LogBody}
use Rattle.gate_slots.specs.Slots.{in_force}
use Rattle.volume_disk.specs.Blocks.{block_at}
use Rattle.standing.specs.Standing.{Site, log_slots}

-- each image that a crash may leave now
abbrev pub Each : Disk → (Image → Type 0) → Type 0
Each disk holds = (image : Image) → disk.may_leave disk.now image → holds image

-- The log volume is there, where it is made, and the first n data volumes, with zero bytes. No
-- other device is.
pub record HasZeroVolumes (site : Site) (n : ℕ) (image : Image) : Type 0 where
  pub log : image Log ≡ Some (replicate (8192 * site.log_pages) 0)
  pub volumes : (i : ℕ) → i < n → image (Data (i + 1))
      ≡ Some (replicate (8192 * get_or site.volumes i 0) 0)
  pub absent : (i : ℕ) → n ≤ i → i < 8 → image (Data (i + 1)) ≡ None
  pub media : (medium : ℕ) → 1 ≤ medium → medium ≤ 99 → image (Medium medium) ≡ None

-- no device of a database is there
pub record IsEmpty (image : Image) : Type 0 where
  pub log : image Log ≡ None
  pub volumes : (i : ℕ) → i < 8 → image (Data (i + 1)) ≡ None
  pub media : (medium : ℕ) → 1 ≤ medium → medium ≤ 99 → image (Medium medium) ≡ None

-- the devices have their sizes, and no medium is there
pub record HasSizes (site : Site) (image : Image) : Type 0 where
  pub volumes : (i : ℕ) → i < length site.volumes
      → size_of (image (Data (i + 1))) ≡ Some (get_or site.volumes i 0 * 8192)
  pub log : size_of (image Log) ≡ Some (site.log_pages * 8192)
  pub media : (medium : ℕ) → 1 ≤ medium → medium ≤ 99 → image (Medium medium) ≡ None

-- the blocks of the first savepoint are as they are to be
abbrev pub HasFirstPages : (volumes : List ℕ) → Image → Type 0
HasFirstPages volumes image =
    (block : ℕ) → 2 ≤ block → block ≤ first_root_block (sum volumes)
    → block_at volumes image block ≡ first_block (sum volumes) block

-- all but the records: the slots of both have zero bytes, and so has the log
pub record HasAllButRecords (site : Site) (image : Image) : Type 0 where
  pub sizes : HasSizes site image
  pub log : (k : ℕ) → byte_at (image Log) k ≡ 0
  pub slots : (k : ℕ) → k < 16384 → byte_at (image (Data 1)) k ≡ 0
  pub pages : HasFirstPages site.volumes image

-- all but the restart record
pub record IsLogged (site : Site) (image : Image) : Type 0 where
  pub sizes : HasSizes site image
  pub log : (k : ℕ) → 16384 ≤ k → byte_at (image Log) k ≡ 0
  pub log_info : in_force image log_slots
      ≡ Some (LogBody (first_log_info site.birth site.log_pages))
  pub slots : (k : ℕ) → k < 16384 → byte_at (image (Data 1)) k ≡ 0
  pub pages : HasFirstPages site.volumes image
