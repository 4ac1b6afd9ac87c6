-- From stage to stage of the making.
--     area_of      new devices are an area
--     all_written      they have the first pages in each image
--     log_within, data_within      the slots have room
use Rattle.std.proofs.Common.{◌≡◌, ◌∙◌, sym, ap, subst, ℕ, ◌*◌, ◌≤◌, length, get_or, Some, List, arith}
use Rattle.mdb_model.specs.declared.fault.Device.TheVariants.{Data, Log}
use Rattle.mdb_model.specs.Images.{Image, size_of}
use Rattle.mdb_host.specs.Disk.{Disk, Goes, IsWithin}
use Rattle.volume_disk.specs.Blocks.{IsArea, Writes}
use Rattle.creation.specs.Making.{Each, HasZeroVolumes, HasSizes, HasFirstPages, HasAllButRecords}
use Rattle.standing.specs.Standing.{Site, IsSite, AreVolumes}
use Rattle.creation.proofs.Opening.{written_of}
use Rattle.creation.proofs.Zeros.{zeros_len}

-- new devices are an area
pub area_of : (site : Site) (area : List ℕ) → area ≡ site.volumes → (image : Image) → HasZeroVolumes site (length site.volumes) image → IsArea area image
area_of site area is image fresh = subst (λ (v : List ℕ). IsArea v image) (sym is) (λ i inside. (8192 * get_or site.volumes i 0, ap size_of (fresh.volumes i inside) ∙ ap Some (zeros_len (8192 * get_or site.volumes i 0)), omega arith))

-- they have the first pages in each image
pub all_written : (d0 d1 : Disk) (site : Site) (area : List ℕ) → area ≡ site.volumes → AreVolumes site.volumes → Each d0 (HasZeroVolumes site (length site.volumes)) → Goes d0 d1 (Writes area (λ block. 2 ≤ block)) → Each d1 (HasFirstPages area) → Each d1 (HasAllButRecords site)
all_written d0 d1 site area is are fresh goes pages image left =
    let b = goes.since d1.now image goes.keeps.later (omega arith) left in
    written_of site are b.0 image (fresh b.0 b.1)
    (subst (λ (v : List ℕ). Writes v (λ block. 2 ≤ block) b.0 image) is b.2)
    (subst (λ (v : List ℕ). HasFirstPages v image) is (pages image left))

-- the slots have room
pub log_within : (site : Site) (image : Image) → IsSite site → HasSizes site image → IsWithin image Log 0 16384
log_within site image limits sizes = (site.log_pages * 8192, sizes.log, omega (arith, limits.least))

pub data_within : (site : Site) (image : Image) → IsSite site → HasSizes site image → IsWithin image (Data 1) 0 16384
data_within site image limits sizes =
    let first : 64 ≤ get_or site.volumes 0 0 = limits.volumes.each 0 (omega (arith, limits.volumes.some)) in
    (get_or site.volumes 0 0 * 8192, sizes.volumes 0 (omega (arith, limits.volumes.some)), omega (arith, first))
