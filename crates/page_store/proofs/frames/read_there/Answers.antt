use Rattle.std.proofs.Common.{◌≡◌, ◌*◌, ◌<◌, ℕ, List, length, sym, subst, arith}
use Rattle.mdb_host.specs.Disk.{Has}
use Rattle.mdb_model.specs.Images.{Image}
use Rattle.mdb_model.specs.declared.fault.Device.{Device}
use Rattle.mdb_model.specs.declared.fault.Device.TheVariants.{Data}
use Rattle.volume_disk.specs.Blocks.{place, block_at, IsArea}
use Rattle.std.specs.Prelude.{sum}
use Rattle.volume_disk.proofs.Pages.{has_block}
use Rattle.page_store.proofs.frames.read_there.Goals as goal

block_read : (sizes : List ℕ) (seen : Image) (b at : ℕ) (d : Device) (bytes : List ℕ) → b < sum sizes → IsArea sizes seen → length bytes ≡ 8192 → d ≡ Data (place 1 sizes b).0 → at ≡ 8192 * (place 1 sizes b).1
    → Has seen d at bytes → bytes ≡ block_at sizes seen b
block_read sizes seen b at d bytes lt area long device start has =
    sym (has_block sizes seen b bytes lt area long (subst (λ (x : Device). Has seen x (8192 * (place 1 sizes b).1) bytes) device (subst (λ (n : ℕ). Has seen d n bytes) start has)))

pub returns-clause-bytes : goal.returns-clause-bytes
returns-clause-bytes g c told area =
    let at = c.in_ok-device.ensures.place in
    let long : length c.read.new.into ≡ 8192 = omega arith in
    block_read c.args.volumes.now (g.H.Host.disk c.args.host.now).seen c.args.block c.in_ok-device.at c.in_ok-device.device c.read.new.into c.requires area long at.0 at.1 (c.in-Ok.ensures.bytes told)
