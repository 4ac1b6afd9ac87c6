-- A host before its first call.
use Rattle.std.specs.Prelude.{◌≡◌, []}
use Rattle.mdb_model.specs.Images.{Image}
use Rattle.mdb_host.specs.Disk.{Disk, Agree}

-- It holds this image, a crash leaves just this one, and nothing was said.
pub record IsFresh (disk : Disk) (image : Image) : Type 0 where
  pub now : disk.now ≡ 0
  pub seen : Agree image disk.seen
  pub only : (left : Image) → disk.may_leave disk.now left → Agree image left
  pub said : disk.said disk.now ≡ []
