-- Calls on media, beside an area in service.
--     ChangesMedium      nothing but one medium changed
use Rattle.std.specs.Prelude.{ℕ}
use Rattle.mdb_model.specs.declared.fault.Device.TheVariants.{Medium as OnMedium}
use Rattle.mdb_host.specs.Disk.{Disk, AgreeBut, Arrives}

-- nothing but this medium changed, to a read and in each image that a crash now may leave
pub record ChangesMedium (number : ℕ) (old new : Disk) : Type 0 where
  pub seen : AgreeBut (OnMedium number) old.seen new.seen
  pub left : Arrives old new (AgreeBut (OnMedium number))
