-- A blank medium that comes to be or goes, as images show it.
--     blank_medium      a medium of so many pages that holds nothing
--     with_medium, without_medium      a world with a blank medium more, and with one less
--     MediumComes, MediumGoes      an image that has the medium besides; one that has it no more
--     BlankChanges      a medium changed that holds nothing before and after
use Rattle.std.specs.Prelude.{◌≡◌, ℕ, ◌*◌, replicate, None, Some}
use Rattle.std.specs.FinMap.{insert, remove}
use Rattle.mdb_model.specs.declared.fault.Device.TheVariants.{Medium as OnMedium}
use Rattle.mdb_model.specs.Backups.{Medium}
use Rattle.mdb_model.specs.Images.{Image}
use Rattle.mdb_model.specs.Worlds.{World}
use Rattle.mdb_host.specs.Disk.{AgreeBut}
use Rattle.standing.specs.Looks.{open_medium}

-- a medium of so many pages that holds nothing
abbrev pub blank_medium : ℕ → Medium
blank_medium pages = record { pages = pages; holds = None }

-- a world with a blank medium more
abbrev pub with_medium : World → (number pages : ℕ) → World
with_medium w number pages = record w { media = insert w.media number (blank_medium pages) }

-- a world with a medium less
abbrev pub without_medium : World → (number : ℕ) → World
without_medium w number = record w { media = remove w.media number }

-- the medium was not there, and is there with zero bytes; all else is as before
pub record MediumComes (number pages : ℕ) (old new : Image) : Type 0 where
  pub others : AgreeBut (OnMedium number) old new
  pub absent : old (OnMedium number) ≡ None
  pub here : new (OnMedium number) ≡ Some (replicate (8192 * pages) 0)

-- the medium was there with a closed gate, and is there no more; all else is as before
pub record MediumGoes (number : ℕ) (old new : Image) : Type 0 where
  pub others : AgreeBut (OnMedium number) old new
  pub blank : open_medium old number ≡ None
  pub gone : new (OnMedium number) ≡ None

-- a medium that holds nothing before and after may have changed; all else is as before
pub record BlankChanges (number : ℕ) (old new : Image) : Type 0 where
  pub others : AgreeBut (OnMedium number) old new
  pub was : open_medium old number ≡ None
  pub is : open_medium new number ≡ None
