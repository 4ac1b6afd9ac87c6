-- The group of a commit, as it is taken into the log and set on the rows.
--     IsGroupTaken      the log has one group more
--     GroupAnswer      when it is refused
--     GroupLeaves      what taking it leaves of the world
use Rattle.std.specs.Prelude.{◌≡◌, ◌⊎◌, ℕ, ◌+◌, ◌<◌, ◌≤◌, Bool, true, false, Result, Ok, Err}
use Rattle.mdb_model.specs.Worlds.{World}
use Rattle.mdb_model.specs.declared.change.Commit.{Commit}
use Rattle.mdb_model.specs.declared.fault.PageFault.{PageFault}
use Rattle.mdb_model.specs.declared.fault.PageFault.TheVariants.{Failed, Damaged}
use Rattle.mdb_host.specs.Disk.{Disk}
use Rattle.redo_ring.specs.declared.ring.Ring.{Ring}
use Rattle.standing.specs.Appending.{with_commit}
use Rattle.standing.specs.WholeStanding.{StandsWhole}
use Rattle.kept_worlds.specs.InService.{AtEachMoment}

-- the log has one group of n bytes more, and all else of it is the same
pub record IsGroupTaken (old new : Ring) (n : ℕ) : Type 0 where
  pub end : new.end_position ≡ old.end_position + n
  pub last : new.last_commit ≡ old.last_commit + 1
  pub size : new.size ≡ old.size
  pub name : new.name ≡ old.name
  pub saved_position : new.saved_position ≡ old.saved_position
  pub saved_commit : new.saved_commit ≡ old.saved_commit

-- a group of n bytes is refused where it, with a closed gate after it, does not fit beside the bytes
-- that are not saved
abbrev pub GroupAnswer : (size unsaved n : ℕ) → Result Bool PageFault → Type 0
GroupAnswer size unsaved n (Ok false) = size < unsaved + n + 1
GroupAnswer size unsaved n _ = unsaved + n + 1 ≤ size

-- At each moment each image stands for the world, or for it with the commit. Once the group is
-- taken the latter is served, and where it is refused the world as before.
abbrev pub GroupLeaves : (old new : Disk) → World → Commit → (serves : World → Type 0)
    → Result Bool PageFault → Type 0
GroupLeaves old new w c serves (Ok true) =
    AtEachMoment old new (λ image. StandsWhole image w ⊎ StandsWhole image (with_commit w c))
    × serves (with_commit w c)
GroupLeaves old new w c serves (Ok false) = serves w
GroupLeaves old new w c serves (Err Failed) =
    AtEachMoment old new (λ image. StandsWhole image w ⊎ StandsWhole image (with_commit w c))
GroupLeaves old new w c serves (Err (Damaged damage)) = ⊥
