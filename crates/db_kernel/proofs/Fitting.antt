-- A kernel and the worlds that it fits, for whoever does not look into what that is.
--     fits_off, fits_in, fits_out      one that is off fits worlds that are off; what it is to fit them
--     sound_off, sound_some, sound_of      one that is off is in order; what it is to be in order
--     is_off      one whose worlds are off is off
--     rows_still, fits_still, sound_still      where the devices stay, it has the same rows, goes on fitting, and is in order
--     stays_refused      a line that is refused, and ties nothing
use Rattle.std.proofs.Common.{◌≡◌, inl, refl, sym, ap, subst, ◌∙◌, List, ◌∷◌, [], All, Option, Some, None}
use Rattle.std.proofs.lemmas.List.Elements.{All-head}
use Rattle.mdb_host.proofs.Moments.{same_image}
use Rattle.mdb_host.specs.Disk.{Disk}
use Rattle.mdb_model.specs.Answers.{Answer}
use Rattle.mdb_model.specs.Images.{Image}
use Rattle.mdb_model.specs.Runs.{Line, Entry}
use Rattle.mdb_model.specs.Worlds.{World, off}
use Rattle.mdb_model.specs.declared.name.Session.{Session}
use Rattle.mdb_model.specs.declared.name.State.TheVariants.{Offline}
use Rattle.session_rows.specs.Scan.{seen_rows}
use Rattle.store_rows.specs.StoredRows.{stored_rows}
use Rattle.open_database.specs.declared.database.Access.{Access}
use Rattle.open_database.specs.declared.database.Access.TheVariants.{Admin, Online}
use Rattle.open_database.specs.declared.database.Database.{Database}
use Rattle.open_database.specs.Outside.{page_reading, StandsFor, TiesNothing}
use Rattle.open_database.specs.Serving.{AreOff, IsSoundDatabase, open_state}
use Rattle.open_database.specs.Stretch.{IsStill, LeavesOnly, Completes, StandsForOneOf}
use Rattle.open_database.proofs.Stretches.{does_moments, moments_still, ties_none}
use Rattle.db_kernel.specs.Kept.{FitsWorlds, IsSoundKernel, HasWorlds, scanned_rows}
use Rattle.live_area.proofs.StillServing.{serves_of_saying}
use Rattle.db_kernel.proofs.Telling.{area_still}

pub fits_off : (disk : Disk) (ws : List World) → AreOff ws → FitsWorlds None disk ws
unfolding FitsWorlds
fits_off disk ws off = off

pub fits_in : (database : Option Database) (disk : Disk) (ws : List World) → HasWorlds database disk ws → FitsWorlds database disk ws
unfolding FitsWorlds
fits_in database disk ws fit = fit

pub fits_out : (database : Option Database) (disk : Disk) (ws : List World) → FitsWorlds database disk ws → HasWorlds database disk ws
unfolding FitsWorlds
fits_out database disk ws fit = fit

pub sound_off : (tells : Type 0) (disk : Disk) → IsSoundKernel tells None disk
unfolding IsSoundKernel
sound_off tells disk = tt

pub sound_some : (tells : Type 0) (database : Database) (disk : Disk) → IsSoundDatabase tells database disk → IsSoundKernel tells (Some database) disk
unfolding IsSoundKernel
sound_some tells database disk sound = sound

pub sound_of : (tells : Type 0) (database : Database) (disk : Disk) → IsSoundKernel tells (Some database) disk → IsSoundDatabase tells database disk
unfolding IsSoundKernel
sound_of tells database disk sound = sound

never_off : (access : Access) → open_state access ≡ Offline → ⊥
never_off Admin is = cc
never_off Online is = cc

pub is_off : (database : Option Database) (disk : Disk) (ws : List World) → FitsWorlds database disk ws → All (λ v. v.state ≡ Offline) ws → database ≡ None
unfolding FitsWorlds
is_off None disk ws fit all = refl
is_off (Some database) disk ws fit all =
    absurd (never_off database.access (sym fit.serves.state ∙ All-head (λ v. v.state ≡ Offline) fit.w [] (subst (λ (vs : List World). All (λ v. v.state ≡ Offline) vs) fit.is all)))

-- Where the devices stay as they are
module _ (old new : Disk) (still : IsStill old new) where
  same_seen : old.seen ≡ new.seen
  same_seen = same_image old.seen new.seen still.seen

  pub rows_still : (database : Option Database) (session : Session) → scanned_rows database new session ≡ scanned_rows database old session
  rows_still None session = refl
  rows_still (Some database) session = ap (λ (seen : Image). seen_rows (stored_rows database.area.store seen) database.transactions session.0) (sym same_seen)

pub fits_still : (database : Option Database) (old new : Disk) (ws : List World) → FitsWorlds database old ws → IsStill old new → FitsWorlds database new ws
unfolding FitsWorlds
fits_still None old new ws fit still = fit
fits_still (Some database) old new ws fit still = record {
  w = fit.w;
  is = fit.is;
  serves = record {
    area = serves_of_saying (Unit {0}) database.area.in_force.slots database.area.in_force.record database.area.store database.area.ring old new still.seen still.left (off fit.w) fit.serves.area;
    state = fit.serves.state;
    alone = fit.serves.alone;
    no_savepoint = fit.serves.no_savepoint;
    no_backup = fit.serves.no_backup;
    keys = fit.serves.keys;
    matches = fit.serves.matches;
    most = fit.serves.most;
    counted = fit.serves.counted;
  };
}

pub sound_still : (tells : Type 0) (database : Option Database) (old new : Disk) → IsSoundKernel tells database old → (tells → IsStill old new) → IsSoundKernel tells database new
unfolding IsSoundKernel
sound_still tells None old new sound still = tt
sound_still tells (Some database) old new sound still =
    record { area = area_still tells database.area.in_force.slots database.area.in_force.record database.area.store database.area.ring old new sound.area still; blocks = sound.blocks; birth = sound.birth; generation = sound.generation }

-- a line that is refused, and ties nothing
pub stays_refused : (disk : Disk) (ws : List World) (line : Line) (answer : Answer) (fits : List World → Type 0) → TiesNothing line answer.reply
    → Entry page_reading ws line answer ws → fits ws → LeavesOnly page_reading StandsFor disk ws → Completes page_reading StandsFor disk disk ws line answer fits
stays_refused disk ws line answer fits ties entry fit stand = record {
  after = ws;
  does = does_moments disk disk ws line answer ws (StandsForOneOf ws) (moments_still disk (StandsForOneOf ws) stand)
      (λ image s. (off s.0, s.2, (s.0, s.1, inl refl))) entry stand
      (ties_none disk disk ws line answer ws ties);
  fit = fit;
}
