-- The next row of an open scan, as the kernel gives it.
--     row_read, end_read, read_failed      of an open database
--     none_read      of a kernel that is off
--     row_takes, fault_takes      what it keeps
use Rattle.std.proofs.Common.{◌≡◌, inl, refl, sym, ap, subst, ℕ, ◌≤◌, List, [], ◌∷◌, Bool, true, false, Contains, Option, Some, None, Result, Ok, Err, arith}
use Rattle.std.specs.FinMap.{empty, get-empty}
use Rattle.mdb_host.specs.Disk.{Disk, Keeps}
use Rattle.mdb_bytes.proofs.NextRow.{none_is}
use Rattle.mdb_model.specs.Images.{Image}
use Rattle.mdb_model.specs.Tables.{place_cmp}
use Rattle.mdb_model.specs.Worlds.{World, off}
use Rattle.mdb_model.specs.Causes.{Rose}
use Rattle.mdb_model.specs.declared.fault.PageFault.{PageFault}
use Rattle.mdb_model.specs.declared.fault.PageFault.TheVariants.{Failed, Damaged}
use Rattle.mdb_model.specs.declared.script.Next.{Next}
use Rattle.mdb_model.specs.declared.name.Session.{Session}
use Rattle.mdb_model.specs.declared.name.Table.{Table}
use Rattle.mdb_model.specs.declared.script.Next.TheVariants.{Row, End, Fault}
use Rattle.mdb_model.specs.declared.script.Reply.TheVariants.{Refused}
use Rattle.open_database.specs.declared.database.Database.{Database}
use Rattle.open_database.specs.Outside.{page_reading, StandsFor}
use Rattle.open_database.specs.Scanning.{ReadsRow as DatabaseReads}
use Rattle.open_database.specs.Serving.{FitsOpen, IsSoundDatabase, greatest_number}
use Rattle.open_database.specs.Stretch.{LeavesOnly, StandsForOneOf}
use Rattle.open_database.proofs.Stretches.{only, moments_still}
use Rattle.db_kernel.specs.Kept.{FitsWorlds, page_refusal}
use Rattle.db_kernel.specs.Scanning.{FaultHasCause, TakesRow, IsGiven, ReadsRow}
use Rattle.db_kernel.proofs.Fitting.{fits_in, fits_out, sound_off, sound_some}
use Rattle.db_kernel.proofs.Telling.{fits_told}

-- of worlds that a database fits, as the host tells it
pub fit_told : (tells : Type 0) → tells → (database : Database) (d : Disk) (ws : List World) → FitsWorlds (Some database) d ws → FitsOpen tells database d ws
fit_told tells told database d ws fit = fits_told (Unit {0}) tells tt told database d ws (fits_out (Some database) d ws fit)

module _ (tells : Type 0) (told : tells) (d0 d1 : Disk) (ws : List World) (old new : Database) (session : Session) (table : Table) (from key value : List ℕ) (fit : FitsOpen tells old d0 ws) where
  one : (image : Image) → StandsFor image (off fit.w) → StandsForOneOf ws image
  one image stands = (fit.w, subst (λ (vs : List World). Contains vs fit.w) (sym fit.is) (only fit.w), stands)

  fits_after : FitsOpen tells new d1 ws → FitsWorlds (Some new) d1 ws
  fits_after after = fits_in (Some new) d1 ws (fits_told tells (Unit {0}) told tt new d1 ws after)

  pub row_read : DatabaseReads tells d0 d1 fit.w ws old new session table from key value (Ok true) → ReadsRow d0 d1 ws (Some old) (Some new) session table from key value Row
  row_read r = record {
    quiet = r.quiet;
    stand = λ t image since upto left. one image (r.stand t image since upto left);
    is_next = r.is_next;
    fit = λ given. fits_after r.fit;
    same = λ given. r.same;
  }

  pub end_read : DatabaseReads tells d0 d1 fit.w ws old new session table from key value (Ok false) → ReadsRow d0 d1 ws (Some old) (Some new) session table from key value End
  end_read r = record {
    quiet = r.quiet;
    stand = λ t image since upto left. one image (r.stand t image since upto left);
    is_next = r.is_next;
    fit = λ given. fits_after r.fit;
    same = λ given. r.same;
  }

  pub read_failed : (fault : PageFault) → DatabaseReads tells d0 d1 fit.w ws old new session table from key value (Err fault) → ReadsRow d0 d1 ws (Some old) None session table from key value (Fault (Refused (page_refusal fault)))
  read_failed fault r = record {
    quiet = r.quiet;
    stand = λ t image since upto left. one image (r.stand t image since upto left);
    is_next = ap (λ (f : PageFault). Refused (page_refusal f)) r.whole;
    fit = λ given. absurd given;
    same = λ given. absurd given;
  }

pub none_read : (disk : Disk) (ws : List World) (session : Session) (table : Table) (from key value : List ℕ) → FitsWorlds None disk ws → LeavesOnly page_reading StandsFor disk ws
    → ReadsRow disk disk ws None None session table from key value End
none_read disk ws session table from key value fit stand =
    let still = moments_still disk (StandsForOneOf ws) stand in
    record {
      quiet = still.quiet;
      stand = still.each;
      is_next = none_is empty table.0 from (λ other later. get-empty place_cmp (table.0, other));
      fit = λ given. fit;
      same = λ given. refl;
    }

-- What a row keeps

pub row_takes : (tells : Type 0) (d0 d1 : Disk) (f0 f1 : ℕ) (old new : Database) (next : Next) → IsGiven next → IsSoundDatabase tells new d1 → greatest_number new ≡ greatest_number old → (tells → Keeps d0 d1) → f0 ≤ f1
    → TakesRow tells d0 d1 f0 f1 (Some old) (Some new) next
row_takes tells d0 d1 f0 f1 old new next given sound numbers keeps later = record {
  sound = sound_some tells new d1 sound;
  numbers = omega (arith, numbers);
  keeps = keeps;
  later = later;
  cause = no_cause next given;
}
  where
    no_cause : (next : Next) → IsGiven next → FaultHasCause f0 f1 (Some new) next
    no_cause Row given = tt
    no_cause End given = tt
    no_cause (Fault reply) given = absurd given

pub fault_takes : (tells : Type 0) (d0 d1 : Disk) (f0 f1 : ℕ) (old : Option Database) (fault : PageFault) → (tells → Keeps d0 d1) → f0 ≤ f1 → (fault ≡ Failed → Rose f0 f1)
    → TakesRow tells d0 d1 f0 f1 old None (Fault (Refused (page_refusal fault)))
fault_takes tells d0 d1 f0 f1 old fault keeps later rose = record {
  sound = sound_off tells d1;
  numbers = omega arith;
  keeps = keeps;
  later = later;
  cause = of_fault fault rose;
}
  where
    of_fault : (fault : PageFault) → (fault ≡ Failed → Rose f0 f1) → FaultHasCause f0 f1 None (Fault (Refused (page_refusal fault)))
    of_fault Failed rose = (rose refl, refl)
    of_fault (Damaged damage) rose = refl
