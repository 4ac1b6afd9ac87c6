-- A kernel that is off: its lines as they are done, a restart among them.
--     off_still      a line that calls no device
--     opening_done, opening_failed, opening_starved, opening_ended      how a restart ends
--     leaves_rest, leaves_at      what its images stand for
use Rattle.std.proofs.Common.{◌≡◌, ◌⊎◌, inl, inr, refl, sym, subst, ap, ◌∙◌, ℕ, ◌≤◌, true, false, List, [], ◌∷◌, Some, Contains, Ok, Err, None, arith}
use Rattle.std.specs.List.{list_any}
use Rattle.std.proofs.lemmas.List.Elements.{All-contains, All-cons, All-nil}
use Rattle.mdb_host.specs.Disk.{Disk}
use Rattle.mdb_model.specs.Answers.{Answer, plain, refused}
use Rattle.mdb_model.specs.History.{last}
use Rattle.mdb_model.specs.Images.{Image}
use Rattle.mdb_model.specs.Runs.{Line, Entry}
use Rattle.mdb_model.specs.Worlds.{World, Live, off}
use Rattle.mdb_model.specs.declared.name.State.TheVariants.{Offline}
use Rattle.mdb_model.specs.declared.script.Command.{Command}
use Rattle.mdb_model.specs.declared.script.Command.TheVariants.{DbAdmin, DbOnline}
use Rattle.mdb_model.specs.declared.script.Refusal.{Refusal}
use Rattle.mdb_model.specs.declared.script.Refusal.TheVariants.{DeviceFailed, MemoryWanting, NumberEnd}
use Rattle.mdb_model.specs.declared.script.Reply.TheVariants.{AdminAt, OnlineAt}
use Rattle.kept_worlds.specs.InService.{AtEachMoment, AllStand}
use Rattle.open_database.specs.declared.database.Access.{Access}
use Rattle.open_database.specs.declared.database.Access.TheVariants.{Admin, Online}
use Rattle.open_database.specs.declared.database.Database.{Database}
use Rattle.open_database.specs.Opened.{opened_world}
use Rattle.open_database.specs.Outside.{page_reading, StandsFor, Ties, TiesNothing}
use Rattle.open_database.specs.Saving.{HasAllRows}
use Rattle.open_database.specs.Serving.{AreOff, Serves}
use Rattle.open_database.specs.Stretch.{EachLeft, LeavesOnly, MayBe, StandsForOneOf, Completes}
use Rattle.open_database.proofs.StateLines.{full_rows}
use Rattle.open_database.proofs.Stretches.{only, is_only, leaves_one, moments_still, does_moments, ties_none}
use Rattle.db_kernel.specs.Kept.{FitsWorlds, opens, opened_reply}
use Rattle.db_kernel.specs.Opening.{MayBeBefore, OpensWorld}
use Rattle.db_kernel.proofs.Closed.{entry_opened, entry_ended, opening_starves, opening_fails}
use Rattle.db_kernel.proofs.Fitting.{fits_off, fits_in}
use Rattle.db_kernel.proofs.Telling.{fits_told}
use Rattle.db_kernel.proofs.Untied.{admin_untied, online_untied}

-- no device was called, and the worlds are what they were
pub off_still : (disk : Disk) (ws after : List World) (line : Line) (answer : Answer) → Entry page_reading ws line answer after → TiesNothing line answer.reply → AreOff after
    → ((w : World) → Contains ws w → Contains after (off w)) → LeavesOnly page_reading StandsFor disk ws
    → Completes page_reading StandsFor disk disk ws line answer (FitsWorlds None disk)
off_still disk ws after line answer entry none rest each stand = record {
  after = after;
  does = does_moments disk disk ws line answer after (StandsForOneOf ws) (moments_still disk (StandsForOneOf ws) stand)
      (λ image s. (off s.0, s.2, (s.0, s.1, inl refl))) entry
      (λ image left. let s = stand image left in (off s.0, each s.0 s.1, s.2))
      (ties_none disk disk ws line answer after none);
  fit = fits_off disk after rest;
}

-- a list of worlds that are off has each of them as it is
pub still_there : (ws : List World) → AreOff ws → (w : World) → Contains ws w → Contains ws (off w)
still_there ws rest w there = subst (λ (v : World). Contains ws v) (sym (All-contains (λ v. off v ≡ v) ws w rest there)) there

-- what a line that opens a database ties, of a world that was off
opened_ties : (access : Access) (v w : World) (number : ℕ) (image : Image) → HasAllRows v image → Ties (Some (opens access)) (opened_reply access number) w (opened_world access v) image
unfolding Ties
opened_ties Admin v w number image has = full_rows (opened_world Admin v) image (record { rows = has.rows; no_images = has.no_images })
opened_ties Online v w number image has = λ offline. full_rows (opened_world Online v) image (record { rows = has.rows; no_images = has.no_images })

opens_untied : (access : Access) (cause : Refusal) → TiesNothing (Some (opens access)) (refused cause).reply
opens_untied Admin cause = admin_untied cause
opens_untied Online cause = online_untied cause

module _ (tells : Type 0) (access : Access) (d0 d1 : Disk) (ws : List World) (rest : AreOff ws) (stand : LeavesOnly page_reading StandsFor d0 ws) (v : World) (there : Contains ws v) where
  is_rest : off v ≡ v
  is_rest = All-contains (λ w. off w ≡ w) ws v rest there

  -- the world of an image is one of them
  one_of : (image : Image) → MayBeBefore d0 v image → StandsForOneOf ws image
  one_of image (inl left) = stand image left
  one_of image (inr stands) = (v, there, subst (λ (u : World). StandsFor image u) (sym is_rest) stands)

  stop : (image : Image) → MayBeBefore d0 v image → (u : World) × StandsFor image u × MayBe page_reading StandsFor ws (Some (opens access)) u
  stop image may = let s = one_of image may in (off s.0, s.2, (s.0, s.1, inl refl))

  module _ (moments : AtEachMoment d0 d1 (MayBeBefore d0 v)) where
    now_one : (image : Image) → d1.may_leave d1.now image → StandsForOneOf ws image
    now_one image left = one_of image (moments.each d1.now image moments.keeps.later (omega arith) left)

    pub opening_starved : Completes page_reading StandsFor d0 d1 ws (Some (opens access)) (refused MemoryWanting) (FitsWorlds None d1)
    opening_starved = record {
      after = ws;
      does = does_moments d0 d1 ws (Some (opens access)) (refused MemoryWanting) ws (MayBeBefore d0 v) moments stop (opening_starves page_reading access ws rest) now_one
          (ties_none d0 d1 ws (Some (opens access)) (refused MemoryWanting) ws (opens_untied access MemoryWanting));
      fit = fits_off d1 ws rest;
    }

    pub opening_failed : Completes page_reading StandsFor d0 d1 ws (Some (opens access)) (refused DeviceFailed) (FitsWorlds None d1)
    opening_failed =
        let new = opening_fails page_reading access ws v there in
        record {
          after = new.0;
          does = does_moments d0 d1 ws (Some (opens access)) (refused DeviceFailed) new.0 (MayBeBefore d0 v) moments stop new.1
              (λ image left. let s = now_one image left in (off s.0, new.2 s.0 s.1, s.2))
              (ties_none d0 d1 ws (Some (opens access)) (refused DeviceFailed) new.0 (opens_untied access DeviceFailed));
          fit = fits_off d1 new.0 new.3;
        }

    pub opening_done : (told : tells) (database : Database) → v.area ≡ Live → last v.history ≡ database.area.ring.last_commit → Serves tells database d1 (opened_world access v) → EachLeft d1 (HasAllRows v)
        → Completes page_reading StandsFor d0 d1 ws (Some (opens access)) (plain (opened_reply access database.area.ring.last_commit)) (FitsWorlds (Some database) d1)
    opening_done told database live number serves rows =
        subst (λ (n : ℕ). Completes page_reading StandsFor d0 d1 ws (Some (opens access)) (plain (opened_reply access n)) (FitsWorlds (Some database) d1)) number
        (record {
          after = opened_world access v ∷ [];
          does = does_moments d0 d1 ws (Some (opens access)) (plain (opened_reply access (last v.history))) (opened_world access v ∷ []) (MayBeBefore d0 v) moments stop
              (entry_opened page_reading access v ws is_rest live there)
              (leaves_one d1 (opened_world access v) serves.area.stand)
              (λ w w' before after image left. subst (λ (u : World). Ties (Some (opens access)) (opened_reply access (last v.history)) w u image) (sym (is_only (opened_world access v) w' after)) (opened_ties access v w (last v.history) image (rows image left)));
          fit = fits_in (Some database) d1 (opened_world access v ∷ []) (fits_told tells (Unit {0}) told tt database d1 (opened_world access v ∷ []) (record { w = opened_world access v; is = refl; serves = serves }));
        })

    -- a number of the records is past the end
    pub opening_ended : v.area ≡ Live → EachLeft d1 (λ image. StandsFor image v) → Completes page_reading StandsFor d0 d1 ws (Some (opens access)) (refused NumberEnd) (FitsWorlds None d1)
    opening_ended live each = record {
      after = v ∷ [];
      does = does_moments d0 d1 ws (Some (opens access)) (refused NumberEnd) (v ∷ []) (MayBeBefore d0 v) moments stop (entry_ended page_reading access v ws is_rest live there)
          (leaves_one d1 v (λ image left. subst (λ (u : World). StandsFor image u) (sym is_rest) (each image left)))
          (ties_none d0 d1 ws (Some (opens access)) (refused NumberEnd) (v ∷ []) (opens_untied access NumberEnd));
      fit = fits_off d1 (v ∷ []) (All-cons (λ w. off w ≡ w) v [] is_rest (All-nil (λ w. off w ≡ w)));
    }

-- how a restart that was refused ends
pub opening_refused : (tells : Type 0) (access : Access) (d0 d1 : Disk) (ws : List World) → AreOff ws → LeavesOnly page_reading StandsFor d0 ws → (v : World) → Contains ws v → v.area ≡ Live → (cause : Refusal) → OpensWorld tells d0 d1 v access (Err cause)
    → Completes page_reading StandsFor d0 d1 ws (Some (opens access)) (refused cause) (FitsWorlds None d1)
opening_refused tells access d0 d1 ws rest stand v there live DeviceFailed moments = opening_failed tells access d0 d1 ws rest stand v there moments
opening_refused tells access d0 d1 ws rest stand v there live MemoryWanting moments = opening_starved tells access d0 d1 ws rest stand v there moments
opening_refused tells access d0 d1 ws rest stand v there live NumberEnd (moments, each) = opening_ended tells access d0 d1 ws rest stand v there moments live each
opening_refused tells access d0 d1 ws rest stand v there live _ moments = absurd moments
