-- Lines on media of an open database, against the world that it serves.
--     switched_done, switched_fails      a line after which other worlds stand, done or in doubt
--     is_there      whether a medium is there, by its device
--     comes_all, goes_all      what making a medium leaves, and what removing it
--     holds_nothing      no medium holds a backup
--     takes_beside      what a call on a medium keeps of the database
--     put_done, put_fails, put_refused      a medium is made
--     deleted_done, deleted_fails, deleted_refused      a medium is removed
use Rattle.std.proofs.Common.{◌≡◌, ◌⊎◌, inl, inr, refl, sym, subst, ap, ◌∙◌, ℕ, ◌+◌, ◌*◌, ◌^◌, ◌≤◌, Bool, true, false, not, ◌||◌, cond, List, [], ◌∷◌, map, Option, Some, None, Contains, IsTrue, arith}
use Rattle.std.specs.Prelude.{if◌then◌else◌, is_some, IsSome, MatchOption, filter_map, replicate, unwrap_or, Result, Ok, Err, OnOk, IfOk}
use Rattle.std.specs.List.{cons_option}
use Rattle.std.specs.Ordering.{nat_cmp, eq_by_cmp}
use Rattle.std.specs.FinMap.{FinMap, get, contains_key, entries, find, get-entries}
use Rattle.std.proofs.lemmas.Bool.Decides.{nat_tests}
use Rattle.std.proofs.lemmas.List.Elements.{All-cons, All-nil}
use Rattle.mdb_host.specs.Disk.{Disk, Keeps, Goes, Arrives, Creates, Removes, SameSizes, page_count}
use Rattle.mdb_model.specs.Answers.{Answer, plain, refused}
use Rattle.mdb_model.specs.Backups.{Backup, Medium}
use Rattle.mdb_model.specs.Causes.{Rose}
use Rattle.mdb_model.specs.Images.{Image, size_of}
use Rattle.mdb_model.specs.Script.{is_medium, is_within}
use Rattle.mdb_model.specs.Refusals.{refusal, refusal_with, first_cause, refuse_if, medium_full}
use Rattle.mdb_model.specs.Runs.{Entry, Failed, AreOutcomes, is_recover, restore_open}
use Rattle.mdb_model.specs.Stages.{is_built, rows_in_memory}
use Rattle.mdb_model.specs.Steps.{done, Fits, backups_of}
use Rattle.mdb_model.specs.Worlds.{World, BackupTask, off}
use Rattle.mdb_model.specs.declared.fault.Device.TheVariants.{Medium as OnMedium}
use Rattle.mdb_model.specs.declared.fault.PageFault.{PageFault}
use Rattle.mdb_model.specs.declared.fault.PageFault.TheVariants.{Failed as PageFailed}
use Rattle.mdb_model.specs.declared.name.State.{State}
use Rattle.mdb_model.specs.declared.script.Command.{Command}
use Rattle.mdb_model.specs.declared.script.Command.TheVariants.{MediumPut, MediumDelete}
use Rattle.mdb_model.specs.declared.script.Refusal.{Refusal}
use Rattle.mdb_model.specs.declared.script.Refusal.TheVariants.{Syntax, DeviceFailed, MediumUsed, NoMedium}
use Rattle.mdb_model.specs.declared.script.Reply.{Reply}
use Rattle.mdb_model.specs.declared.script.Reply.TheVariants.{MediumMade, MediumDeleted}
use Rattle.mdb_bytes.specs.Parts.{page_len}
use Rattle.session_rows.proofs.Entries.{OneStep, entry_done, entry_refused}
use Rattle.session_rows.specs.Serving.{no_facts}
use Rattle.standing.specs.Looks.{look, open_medium}
use Rattle.standing.specs.MediaComing.{with_medium, without_medium, MediumComes, MediumGoes}
use Rattle.standing.specs.WholeStanding.{StandsWhole, MediumStands}
use Rattle.kept_worlds.specs.InService.{AtEachMoment, AllStand}
use Rattle.open_database.specs.declared.database.Access.{Access}
use Rattle.open_database.specs.declared.database.Access.TheVariants.{Admin, Online}
use Rattle.open_database.specs.declared.database.Database.{Database}
use Rattle.open_database.specs.Outside.{page_reading, StandsFor, Ties, TiesNothing}
use Rattle.open_database.specs.Replies.{IsInside}
use Rattle.open_database.specs.Serving.{IsSoundDatabase, greatest_number, open_state, Serves, AreOff}
use Rattle.open_database.specs.Stretch.{MayBe, Completes}
use Rattle.open_database.specs.Taking.{TakesOpen, RefusalKeeps}
use Rattle.live_area.specs.Serving.{IsSoundArea}
use Rattle.open_database.proofs.Answering.{AreaServes}
use Rattle.open_database.proofs.RowLines.{keeps_itself}
use Rattle.open_database.proofs.Stretches.{only, leaves_one, does_moments, ties_none, completes_still, completes_failed}

-- A line after which images stand for another world

module _ (w w2 : World) (line : Command) (answer : Answer) (admitted : refusal page_reading w no_facts line ≡ None) (result : done page_reading w no_facts line ≡ (answer, w2))
    (fits : Fits page_reading w no_facts line) (unfull : medium_full w no_facts line ≡ None) (no_recover : is_recover line ≡ false) (none : (reply : Reply) → TiesNothing (Some line) reply) where
  step : OneStep page_reading w line answer w2
  step = subst (λ (p : Answer × World). OneStep page_reading w line p.0 p.1) result (entry_done page_reading w line admitted unfull fits)

  abbrev by : (Option Refusal × Bool × World) → List World
  by p = if is_some p.0 then off w ∷ [] else (off w ∷ off p.2 ∷ (if p.1 then restore_open w ∷ [] else []))

  outcomes_are : AreOutcomes page_reading w (Some line) (off w ∷ off w2 ∷ [])
  outcomes_are = (Some no_facts, (ap is_some admitted, fits), (λ i. by (sym unfull i, sym no_recover i, (sym result i).1)))

  failed_step : Entry page_reading (w ∷ []) (Some line) (refused DeviceFailed) (off w ∷ off w2 ∷ [])
  failed_step = Failed w [] (off w ∷ off w2 ∷ [], [], refl, outcomes_are, refl) (only w) (no_facts, (done page_reading w no_facts line).0.items, refl)

  abbrev Either : Image → Type 0
  Either image = StandsFor image (off w) ⊎ StandsFor image (off w2)

  stop : (image : Image) → Either image → (v : World) × StandsFor image v × MayBe page_reading StandsFor (w ∷ []) (Some line) v × Contains (off w ∷ off w2 ∷ []) v
  stop image (inl stands) = (off w, stands, (w, only w, inl refl), (0, omega arith, refl))
  stop image (inr stands) = (off w2, stands, (w, only w, inr (off w ∷ off w2 ∷ [], outcomes_are, (1, omega arith, refl))), (1, omega arith, refl))

  module _ (d0 d1 : Disk) (moments : AtEachMoment d0 d1 Either) where
    pub switched_fails : Completes page_reading StandsFor d0 d1 (w ∷ []) (Some line) (refused DeviceFailed) AreOff
    switched_fails = completes_failed d0 d1 w (off w) (off w2) (Some line) (refused DeviceFailed) Either moments stop failed_step refl refl (none (refused DeviceFailed).reply)

    pub switched_done : (fits : List World → Type 0) → AllStand (off w2) d1 → fits (w2 ∷ []) → Completes page_reading StandsFor d0 d1 (w ∷ []) (Some line) answer fits
    switched_done fits all fit = record {
      after = w2 ∷ [];
      does = does_moments d0 d1 (w ∷ []) (Some line) answer (w2 ∷ []) Either moments
          (λ image p. let s = stop image p in (s.0, s.1, s.2)) step (leaves_one d1 w2 all)
          (ties_none d0 d1 (w ∷ []) (Some line) answer (w2 ∷ []) (none answer.reply));
      fit = fit;
    }

-- The devices

some_pages : (o : Option (List ℕ)) → is_some (page_count o) ≡ is_some o
some_pages None = refl
some_pages (Some bytes) = refl

none_of_size : (o : Option (List ℕ)) → size_of o ≡ None → o ≡ None
none_of_size None e = refl
none_of_size (Some bytes) e = absurd cc

none_of_pages : (o : Option (List ℕ)) → is_some (page_count o) ≡ false → o ≡ None
none_of_pages None e = refl
none_of_pages (Some bytes) e = absurd cc

pub medium_from : (n : ℕ) → IsTrue (is_medium n) → 1 ≤ n
medium_from n is = grind (arith, nat_tests)

pub medium_to : (n : ℕ) → IsTrue (is_medium n) → n ≤ 99
medium_to n is = grind (arith, nat_tests)

pub pages_from : (n : ℕ) → IsTrue (is_within 2 131072 n) → 2 ≤ n
pages_from n is = grind (arith, nat_tests)

pub pages_to : (n : ℕ) → IsTrue (is_within 2 131072 n) → n ≤ 131072
pages_to n is = grind (arith, nat_tests)

-- where a read finds none, there is none in any image
pub absent_each : (d : Disk) (number : ℕ) → ((image : Image) → d.may_leave d.now image → SameSizes d.seen image) → is_some (page_count (d.seen (OnMedium number))) ≡ false → (before : Image) → d.may_leave d.now before → before (OnMedium number) ≡ None
absent_each d number sizes none before left = none_of_size (before (OnMedium number)) (sizes before left (OnMedium number) ∙ ap size_of (none_of_pages (d.seen (OnMedium number)) none))

pub absent_seen : (d : Disk) (number : ℕ) → is_some (page_count (d.seen (OnMedium number))) ≡ false → d.seen (OnMedium number) ≡ None
absent_seen d number none = none_of_pages (d.seen (OnMedium number)) none

-- a medium of the world is there exactly where its device is
pub is_there : (image : Image) (v : World) (number : ℕ) → 1 ≤ number → number ≤ 99 → StandsWhole image v → contains_key v.media number ≡ is_some (page_count (image (OnMedium number)))
is_there image v number from to stands = by_medium (get v.media number) (image (OnMedium number)) refl (stands.media.each number from to) ∙ sym (some_pages (image (OnMedium number))) where
  by_medium : (o : Option Medium) (bytes : Option (List ℕ)) → image (OnMedium number) ≡ bytes → MatchOption o (size_of (image (OnMedium number)) ≡ None) (MediumStands (look image) number) → is_some o ≡ is_some bytes
  by_medium None None e p = refl
  by_medium None (Some bytes) e p = let wrong : size_of (Some bytes) ≡ None = sym (ap size_of e) ∙ p in absurd cc
  by_medium (Some medium) None e p = let wrong : size_of None ≡ Some (medium.pages * page_len) = sym (ap size_of e) ∙ p.there in absurd cc
  by_medium (Some medium) (Some bytes) e p = refl

-- where it is made, it is there with zeros in each image
pub comes_all : (d e : Disk) (number pages : ℕ) → Goes d e (Creates (OnMedium number) (8192 * pages)) → ((before : Image) → d.may_leave d.now before → before (OnMedium number) ≡ None)
    → ((image : Image) → e.may_leave e.now image → size_of (image (OnMedium number)) ≡ size_of (e.seen (OnMedium number))) → e.seen (OnMedium number) ≡ Some (replicate (8192 * pages) 0)
    → Arrives d e (MediumComes number pages)
comes_all d e number pages goes absent sized made image left =
    let x = goes.since e.now image goes.keeps.later (omega arith) left in
    (x.0, x.1, record { others = x.2.others; absent = absent x.0 x.1; here = zeros x.0 x.2.here (absent x.0 x.1) })
  where
    zeros : (before : Image) → (image (OnMedium number) ≡ before (OnMedium number)) ⊎ (image (OnMedium number) ≡ Some (replicate (8192 * pages) 0)) → before (OnMedium number) ≡ None → image (OnMedium number) ≡ Some (replicate (8192 * pages) 0)
    zeros before (inl same) none =
        let gone : size_of (image (OnMedium number)) ≡ None = ap size_of (same ∙ none) in
        let wrong : size_of (Some (replicate (8192 * pages) 0)) ≡ None = ap size_of (sym made) ∙ sym (sized image left) ∙ gone in
        absurd cc
    zeros before (inr here) none = here

-- where it is removed, it is in no image
pub goes_all : (d e : Disk) (number : ℕ) → Goes d e (Removes (OnMedium number)) → ((before : Image) → d.may_leave d.now before → open_medium before number ≡ None)
    → ((image : Image) → e.may_leave e.now image → size_of (image (OnMedium number)) ≡ size_of (e.seen (OnMedium number))) → e.seen (OnMedium number) ≡ None
    → Arrives d e (MediumGoes number)
goes_all d e number goes blank sized gone image left =
    let x = goes.since e.now image goes.keeps.later (omega arith) left in
    (x.0, x.1, record { others = x.2.others; blank = blank x.0 x.1; gone = none_of_size (image (OnMedium number)) (sized image left ∙ ap size_of gone) })

-- No backups

held_none : (o : Option Backup) (rest : List Backup) → cons_option o rest ≡ [] → (o ≡ None) × (rest ≡ [])
held_none None rest e = (refl, e)
held_none (Some backup) rest e = absurd cc

pub each_holds : (es : List (ℕ × Medium)) (number : ℕ) (x : Medium) → filter_map (λ (m : Medium). m.holds) (map (λ e. e.1) es) ≡ [] → find nat_cmp number es ≡ Some x → x.holds ≡ None
each_holds [] number x none found = absurd cc
each_holds (e ∷ es) number x none found =
    let p = held_none e.1.holds (filter_map (λ (m : Medium). m.holds) (map (λ e. e.1) es)) none in
    elim (eq_by_cmp nat_cmp number e.0) as (λ b. cond b (Some e.1) (find nat_cmp number es) ≡ Some x → x.holds ≡ None) [
      | true ↦ λ is. ap (λ (m : Medium). m.holds) (sym (same_medium e.1 x is)) ∙ p.0
      | false ↦ λ is. each_holds es number x p.1 is
    ] found
  where
    same_medium : (a b : Medium) → Some a ≡ Some b → a ≡ b
    same_medium a b is = ap (λ (o : Option Medium). unwrap_or o a) is

-- each medium is blank in each image
pub holds_nothing : (image : Image) (v : World) (number : ℕ) → backups_of v ≡ [] → IsSome (get v.media number) → StandsWhole image v → open_medium image number ≡ None
holds_nothing image v number none some stands = by_medium (get v.media number) refl some where
  by_medium : (o : Option Medium) → get v.media number ≡ o → IsSome o → open_medium image number ≡ None
  by_medium None is some = absurd cc
  by_medium (Some x) is some =
      let range = stands.media.numbers number (subst IsSome (sym is) refl) in
      let at : MediumStands (look image) number x = subst (λ o. MatchOption o ((look image).sizes (OnMedium number) ≡ None) (MediumStands (look image) number)) is (stands.media.each number range.0 range.1) in
      at.blank (each_holds (entries v.media) number x none (sym (get-entries v.media number) ∙ is))

-- What refuses them

abbrev nine : List (Option Refusal)
nine = None ∷ None ∷ None ∷ None ∷ None ∷ None ∷ None ∷ None ∷ None ∷ []

first_past : (b : Bool) (cause : Refusal) (rest : List (Option Refusal)) → b ≡ false → first_cause (refuse_if b cause ∷ rest) ≡ first_cause rest
first_past b cause rest is = ap (λ (c : Bool). first_cause (refuse_if c cause ∷ rest)) is

first_here : (b : Bool) (cause : Refusal) (rest : List (Option Refusal)) → b ≡ true → first_cause (refuse_if b cause ∷ rest) ≡ Some cause
first_here b cause rest is = ap (λ (c : Bool). first_cause (refuse_if c cause ∷ rest)) is

as_built : (v : World) (line : Command) → is_built line ≡ true → refusal page_reading v no_facts line ≡ refusal_with page_reading v no_facts rows_in_memory line
as_built v line built = ap (λ (b : Bool). if b then refusal_with page_reading v no_facts rows_in_memory line else Some Syntax) built

pub put_ties : (number pages : ℕ) (reply : Reply) → TiesNothing (Some (MediumPut number pages)) reply
unfolding Ties
put_ties number pages reply before after image = tt

pub deleted_ties : (number : ℕ) (reply : Reply) → TiesNothing (Some (MediumDelete number)) reply
unfolding Ties
deleted_ties number reply before after image = tt

-- the database serves a world with other media
pub serves_media : (tells : Type 0) (database : Database) (d e : Disk) (w : World) (media : FinMap nat_cmp Medium) → Serves tells database d w → AreaServes tells database e (record w { media = media }) → Serves tells database e (record w { media = media })
serves_media tells database d e w media s area = record {
  area = area;
  state = s.state;
  alone = s.alone;
  no_savepoint = s.no_savepoint;
  no_backup = s.no_backup;
  keys = s.keys;
  matches = record { locks = s.matches.locks; changes = s.matches.changes; numbered = s.matches.numbered };
  most = s.most;
  counted = record {
    known_of = record {
      blocks = s.counted.known_of.blocks;
      kept = s.counted.known_of.kept;
      committed = s.counted.known_of.committed;
      sessions = s.counted.known_of.sessions;
      numbers = s.counted.known_of.numbers;
    };
    tables = s.counted.tables;
    numbers = s.counted.numbers;
    apart = s.counted.apart;
    rows_fit = s.counted.rows_fit;
    changes_fit = s.counted.changes_fit;
  };
}

-- The lines

module _ (w : World) (access : Access) (at : w.state ≡ open_state access) (idle : w.backup_task ≡ None) (number : ℕ) where
  abbrev at_work : Access → World
  at_work a = record w { state = open_state a; backup_task = None }

  -- what is so of the world as it is said here is so of it
  here : (P : World → Type 0) → P (at_work access) → P w
  here P p = subst (λ (x : State × Option BackupTask). P (record w { state = x.0; backup_task = x.1 })) (λ i. (sym at i, sym idle i)) p

  module _ (pages : ℕ) (built : is_built (MediumPut number pages) ≡ true) where
    abbrev put : Command
    put = MediumPut number pages

    put_at : (a : Access) → refusal_with page_reading (at_work a) no_facts rows_in_memory put ≡ first_cause (refuse_if (contains_key w.media number) MediumUsed ∷ nine)
    put_at Admin = refl
    put_at Online = refl

    put_cause : refusal page_reading w no_facts put ≡ first_cause (refuse_if (contains_key w.media number) MediumUsed ∷ nine)
    put_cause = here (λ v. refusal page_reading v no_facts put ≡ first_cause (refuse_if (contains_key w.media number) MediumUsed ∷ nine)) (as_built (at_work access) put built ∙ put_at access)

    pub put_refused : (disk : Disk) (fits : List World → Type 0) → contains_key w.media number ≡ true → AllStand (off w) disk → fits (w ∷ [])
        → Completes page_reading StandsFor disk disk (w ∷ []) (Some put) (refused MediumUsed) fits
    put_refused disk fits there all fit =
        completes_still disk w w (Some put) (refused MediumUsed) fits all
        (entry_refused page_reading (w ∷ []) put MediumUsed (All-cons (λ v. refusal page_reading v no_facts put ≡ Some MediumUsed) w [] (put_cause ∙ first_here (contains_key w.media number) MediumUsed nine there) (All-nil (λ v. refusal page_reading v no_facts put ≡ Some MediumUsed)))) refl
        (λ image left. put_ties number pages (refused MediumUsed).reply w w image) fit

    module _ (absent : contains_key w.media number ≡ false) (d0 d1 : Disk) (moments : AtEachMoment d0 d1 (λ image. StandsFor image (off w) ⊎ StandsFor image (off (with_medium w number pages)))) where
      put_admitted : refusal page_reading w no_facts put ≡ None
      put_admitted = put_cause ∙ first_past (contains_key w.media number) MediumUsed nine absent

      pub put_fails : Completes page_reading StandsFor d0 d1 (w ∷ []) (Some put) (refused DeviceFailed) AreOff
      put_fails = switched_fails w (with_medium w number pages) put (plain MediumMade) put_admitted refl tt refl refl (put_ties number pages) d0 d1 moments

      pub put_done : (fits : List World → Type 0) → AllStand (off (with_medium w number pages)) d1 → fits (with_medium w number pages ∷ []) → Completes page_reading StandsFor d0 d1 (w ∷ []) (Some put) (plain MediumMade) fits
      put_done = switched_done w (with_medium w number pages) put (plain MediumMade) put_admitted refl tt refl refl (put_ties number pages) d0 d1 moments

  module _ (built : is_built (MediumDelete number) ≡ true) where
    abbrev deletion : Command
    deletion = MediumDelete number

    abbrev unnamed : Bool
    unnamed = not (contains_key w.media number) || false

    deleted_at : (a : Access) → refusal_with page_reading (at_work a) no_facts rows_in_memory deletion ≡ first_cause (refuse_if unnamed NoMedium ∷ None ∷ None ∷ None ∷ nine)
    deleted_at Admin = refl
    deleted_at Online = refl

    deleted_cause : refusal page_reading w no_facts deletion ≡ first_cause (refuse_if unnamed NoMedium ∷ None ∷ None ∷ None ∷ nine)
    deleted_cause = here (λ v. refusal page_reading v no_facts deletion ≡ first_cause (refuse_if unnamed NoMedium ∷ None ∷ None ∷ None ∷ nine)) (as_built (at_work access) deletion built ∙ deleted_at access)

    pub deleted_refused : (disk : Disk) (fits : List World → Type 0) → contains_key w.media number ≡ false → AllStand (off w) disk → fits (w ∷ [])
        → Completes page_reading StandsFor disk disk (w ∷ []) (Some deletion) (refused NoMedium) fits
    deleted_refused disk fits absent all fit =
        completes_still disk w w (Some deletion) (refused NoMedium) fits all
        (entry_refused page_reading (w ∷ []) deletion NoMedium (All-cons (λ v. refusal page_reading v no_facts deletion ≡ Some NoMedium) w []
        (deleted_cause ∙ first_here unnamed NoMedium (None ∷ None ∷ None ∷ nine) (ap (λ (b : Bool). not b || false) absent)) (All-nil (λ v. refusal page_reading v no_facts deletion ≡ Some NoMedium)))) refl
        (λ image left. deleted_ties number (refused NoMedium).reply w w image) fit

    module _ (there : contains_key w.media number ≡ true) (d0 d1 : Disk) (moments : AtEachMoment d0 d1 (λ image. StandsFor image (off w) ⊎ StandsFor image (off (without_medium w number)))) where
      deleted_admitted : refusal page_reading w no_facts deletion ≡ None
      deleted_admitted = deleted_cause ∙ first_past unnamed NoMedium (None ∷ None ∷ None ∷ nine) (ap (λ (b : Bool). not b || false) there)

      pub deleted_fails : Completes page_reading StandsFor d0 d1 (w ∷ []) (Some deletion) (refused DeviceFailed) AreOff
      deleted_fails = switched_fails w (without_medium w number) deletion (plain MediumDeleted) deleted_admitted refl tt refl refl (deleted_ties number) d0 d1 moments

      pub deleted_done : (fits : List World → Type 0) → AllStand (off (without_medium w number)) d1 → fits (without_medium w number ∷ []) → Completes page_reading StandsFor d0 d1 (w ∷ []) (Some deletion) (plain MediumDeleted) fits
      deleted_done = switched_done w (without_medium w number) deletion (plain MediumDeleted) deleted_admitted refl tt refl refl (deleted_ties number) d0 d1 moments

-- What they keep

pub takes_beside : (tells : Type 0) (database : Database) (d e : Disk) (failed failed_after : ℕ) (result : Result Reply PageFault) → OnOk result (IsSoundDatabase tells database e) → (tells → Keeps d e)
    → IfOk result IsInside → failed ≤ failed_after → (result ≡ Err PageFailed → Rose failed failed_after) → TakesOpen tells d e failed failed_after database database result
takes_beside tells database d e failed failed_after result sound keeps inside later cause = record {
  sound = sound;
  numbers = few result;
  keeps = keeps;
  refused = kept result;
  inside = inside;
  later = later;
  cause = cause;
}
  where
    few : (r : Result Reply PageFault) → OnOk r (greatest_number database ≤ greatest_number database + 2 ^ 35)
    few (Ok reply) = omega arith
    few (Err fault) = tt

    kept : (r : Result Reply PageFault) → RefusalKeeps database database r
    kept (Ok reply) = λ is. keeps_itself database
    kept (Err fault) = tt

pub sound_beside_media : (tells : Type 0) (database : Database) (d e : Disk) → IsSoundDatabase tells database d → IsSoundArea tells database.area.in_force.slots database.area.in_force.record database.area.store database.area.ring e → IsSoundDatabase tells database e
sound_beside_media tells database d e s area = record { area = area; blocks = s.blocks; birth = s.birth; generation = s.generation }
