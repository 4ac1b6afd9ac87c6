-- The line of a scan: its rows and how it ends.
--     steps_of      the steps of a line that was answered by an open scan
--     AllStops, all_stops      what stops in it leave
--     ScanEnded, ended      the line as it ended: with all rows, or where a device failed after some of them
--     scan_line      the line, once its answer was said, or not to the end
use Rattle.std.proofs.Common.{◌≡◌, inl, refl, sym, subst, ap, ◌∙◌, ℕ, zero, suc, ◌≤◌, false, List, [], ◌∷◌, ◌++◌, Option, Some, None, Result, Ok, Err, Contains, IsTrue, arith}
use Rattle.std.specs.Prelude.{MatchOption, is_some}
use Rattle.std.specs.List.{AllZip}
use Rattle.std.proofs.lemmas.List.Elements.{All-cons, All-nil}
use Rattle.mdb_model.specs.declared.fault.Failed.{Failed as Fault}
use Rattle.mdb_model.specs.declared.name.Session.{Session}
use Rattle.mdb_model.specs.declared.name.Table.{Table}
use Rattle.mdb_model.specs.declared.script.Command.TheVariants.{ScanTable}
use Rattle.mdb_model.specs.declared.script.Refusal.{Refusal}
use Rattle.mdb_model.specs.declared.script.Refusal.TheVariants.{DeviceFailed, MemoryWanting, NumberEnd}
use Rattle.mdb_model.specs.declared.script.Reply.{Reply}
use Rattle.mdb_model.specs.declared.script.Reply.TheVariants.{ScanOpen, Refused}
use Rattle.mdb_model.specs.Answers.{Answer, Item}
use Rattle.mdb_model.specs.Causes.{Rose}
use Rattle.mdb_model.specs.Images.{Image}
use Rattle.mdb_model.specs.Pages.{PageReading}
use Rattle.mdb_model.specs.Refusals.{refusal}
use Rattle.mdb_model.specs.Runs.{Line, Step, Entry, Stepped, Starved, Failed, FoundOut, AreOutcomes, AreAllOutcomes, MayHaveSaid, IsDone, reopens}
use Rattle.mdb_model.specs.Steps.{Facts, done}
use Rattle.mdb_model.specs.Worlds.{World, off}
use Rattle.mdb_host.specs.Disk.{Disk}
use Rattle.open_database.specs.declared.database.Database.{Database}
use Rattle.db_kernel.specs.Kept.{FitsWorlds}
use Rattle.open_database.specs.Serving.{AreOff}
use Rattle.open_database.specs.Outside.{page_reading, StandsFor}
use Rattle.open_database.specs.Stretch.{Does, Completes, MayBe}
use Rattle.open_database.specs.Stretch.{StandsForOneOf}
use Rattle.db_kernel.proofs.Fitting.{fits_off}
use Rattle.db_kernel.proofs.Untied.{scans_untied}
use Rattle.script_run.specs.Progress.{DoesLine}
use Rattle.script_run.specs.Scans.{EndsRows, SaysScan, scan_text}
use Rattle.script_run.proofs.Caused.{LineCauses}
use Rattle.script_run.proofs.Speaking.{says_as}
use Rattle.script_run.proofs.Takings.{IsAfter, taken, taken_whole}

-- The steps

module _ (reading : PageReading) where
  -- a line that is answered by an open scan was done from each world
  pub steps_of : (line : Line) (ws after : List World) (answer : Answer) → Entry reading ws line answer after → answer.reply ≡ ScanOpen → reopens line ≡ false
      → AllZip (λ w w'. Step reading w line answer w') ws after
  steps_of line ws after answer (Stepped all) opened fresh = all
  steps_of line ws after answer (Starved all) opened fresh = absurd (other opened)
    where
      other : Refused MemoryWanting ≡ ScanOpen → ⊥
      other same = cc
  steps_of line ws after answer (Failed w items stops there said) opened fresh = absurd (other opened)
    where
      other : Refused DeviceFailed ≡ ScanOpen → ⊥
      other same = cc
  steps_of line ws after answer (FoundOut w w' again many there step failed starved) opened fresh = absurd (both again fresh)
    where
      both : IsTrue (reopens line) → reopens line ≡ false → ⊥
      both is_so is_not = cc

  module _ (session : Session) (table : Table) (rows : List Item) where
    abbrev scan : Line
    scan = Some (ScanTable session table)

    abbrev whole : Answer
    whole = record { items = rows; reply = ScanOpen }

    -- what a step of the scan is
    record IsScanStep (w w' : World) : Type 0 where
      facts : Facts
      admitted : refusal reading w facts (ScanTable session table) ≡ None
      answer_is : whole ≡ (done reading w facts (ScanTable session table)).0
      world_is : w' ≡ (done reading w facts (ScanTable session table)).1

    not_refused : (cause : Refusal) → whole ≡ record { items = []; reply = Refused cause } → ⊥
    not_refused cause same = let e : ScanOpen ≡ Refused cause = ap (λ (a : Answer). a.reply) same in cc

    step_is : (w w' : World) → Step reading w scan whole w' → IsScanStep w w'
    step_is w w' (facts, step) = by_cause (refusal reading w facts (ScanTable session table)) refl step
      where
        by_cause : (cause : Option Refusal) → refusal reading w facts (ScanTable session table) ≡ cause
            → MatchOption cause (Unit {0} × IsDone reading w (ScanTable session table) facts whole w') (λ cause. (whole ≡ record { items = []; reply = Refused cause }) × (w' ≡ w))
            → IsScanStep w w'
        by_cause None is done_so = record { facts = facts; admitted = is; answer_is = done_so.1.0; world_is = done_so.1.1 }
        by_cause (Some cause) is refused_so = absurd (not_refused cause refused_so.0)

    -- a world is at rest as the one before it is
    off_same : (w w' : World) → IsScanStep w w' → off w' ≡ off w
    off_same w w' step = ap off step.world_is

    -- what a stop in it leaves: the world
    abbrev left_of : World → List World
    left_of w = off w ∷ off w ∷ []

    outcomes_are : (w w' : World) → IsScanStep w w' → AreOutcomes reading w scan (left_of w)
    outcomes_are w w' step = (Some step.facts, (ap is_some step.admitted, tt), refl)

    record AllStops (ws after : List World) : Type 0 where
      new : List World
      are : AreAllOutcomes reading ws scan new
      rest : AreOff new
      -- a world after it stands as a world before it, which a stop leaves
      each : (w' : World) → Contains after w' → (w : World) × Contains ws w × (off w' ≡ off w) × Contains new (off w)

    all_stops : (ws after : List World) → AllZip (λ w w'. Step reading w scan whole w') ws after → AllStops ws after
    all_stops [] [] all = record { new = []; are = refl; rest = All-nil (λ w. off w ≡ w); each = λ w' there. absurd (omega (arith, there.1)) }
    all_stops [] (w' ∷ after) all = absurd all
    all_stops (w ∷ ws) [] all = absurd all
    all_stops (w ∷ ws) (w' ∷ after) all =
        let step = step_is w w' all.0 in
        let more = all_stops ws after all.1 in
        record {
          new = off w ∷ off w ∷ more.new;
          are = (left_of w, more.new, refl, outcomes_are w w' step, more.are);
          rest = All-cons (λ w. off w ≡ w) (off w) (off w ∷ more.new) refl (All-cons (λ w. off w ≡ w) (off w) more.new refl more.rest);
          each = λ u there. by_place u step more there;
        }
      where
        later : {x : World} (y : World) (xs : List World) → Contains xs x → Contains (y ∷ xs) x
        later y xs (k, inside, is) = (suc k, omega (arith, inside), is)

        by_place : (u : World) → IsScanStep w w' → (more : AllStops ws after) → Contains (w' ∷ after) u
            → (v : World) × Contains (w ∷ ws) v × (off u ≡ off v) × Contains (off w ∷ off w ∷ more.new) (off v)
        by_place u step more (zero, inside, is) = (w, (0, omega arith, refl), ap off (sym is) ∙ off_same w w' step, (0, omega arith, refl))
        by_place u step more (suc k, inside, is) =
            let v = more.each u (k, omega (arith, inside), is) in
            (v.0, later w ws v.1, v.2, later (off w) (off w ∷ more.new) (later (off w) more.new v.3))

    -- the first of its rows were said
    first_said : (w w' : World) (items rest : List Item) → rows ≡ items ++ rest → IsScanStep w w' → MayHaveSaid reading w scan items
    first_said w w' items rest split step = (step.facts, rest, sym (ap (λ (a : Answer). a.items) step.answer_is) ∙ split)

    first_step : (ws after : List World) → AllZip (λ w w'. Step reading w scan whole w') ws after → (w : World) → Contains ws w → (w' : World) × IsScanStep w w'
    first_step [] after all w (k, inside, is) = absurd (omega (arith, inside))
    first_step (v ∷ ws) [] all w there = absurd all
    first_step (v ∷ ws) (v' ∷ after) all w (zero, inside, is) = (v', step_is w v' (subst (λ (u : World). Step reading u scan whole v') is all.0))
    first_step (v ∷ ws) (v' ∷ after) all w (suc k, inside, is) = first_step ws after all.1 w (k, omega (arith, inside), is)

-- The whole line

-- the line as it ended: the worlds after it, what it did, and each image that stood as the scan was open
pub record ScanEnded (d0 d1 : Disk) (ws : List World) (session : Session) (table : Table) (items : List Item) (reply : Reply) (opened : List World) : Type 0 where
  pub after : List World
  pub does : Does page_reading StandsFor d0 d1 ws (Some (ScanTable session table)) (record { items = items; reply = reply }) after
  pub each : (image : Image) → StandsForOneOf opened image → IsAfter page_reading StandsFor ws (Some (ScanTable session table)) reply after image
  pub rest : reply ≡ Refused DeviceFailed → AreOff after
  pub whole : reply ≡ ScanOpen → after ≡ opened

module _ (d0 d1 : Disk) (ws : List World) (session : Session) (table : Table) (rows : List Item) (opened : List World)
    (does : Does page_reading StandsFor d0 d1 ws (Some (ScanTable session table)) (record { items = rows; reply = ScanOpen }) opened) where
  stops : AllStops page_reading session table rows ws opened
  stops = all_stops page_reading session table rows ws opened (steps_of page_reading (Some (ScanTable session table)) ws opened (record { items = rows; reply = ScanOpen }) does.entry refl refl)

  may_be : (image : Image) → StandsForOneOf opened image → (v : World) × StandsFor image v × MayBe page_reading StandsFor ws (Some (ScanTable session table)) v
  may_be image stood =
      let w = stops.each stood.0 stood.1 in
      (off stood.0, stood.2, (w.0, w.1, inl w.2))

  pub ended_whole : ScanEnded d0 d1 ws session table rows ScanOpen opened
  ended_whole = record {
    after = opened;
    does = does;
    each = λ image stood. record { stop = may_be image stood; stand = stood; ties = λ w w' before there. scans_untied session table ScanOpen w w' image };
    rest = λ same. absurd (other same);
    whole = λ same. refl;
  }
    where
      other : ScanOpen ≡ Refused DeviceFailed → ⊥
      other same = cc

  module _ (w : World) (there : Contains ws w) (items rest : List Item) (split : rows ≡ items ++ rest) where
    stand_after : (image : Image) → StandsForOneOf opened image → StandsForOneOf stops.new image
    stand_after image stood =
        let v = stops.each stood.0 stood.1 in
        (off v.0, v.3, subst (λ (u : World). StandsFor image u) v.2 stood.2)

    pub ended_failed : ScanEnded d0 d1 ws session table items (Refused DeviceFailed) opened
    ended_failed = record {
      after = stops.new;
      does = record {
        keeps = does.keeps;
        quiet = does.quiet;
        entry = Failed w items stops.are there (first_said page_reading session table rows w step.0 items rest split step.1);
        stop = does.stop;
        stand = λ image left. stand_after image (does.stand image left);
        ties = λ v v' before there image left. scans_untied session table (Refused DeviceFailed) v v' image;
      };
      each = λ image stood. record { stop = may_be image stood; stand = stand_after image stood; ties = λ v v' before there. scans_untied session table (Refused DeviceFailed) v v' image };
      rest = λ same. stops.rest;
      whole = λ same. absurd (other same);
    }
      where
        step : (w' : World) × IsScanStep page_reading session table rows w w'
        step = first_step page_reading session table rows ws opened (steps_of page_reading (Some (ScanTable session table)) ws opened (record { items = rows; reply = ScanOpen }) does.entry refl refl) w there

        other : Refused DeviceFailed ≡ ScanOpen → ⊥
        other same = cc

  pub ended : (w : World) → Contains ws w → (items : List Item) (reply : Reply) (f1 f2 : ℕ) (database : Option Database) → EndsRows rows items f1 f2 database reply → ScanEnded d0 d1 ws session table items reply opened
  ended w there items ScanOpen f1 f2 database is = subst (λ (l : List Item). ScanEnded d0 d1 ws session table l ScanOpen opened) (sym is) ended_whole
  ended w there items (Refused DeviceFailed) f1 f2 database is = ended_failed w there items is.0.0 is.0.1
  ended w there items _ f1 f2 database is = absurd is

pub rose_since : (a b c : ℕ) → a ≤ b → Rose b c → Rose a c
rose_since a b c le rose = omega (arith, le, rose)

ends_causes : (old disk : Disk) → old.now ≤ disk.now → (ws : List World) (session : Session) (table : Table) (f0 f1 f2 : ℕ) → f0 ≤ f1 → f1 ≤ f2 → (rows items : List Item) (reply : Reply) (database : Option Database)
    → EndsRows rows items f1 f2 database reply → LineCauses old disk f0 f2 ws (Some (ScanTable session table)) reply
ends_causes old disk goes ws session table f0 f1 f2 le later rows items ScanOpen database is = record {
  read = disk.now;
  from = goes;
  upto = omega arith;
  counted = omega (arith, le, later);
  device = λ same. let e : ScanOpen ≡ Refused DeviceFailed = same in absurd cc;
  past = λ same. let e : ScanOpen ≡ Refused NumberEnd = same in absurd cc;
  in_reach = λ reads. absurd reads;
}
ends_causes old disk goes ws session table f0 f1 f2 le later rows items (Refused DeviceFailed) database is = record {
  read = disk.now;
  from = goes;
  upto = omega arith;
  counted = omega (arith, le, later);
  device = λ same. rose_since f0 f1 f2 le is.1;
  past = λ same. let e : Refused DeviceFailed ≡ Refused NumberEnd = same in absurd cc;
  in_reach = λ reads. absurd reads;
}
ends_causes old disk goes ws session table f0 f1 f2 le later rows items _ database is = absurd is

-- the kernel fits what the line leaves
fits_end : (disk d0 d1 : Disk) (ws : List World) (session : Session) (table : Table) (rows items : List Item) (reply : Reply) (opened : List World) (f1 f2 : ℕ) (database : Option Database)
    → EndsRows rows items f1 f2 database reply → (e : ScanEnded d0 d1 ws session table items reply opened) → (reply ≡ ScanOpen → FitsWorlds database disk opened) → FitsWorlds database disk e.after
fits_end disk d0 d1 ws session table rows items ScanOpen opened f1 f2 database is e fit = subst (λ (vs : List World). FitsWorlds database disk vs) (sym (e.whole refl)) (fit refl)
fits_end disk d0 d1 ws session table rows items (Refused DeviceFailed) opened f1 f2 database is e fit =
    subst (λ (o : Option Database). FitsWorlds o disk e.after) (sym is.2) (fits_off disk e.after (e.rest refl))
fits_end disk d0 d1 ws session table rows items _ opened f1 f2 database is e fit = absurd is

module _ (d0 d1 d2 : Disk) (f0 f1 f2 : ℕ) (counted : f0 ≤ f1) (later : f1 ≤ f2) (ws : List World) (session : Session) (table : Table) (rows : List Item) (fits : List World → Type 0)
    (done_so : Completes page_reading StandsFor d0 d1 ws (Some (ScanTable session table)) (record { items = rows; reply = ScanOpen }) fits) (w : World) (there : Contains ws w) (database : Option Database) where
  pub scan_line : (r : Result (Unit {0}) Fault) → SaysScan d1 d2 f1 f2 done_so.after rows database r → DoesLine d0 d2 f0 f2 ws (Some (ScanTable session table)) database r
  scan_line (Ok unit) s =
      let e = ended d0 d1 ws session table rows done_so.after done_so.does w there s.items s.reply f1 f2 database s.ends in
      taken_whole page_reading StandsFor d0 d1 d2 ws (Some (ScanTable session table)) (record { items = s.items; reply = s.reply }) e.after e.does
      (says_as (StandsForOneOf done_so.after) (IsAfter page_reading StandsFor ws (Some (ScanTable session table)) s.reply e.after) e.each d1 d2 (scan_text s.items s.reply) s.says)
      f0 f2 f2 (ends_causes d0 d1 done_so.does.keeps.later ws session table f0 f1 f2 counted later rows s.items s.reply database s.ends) (omega arith) (FitsWorlds database d2)
      (fits_end d2 d0 d1 ws session table rows s.items s.reply done_so.after f1 f2 database s.ends e s.fit) s.said
  scan_line (Err fault) s =
      let e = ended d0 d1 ws session table rows done_so.after done_so.does w there s.items s.reply f1 f2 database s.ends in
      taken page_reading StandsFor d0 d1 d2 ws (Some (ScanTable session table)) (record { items = s.items; reply = s.reply }) e.after e.does
      (says_as (StandsForOneOf done_so.after) (IsAfter page_reading StandsFor ws (Some (ScanTable session table)) s.reply e.after) e.each d1 d2 (scan_text s.items s.reply) s.says)
      f0 f2 f2 (ends_causes d0 d1 done_so.does.keeps.later ws session table f0 f1 f2 counted later rows s.items s.reply database s.ends) (omega arith)
