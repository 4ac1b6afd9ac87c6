-- The causes of the lines of a run, one line after the other.
--     caused_on, caused_since      the causes of a line as time goes on, and from an earlier instant
--     caused_push      those of one line more
--     LineCauses, line_causes      what a line has of causes, before its reply is said and after
use Rattle.std.proofs.Common.{◌≡◌, sym, subst, ◌∙◌, ℕ, ◌≤◌, true, false, List, [], ◌∷◌, ◌++◌, arith, append_assoc}
use Rattle.std.specs.List.{concat}
use Rattle.std.proofs.lemmas.List.{append-nil}
use Rattle.mdb_model.specs.declared.script.Refusal.TheVariants.{DeviceFailed, NumberEnd}
use Rattle.mdb_model.specs.declared.script.Reply.{Reply}
use Rattle.mdb_model.specs.declared.script.Reply.TheVariants.{Refused}
use Rattle.mdb_model.specs.Answers.{Answer}
use Rattle.mdb_model.specs.Causes.{Rose}
use Rattle.mdb_model.specs.Headline.{Instant, IsCaused, AreCaused, ReadsNumbers, IsOpenReply, numbers_end, texts_of}
use Rattle.mdb_model.specs.Images.{Image}
use Rattle.mdb_model.specs.Pages.{PageReading}
use Rattle.mdb_model.specs.Runs.{Line, TakenLine, last_worlds}
use Rattle.mdb_model.specs.Text.{text_of}
use Rattle.mdb_model.specs.Worlds.{World}
use Rattle.mdb_host.specs.Disk.{Disk, Keeps}
use Rattle.db_kernel.specs.Damages.{past_end_in}
use Rattle.open_database.specs.Stretch.{Does}
use Rattle.script_run.specs.Along.{instant, HasCauses}

rose_since : (a b c : ℕ) → a ≤ b → Rose b c → Rose a c
rose_since a b c le rose = omega (arith, le, rose)

-- what a line has of causes once it is done, and before its reply is said; the records that it needs were read at a moment of it
pub record LineCauses (old disk : Disk) (before now : ℕ) (ws : List World) (line : Line) (reply : Reply) : Type 0 where
  pub read : ℕ
  pub from : old.now ≤ read
  pub upto : read ≤ disk.now
  pub counted : before ≤ now
  pub device : reply ≡ Refused DeviceFailed → Rose before now
  pub past : reply ≡ Refused NumberEnd → (image : Image) → disk.may_leave read image → numbers_end past_end_in line image ≡ true
  pub in_reach : ReadsNumbers ws line → IsOpenReply reply → (image : Image) → disk.may_leave read image → numbers_end past_end_in line image ≡ false

module _ (reading : PageReading) (stands : Image → World → Type 0) where
  abbrev CausedIn : Disk → List World → List ℕ → Instant → TakenLine → Instant → Type 0
  CausedIn disk = IsCaused reading disk.said disk.may_leave stands past_end_in

  abbrev AllCausedIn : Disk → Instant → List World → List ℕ → Instant → List Instant → List TakenLine → Type 0
  AllCausedIn disk = AreCaused reading disk.said disk.may_leave stands past_end_in

  pub caused_on : (d1 d2 : Disk) → Keeps d1 d2 → (ws : List World) (before : List ℕ) (since : Instant) (entry : TakenLine) (at : Instant)
      → at.clock ≤ d1.now → CausedIn d1 ws before since entry at → CausedIn d2 ws before since entry at
  caused_on d1 d2 keeps ws before since entry at within c =
      let read : at.read ≤ d1.now = omega (arith, within, c.until_clock) in
      record {
        since_clock = c.since_clock;
        until_clock = c.until_clock;
        counted = c.counted;
        quiet = λ t from upto. keeps.said t (omega (arith, upto, within)) ∙ c.quiet t from upto;
        device = c.device;
        past = λ is image left. c.past is image (keeps.no_more at.read image read left);
        in_reach = λ line reply image left. c.in_reach line reply image (keeps.no_more at.read image read left);
      }

  pub caused_since : (disk : Disk) (ws : List World) (before : List ℕ) (since later : Instant) (entry : TakenLine) (at : Instant)
      → since.clock ≤ later.clock → since.faults ≤ later.faults → CausedIn disk ws before later entry at → CausedIn disk ws before since entry at
  caused_since disk ws before since later entry at clock faults c = record {
    since_clock = omega (arith, clock, c.since_clock);
    until_clock = c.until_clock;
    counted = omega (arith, faults, c.counted);
    quiet = c.quiet;
    device = λ is. rose_since since.faults later.faults at.faults faults (c.device is);
    past = c.past;
    in_reach = c.in_reach;
  }

  -- the last instant is not before the first one
  ends_later : (disk : Disk) (end : Instant) (ws : List World) (before : List ℕ) (since : Instant) (instants : List Instant) (run : List TakenLine)
      → AllCausedIn disk end ws before since instants run → (since.clock ≤ end.clock) × (since.faults ≤ end.faults)
  ends_later disk end ws before since [] [] all = all
  ends_later disk end ws before since [] (entry ∷ run) all = absurd all
  ends_later disk end ws before since (at ∷ instants) [] all = absurd all
  ends_later disk end ws before since (at ∷ instants) (entry ∷ run) all =
      let rest = ends_later disk end entry.worlds (before ++ text_of entry.answer) at instants run all.1 in
      (omega (arith, all.0.since_clock, all.0.until_clock, rest.0), omega (arith, all.0.counted, rest.1))

  pub caused_push : (d1 d2 : Disk) (keeps : Keeps d1 d2) (f1 f2 : ℕ) (ws : List World) (before : List ℕ) (since : Instant) (instants : List Instant) (run : List TakenLine) (entry : TakenLine) (at : Instant)
      → AllCausedIn d1 (instant d1.now f1) ws before since instants run
      → CausedIn d2 (last_worlds reading ws run) (before ++ concat (texts_of run)) (instant d1.now f1) entry at → at.clock ≤ d2.now → at.faults ≤ f2
      → AllCausedIn d2 (instant d2.now f2) ws before since (instants ++ at ∷ []) (run ++ entry ∷ [])
  caused_push d1 d2 keeps f1 f2 ws before since [] [] entry at all next within counted =
      let here = subst (λ (text : List ℕ). CausedIn d2 ws text (instant d1.now f1) entry at) (append-nil before) next in
      (caused_since d2 ws before since (instant d1.now f1) entry at all.0 all.1 here, (within, counted))
  caused_push d1 d2 keeps f1 f2 ws before since [] (other ∷ run) entry at all next within counted = absurd all
  caused_push d1 d2 keeps f1 f2 ws before since (here ∷ instants) [] entry at all next within counted = absurd all
  caused_push d1 d2 keeps f1 f2 ws before since (here ∷ instants) (other ∷ run) entry at all next within counted =
      let after = before ++ text_of other.answer in
      let later = ends_later d1 (instant d1.now f1) other.worlds after here instants run all.1 in (
        caused_on d1 d2 keeps ws before since other here later.0 all.0,
        caused_push d1 d2 keeps f1 f2 other.worlds after here instants run entry at all.1
            (subst (λ (text : List ℕ). CausedIn d2 (last_worlds reading other.worlds run) text (instant d1.now f1) entry at)
            (sym (append_assoc before (text_of other.answer) (concat (texts_of run)))) next) within counted,
      )

  -- once the reply is said, or a part of it
  module _ (d0 d1 d2 : Disk) (f0 f1 f2 : ℕ) (ws : List World) (line : Line) (answer : Answer) (after : List World) (does : Does reading stands d0 d1 ws line answer after) (goes_on : Keeps d1 d2)
      (causes : LineCauses d0 d1 f0 f1 ws line answer.reply) (counted : f1 ≤ f2) where
    pub line_causes : HasCauses reading stands d0 d2 f0 f2 ws (record { line = line; answer = answer; worlds = after })
    line_causes = record {
      at = record { read = causes.read; clock = d1.now; faults = f1 };
      caused = record {
        since_clock = causes.from;
        until_clock = causes.upto;
        counted = causes.counted;
        quiet = λ t from upto.
            goes_on.said t upto ∙ does.quiet t (omega (arith, from, causes.from)) upto;
        device = causes.device;
        past = λ is image left. causes.past is image (goes_on.no_more causes.read image causes.upto left);
        in_reach = λ reads opened image left. causes.in_reach reads opened image (goes_on.no_more causes.read image causes.upto left);
      };
      within = goes_on.later;
      counted = counted;
    }
