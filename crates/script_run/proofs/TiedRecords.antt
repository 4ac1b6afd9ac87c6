-- The records of a whole run are tied, where each is tied at its reply. As long as the program
-- knows no tasks, no line begins one, and nothing more is asked.
--     tied_of      what a line ties does not go by what the host says and leaves
--     no_task      no line begins a savepoint task
--     records_tied, records_of_call      the records of a whole run
--     records_in      those of a call of the program
use Rattle.std.proofs.Common.{◌≡◌, subst, ap, ℕ, zero, suc, ◌+◌, List, [], ◌∷◌, Option, Some, None, IsTrue, Contains, arith}
use Rattle.std.specs.Prelude.{slice_get}
use Rattle.std.specs.List.{AllZip}
use Rattle.mdb_model.specs.declared.script.BackupKind.TheVariants.{OfPages}
use Rattle.mdb_model.specs.declared.script.Command.TheVariants.{MakeSavepoint, DbAdmin, DbOnline, DbOffline, TaskBackup, BackupStart, TaskSavepoint}
use Rattle.mdb_model.specs.declared.script.Refusal.TheVariants.{Syntax, MemoryWanting, DeviceFailed}
use Rattle.mdb_model.specs.declared.script.Reply.{Reply}
use Rattle.mdb_model.specs.declared.script.Reply.TheVariants.{SavepointDone, AdminAt, OnlineAt, OfflineNow, TaskBegun, PagesSaved, Refused}
use Rattle.mdb_model.specs.Answers.{Answer}
use Rattle.mdb_model.specs.Images.{Image as DiskImage}
use Rattle.mdb_model.specs.Headline.{IsFull, IsTied, LineIs, AtReply, IsTask, RecordsAreTied}
use Rattle.mdb_model.specs.Pages.{PageReading, PageMap}
use Rattle.mdb_model.specs.Runs.{Line, TakenLine, Step, Entry, Stepped, Starved, Failed, FoundOut, Run, reopens, worlds_after}
use Rattle.mdb_model.specs.Worlds.{World}
use Rattle.mdb_host.specs.Disk.{Disk}
use Rattle.open_database.specs.Outside.{page_reading, StandsFor, Ties}
use Rattle.standing.specs.WholeStanding.{pages_in, savepoint_in, commit_number_in}
use Rattle.script_run.specs.Along.{AreTied}

abbrev the_one : TakenLine → Option TakenLine → TakenLine
the_one other (Some entry) = entry
the_one other None = other

-- The lines of a run

module _ (reading : PageReading) where
  -- each is one from the worlds before it
  entry_at : (old : List World) (run : List TakenLine) (k : ℕ) (entry : TakenLine) → Run reading old run → slice_get run k ≡ Some entry
      → Entry reading (worlds_after reading old run k) entry.line entry.answer entry.worlds
  entry_at old [] zero entry follows is = absurd cc
  entry_at old [] (suc k) entry follows is = absurd cc
  entry_at old (x ∷ run) zero entry follows is =
      subst (λ (e : TakenLine). Entry reading old e.line e.answer e.worlds) (ap (the_one x) is) follows.0
  entry_at old (x ∷ run) (suc k) entry follows is = entry_at x.worlds run k entry follows.1 is

  -- the step from a world that is possible before it
  step_from : (answer : Answer) (ws after : List World) → AllZip (λ w w'. Step reading w (Some TaskSavepoint) answer w') ws after → (w : World) → Contains ws w
      → (w' : World) × Step reading w (Some TaskSavepoint) answer w'
  step_from answer [] after all w (k, inside, is) = absurd (omega (arith, inside))
  step_from answer (v ∷ ws) [] all w there = absurd all
  step_from answer (v ∷ ws) (v' ∷ after) all w (zero, inside, is) = (v', subst (λ (u : World). Step reading u (Some TaskSavepoint) answer v') is all.0)
  step_from answer (v ∷ ws) (v' ∷ after) all w (suc k, inside, is) = step_from answer ws after all.1 w (k, omega (arith, inside), is)

  -- while the program knows no tasks, this line is refused
  not_begun : (answer : Answer) (w w' : World) → Step reading w (Some TaskSavepoint) answer w' → answer.reply ≡ TaskBegun → ⊥
  not_begun answer w w' step begun =
      let refused : answer.reply ≡ Refused Syntax = ap (λ (a : Answer). a.reply) step.1.0 in
      cc

  begins : (line : Line) (ws after : List World) (answer : Answer) → Entry reading ws line answer after → line ≡ Some TaskSavepoint → answer.reply ≡ TaskBegun → (w : World) → Contains ws w → ⊥
  begins line ws after answer (Stepped all) is begun w there =
      let step = step_from answer ws after (subst (λ (l : Line). AllZip (λ w w'. Step reading w l answer w') ws after) is all) w there in
      not_begun answer w step.0 step.1 begun
  begins line ws after answer (Starved all) is begun w there = starved begun
    where
      starved : Refused MemoryWanting ≡ TaskBegun → ⊥
      starved same = cc
  begins line ws after answer (Failed v items stops possible said) is begun w there = failed begun
    where
      failed : Refused DeviceFailed ≡ TaskBegun → ⊥
      failed same = cc
  begins line ws after answer (FoundOut v v' again many possible step failed starved) is begun w there = found (subst (λ (l : Line). IsTrue (reopens l)) is again)
    where
      found : IsTrue (reopens (Some TaskSavepoint)) → ⊥
      found again = cc

-- What is tied

module _ (reading : PageReading) {Image : Type 0} (said other_said : ℕ → List ℕ) (may_leave other_may_leave : ℕ → Image → Type 0) (stands other_stands : Image → World → Type 0)
    (pages_in : Image → PageMap) (savepoint_in commit_in : Image → ℕ) where
  abbrev Full : PageMap → World → Type 0
  Full = IsFull reading said may_leave stands pages_in savepoint_in commit_in

  abbrev OtherFull : PageMap → World → Type 0
  OtherFull = IsFull reading other_said other_may_leave other_stands pages_in savepoint_in commit_in

  abbrev Tied : Line → Reply → (before after : World) → Image → Type 0
  Tied = IsTied reading said may_leave stands pages_in savepoint_in commit_in

  abbrev OtherTied : Line → Reply → (before after : World) → Image → Type 0
  OtherTied = IsTied reading other_said other_may_leave other_stands pages_in savepoint_in commit_in

  -- the rows of a record do not go by what the host says and leaves
  full_of : (pages : PageMap) (w : World) → OtherFull pages w → Full pages w
  full_of pages w full = record { rows = full.rows; images = full.images; before = full.before; changed = full.changed; values = full.values }

  pub tied_of : (line : Line) (reply : Reply) (before after : World) (image : Image) → OtherTied line reply before after image → Tied line reply before after image
  tied_of (Some MakeSavepoint) SavepointDone before after image tied = full_of (pages_in image) after tied
  tied_of (Some DbAdmin) (AdminAt number) before after image tied = full_of (pages_in image) after tied
  tied_of (Some DbOnline) (OnlineAt number) before after image tied = λ off. full_of (pages_in image) after (tied off)
  tied_of (Some DbOffline) OfflineNow before after image tied = full_of (pages_in image) after tied
  tied_of (Some (TaskBackup medium kind)) TaskBegun before after image tied = (full_of (pages_in image) after tied.0, tied.1)
  tied_of (Some (BackupStart medium (OfPages kind))) (PagesSaved saved number) before after image tied = (full_of (pages_in image) after tied.0, tied.1)
  tied_of line reply before after image tied = tied

  module _ (start end : ℕ) (old : List World) (run : List TakenLine) (follows : Run reading old run) where
    abbrev IsLineOf : ℕ → Line → Reply → (before after : World) → Type 0
    IsLineOf = LineIs reading said may_leave stands pages_in savepoint_in commit_in old run

    abbrev AtReplyOf : ℕ → (Image → Type 0) → Type 0
    AtReplyOf = AtReply reading said may_leave stands pages_in savepoint_in commit_in start end run

    abbrev Task : (begun ended : ℕ) → World → Type 0
    Task = IsTask reading said may_leave stands pages_in savepoint_in commit_in old run

    pub no_task : (begun ended : ℕ) (v : World) → Task begun ended v → ⊥
    no_task begun ended v task =
        let line = task.first.1 in
        let entry = line.1.0 in
        begins reading entry.line (worlds_after reading old run begun) entry.worlds entry.answer (entry_at reading old run begun entry follows line.1.1) line.1.2 line.1.3 task.first.0 line.0

    pub records_tied : ((k : ℕ) (line : Line) (reply : Reply) (before after : World) → IsLineOf k line reply before after → AtReplyOf (k + 1) (OtherTied line reply before after))
        → RecordsAreTied reading said may_leave stands pages_in savepoint_in commit_in start end old run
    records_tied tied = record {
      at_replies = λ k line reply before after is t image from upto replied left. tied_of line reply before after image (tied k line reply before after is t image from upto replied left);
      tasks = λ begun ended v task. absurd (no_task begun ended v task);
      tasks_alone = λ begun ended v task. absurd (no_task begun ended v task);
    }

-- of a call, where what a line ties is what the machine asks, told of whatever host
pub records_of_call : (reading : PageReading) (stands : DiskImage → World → Type 0) (other_said : ℕ → List ℕ) (other_may_leave : ℕ → DiskImage → Type 0) (other_stands : DiskImage → World → Type 0)
    (pages_in : DiskImage → PageMap) (savepoint_in commit_in : DiskImage → ℕ)
    → ((line : Line) (reply : Reply) (before after : World) (image : DiskImage) → Ties line reply before after image
    → IsTied reading other_said other_may_leave other_stands pages_in savepoint_in commit_in line reply before after image)
    → (old new : Disk) (ws : List World) (run : List TakenLine) → Run reading ws run → AreTied reading stands old new ws run
    → RecordsAreTied reading new.said new.may_leave stands pages_in savepoint_in commit_in old.now new.now ws run
records_of_call reading stands other_said other_may_leave other_stands pages_in savepoint_in commit_in ties old new ws run follows tied =
    records_tied reading new.said other_said new.may_leave other_may_leave stands other_stands pages_in savepoint_in commit_in old.now new.now ws run follows
    (λ k line reply before after is t image from upto replied left. ties line reply before after image (tied k line reply before after is t image from upto replied left))

-- what a line ties is what the machine asks
ties_say : (line : Line) (reply : Reply) (before after : World) (image : DiskImage) → Ties line reply before after image
    → IsTied page_reading (λ (t : ℕ). []) (λ (t : ℕ) (other : DiskImage). ⊥) StandsFor pages_in savepoint_in commit_number_in line reply before after image
unfolding Ties
ties_say line reply before after image tied = tied

pub records_in : (old new : Disk) (ws : List World) (run : List TakenLine) → Run page_reading ws run → AreTied page_reading StandsFor old new ws run
    → RecordsAreTied page_reading new.said new.may_leave StandsFor pages_in savepoint_in commit_number_in old.now new.now ws run
records_in = records_of_call page_reading StandsFor (λ (t : ℕ). []) (λ (t : ℕ) (other : DiskImage). ⊥) StandsFor pages_in savepoint_in commit_number_in ties_say
