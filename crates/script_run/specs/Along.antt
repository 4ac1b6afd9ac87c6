-- A stretch of calls as a stretch of a run of the machine.
--     At      what is so at one moment: some replies are said, and each image stands for a world
--         that is possible then
--     IsLine, AtReplyOf, AreTied      a line of a run; what is so of each image at the moment of a
--         reply; what the lines of a run tie is so
--     Passes      from old to new these lines were taken
--     instant, HasCauses      a moment and the count of faults then; how a line came to its answer
--     Taken, TakenWhole      one line was taken and its reply was said, perhaps not to its end; to
--         its end
--     Served      lines were taken in order, and all replies are said
--     KeepsSerialRun      what a whole call keeps
use Rattle.std.specs.Prelude.{◌≡◌, ℕ, ◌+◌, ◌≤◌, List, [], ◌∷◌, ◌++◌, Option, length, map}
use Rattle.std.specs.FinMap.{empty}
use Rattle.std.specs.List.{concat}
use Rattle.mdb_model.specs.Images.{Image}
use Rattle.mdb_model.specs.Pages.{PageReading}
use Rattle.mdb_model.specs.Worlds.{World}
use Rattle.mdb_model.specs.Runs.{Line, TakenLine, Run, last_worlds}
use Rattle.mdb_model.specs.Serial.{IsSerial}
use Rattle.mdb_model.specs.Text.{text_of}
use Rattle.mdb_model.specs.Headline.{IsPrefix, HasSaid, IsPossible, Instant, IsCaused, AreCaused, KeepsRun, LineIs, AtReply, RecordsAreTied, texts_of, lines_of}
use Rattle.mdb_model.specs.Agreement.{Ages}
use Rattle.mdb_model.specs.declared.script.Reply.{Reply}
use Rattle.mdb_model.specs.declared.status.Status.{Status}
use Rattle.mdb_host.specs.Disk.{Disk, Keeps}
use Rattle.standing.specs.WholeStanding.{pages_in, savepoint_in, commit_number_in}
use Rattle.db_kernel.specs.Damages.{past_end_in}
use Rattle.open_database.specs.Outside.{Ties}
use Rattle.open_database.specs.Stretch.{LeavesOnly}

-- a moment, and how many calls on devices had failed by then
abbrev pub instant : (clock faults : ℕ) → Instant
instant clock faults = record { read = clock; clock = clock; faults = faults }

module _ (reading : PageReading) (stands : Image → World → Type 0) where
  -- a line of a run, and the first moment at which so many replies are said, as in the promise
  abbrev pub IsLine : (disk : Disk) → List World → List TakenLine → ℕ → Line → Reply
      → (before after : World) → Type 0
  IsLine disk =
      LineIs reading disk.said disk.may_leave stands (λ image. empty) (λ image. 0) (λ image. 0)

  abbrev pub AtReplyOf : (old new : Disk) → List TakenLine → ℕ → (Image → Type 0) → Type 0
  AtReplyOf old new =
      AtReply reading new.said new.may_leave stands (λ image. empty) (λ image. 0) (λ image. 0)
      old.now new.now

  pub record At (start : ℕ) (disk : Disk) (t : ℕ) (ws : List World) (run : List TakenLine)
      : Type 0 where
    pub count : ℕ
    pub within : count ≤ length run
    pub said : HasSaid reading disk.said disk.may_leave stands start t run count
    pub stand : (image : Image) → disk.may_leave t image
        → (v : World) × stands image v × IsPossible reading disk.said disk.may_leave stands ws run
        count v

  -- each image at the moment of a reply is tied as its line ties it, with each world before the
  -- line and each one after it
  abbrev pub AreTied : (old new : Disk) → List World → List TakenLine → Type 0
  AreTied old new ws run =
      (k : ℕ) (line : Line) (reply : Reply) (w w' : World) → IsLine new ws run k line reply w w'
      → AtReplyOf old new run (k + 1) (Ties line reply w w')

  pub record Passes (old new : Disk) (ws : List World) (run : List TakenLine) : Type 0 where
    pub keeps : Keeps old new
    pub follows : Run reading ws run
    pub moments : (t : ℕ) → old.now ≤ t → t ≤ new.now → At old.now new t ws run
    pub ties : AreTied old new ws run

  -- the causes of a line, with the counts of faults before it and after it
  pub record HasCauses (old new : Disk) (before now : ℕ) (ws : List World) (entry : TakenLine)
      : Type 0 where
    pub at : Instant
    pub caused : IsCaused reading new.said new.may_leave stands past_end_in ws (old.said old.now)
        (instant old.now before) entry at
    pub within : at.clock ≤ new.now
    pub counted : at.faults ≤ now

  pub record Taken (old new : Disk) (before now : ℕ) (ws : List World) (line : Line) : Type 0 where
    pub entry : TakenLine
    pub is : entry.line ≡ line
    pub causes : HasCauses old new before now ws entry
    pub passes : Passes old new ws (entry ∷ [])
    pub part : List ℕ
    pub said : new.said new.now ≡ old.said old.now ++ part
    pub prefix : IsPrefix part (text_of entry.answer)

  pub record TakenWhole (old new : Disk) (before now : ℕ) (ws : List World) (line : Line)
      (fits : List World → Type 0) : Type 0 where
    pub entry : TakenLine
    pub is : entry.line ≡ line
    pub causes : HasCauses old new before now ws entry
    pub passes : Passes old new ws (entry ∷ [])
    pub said : new.said new.now ≡ old.said old.now ++ text_of entry.answer
    pub fit : fits entry.worlds
    pub stand : LeavesOnly reading stands new entry.worlds

  pub record Served (old new : Disk) (before now : ℕ) (ws : List World) (lines : List Line)
      (fits : List World → Type 0) : Type 0 where
    pub run : List TakenLine
    pub lines_are : lines_of run ≡ lines
    pub instants : List Instant
    pub causes : AreCaused reading new.said new.may_leave stands past_end_in (instant new.now now)
        ws (old.said old.now)
        (instant old.now before) instants run
    pub passes : Passes old new ws run
    pub said : new.said new.now ≡ old.said old.now ++ concat (texts_of run)
    pub fit : fits (last_worlds reading ws run)
    pub stand : LeavesOnly reading stands new (last_worlds reading ws run)

  -- what a call keeps: its run, in which each transaction was answered as with nobody else, and the
  -- restart record has the rows at the reply to each line that makes a savepoint
  pub record KeepsSerialRun (old new : Disk) (before now : ℕ) (from : List (World × Ages))
      (status : Status) (left_before left : Option (List ℕ)) : Type 0 where
    pub kept : KeepsRun reading new.said new.may_leave stands past_end_in status old.now new.now
        before now left_before left from
    pub serial : IsSerial kept.run
    pub records : RecordsAreTied reading new.said new.may_leave stands pages_in savepoint_in
        commit_number_in old.now new.now (map (λ e. e.0) from) kept.run
