-- How far the run of a script is.
--     DoesLine      a line was done, and what answers it was said, or not to its end
--     ReadsAs, HandlesLine      what a line reads as; the same of a line with its texts, which may
--         be skipped
--     IsLineText      a line that the reader found
--     is_end, weight_in      whether no line is left; what the loop counts a line as
--     HasReadLines, Progress      lines of the script are answered, and others are left
use Rattle.std.specs.Prelude.{◌≡◌, ℕ, ◌<◌, ◌++◌, Bool, true, false, List, Option, Some, Result, Ok, Err, length, min, max}
use Rattle.std.specs.List.{AllZip}
use Rattle.mdb_model.specs.declared.fault.Failed.{Failed as Fault}
use Rattle.mdb_model.specs.Runs.{Line}
use Rattle.mdb_model.specs.Script.{Reads, is_skipped}
use Rattle.mdb_model.specs.Worlds.{World}
use Rattle.mdb_host.specs.Disk.{Disk}
use Rattle.open_database.specs.declared.database.Database.{Database}
use Rattle.db_kernel.specs.Kept.{FitsWorlds}
use Rattle.script_lines.specs.declared.lines.LineKind.{LineKind}
use Rattle.script_lines.specs.declared.lines.LineKind.TheVariants.{Text, TooLong, End}
use Rattle.script_run.specs.Along.{Taken, TakenWhole, Served}
use Rattle.script_lines.specs.Reading.{Reading, HasRead, kept, weight_of}
use Rattle.open_database.specs.Outside.{page_reading, StandsFor}

-- a line was done, and what answers it is said, or not to its end
abbrev pub DoesLine : (old new : Disk) → (before now : ℕ) → List World → Line
    → (after : Option Database) → Result (Unit {0}) Fault → Type 0
DoesLine old new before now ws line after (Ok done) =
    TakenWhole page_reading StandsFor old new before now ws line (FitsWorlds after new)
DoesLine old new before now ws line after (Err fault) =
    Taken page_reading StandsFor old new before now ws line

-- each text that the line may have is answered, and reads so
abbrev pub ReadsAs : (List ℕ → Type 0) → Line → Type 0
ReadsAs IsText line = (text : List ℕ) → IsText text → (is_skipped text ≡ false) × Reads text line

-- a line with one of these texts is skipped; or it reads as a line of the machine, which was done
abbrev pub HandlesLine : (old new : Disk) → (before now : ℕ) → List World
    → (IsText : List ℕ → Type 0)
    → (after : Option Database) → Result Bool Fault → Type 0
HandlesLine old new before now ws IsText after (Ok true) =
    (line : Line) × ReadsAs IsText line
    × TakenWhole page_reading StandsFor old new before now ws line (FitsWorlds after new)
HandlesLine old new before now ws IsText after (Ok false) =
    (text : List ℕ) → IsText text → is_skipped text ≡ true
HandlesLine old new before now ws IsText after (Err fault) =
    (line : Line) × ReadsAs IsText line × Taken page_reading StandsFor old new before now ws line

abbrev pub IsLineText : LineKind → (found text : List ℕ) → Type 0
IsLineText Text found text = text ≡ found
IsLineText (TooLong weight) found text = 8192 < length text
IsLineText End found text = ⊥

abbrev pub is_end : LineKind → Bool
is_end End = true
is_end _ = false

abbrev pub weight_in : LineKind → ℕ
weight_in Text = 1
weight_in (TooLong lines) = min (max lines 1) 16777217
weight_in End = 1

-- of these bytes some are given, the lines in them are answered, and others are left
pub record HasReadLines (bytes : List ℕ) (reader : Reading) (told : Option (List ℕ)) (count : ℕ)
    (lines : List Line) : Type 0 where
  pub given : List ℕ
  pub left : List ℕ
  pub done : List (List ℕ)
  pub all : given ++ left ≡ bytes
  pub is_left : told ≡ Some left
  pub read : HasRead reader given left done
  pub weight : count ≡ weight_of done
  pub are : AllZip Reads (kept done) lines

-- lines are answered, and where the source tells its bytes, they are those of its script
pub record Progress (old now_is : Disk) (before now : ℕ) (ws : List World)
    (database : Option Database) (reader : Reading) (told_before told : Option (List ℕ)) (count : ℕ)
    : Type 0 where
  pub lines : List Line
  pub served : Served page_reading StandsFor old now_is before now ws lines
      (FitsWorlds database now_is)
  pub script : (bytes : List ℕ) → told_before ≡ Some bytes
      → HasReadLines bytes reader told count lines
