-- The open lines of two sessions in a worked run, computed.
use Rattle.std.proofs.Common.{◌≡◌, refl, List, [], ◌∷◌, ◌++◌, take, Some, codes}
use Rattle.std.specs.FinMap.{empty}
use Rattle.mdb_model.specs.declared.name.Session.{Session}
use Rattle.mdb_model.specs.declared.script.Command.{Command}
use Rattle.mdb_model.specs.declared.script.Command.TheVariants.{GetRow, PutRow, CommitWork}
use Rattle.mdb_model.specs.declared.script.Refusal.TheVariants.{Locked, DeviceFailed, MemoryWanting}
use Rattle.mdb_model.specs.declared.script.Reply.TheVariants.{Found, PutDone, Committed}
use Rattle.mdb_model.specs.Answers.{Answer, plain, refused}
use Rattle.mdb_model.specs.Runs.{TakenLine}
use Rattle.mdb_model.specs.Serial.{AnsweredLine, open_lines, AreAlone}
use Rattle.mdb_model.proofs.Computing.{maps}

abbrev one : Session
one = record { 0 = 1 }

abbrev two : Session
two = record { 0 = 2 }

-- a line of session 1 or 2, about one row
abbrev put : Session → Command
put session = PutRow session (record { 0 = 1 }) (codes "k") (codes "v")

abbrev ask : Session → Command
ask session = GetRow session (record { 0 = 1 }) (codes "k")

abbrev found : Answer
found = plain (Found (codes "v"))

abbrev taken : Command → Answer → TakenLine
taken line answer = record { line = Some line; answer = answer; worlds = [] }

-- Session 1 puts a row, session 2 meets its lock, session 1 reads the row and commits, and session 2 reads it.
abbrev run : List TakenLine
run =
    taken (put one) (plain PutDone)
    ∷ taken (ask two) (refused (Locked one))
    ∷ taken (ask one) found
    ∷ taken (CommitWork one) (plain (Committed 1))
    ∷ taken (ask two) found
    ∷ []

-- the lines that the commit ends
abbrev ended : List AnsweredLine
ended = (put one, plain PutDone) ∷ (ask one, found) ∷ []

before_commit : open_lines 1 (take 3 run) ≡ ended
before_commit = refl

-- they were answered as with nobody else, on the tables before the commit
alone_before_commit : AreAlone ended empty
alone_before_commit = simp maps refl

-- a line that was refused is not among them
refused_before_commit : open_lines 2 (take 3 run) ≡ []
refused_before_commit = refl

after_commit : open_lines 1 run ≡ []
after_commit = refl

read_after_commit : open_lines 2 run ≡ (ask two, found) ∷ []
read_after_commit = refl

-- where memory runs out they stay open, and where a device fails they end
kept_without_memory : open_lines 2 (run ++ taken (ask two) (refused MemoryWanting) ∷ []) ≡ (ask two, found) ∷ []
kept_without_memory = refl

ended_by_device : open_lines 2 (run ++ taken (ask one) (refused DeviceFailed) ∷ []) ≡ []
ended_by_device = refl
