-- Lines of sessions read no pages, so what pages mean is nothing to them.
--     IsOfSessions      the lines of sessions that call no device
--     answered_read      such a line is answered in the same way, whatever pages mean
use Rattle.std.proofs.Common.{List, [], ◌∷◌, Some}
use Rattle.std.specs.List.{AllZip}
use Rattle.mdb_model.specs.declared.script.Command.{Command}
use Rattle.mdb_model.specs.declared.script.Command.TheVariants.{GetRow, PutRow, DelRow, ScanTable, RollbackWork}
use Rattle.mdb_model.specs.Answers.{Answer, Item}
use Rattle.mdb_model.specs.Pages.{PageReading}
use Rattle.mdb_model.specs.Runs.{Step, Entry, Stepped, Starved, Failed, FoundOut, AreOutcomes, AreAllOutcomes, MayHaveSaid}
use Rattle.mdb_model.specs.Worlds.{World}
use Rattle.session_rows.specs.Serving.{no_pages, IsAnswered}

abbrev pub IsOfSessions : Command → Type 0
IsOfSessions (GetRow session table key) = Unit {0}
IsOfSessions (PutRow session table key value) = Unit {0}
IsOfSessions (DelRow session table key) = Unit {0}
IsOfSessions (ScanTable session table) = Unit {0}
IsOfSessions (RollbackWork session) = Unit {0}
IsOfSessions _ = ⊥

module _ (reading : PageReading) where
  -- a line of which each step, each stop and each item is one by the other reading too
  record ReadsAlike (line : Command) : Type 1 where
    step : (w w' : World) (answer : Answer) → Step no_pages w (Some line) answer w' → Step reading w (Some line) answer w'
    stop : (w : World) (new : List World) → AreOutcomes no_pages w (Some line) new → AreOutcomes reading w (Some line) new
    said : (w : World) (items : List Item) → MayHaveSaid no_pages w (Some line) items → MayHaveSaid reading w (Some line) items

  reads_alike : (line : Command) → IsOfSessions line → ReadsAlike line
  reads_alike (GetRow session table key) is = record { step = λ w w' answer s. s; stop = λ w new s. s; said = λ w items s. s }
  reads_alike (PutRow session table key value) is = record { step = λ w w' answer s. s; stop = λ w new s. s; said = λ w items s. s }
  reads_alike (DelRow session table key) is = record { step = λ w w' answer s. s; stop = λ w new s. s; said = λ w items s. s }
  reads_alike (ScanTable session table) is = record { step = λ w w' answer s. s; stop = λ w new s. s; said = λ w items s. s }
  reads_alike (RollbackWork session) is = record { step = λ w w' answer s. s; stop = λ w new s. s; said = λ w items s. s }
  reads_alike _ is = absurd is

  module _ (line : Command) (alike : ReadsAlike line) where
    all_steps : (ws ws' : List World) (answer : Answer) → AllZip (λ w w'. Step no_pages w (Some line) answer w') ws ws' → AllZip (λ w w'. Step reading w (Some line) answer w') ws ws'
    all_steps [] [] answer all = tt
    all_steps [] (w' ∷ ws') answer all = absurd all
    all_steps (w ∷ ws) [] answer all = absurd all
    all_steps (w ∷ ws) (w' ∷ ws') answer all = (alike.step w w' answer all.0, all_steps ws ws' answer all.1)

    all_stops : (ws new : List World) → AreAllOutcomes no_pages ws (Some line) new → AreAllOutcomes reading ws (Some line) new
    all_stops [] new are = are
    all_stops (w ∷ ws) new (these, others, is, first, rest) = (these, others, is, alike.stop w these first, all_stops ws others rest)

    entry_read : (ws ws' : List World) (answer : Answer) → Entry no_pages ws (Some line) answer ws' → Entry reading ws (Some line) answer ws'
    entry_read ws ws' answer (Stepped all) = Stepped (all_steps ws ws' answer all)
    entry_read ws ws' answer (Starved all) = Starved all
    entry_read ws ws' answer (Failed w items stops there said) = Failed w items (all_stops ws ws' stops) there (alike.said w items said)
    entry_read ws ws' answer (FoundOut w w' reopens many there step failed starved) = FoundOut w w' reopens many there (alike.step w w' answer step) failed starved

  pub answered_read : (line : Command) → IsOfSessions line → (w : World) (answer : Answer) (serves : World → Type 0) → IsAnswered no_pages w line answer serves → IsAnswered reading w line answer serves
  answered_read line is w answer serves a = record {
    sessions = a.sessions;
    entry = entry_read line (reads_alike line is) (w ∷ []) _ answer a.entry;
    served = a.served;
  }
