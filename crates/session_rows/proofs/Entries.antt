-- A line as an entry of a run.
--     entry_refused      a line that each world refuses for the same cause
--     OneStep, entry_done, entry_starved      of one world: a line that is done, and one that memory is short for
use Rattle.std.proofs.Common.{◌≡◌, refl, List, [], ◌∷◌, Some, None, All, IsTrue}
use Rattle.std.specs.List.{AllZip}
use Rattle.std.proofs.lemmas.List.Elements.{All-head, All-tail}
use Rattle.mdb_model.specs.declared.script.Command.{Command}
use Rattle.mdb_model.specs.declared.script.Refusal.{Refusal}
use Rattle.mdb_model.specs.declared.script.Refusal.TheVariants.{MemoryWanting}
use Rattle.mdb_model.specs.Pages.{PageReading}
use Rattle.mdb_model.specs.Worlds.{World}
use Rattle.mdb_model.specs.Answers.{Answer, refused}
use Rattle.mdb_model.specs.Steps.{done, Fits}
use Rattle.mdb_model.specs.Refusals.{refusal, medium_full}
use Rattle.mdb_model.specs.Runs.{Step, Entry, Stepped, Starved, may_want_memory}
use Rattle.mdb_model.proofs.StepLemmas.{CommandStep-done, CommandStep-refused}
use Rattle.session_rows.specs.Serving.{no_facts}

module _ (reading : PageReading) where
  abbrev pub Causes : List World → Command → Refusal → Type 0
  Causes ws line cause = All (λ w. refusal reading w no_facts line ≡ Some cause) ws

  steps_refused : (ws : List World) (line : Command) (cause : Refusal) → Causes ws line cause → AllZip (λ w w'. Step reading w (Some line) (refused cause) w') ws ws
  steps_refused [] line cause all = tt
  steps_refused (w ∷ ws) line cause all = (
    (no_facts, CommandStep-refused reading w no_facts line cause (All-head (λ w. refusal reading w no_facts line ≡ Some cause) w ws all)),
    steps_refused ws line cause (All-tail (λ w. refusal reading w no_facts line ≡ Some cause) w ws all),
  )

  -- a line that each world refuses for the same cause
  pub entry_refused : (ws : List World) (line : Command) (cause : Refusal) → Causes ws line cause → Entry reading ws (Some line) (refused cause) ws
  entry_refused ws line cause all = Stepped (steps_refused ws line cause all)

  -- from one world to the next
  abbrev pub OneStep : World → Command → Answer → World → Type 0
  OneStep w line answer w' = Entry reading (w ∷ []) (Some line) answer (w' ∷ [])

  pub entry_done : (w : World) (line : Command) → refusal reading w no_facts line ≡ None → medium_full w no_facts line ≡ None → Fits reading w no_facts line
      → OneStep w line (done reading w no_facts line).0 (done reading w no_facts line).1
  entry_done w line admitted fit fits = Stepped ((no_facts, CommandStep-done reading w no_facts line admitted fit fits), tt)

  pub entry_starved : (w : World) (line : Command) → IsTrue (may_want_memory w (Some line)) → OneStep w line (refused MemoryWanting) w
  entry_starved w line may = Starved ((may, refl), tt)
