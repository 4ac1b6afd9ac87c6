-- How steps and runs are put together.
--     CommandStep-done, CommandStep-refused      a step from its refusal
--     Run-append      a run goes on by one line
use Rattle.std.proofs.Common.{◌≡◌, refl, sym, subst, ap, List, [], ◌∷◌, ◌++◌, Option, Some, None, MatchOption}
use Rattle.mdb_model.specs.declared.script.Command.{Command}
use Rattle.mdb_model.specs.declared.script.Refusal.{Refusal}
use Rattle.mdb_model.specs.Pages.{PageReading}
use Rattle.mdb_model.specs.Worlds.{World}
use Rattle.mdb_model.specs.Answers.{refused}
use Rattle.mdb_model.specs.Steps.{Facts, done, Fits}
use Rattle.mdb_model.specs.Refusals.{refusal, medium_full, first_cause}
use Rattle.mdb_model.specs.Runs.{CommandStep, IsDone, IsRefused, Entry, Run, TakenLine, last_worlds}

module _ (reading : PageReading) where
  pub CommandStep-done : (w : World) (facts : Facts) (line : Command) → refusal reading w facts line ≡ None → medium_full w facts line ≡ None → Fits reading w facts line
      → CommandStep reading w line facts (done reading w facts line).0 (done reading w facts line).1
  CommandStep-done w facts line admitted fit fits =
      let answer = (done reading w facts line).0 in
      let w' = (done reading w facts line).1 in
      subst (λ (r : Option Refusal × Option Refusal). MatchOption r.0 (Fits reading w facts line × MatchOption r.1 (IsDone reading w line facts answer w') (λ cause. IsRefused reading cause w answer w')) (λ cause. IsRefused reading cause w answer w'))
      (λ i. (sym admitted i, sym fit i)) (fits, (refl, refl))

  pub CommandStep-refused : (w : World) (facts : Facts) (line : Command) (cause : Refusal) → refusal reading w facts line ≡ Some cause
      → CommandStep reading w line facts (refused cause) w
  CommandStep-refused w facts line cause is =
      subst (λ r. MatchOption r (Fits reading w facts line × MatchOption (medium_full w facts line) (IsDone reading w line facts (refused cause) w) (λ other. IsRefused reading other w (refused cause) w)) (λ other. IsRefused reading other w (refused cause) w))
      (sym is) (refl, refl)

  pub Run-append : (old : List World) (run : List TakenLine) (entry : TakenLine) → Run reading old run
      → Entry reading (last_worlds reading old run) entry.line entry.answer entry.worlds → Run reading old (run ++ entry ∷ [])
  Run-append old [] entry goes next = (next, tt)
  Run-append old (first ∷ run) entry goes next = (goes.0, Run-append first.worlds run entry goes.1 next)

-- a cause that is not there
pub first_cause-none : (cause : Option Refusal) (rest : List (Option Refusal)) → cause ≡ None → first_cause (cause ∷ rest) ≡ first_cause rest
first_cause-none cause rest none = ap (λ c. first_cause (c ∷ rest)) none
