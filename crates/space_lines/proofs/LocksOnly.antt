-- A line that only locks, as an entry of a run.
--     OnlyLocks      what such a line does
--     entry_counted      where its reply is one of a session, the world stays counted
use Rattle.std.proofs.Common.{◌≡◌, ◌∙◌, refl, sym, subst, ℕ, List, [], ◌∷◌, Bool, true, false, Option, Some, None, MatchOption, IsTrue}
use Rattle.mdb_model.specs.declared.script.Command.{Command}
use Rattle.mdb_model.specs.declared.script.Refusal.{Refusal}
use Rattle.mdb_model.specs.declared.script.Reply.{Reply}
use Rattle.mdb_model.specs.Answers.{Answer}
use Rattle.mdb_model.specs.Refusals.{refusal, medium_full}
use Rattle.mdb_model.specs.Runs.{Entry, Stepped, Starved, Failed, FoundOut, Step, IsDone, IsRefused, reopens}
use Rattle.mdb_model.specs.Script.{is_session}
use Rattle.mdb_model.specs.Steps.{Facts, Fits, done, locked}
use Rattle.mdb_model.specs.Worlds.{World, Lock}
use Rattle.session_rows.specs.Replies.{IsOfSession}
use Rattle.session_rows.specs.Serving.{no_pages}
use Rattle.space_rule.specs.KnownCosts.{KnownCosts}
use Rattle.space_lines.specs.Counted.{IsCounted}
use Rattle.space_lines.proofs.LockTaken.{locked_counted}

-- the line takes this lock, and does nothing else
pub record OnlyLocks (line : Command) (session : ℕ) (lock : Lock) : Type 0 where
  pub done_is : (w : World) (facts : Facts) → (done no_pages w facts line).1 ≡ locked w session lock
  pub no_medium : (w : World) (facts : Facts) → medium_full w facts line ≡ None
  pub no_restart : reopens (Some line) ≡ false

module _ (known : KnownCosts) (line : Command) (session : ℕ) (lock : Lock) (only : OnlyLocks line session lock) (is : IsTrue (is_session session)) where
  done_counted : (w w' : World) (facts : Facts) → IsCounted known w → w' ≡ (done no_pages w facts line).1 → IsCounted known w'
  done_counted w w' facts counted same =
      subst (IsCounted known) (sym (only.done_is w facts) ∙ sym same) (locked_counted known w session lock is counted)

  step_counted : (w w' : World) (answer : Answer) → IsCounted known w → Step no_pages w (Some line) answer w' → IsCounted known w'
  step_counted w w' answer counted step = by_refusal (refusal no_pages w step.0 line) step.1 where
    by_medium : (o : Option Refusal) → o ≡ None → MatchOption o (IsDone no_pages w line step.0 answer w') (λ cause. IsRefused no_pages cause w answer w') → IsCounted known w'
    by_medium None none so = done_counted w w' step.0 counted so.1
    by_medium (Some cause) none so = absurd (never none)
      where
        never : {r : Refusal} → Some r ≡ None → ⊥
        never e = cc

    by_refusal : (o : Option Refusal)
        → MatchOption o (Fits no_pages w step.0 line × MatchOption (medium_full w step.0 line) (IsDone no_pages w line step.0 answer w') (λ cause. IsRefused no_pages cause w answer w'))
        (λ cause. IsRefused no_pages cause w answer w')
        → IsCounted known w'
    by_refusal None so = by_medium (medium_full w step.0 line) (only.no_medium w step.0) so.1
    by_refusal (Some cause) so = subst (IsCounted known) (sym so.1) counted

  pub entry_counted : (w w' : World) (answer : Answer) → IsOfSession answer.reply → IsCounted known w → Entry no_pages (w ∷ []) (Some line) answer (w' ∷ []) → IsCounted known w'
  entry_counted w w' answer inside counted (Stepped all) = step_counted w w' answer counted all.0
  entry_counted w w' answer inside counted (Starved all) = counted
  entry_counted w w' answer inside counted (Failed v items stops there said) = absurd inside
  entry_counted w w' answer inside counted (FoundOut v v' restarts many there step failed starved) = absurd (never (sym only.no_restart) restarts)
    where
      never : {b : Bool} → false ≡ b → IsTrue b → ⊥
      never e t = cc
