-- A line of a session on an open database, as a stretch: what it ties, and that a device failed.
--     ties_nothing      a line of a session ties nothing
--     entry_state      a line that the state of the world does not admit
--     device_fails, session_fails      a device failed in a line, which may have been done or not
use Rattle.std.proofs.Common.{◌≡◌, ◌∙◌, inl, inr, refl, sym, ap, Bool, true, false, not, All, List, [], ◌∷◌, ◌++◌, Option, Some, None, Contains, arith}
use Rattle.std.specs.Prelude.{if◌then◌else◌, is_some, IsSome, IsNone}
use Rattle.std.specs.List.{list_any}
use Rattle.std.proofs.lemmas.List.Elements.{All-cons, All-nil, All-append, Contains-append_left}
use Rattle.mdb_model.specs.declared.name.State.{State}
use Rattle.mdb_model.specs.declared.script.Command.{Command}
use Rattle.mdb_model.specs.declared.script.Command.TheVariants.{GetRow, PutRow, DelRow, ScanTable, RollbackWork}
use Rattle.mdb_model.specs.declared.script.Refusal.{Refusal}
use Rattle.mdb_model.specs.declared.script.Refusal.TheVariants.{Syntax, WrongState, DeviceFailed}
use Rattle.mdb_model.specs.declared.script.Reply.{Reply}
use Rattle.mdb_model.specs.declared.script.Reply.TheVariants.{Refused}
use Rattle.mdb_model.specs.Pages.{PageReading}
use Rattle.mdb_model.specs.Stages.{is_built, rows_in_memory}
use Rattle.mdb_model.specs.Worlds.{World, off}
use Rattle.mdb_model.specs.Answers.{refused}
use Rattle.mdb_model.specs.Steps.{done, Fits}
use Rattle.mdb_model.specs.Refusals.{refusal, refusal_with, first_cause, refuse_if, states_of, same_state, medium_full}
use Rattle.mdb_model.specs.Runs.{Entry, Failed, AreOutcomes, is_recover, restore_open}
use Rattle.mdb_host.specs.Disk.{Disk}
use Rattle.kept_worlds.specs.InService.{AtEachMoment}
use Rattle.session_rows.specs.Serving.{no_facts}
use Rattle.session_rows.proofs.AnyPages.{IsOfSessions}
use Rattle.session_rows.proofs.Entries.{entry_refused}
use Rattle.open_database.specs.Outside.{page_reading, StandsFor, Ties, TiesNothing}
use Rattle.open_database.specs.Serving.{AreOff}
use Rattle.open_database.specs.Stretch.{Completes}
use Rattle.open_database.proofs.Stretches.{only, does_moments, ties_none}

-- a line of a session ties nothing
pub ties_nothing : (line : Command) → IsOfSessions line → (reply : Reply) → TiesNothing (Some line) reply
unfolding Ties
ties_nothing (GetRow session table key) is reply before after image = tt
ties_nothing (PutRow session table key value) is reply before after image = tt
ties_nothing (DelRow session table key) is reply before after image = tt
ties_nothing (ScanTable session table) is reply before after image = tt
ties_nothing (RollbackWork session) is reply before after image = tt
ties_nothing _ is reply before after image = absurd is

-- each image stands for the world at each moment
abbrev pub StandsThroughout : Disk → Disk → World → Type 0
StandsThroughout old new w = AtEachMoment old new (λ image. StandsFor image (off w))

-- A device failed

-- what a stop of a line may leave of a world: among others the world itself
record Left (w : World) (line : Command) : Type 0 where
  these : List World
  are : AreOutcomes page_reading w (Some line) these
  itself : Contains these (off w)
  rest : AreOff these

some_is : (o : Option Refusal) (cause : Refusal) → o ≡ Some cause → IsSome o
some_is o cause is = ap is_some is

none_is : (o : Option Refusal) → o ≡ None → IsNone o
none_is o is = ap is_some is

left_of : (w : World) (line : Command) (cause : Option Refusal) → refusal page_reading w no_facts line ≡ cause → medium_full w no_facts line ≡ None → is_recover line ≡ false
    → Fits page_reading w no_facts line → Left w line
left_of w line (Some cause) is medium recover fits = record {
  these = off w ∷ [];
  are = (None, inr (no_facts, some_is (refusal page_reading w no_facts line) cause is), refl);
  itself = (0, omega arith, refl);
  rest = All-cons (λ v. off v ≡ v) (off w) [] refl (All-nil (λ v. off v ≡ v));
}
left_of w line None is medium recover fits = record {
  these = off w ∷ off (done page_reading w no_facts line).1 ∷ [];
  are = (Some no_facts, (none_is (refusal page_reading w no_facts line) is, fits), outcomes_are);
  itself = (0, omega arith, refl);
  rest = All-cons (λ v. off v ≡ v) (off w) (off (done page_reading w no_facts line).1 ∷ []) refl
      (All-cons (λ v. off v ≡ v) (off (done page_reading w no_facts line).1) [] refl (All-nil (λ v. off v ≡ v)));
}
  where
    by : (Option Refusal × Bool) → List World
    by p = if is_some p.0 then off w ∷ [] else (off w ∷ off (done page_reading w no_facts line).1 ∷ (if p.1 then restore_open w ∷ [] else []))

    outcomes_are : by (None, false) ≡ by (medium_full w no_facts line, is_recover line)
    outcomes_are i = by (sym medium i, sym recover i)

module _ (d e : Disk) (w : World) (line : Command) (moments : StandsThroughout d e w) where
  fails_by : Left w line → TiesNothing (Some line) (Refused DeviceFailed) → Completes page_reading StandsFor d e (w ∷ []) (Some line) (refused DeviceFailed) AreOff
  fails_by left ties = record {
    after = left.these ++ [];
    does = does_moments d e (w ∷ []) (Some line) (refused DeviceFailed) (left.these ++ []) (λ image. StandsFor image (off w)) moments
        (λ image stands. (off w, stands, (w, only w, inl refl)))
        (Failed w [] (left.these, [], refl, left.are, refl) (only w) (no_facts, (done page_reading w no_facts line).0.items, refl))
        (λ image left_now. (off w, Contains-append_left left.these [] (off w) left.itself, moments.each e.now image moments.keeps.later (omega arith) left_now))
        (ties_none d e (w ∷ []) (Some line) (refused DeviceFailed) (left.these ++ []) ties);
    fit = All-append (λ v. off v ≡ v) left.these [] left.rest (All-nil (λ v. off v ≡ v));
  }

  -- a device failed in a line that may have been done or not
  pub device_fails : medium_full w no_facts line ≡ None → is_recover line ≡ false → Fits page_reading w no_facts line → TiesNothing (Some line) (Refused DeviceFailed)
      → Completes page_reading StandsFor d e (w ∷ []) (Some line) (refused DeviceFailed) AreOff
  device_fails medium recover fits ties = fails_by (left_of w line (refusal page_reading w no_facts line) refl medium recover fits) ties

-- the same of a line of a session
pub session_fails : (d e : Disk) (w : World) (line : Command) → IsOfSessions line → StandsThroughout d e w → Completes page_reading StandsFor d e (w ∷ []) (Some line) (refused DeviceFailed) AreOff
session_fails d e w (GetRow session table key) is moments = device_fails d e w (GetRow session table key) moments refl refl tt (ties_nothing (GetRow session table key) tt (Refused DeviceFailed))
session_fails d e w (PutRow session table key value) is moments =
    device_fails d e w (PutRow session table key value) moments refl refl tt (ties_nothing (PutRow session table key value) tt (Refused DeviceFailed))
session_fails d e w (DelRow session table key) is moments = device_fails d e w (DelRow session table key) moments refl refl tt (ties_nothing (DelRow session table key) tt (Refused DeviceFailed))
session_fails d e w (ScanTable session table) is moments = device_fails d e w (ScanTable session table) moments refl refl tt (ties_nothing (ScanTable session table) tt (Refused DeviceFailed))
session_fails d e w (RollbackWork session) is moments = device_fails d e w (RollbackWork session) moments refl refl tt (ties_nothing (RollbackWork session) tt (Refused DeviceFailed))
session_fails d e w _ is moments = absurd is

-- The states

-- a line that a state does not admit
refusal_state : (reading : PageReading) (w : World) (line : Command) (state : State) → is_built line ≡ true → list_any (same_state state) (states_of line) ≡ false → w.state ≡ state
    → refusal reading w no_facts line ≡ Some (WrongState state)
refusal_state reading w line state built not_admitted is =
    ap (λ (b : Bool). if b then refusal_with reading w no_facts rows_in_memory line else Some Syntax) built
    ∙ first_state _ w.state is
  where
    cause_is : (s : State) → s ≡ state → refuse_if (not (list_any (same_state s) (states_of line))) (WrongState s) ≡ Some (WrongState state)
    cause_is s is =
        ap (λ (v : State). refuse_if (not (list_any (same_state v) (states_of line))) (WrongState v)) is
        ∙ ap (λ (b : Bool). refuse_if (not b) (WrongState state)) not_admitted

    first_state : (rest : List (Option Refusal)) (s : State) → s ≡ state → first_cause (refuse_if (not (list_any (same_state s) (states_of line))) (WrongState s) ∷ rest) ≡ Some (WrongState state)
    first_state rest s is = ap (λ (o : Option Refusal). first_cause (o ∷ rest)) (cause_is s is)

all_refused : (reading : PageReading) (ws : List World) (line : Command) (state : State) → is_built line ≡ true → list_any (same_state state) (states_of line) ≡ false
    → All (λ w. w.state ≡ state) ws → Entry reading ws (Some line) (refused (WrongState state)) ws
all_refused reading ws line state built not_admitted all =
    entry_refused reading ws line (WrongState state) (λ k d inside. refusal_state reading _ line state built not_admitted (all k d inside))

pub entry_state : (w : World) (line : Command) (state : State) → is_built line ≡ true → list_any (same_state state) (states_of line) ≡ false → w.state ≡ state
    → Entry page_reading (w ∷ []) (Some line) (refused (WrongState state)) (w ∷ [])
entry_state w line state built not_admitted is =
    all_refused page_reading (w ∷ []) line state built not_admitted (All-cons (λ v. v.state ≡ state) w [] is (All-nil (λ v. v.state ≡ state)))
