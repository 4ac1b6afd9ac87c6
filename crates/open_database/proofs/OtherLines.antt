-- The lines of an open database that call no device and leave its rows alone.
--     killed_line      it is given up
--     state_line      its state is told
--     unbuilt_line, unbuilt_does      a line that the machine does not know
use Rattle.std.proofs.Common.{◌≡◌, refl, sym, subst, ap, Bool, false, List, [], ◌∷◌, Some, Ok}
use Rattle.std.specs.Prelude.{if◌then◌else◌}
use Rattle.std.proofs.lemmas.List.Elements.{All-cons, All-nil}
use Rattle.mdb_host.specs.Disk.{Disk}
use Rattle.mdb_model.specs.Answers.{plain, refused}
use Rattle.session_rows.specs.Serving.{no_facts}
use Rattle.mdb_model.specs.Refusals.{refusal, refusal_with}
use Rattle.mdb_model.specs.Stages.{is_built, rows_in_memory}
use Rattle.mdb_model.specs.Worlds.{World, off}
use Rattle.mdb_model.specs.declared.name.State.{State}
use Rattle.mdb_model.specs.declared.name.State.TheVariants as state
use Rattle.mdb_model.specs.declared.script.Command.{Command}
use Rattle.mdb_model.specs.declared.script.Command.TheVariants.{DbAdmin, DbOnline, DbOffline, DbState, Kill, ScanTable, MakeSavepoint, TaskBackup, BackupStart}
use Rattle.mdb_model.specs.declared.script.BackupKind.TheVariants.{OfPages, OfLog}
use Rattle.mdb_model.specs.declared.script.Refusal.TheVariants.{Syntax}
use Rattle.mdb_model.specs.declared.script.Reply.TheVariants.{OfflineNow, StateIs, Refused}
use Rattle.session_rows.proofs.Entries.{OneStep, entry_done, entry_refused}
use Rattle.open_database.specs.declared.database.Access.{Access}
use Rattle.open_database.specs.declared.database.Access.TheVariants.{Admin, Online}
use Rattle.open_database.specs.Outside.{page_reading, StandsFor, Ties, TiesNothing}
use Rattle.open_database.specs.Serving.{AreOff, FitsOpen, open_state}
use Rattle.open_database.specs.Stretch.{Completes}
use Rattle.open_database.specs.Taking.{DoesLine}
use Rattle.open_database.specs.declared.database.Database.{Database}
use Rattle.open_database.proofs.Stretches.{completes_still}
use Rattle.kept_worlds.specs.InService.{AllStand}

killed_ties : TiesNothing (Some Kill) OfflineNow
unfolding Ties
killed_ties before after image = tt

state_ties : (s : State) → TiesNothing (Some DbState) (StateIs s)
unfolding Ties
state_ties s before after image = tt

unbuilt_ties : (line : Command) → TiesNothing (Some line) (refused Syntax).reply
unfolding Ties
unbuilt_ties MakeSavepoint before after image = tt
unbuilt_ties DbAdmin before after image = tt
unbuilt_ties DbOnline before after image = tt
unbuilt_ties DbOffline before after image = tt
unbuilt_ties (TaskBackup medium kind) before after image = tt
unbuilt_ties (BackupStart medium (OfPages kind)) before after image = tt
unbuilt_ties (BackupStart medium OfLog) before after image = tt
unbuilt_ties _ before after image = tt

module _ (access : Access) (w : World) (at : w.state ≡ open_state access) where
  -- what is so of the world as it is said here is so of it
  here : (P : World → Type 0) → P (record w { state = open_state access }) → P w
  here P p = subst (λ (s : State). P (record w { state = s })) (sym at) p

  killed_step_at : (a : Access) → OneStep page_reading (record w { state = open_state a }) Kill (plain OfflineNow) (off w)
  killed_step_at Admin = entry_done page_reading (record w { state = state.Admin }) Kill refl refl tt
  killed_step_at Online = entry_done page_reading (record w { state = state.Online }) Kill refl refl tt

  pub killed_line : (disk : Disk) → AllStand (off w) disk → Completes page_reading StandsFor disk disk (w ∷ []) (Some Kill) (plain OfflineNow) AreOff
  killed_line disk all =
      completes_still disk w (off w) (Some Kill) (plain OfflineNow) AreOff all (here (λ v. OneStep page_reading v Kill (plain OfflineNow) (off v)) (killed_step_at access)) refl
      (λ image left. killed_ties w (off w) image) (All-cons (λ v. off v ≡ v) (off w) [] refl (All-nil (λ v. off v ≡ v)))

  state_step_at : (a : Access) → OneStep page_reading (record w { state = open_state a }) DbState (plain (StateIs (open_state a))) (record w { state = open_state a })
  state_step_at Admin = entry_done page_reading (record w { state = state.Admin }) DbState refl refl tt
  state_step_at Online = entry_done page_reading (record w { state = state.Online }) DbState refl refl tt

  pub state_line : (disk : Disk) (fits : List World → Type 0) → AllStand (off w) disk → fits (w ∷ [])
      → Completes page_reading StandsFor disk disk (w ∷ []) (Some DbState) (plain (StateIs (open_state access))) fits
  state_line disk fits all fit =
      completes_still disk w w (Some DbState) (plain (StateIs (open_state access))) fits all (here (λ v. OneStep page_reading v DbState (plain (StateIs (open_state access))) v) (state_step_at access)) refl
      (λ image left. state_ties (open_state access) w w image) fit

unbuilt_cause : (w : World) (line : Command) → is_built line ≡ false → refusal page_reading w no_facts line ≡ Some Syntax
unbuilt_cause w line not_built = ap (λ (b : Bool). if b then refusal_with page_reading w no_facts rows_in_memory line else Some Syntax) not_built

pub unbuilt_line : (disk : Disk) (w : World) (line : Command) (fits : List World → Type 0) → is_built line ≡ false → AllStand (off w) disk → fits (w ∷ [])
    → Completes page_reading StandsFor disk disk (w ∷ []) (Some line) (refused Syntax) fits
unbuilt_line disk w line fits not_built all fit =
    completes_still disk w w (Some line) (refused Syntax) fits all
    (entry_refused page_reading (w ∷ []) line Syntax (All-cons (λ v. refusal page_reading v no_facts line ≡ Some Syntax) w [] (unbuilt_cause w line not_built) (All-nil (λ v. refusal page_reading v no_facts line ≡ Some Syntax)))) refl
    (λ image left. unbuilt_ties line w w image) fit

-- such a line as one that is done
pub unbuilt_does : (tells : Type 0) (d : Disk) (ws : List World) (line : Command) (after : Database) → is_built line ≡ false → Completes page_reading StandsFor d d ws (Some line) (refused Syntax) (FitsOpen tells after d)
    → DoesLine tells d d ws line after (Ok (Refused Syntax))
unbuilt_does tells d ws (ScanTable session table) after not_built done = done
unbuilt_does tells d ws DbOffline after not_built done = absurd cc
unbuilt_does tells d ws Kill after not_built done = absurd cc
unbuilt_does tells d ws line after not_built done = done
