-- What it says of a line that it was refused, or was not.
--     refusal-of_program, medium_full-of_program      no refusal of the machine says that a device failed
--     admitted_state, admitted_lock      a line that is not refused is admitted in its state, and has its lock
use Rattle.std.proofs.Common.{◌≡◌, refl, ℕ, zero, suc, Bool, true, false, if◌then◌else◌, not, List, [], ◌∷◌, get_or, Option, None, Some, option_map, option_and_then}
use Rattle.std.specs.List.{list_any}
use Rattle.mdb_model.specs.declared.script.PageKind.TheVariants.{Incremental}
use Rattle.mdb_model.specs.declared.script.BackupKind.TheVariants.{OfPages, OfLog}
use Rattle.mdb_model.specs.declared.script.Command.{Command}
use Rattle.mdb_model.specs.declared.script.Command.TheVariants.{CommitWork, DbAdmin, DbOnline, MakeSavepoint, TaskSavepoint, TaskBackup, TurnSavepoint, TurnBackup, MediumPut, MediumDelete, BackupStart, Recover, SnapshotCreate, SnapshotDrop, SnapshotRevert}
use Rattle.mdb_model.specs.declared.script.Refusal.{Refusal}
use Rattle.mdb_model.specs.declared.script.Refusal.TheVariants.{Syntax, WrongState, Locked, DataFull, LogFull, TransactionLarge, NoMedium, MediumUsed, MediumFull, MediumEmpty, NeedData, AreaSmall, NoSnapshot, SnapshotsFull, TaskBusy, NoTask, NumberEnd, DeviceFailed}
use Rattle.mdb_model.specs.Pages.{PageReading}
use Rattle.mdb_model.specs.Worlds.{World, Area, Live, Restoring, Lost}
use Rattle.mdb_model.specs.Chains.{Chain, Gap, Outside, Plan, chain}
use Rattle.mdb_model.specs.Stages.{is_built, rows_in_memory}
use Rattle.mdb_model.specs.Steps.{Facts, links_of}
use Rattle.mdb_model.specs.Refusals.{refuse_if, first_cause, states_of, same_state, wrong_state, task_busy, no_task, cannot_restart, bad_area, number_end, no_medium, medium_empty, header_end, medium_used, no_snapshot, snapshots_full, need_data, chain_refusal, bad_chain, area_small, is_locked, log_full, medium_full, too_large, data_full, refusal_with, refusal, changing_session, reserve_of, backup_of}

-- a cause that does not say that a device failed
abbrev pub is_own : Refusal → Bool
is_own DeviceFailed = false
is_own _ = true

-- no cause, or such a one
abbrev pub is_mild : Option Refusal → Bool
is_mild None = true
is_mild (Some cause) = is_own cause

-- a cause that comes by a test
mild_if : (test : Bool) (cause : Refusal) → is_own cause ≡ true → is_mild (refuse_if test cause) ≡ true
mild_if true cause own = own
mild_if false cause own = refl

infixr 40 ◌&◌
-- each cause of a list is mild
data AllMild : List (Option Refusal) → Type 0 where
  no_more : AllMild []
  ◌&◌ : {cause : Option Refusal} {causes : List (Option Refusal)} → is_mild cause ≡ true → AllMild causes → AllMild (cause ∷ causes)

-- the first cause of all is the first one, or the first of the rest
mild_or_later : (cause : Option Refusal) (causes : List (Option Refusal)) → is_mild cause ≡ true → is_mild (first_cause causes) ≡ true → is_mild (first_cause (cause ∷ causes)) ≡ true
mild_or_later None causes mild later = later
mild_or_later (Some cause) causes mild later = mild

-- and so the first cause of all is mild
mild_first : {causes : List (Option Refusal)} → AllMild causes → is_mild (first_cause causes) ≡ true
mild_first no_more = refl
mild_first (◌&◌ {cause} {causes} mild all) = mild_or_later cause causes mild (mild_first all)

-- a cause of something that may be there
mild_then : {A : Type 0} (o : Option A) (f : A → Option Refusal) → ((a : A) → is_mild (f a) ≡ true) → is_mild (option_and_then f o) ≡ true
mild_then None f own = refl
mild_then (Some a) f own = own a

-- a cause made from something that may be there
mild_map : {A : Type 0} (o : Option A) (f : A → Refusal) → ((a : A) → is_own (f a) ≡ true) → is_mild (option_map f o) ≡ true
mild_map None f own = refl
mild_map (Some a) f own = own a

-- one cause or another
mild_choice : (test : Bool) (a b : Option Refusal) → is_mild a ≡ true → is_mild b ≡ true → is_mild (if test then a else b) ≡ true
mild_choice true a b own_a own_b = own_a
mild_choice false a b own_a own_b = own_b

module _ (w : World) where
  -- a task that keeps others off
  mild_task_busy : (line : Command) → is_mild (task_busy w line) ≡ true
  mild_task_busy MakeSavepoint = mild_if _ TaskBusy refl
  mild_task_busy TaskSavepoint = mild_if _ TaskBusy refl
  mild_task_busy (TaskBackup medium kind) = mild_if _ TaskBusy refl
  mild_task_busy (BackupStart medium (OfPages kind)) = mild_if _ TaskBusy refl
  mild_task_busy _ = refl

  -- a turn with no task
  mild_no_task : (line : Command) → is_mild (no_task w line) ≡ true
  mild_no_task TurnSavepoint = mild_if _ NoTask refl
  mild_no_task TurnBackup = mild_if _ NoTask refl
  mild_no_task _ = refl

  -- an area that cannot be restarted
  mild_restart : (area : Area) → is_mild (cannot_restart w area) ≡ true
  mild_restart Live = refl
  mild_restart Restoring = refl
  mild_restart Lost = refl

  -- a restart of such an area
  mild_bad_area : (line : Command) → is_mild (bad_area w line) ≡ true
  mild_bad_area DbAdmin = mild_choice _ _ None (mild_restart w.area) refl
  mild_bad_area DbOnline = mild_choice _ _ None (mild_restart w.area) refl
  mild_bad_area _ = refl

  -- a restart that meets a number past the end
  mild_number_end : (facts : Facts) (line : Command) → is_mild (number_end w facts line) ≡ true
  mild_number_end facts DbAdmin = mild_if _ NumberEnd refl
  mild_number_end facts DbOnline = mild_if _ NumberEnd refl
  mild_number_end facts (Recover media log until) = mild_if _ NumberEnd refl
  mild_number_end facts _ = refl

  -- a medium that is blank
  mild_medium_empty : (line : Command) → is_mild (medium_empty w line) ≡ true
  mild_medium_empty (Recover media log until) = mild_if _ MediumEmpty refl
  mild_medium_empty _ = refl

  -- a header with a number past the end
  mild_header_end : (facts : Facts) (line : Command) → is_mild (header_end w facts line) ≡ true
  mild_header_end facts (Recover media log until) = mild_if _ NumberEnd refl
  mild_header_end facts _ = refl

  -- a medium in use
  mild_medium_used : (line : Command) → is_mild (medium_used w line) ≡ true
  mild_medium_used (MediumPut medium pages) = mild_if _ MediumUsed refl
  mild_medium_used (MediumDelete medium) = mild_if _ MediumUsed refl
  mild_medium_used (TaskBackup medium kind) = mild_if _ MediumUsed refl
  mild_medium_used (BackupStart medium kind) = mild_if _ MediumUsed refl
  mild_medium_used _ = refl

  -- a snapshot that is not there
  mild_no_snapshot : (line : Command) → is_mild (no_snapshot w line) ≡ true
  mild_no_snapshot (SnapshotDrop number) = mild_if _ NoSnapshot refl
  mild_no_snapshot (SnapshotRevert number) = mild_if _ NoSnapshot refl
  mild_no_snapshot _ = refl

  -- all snapshots there
  mild_snapshots_full : (line : Command) → is_mild (snapshots_full w line) ≡ true
  mild_snapshots_full SnapshotCreate = mild_if _ SnapshotsFull refl
  mild_snapshots_full _ = refl

  -- no data backup in this generation
  mild_need_data : (line : Command) → is_mild (need_data w line) ≡ true
  mild_need_data (TaskBackup medium Incremental) = mild_if _ NeedData refl
  mild_need_data (BackupStart medium (OfPages Incremental)) = mild_if _ NeedData refl
  mild_need_data (BackupStart medium OfLog) = mild_if _ NeedData refl
  mild_need_data _ = refl

  -- a chain that cannot be followed
  mild_chain : (c : Chain) → is_mild (chain_refusal w c) ≡ true
  mild_chain (Gap number) = refl
  mild_chain (Outside low high) = refl
  mild_chain (Plan pages end) = refl

  -- a recover from such a chain
  mild_bad_chain : (line : Command) → is_mild (bad_chain w line) ≡ true
  mild_bad_chain (Recover media log until) = mild_chain (chain (links_of w media.items log) until)
  mild_bad_chain _ = refl

  -- an area that is too small
  mild_area_small : (line : Command) → is_mild (area_small w line) ≡ true
  mild_area_small (Recover media log until) = mild_if _ (AreaSmall _ _) refl
  mild_area_small _ = refl

  -- a full log
  mild_log_full : (line : Command) → is_mild (log_full w line) ≡ true
  mild_log_full (CommitWork session) = mild_if _ (LogFull _ _) refl
  mild_log_full _ = refl

  -- a medium that is full is no failure of a device
  pub medium_full-own : (facts : Facts) (line : Command) → is_mild (medium_full w facts line) ≡ true
  medium_full-own facts line = mild_then (backup_of line) _ (λ wanted. mild_if _ (MediumFull _) refl)

module _ (reading : PageReading) (w : World) (facts : Facts) where
  -- the causes of a refusal in their order
  abbrev causes : Bool → Command → List (Option Refusal)
  causes in_memory line =
      wrong_state w line ∷ bad_area w line ∷ number_end w facts line ∷ task_busy w line ∷ no_task w line ∷ no_medium w line
      ∷ medium_empty w line ∷ header_end w facts line ∷ medium_used w line ∷ no_snapshot w line ∷ snapshots_full w line ∷ need_data w line
      ∷ bad_chain w line ∷ area_small w line ∷ is_locked w line ∷ too_large reading w facts line
      ∷ (if in_memory then None else data_full reading w facts line) ∷ log_full w line ∷ []

  -- each of them is mild
  all_mild : (in_memory : Bool) (line : Command) → AllMild (causes in_memory line)
  all_mild in_memory line =
      mild_if _ (WrongState w.state) refl
      & mild_bad_area w line
      & mild_number_end w facts line
      & mild_task_busy w line
      & mild_no_task w line
      & mild_if _ NoMedium refl
      & mild_medium_empty w line
      & mild_header_end w facts line
      & mild_medium_used w line
      & mild_no_snapshot w line
      & mild_snapshots_full w line
      & mild_need_data w line
      & mild_bad_chain w line
      & mild_area_small w line
      & mild_map _ (λ other. Locked (record { 0 = other })) (λ other. refl)
      & mild_then (changing_session w line) _ (λ session. mild_if _ (TransactionLarge _) refl)
      & mild_choice in_memory None _ refl (mild_then (reserve_of w line) _ (λ reserve. mild_if _ (DataFull _ _) refl))
      & mild_log_full w line
      & no_more

  -- no cause is that a device failed
  pub refusal-own : (line : Command) → is_mild (refusal reading w facts line) ≡ true
  refusal-own line = mild_choice (is_built line) (refusal_with reading w facts rows_in_memory line) (Some Syntax) (mild_first (all_mild rows_in_memory line)) refl

  -- where there is no first cause, none of the causes is there
  none_of : (causes : List (Option Refusal)) → first_cause causes ≡ None → (k : ℕ) → get_or causes k None ≡ None
  none_of [] none k = refl
  none_of (None ∷ causes) none zero = refl
  none_of (None ∷ causes) none (suc k) = none_of causes none k
  none_of (Some cause ∷ causes) none k = cc

  -- a line that is not refused is one that the program knows
  known : (b : Bool) (o : Option Refusal) → (if b then o else Some Syntax) ≡ None → o ≡ None
  known true o none = none
  known false o none = cc

  -- a line that is not refused meets no lock
  pub admitted_lock : (line : Command) → refusal reading w facts line ≡ None → is_locked w line ≡ None
  admitted_lock line none = none_of (causes rows_in_memory line) (known (is_built line) (refusal_with reading w facts rows_in_memory line) none) 14

  -- a line that is not refused is admitted in the state
  pub admitted_state : (line : Command) → refusal reading w facts line ≡ None → list_any (same_state w.state) (states_of line) ≡ true
  admitted_state line none = by_test (list_any (same_state w.state) (states_of line)) (none_of (causes rows_in_memory line) (known (is_built line) (refusal_with reading w facts rows_in_memory line) none) 0) where
    by_test : (b : Bool) → refuse_if (not b) (WrongState w.state) ≡ None → b ≡ true
    by_test true e = refl
    by_test false e = cc
