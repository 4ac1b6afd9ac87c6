-- Each step of a world keeps what holds of it beside the open lines of each session.
--     after_line      the open lines of each session after a line and its answer
--     done-holds      a line that is done
--     Step-holds      any step
use Rattle.std.proofs.Common.{◌≡◌, ◌≢◌, refl, sym, ap, subst, ◌∙◌, ◌⊎◌, inl, inr, ⊎_elim, ℕ, ◌+◌, ◌-◌, Bool, true, false, if◌then◌else◌, ◌==◌, List, [], ◌∷◌, ◌++◌, Contains, Option, None, Some, MatchOption, true≢false}
use Rattle.std.proofs.lemmas.List.Elements.{Contains-push_cases}
use Rattle.std.specs.List.{list_any}
use Rattle.std.specs.FinMap.{get, contains_key}
use Rattle.mdb_model.specs.declared.change.Change.{Change}
use Rattle.mdb_model.specs.declared.change.Change.TheVariants.{Put, Del}
use Rattle.mdb_model.specs.declared.name.Session.{Session}
use Rattle.mdb_model.specs.declared.name.Table.{Table}
use Rattle.mdb_model.specs.declared.name.State.{State}
use Rattle.mdb_model.specs.declared.name.State.TheVariants.{Offline, Admin, Online}
use Rattle.mdb_model.specs.declared.script.BackupKind.TheVariants.{OfPages, OfLog}
use Rattle.mdb_model.specs.declared.script.Command.{Command}
use Rattle.mdb_model.specs.declared.script.Command.TheVariants.{GetRow, PutRow, DelRow, ScanTable, CommitWork, RollbackWork, DbAdmin, DbOnline, DbOffline, DbState, Kill, MakeSavepoint, TaskSavepoint, TaskBackup, TurnSavepoint, TurnBackup, MediumPut, MediumDelete, MediumList, BackupStart, Recover, SnapshotCreate, SnapshotDrop, SnapshotRevert, Info, CheckData}
use Rattle.mdb_model.specs.declared.script.Refusal.{Refusal}
use Rattle.mdb_model.specs.declared.script.Refusal.TheVariants.{DeviceFailed, Syntax}
use Rattle.mdb_model.specs.declared.script.Reply.TheVariants.{PagesSaved, Running, NoRow, PutDone, DelDone, ScanOpen, Committed, NothingToCommit, Refused}
use Rattle.mdb_model.specs.Tables.{place_of}
use Rattle.mdb_model.specs.History.{last, tables_of}
use Rattle.mdb_model.specs.Pages.{PageReading}
use Rattle.mdb_model.specs.Backups.{Backup}
use Rattle.mdb_model.specs.Worlds.{World, BackupTask, Snapshot, Lock, ShareKey, ExclusiveKey, ShareTable, transaction, without_transaction}
use Rattle.mdb_model.specs.Sessions.{visible, net_changes, conflict, holder}
use Rattle.mdb_model.specs.Chains.{Chain, Gap, Outside, Plan, chain}
use Rattle.mdb_model.specs.Answers.{Answer, plain, refused, row_reply}
use Rattle.mdb_model.specs.Steps.{Facts, done, pages_saved, locked, changed, committed_by, has_changes, rows_of, links_of, after_backup_turn, after_savepoint_turn, after_revert, after_recover, Fits}
use Rattle.mdb_model.specs.Refusals.{refusal, medium_full, same_state}
use Rattle.mdb_model.specs.Runs.{Line, Step, CommandStep, IsDone, IsRefused}
use Rattle.mdb_model.specs.Serial.{AnsweredLine, lines_by, lines_with}
use Rattle.mdb_model.proofs.LockLemmas.{holder-none, mapped-none}
use Rattle.mdb_model.proofs.SerialPlaces.{with_changes-apart, net_changes-among, with_commits-push}
use Rattle.mdb_model.proofs.SerialLines.{Agree, StandsAlone-get, StandsAlone-put, StandsAlone-deleted, StandsAlone-absent, StandsAlone-scan}
use Rattle.mdb_model.proofs.SerialWorlds.{Holds, Holds-state, Holds-ended, Holds-rest, Holds-more, Holds-less}
use Rattle.mdb_model.proofs.SerialRefused.{is_own, is_mild, refusal-own, medium_full-own, admitted_lock, admitted_state}

-- what holds of a world beside the open lines of each session
abbrev pub HoldsOf : World → (ℕ → List AnsweredLine) → Type 0
HoldsOf w lines = Holds w.state w.sessions w.history lines

-- the open lines of each session after a line and its answer
abbrev pub after_line : (ℕ → List AnsweredLine) → Line → Answer → ℕ → List AnsweredLine
after_line lines line answer s = lines_by answer.reply (lines s) (lines_with s (lines s) line answer)

-- a state that is Online alone
online : (state : State) → list_any (same_state state) (Online ∷ []) ≡ true → state ≡ Online
online Offline e = cc
online Admin e = cc
online Online e = refl

-- a state that is Offline or Admin
not_online : (state : State) → list_any (same_state state) (Offline ∷ Admin ∷ []) ≡ true → state ≢ Online
not_online Offline e = λ is. cc
not_online Admin e = λ is. cc
not_online Online e = cc

-- a state that is Admin alone
in_admin : (state : State) → list_any (same_state state) (Admin ∷ []) ≡ true → state ≢ Online
in_admin Offline e = cc
in_admin Admin e = λ is. cc
in_admin Online e = cc

-- a row that is found or not is no refusal
row_joins : (o : Option (List ℕ)) (before with_it : List AnsweredLine) → lines_by (row_reply o) before with_it ≡ with_it
row_joins None before with_it = refl
row_joins (Some value) before with_it = refl

-- the tables of a commit are the same where another session has a lock
commit_apart : (w : World) (lines : ℕ → List AnsweredLine) (session other : ℕ) → HoldsOf w lines → other ≢ session
    → Agree (transaction w other).locks (tables_of w.history) (tables_of (committed_by w session).history)
commit_apart w lines session other holds away p lock there covers =
    let changes = (transaction w session).changes in
    sym (ap (λ t. get t p) (with_commits-push w.history.commits (record { changes = net_changes changes }) w.history.start)
    ∙ with_changes-apart (net_changes changes) (tables_of w.history) p differs) where
      differs : (change : Change) → Contains (net_changes (transaction w session).changes) change → p ≢ place_of change
      differs change among is = true≢false (
          sym covers
          ∙ ap (λ q. conflict (ExclusiveKey q) lock) is
          ∙ holds.apart session other (ExclusiveKey (place_of change)) lock (λ e. away (sym e)) (holds.covered session change (net_changes-among (transaction w session).changes change among)) there)

module _ (reading : PageReading) (w : World) (facts : Facts) (lines : ℕ → List AnsweredLine) (holds : HoldsOf w lines) where
  -- a line keeps it with this answer and this world
  abbrev Kept : Command → Answer × World → Type 0
  Kept line e = HoldsOf e.1 (after_line lines (Some line) e.0)

  -- a lock with no holder meets no lock of another session
  free : (session : ℕ) (lock : Lock) → holder w session lock ≡ None → (other : ℕ) (b : Lock) → other ≢ session
      → Contains (transaction w other).locks b → conflict lock b ≡ false
  free session lock nobody other b away there = holder-none w session other lock b nobody away there

  -- the changes after one more have their locks
  one_more : (session : ℕ) (change other : Change) → Contains ((transaction w session).changes ++ change ∷ []) other
      → Contains (transaction w session).changes other ⊎ (ExclusiveKey (place_of change) ≡ ExclusiveKey (place_of other))
  one_more session change other there =
      ⊎_elim inl (λ is. inr (ap (λ c. ExclusiveKey (place_of c)) is)) (Contains-push_cases (transaction w session).changes change other there)

  module _ (session : Session) (table : Table) where
    -- a row that is read
    get_holds : (key : List ℕ) → w.state ≡ Online → holder w session.0 (ShareKey (table.0, key)) ≡ None → Kept (GetRow session table key) (done reading w facts (GetRow session table key))
    get_holds key on nobody =
        let found = get (visible w session.0) (table.0, key) in
        let line = GetRow session table key in
        subst (λ (after : ℕ → List AnsweredLine). HoldsOf (locked w session.0 (ShareKey (table.0, key))) after)
        (λ i s. sym (row_joins found (lines s) (lines_with s (lines s) (Some line) (plain (row_reply found)))) i)
        (Holds-more w.state w.sessions w.history lines (λ s. lines s ++ (line, plain (row_reply found)) ∷ []) session.0 (transaction w session.0).changes (ShareKey (table.0, key))
        on (free session.0 (ShareKey (table.0, key)) nobody) (λ change there. inl there)
        (StandsAlone-get (transaction w session.0) (tables_of w.history) (lines session.0) session table key (holds.stands session.0)) holds)

    -- a row that is set
    put_holds : (key value : List ℕ) → w.state ≡ Online → holder w session.0 (ExclusiveKey (table.0, key)) ≡ None → Kept (PutRow session table key value) (done reading w facts (PutRow session table key value))
    put_holds key value on nobody =
        let line = PutRow session table key value in
        Holds-more w.state w.sessions w.history lines (λ s. lines s ++ (line, plain PutDone) ∷ []) session.0 ((transaction w session.0).changes ++ Put table key value ∷ []) (ExclusiveKey (table.0, key))
        on (free session.0 (ExclusiveKey (table.0, key)) nobody) (one_more session.0 (Put table key value))
        (StandsAlone-put (transaction w session.0) (tables_of w.history) (lines session.0) session table key value (holds.stands session.0)) holds

    -- a row that is deleted, or is not there
    del_holds : (key : List ℕ) → w.state ≡ Online → holder w session.0 (ExclusiveKey (table.0, key)) ≡ None → Kept (DelRow session table key) (done reading w facts (DelRow session table key))
    del_holds key on nobody = by_test (contains_key (visible w session.0) (table.0, key)) refl where
      by_test : (b : Bool) → contains_key (visible w session.0) (table.0, key) ≡ b
          → Kept (DelRow session table key) (if b then (plain DelDone, changed w session.0 (Del table key)) else (plain NoRow, locked w session.0 (ExclusiveKey (table.0, key))))
      by_test true e =
          Holds-more w.state w.sessions w.history lines (λ s. lines s ++ (DelRow session table key, plain DelDone) ∷ []) session.0 ((transaction w session.0).changes ++ Del table key ∷ []) (ExclusiveKey (table.0, key))
          on (free session.0 (ExclusiveKey (table.0, key)) nobody) (one_more session.0 (Del table key))
          (StandsAlone-deleted (transaction w session.0) (tables_of w.history) (lines session.0) session table key e (holds.stands session.0)) holds
      by_test false e =
          Holds-more w.state w.sessions w.history lines (λ s. lines s ++ (DelRow session table key, plain NoRow) ∷ []) session.0 (transaction w session.0).changes (ExclusiveKey (table.0, key))
          on (free session.0 (ExclusiveKey (table.0, key)) nobody) (λ change there. inl there)
          (StandsAlone-absent (transaction w session.0) (tables_of w.history) (lines session.0) session table key e (holds.stands session.0)) holds

    -- a table that is read
    scan_holds : w.state ≡ Online → holder w session.0 (ShareTable table.0) ≡ None → Kept (ScanTable session table) (done reading w facts (ScanTable session table))
    scan_holds on nobody =
        let line = ScanTable session table in
        let rows : Answer = record { items = rows_of (visible w session.0) table.0; reply = ScanOpen } in
        Holds-more w.state w.sessions w.history lines (λ s. lines s ++ (line, rows) ∷ []) session.0 (transaction w session.0).changes (ShareTable table.0)
        on (free session.0 (ShareTable table.0) nobody) (λ change there. inl there)
        (StandsAlone-scan (transaction w session.0) (tables_of w.history) (lines session.0) session table (holds.stands session.0)) holds

  -- a transaction that is given up
  rollback_holds : (session : Session) → w.state ≡ Online → Kept (RollbackWork session) (done reading w facts (RollbackWork session))
  rollback_holds session on = Holds-less w.state w.sessions w.history w.history lines session.0 on (λ other away p lock there covers. refl) holds

  -- a transaction that is committed
  commit_holds : (session : Session) → w.state ≡ Online → Kept (CommitWork session) (done reading w facts (CommitWork session))
  commit_holds session on = by_test (has_changes w session.0) where
    by_test : (b : Bool) → Kept (CommitWork session) (if b then (plain (Committed (last w.history + 1)), committed_by w session.0) else (plain NothingToCommit, without_transaction w session.0))
    by_test true = Holds-less w.state w.sessions w.history (committed_by w session.0).history lines session.0 on (λ other away. commit_apart w lines session.0 other holds away) holds
    by_test false = Holds-less w.state w.sessions w.history w.history lines session.0 on (λ other away p lock there covers. refl) holds

  -- a turn of a savepoint
  savepoint_turn : (left : Option ℕ) → Kept TurnSavepoint (after_savepoint_turn reading w left)
  savepoint_turn None = holds
  savepoint_turn (Some left) = holds

  -- a turn of a backup
  backup_turn : (task : Option BackupTask) → Kept TurnBackup (after_backup_turn reading w task)
  backup_turn None = holds
  backup_turn (Some task) = by_test (task.left == 0) where
    by_test : (b : Bool) → Kept TurnBackup (if b then (plain (PagesSaved task.kind task.commit), record (pages_saved w task.medium task.kind task.savepoint task.commit task.pages) { backup_task = None }) else (plain (Running (task.left - 16)), record w { backup_task = Some (record task { left = task.left - 16 }) }))
    by_test true = holds
    by_test false = holds

  -- a revert, where no session is there
  revert_holds : (number : ℕ) (snapshot : Option Snapshot) → w.state ≢ Online → Kept (SnapshotRevert number) (after_revert reading w snapshot)
  revert_holds number None off = holds
  revert_holds number (Some snapshot) off = Holds-rest w.state w.state w.sessions w.history snapshot.history lines (holds.at_rest off) holds

  -- a recover, where no session is there
  recover_holds : (media : _) (log : Bool) (until : Option ℕ) (links : List Backup) (c : Chain) → w.state ≢ Online → Kept (Recover media log until) (after_recover reading w links c)
  recover_holds media log until links (Gap number) off = holds
  recover_holds media log until links (Outside low high) off = holds
  recover_holds media log until links (Plan pages end) off = Holds-rest w.state Admin w.sessions w.history _ lines (holds.at_rest off) holds

  -- a line that is done
  pub done-holds : (line : Command) → refusal reading w facts line ≡ None → Kept line (done reading w facts line)
  done-holds (GetRow session table key) none = get_holds session table key (online w.state (admitted_state reading w facts (GetRow session table key) none)) (mapped-none _ _ (admitted_lock reading w facts (GetRow session table key) none))
  done-holds (PutRow session table key value) none = put_holds session table key value (online w.state (admitted_state reading w facts (PutRow session table key value) none)) (mapped-none _ _ (admitted_lock reading w facts (PutRow session table key value) none))
  done-holds (DelRow session table key) none = del_holds session table key (online w.state (admitted_state reading w facts (DelRow session table key) none)) (mapped-none _ _ (admitted_lock reading w facts (DelRow session table key) none))
  done-holds (ScanTable session table) none = scan_holds session table (online w.state (admitted_state reading w facts (ScanTable session table) none)) (mapped-none _ _ (admitted_lock reading w facts (ScanTable session table) none))
  done-holds (CommitWork session) none = commit_holds session (online w.state (admitted_state reading w facts (CommitWork session) none))
  done-holds (RollbackWork session) none = rollback_holds session (online w.state (admitted_state reading w facts (RollbackWork session) none))
  done-holds DbAdmin none = Holds-ended _ _ _ refl
  done-holds DbOffline none = Holds-ended _ _ _ refl
  done-holds Kill none = Holds-ended _ _ _ refl
  done-holds DbOnline none = Holds-state w.state Online w.sessions w.history lines (λ away. absurd (away refl)) holds
  done-holds (Recover media log until) none =
      recover_holds media log until (links_of w media.items log) (chain (links_of w media.items log) until) (not_online w.state (admitted_state reading w facts (Recover media log until) none))
  done-holds (SnapshotRevert number) none = revert_holds number (get w.snapshots number) (in_admin w.state (admitted_state reading w facts (SnapshotRevert number) none))
  done-holds TurnSavepoint none = savepoint_turn facts.left
  done-holds TurnBackup none = backup_turn w.backup_task
  done-holds (BackupStart medium (OfPages kind)) none = holds
  done-holds (BackupStart medium OfLog) none = holds
  done-holds DbState none = holds
  done-holds MakeSavepoint none = holds
  done-holds TaskSavepoint none = holds
  done-holds (TaskBackup medium kind) none = holds
  done-holds (MediumPut medium pages) none = holds
  done-holds (MediumDelete medium) none = holds
  done-holds MediumList none = holds
  done-holds SnapshotCreate none = holds
  done-holds (SnapshotDrop number) none = holds
  done-holds Info none = holds
  done-holds CheckData none = holds

-- Steps

-- a refusal, but for a device that failed, leaves the open lines
own_stays : (cause : Refusal) (before with_it : List AnsweredLine) → is_own cause ≡ true → lines_by (Refused cause) before with_it ≡ before
own_stays DeviceFailed before with_it own = cc
own_stays _ before with_it own = refl

module _ (reading : PageReading) (w w' : World) (answer : Answer) (lines : ℕ → List AnsweredLine) (holds : HoldsOf w lines) where
  -- a line that is refused
  refused-holds : (line : Line) (cause : Refusal) → is_own cause ≡ true → (answer ≡ refused cause) × (w' ≡ w) → HoldsOf w' (after_line lines line answer)
  refused-holds line cause own is =
      subst (λ (e : Answer × World). HoldsOf e.1 (after_line lines line e.0)) (λ i. (sym is.0 i, sym is.1 i))
      (subst (λ (after : ℕ → List AnsweredLine). HoldsOf w after) (λ i s. sym (own_stays cause (lines s) (lines_with s (lines s) line (refused cause)) own) i) holds)

  -- a command
  CommandStep-holds : (facts : Facts) (line : Command) → CommandStep reading w line facts answer w' → HoldsOf w' (after_line lines (Some line) answer)
  CommandStep-holds facts line step = by_refusal (refusal reading w facts line) refl step where
    by_medium : refusal reading w facts line ≡ None → (m : Option Refusal) → medium_full w facts line ≡ m
        → MatchOption m (IsDone reading w line facts answer w') (λ cause. IsRefused reading cause w answer w') → HoldsOf w' (after_line lines (Some line) answer)
    by_medium none None e is =
        subst (λ (e : Answer × World). HoldsOf e.1 (after_line lines (Some line) e.0)) (λ i. (sym is.0 i, sym is.1 i)) (done-holds reading w facts lines holds line none)
    by_medium none (Some cause) e is = refused-holds (Some line) cause (ap is_mild (sym e) ∙ medium_full-own w facts line) is

    by_refusal : (r : Option Refusal) → refusal reading w facts line ≡ r
        → MatchOption r (Fits reading w facts line × MatchOption (medium_full w facts line) (IsDone reading w line facts answer w') (λ cause. IsRefused reading cause w answer w')) (λ cause. IsRefused reading cause w answer w')
        → HoldsOf w' (after_line lines (Some line) answer)
    by_refusal None e is = by_medium e (medium_full w facts line) refl is.1
    by_refusal (Some cause) e is = refused-holds (Some line) cause (ap is_mild (sym e) ∙ refusal-own reading w facts line) is

  -- any step
  pub Step-holds : (line : Line) → Step reading w line answer w' → HoldsOf w' (after_line lines line answer)
  Step-holds None is = refused-holds None Syntax refl is
  Step-holds (Some line) (facts, step) = CommandStep-holds facts line step
