-- When a line is refused. Each cause has a definition; `refusal` gives the first in the stated
-- order.
--     states_of      the states in which a line is admitted
--     refusal_with      why a line is refused, if it is, before it makes a savepoint
--     refusal      the same, with the lines that the program knows
--     medium_full      why it is refused after that
use Rattle.std.specs.Prelude.{ℕ, ◌+◌, ◌-◌, List, [], ◌∷◌, Bool, true, false, not, ◌&&◌, ◌||◌, nat_le, nat_lt, min, max, Option, Some, None, is_some, is_none, if◌then◌else◌, unwrap_or, option_map, option_and_then, fold}
use Rattle.std.specs.List.{list_any}
use Rattle.std.specs.FinMap.{get, contains_key, len}
use Rattle.mdb_model.specs.declared.fault.Device.TheVariants.{Data}
use Rattle.mdb_model.specs.declared.fault.Rule.TheVariants.{NoSlot}
use Rattle.mdb_model.specs.declared.name.State.{State}
use Rattle.mdb_model.specs.declared.name.State.TheVariants.{Offline, Admin, Online}
use Rattle.mdb_model.specs.declared.script.PageKind.TheVariants.{Complete, Incremental}
use Rattle.mdb_model.specs.declared.script.BackupKind.{BackupKind}
use Rattle.mdb_model.specs.declared.script.BackupKind.TheVariants.{OfPages, OfLog}
use Rattle.mdb_model.specs.declared.script.Command.{Command}
use Rattle.mdb_model.specs.declared.script.Command.TheVariants.{GetRow, PutRow, DelRow, ScanTable, CommitWork, RollbackWork, DbAdmin, DbOnline, DbOffline, DbState, Kill, MakeSavepoint, TaskSavepoint, TaskBackup, TurnSavepoint, TurnBackup, MediumPut, MediumDelete, MediumList, BackupStart, Recover, SnapshotCreate, SnapshotDrop, SnapshotRevert, Info, CheckData}
use Rattle.mdb_model.specs.declared.script.Refusal.{Refusal}
use Rattle.mdb_model.specs.declared.script.Refusal.TheVariants.{Syntax, WrongState, Locked, DataFull, LogFull, TransactionLarge, NoMedium, MediumUsed, MediumFull, MediumEmpty, NeedData, ChainGap, UntilOutside, AreaSmall, NoSnapshot, SnapshotsFull, TaskBusy, NoTask, RestoreOpen, Damaged, NumberEnd}
use Rattle.mdb_model.specs.Pages.{PageMap, PageReading}
use Rattle.mdb_model.specs.Backups.{blocks_of}
use Rattle.mdb_model.specs.Worlds.{World, Area, Live, Restoring, Lost, Lock, ShareKey, ExclusiveKey, ShareTable, transaction, is_busy}
use Rattle.mdb_model.specs.Sessions.{visible, net_changes, holder, group_bytes, unsaved}
use Rattle.mdb_model.specs.Space.{need, ceil_div}
use Rattle.mdb_model.specs.Chains.{Chain, Gap, Outside, Plan, chain}
use Rattle.mdb_model.specs.Stages.{is_built, rows_in_memory}
use Rattle.mdb_model.specs.Steps.{Facts, done, has_changes, pages_to_copy, links_of}

-- a refusal where the test is true
abbrev pub refuse_if : Bool → Refusal → Option Refusal
refuse_if test refusal = if test then Some refusal else None

-- the first cause that there is
abbrev pub first_cause : List (Option Refusal) → Option Refusal
first_cause [] = None
first_cause (Some refusal ∷ causes) = Some refusal
first_cause (None ∷ causes) = first_cause causes

abbrev pub states_of : Command → List State
states_of (GetRow session table key) = Online ∷ []
states_of (PutRow session table key value) = Online ∷ []
states_of (DelRow session table key) = Online ∷ []
states_of (ScanTable session table) = Online ∷ []
states_of (CommitWork session) = Online ∷ []
states_of (RollbackWork session) = Online ∷ []
states_of DbAdmin = Offline ∷ Online ∷ []
states_of DbOnline = Offline ∷ Admin ∷ []
states_of DbOffline = Admin ∷ Online ∷ []
states_of DbState = Offline ∷ Admin ∷ Online ∷ []
states_of Kill = Offline ∷ Admin ∷ Online ∷ []
states_of MakeSavepoint = Admin ∷ Online ∷ []
states_of TaskSavepoint = Online ∷ []
states_of (TaskBackup medium kind) = Online ∷ []
states_of TurnSavepoint = Online ∷ []
states_of TurnBackup = Online ∷ []
states_of (MediumPut medium pages) = Admin ∷ Online ∷ []
states_of (MediumDelete medium) = Admin ∷ Online ∷ []
states_of MediumList = Admin ∷ Online ∷ []
states_of (BackupStart medium kind) = Admin ∷ Online ∷ []
states_of (Recover media log until) = Offline ∷ Admin ∷ []
states_of SnapshotCreate = Admin ∷ []
states_of (SnapshotDrop number) = Admin ∷ []
states_of (SnapshotRevert number) = Admin ∷ []
states_of Info = Admin ∷ Online ∷ []
states_of CheckData = Admin ∷ []

abbrev pub same_state : State → State → Bool
same_state Offline Offline = true
same_state Admin Admin = true
same_state Online Online = true
same_state _ _ = false

-- the media that a line names and that have to be there
abbrev pub media_named : Command → List ℕ
media_named (MediumDelete medium) = medium ∷ []
media_named (TaskBackup medium kind) = medium ∷ []
media_named (BackupStart medium kind) = medium ∷ []
media_named (Recover media log until) = media.items
media_named _ = []

-- the lock that a line takes
abbrev pub lock_of : Command → Option (ℕ × Lock)
lock_of (GetRow session table key) = Some (session.0, ShareKey (table.0, key))
lock_of (PutRow session table key value) = Some (session.0, ExclusiveKey (table.0, key))
lock_of (DelRow session table key) = Some (session.0, ExclusiveKey (table.0, key))
lock_of (ScanTable session table) = Some (session.0, ShareTable table.0)
lock_of _ = None

-- the session whose changes grow by a line: a deletion of no visible row is no change
abbrev pub changing_session : World → Command → Option ℕ
changing_session w (PutRow session table key value) = Some session.0
changing_session w (DelRow session table key) =
    if contains_key (visible w session.0) (table.0, key) then Some session.0 else None
changing_session w _ = None

-- the blocks that a line has to leave free past what is needed after it
abbrev pub reserve_of : World → Command → Option ℕ
reserve_of w (PutRow session table key value) = Some 224
reserve_of w (DelRow session table key) =
    option_map (λ session. 160) (changing_session w (DelRow session table key))
reserve_of w SnapshotCreate = Some 224
reserve_of w (TaskBackup medium kind) = Some 224
reserve_of w _ = None

-- the medium of a backup, and its kind
abbrev pub backup_of : Command → Option (ℕ × BackupKind)
backup_of (TaskBackup medium kind) = Some (medium, OfPages kind)
backup_of (BackupStart medium kind) = Some (medium, kind)
backup_of _ = None

abbrev pub is_blank : World → ℕ → Bool
is_blank w medium =
    not (is_busy w medium) && is_none (option_and_then (λ m. m.holds) (get w.media medium))

abbrev pub medium_pages : World → ℕ → ℕ
medium_pages w medium = unwrap_or (option_map (λ m. m.pages) (get w.media medium)) 0

-- the pages of a backup, its header and the set of page numbers included
abbrev pub backup_pages : World → PageMap → BackupKind → ℕ
backup_pages w pages (OfPages Complete) = 1 + len pages
backup_pages w pages (OfPages Incremental) =
    1 + ceil_div w.blocks 65000 + len (pages_to_copy w Incremental pages)
backup_pages w pages OfLog = 1 + ceil_div (unsaved w) 8192

module _ (w : World) where
  -- 2: the line is not admitted in the present state
  abbrev pub wrong_state : Command → Option Refusal
  wrong_state line =
      refuse_if (not (list_any (same_state w.state) (states_of line))) (WrongState w.state)

  -- 17: a savepoint task keeps other savepoint lines off, and any task keeps page backups off
  abbrev pub task_busy : Command → Option Refusal
  task_busy MakeSavepoint = refuse_if (is_some w.savepoint_task) TaskBusy
  task_busy TaskSavepoint = refuse_if (is_some w.savepoint_task) TaskBusy
  task_busy (TaskBackup medium kind) =
      refuse_if (is_some w.savepoint_task || is_some w.backup_task) TaskBusy
  task_busy (BackupStart medium (OfPages kind)) =
      refuse_if (is_some w.savepoint_task || is_some w.backup_task) TaskBusy
  task_busy _ = None

  -- 18: a turn has no task
  abbrev pub no_task : Command → Option Refusal
  no_task TurnSavepoint = refuse_if (is_none w.savepoint_task) NoTask
  no_task TurnBackup = refuse_if (is_none w.backup_task) NoTask
  no_task _ = None

  -- 20, 19: a restart of an area that is lost, or whose restore is open
  abbrev pub cannot_restart : Area → Option Refusal
  cannot_restart Live = None
  cannot_restart Restoring = Some RestoreOpen
  cannot_restart Lost = Some (Damaged (record { device = Data 1; page = 0; rule = NoSlot }))

  abbrev pub bad_area : Command → Option Refusal
  bad_area DbAdmin = if same_state w.state Offline then cannot_restart w.area else None
  bad_area DbOnline = if same_state w.state Offline then cannot_restart w.area else None
  bad_area _ = None

  -- 21: a restart or a recover from Offline meets a number past the end
  abbrev pub number_end : Facts → Command → Option Refusal
  number_end facts DbAdmin =
      refuse_if (same_state w.state Offline && facts.record_past_end) NumberEnd
  number_end facts DbOnline =
      refuse_if (same_state w.state Offline && facts.record_past_end) NumberEnd
  number_end facts (Recover media log until) =
      refuse_if (same_state w.state Offline && facts.record_past_end) NumberEnd
  number_end facts _ = None

  -- 7: a medium is absent
  abbrev pub no_medium : Command → Option Refusal
  no_medium line =
      refuse_if (list_any (λ medium. not (contains_key w.media medium)) (media_named line)) NoMedium

  -- 10: a medium to recover from is blank
  abbrev pub medium_empty : Command → Option Refusal
  medium_empty (Recover media log until) = refuse_if (list_any (is_blank w) media.items) MediumEmpty
  medium_empty _ = None

  -- 21: a header of the chain has a number past the end
  abbrev pub header_end : Facts → Command → Option Refusal
  header_end facts (Recover media log until) = refuse_if facts.header_past_end NumberEnd
  header_end facts _ = None

  -- 8: a medium is there already, holds something, or is being written
  abbrev pub medium_used : Command → Option Refusal
  medium_used (MediumPut medium pages) = refuse_if (contains_key w.media medium) MediumUsed
  medium_used (MediumDelete medium) = refuse_if (is_busy w medium) MediumUsed
  medium_used (TaskBackup medium kind) = refuse_if (not (is_blank w medium)) MediumUsed
  medium_used (BackupStart medium kind) = refuse_if (not (is_blank w medium)) MediumUsed
  medium_used _ = None

  -- 15: a snapshot is not there
  abbrev pub no_snapshot : Command → Option Refusal
  no_snapshot (SnapshotDrop number) = refuse_if (not (contains_key w.snapshots number)) NoSnapshot
  no_snapshot (SnapshotRevert number) = refuse_if (not (contains_key w.snapshots number)) NoSnapshot
  no_snapshot _ = None

  -- 16: all snapshots are there
  abbrev pub snapshots_full : Command → Option Refusal
  snapshots_full SnapshotCreate = refuse_if (nat_le 8 (len w.snapshots)) SnapshotsFull
  snapshots_full _ = None

  -- 11: no data backup ended in this generation
  abbrev pub need_data : Command → Option Refusal
  need_data (TaskBackup medium Incremental) = refuse_if (is_none w.base) NeedData
  need_data (BackupStart medium (OfPages Incremental)) = refuse_if (is_none w.base) NeedData
  need_data (BackupStart medium OfLog) = refuse_if (is_none w.base) NeedData
  need_data _ = None

  -- 12, 13: the chain has a gap, or does not reach from or to the wanted end
  abbrev pub chain_refusal : Chain → Option Refusal
  chain_refusal (Gap number) = Some (ChainGap number)
  chain_refusal (Outside low high) = Some (UntilOutside low high)
  chain_refusal (Plan pages end) = None

  abbrev pub bad_chain : Command → Option Refusal
  bad_chain (Recover media log until) = chain_refusal (chain (links_of w media.items log) until)
  bad_chain _ = None

  -- 14: the area is smaller than one that a backup of the chain is from
  abbrev pub area_small : Command → Option Refusal
  area_small (Recover media log until) =
      let want = fold (λ most link. max most (blocks_of link)) 0 (links_of w media.items false) in
      refuse_if (nat_lt w.blocks want) (AreaSmall w.blocks want)
  area_small _ = None

  -- 3: another session has a lock that conflicts with the line's
  abbrev pub is_locked : Command → Option Refusal
  is_locked line =
      option_map (λ other. Locked (record { 0 = other }))
      (option_and_then (λ (wanted : ℕ × Lock). holder w wanted.0 wanted.1) (lock_of line))

  -- 5: the log that no backup holds would fill the log area
  abbrev pub log_full : Command → Option Refusal
  log_full (CommitWork session) =
      refuse_if (has_changes w session.0
      && nat_lt w.ring (unsaved w + group_bytes (net_changes (transaction w session.0).changes)
      + 1))
      (LogFull (unsaved w) w.ring)
  log_full _ = None

  -- 9: the medium has fewer pages than the backup
  abbrev pub medium_full : Facts → Command → Option Refusal
  medium_full facts line =
      option_and_then (λ (wanted : ℕ × BackupKind).
      refuse_if (nat_lt (medium_pages w wanted.0) (backup_pages w facts.pages wanted.1))
      (MediumFull (backup_pages w facts.pages wanted.1)))
      (backup_of line)

-- the bytes that a commit may have at most
abbrev pub most_bytes : World → ℕ
most_bytes w = min 1048576 (w.ring - 1)

module _ (reading : PageReading) (w : World) (facts : Facts) where
  -- 6: the session's changes after the line are too many bytes for a commit
  abbrev pub too_large : Command → Option Refusal
  too_large line =
      option_and_then (λ session.
      let bytes = group_bytes (net_changes
      (transaction (done reading w facts line).1 session).changes) in
      refuse_if (nat_lt (most_bytes w) bytes) (TransactionLarge bytes))
      (changing_session w line)

  -- 4: what is needed after the line, with a reserve, exceeds the blocks
  abbrev pub data_full : Command → Option Refusal
  data_full line =
      option_and_then (λ reserve.
      let want = need (done reading w facts line).1 + reserve in
      refuse_if (nat_lt w.blocks want) (DataFull want w.blocks))
      (reserve_of w line)

  -- The first cause in the order of refusals, but for the last one, a medium that is full: it shows
  -- only once the savepoint of the line is made. An area of rows in memory is never full.
  abbrev pub refusal_with : (in_memory : Bool) → Command → Option Refusal
  refusal_with in_memory line = first_cause (
      wrong_state w line
      ∷ bad_area w line
      ∷ number_end w facts line
      ∷ task_busy w line
      ∷ no_task w line
      ∷ no_medium w line
      ∷ medium_empty w line
      ∷ header_end w facts line
      ∷ medium_used w line
      ∷ no_snapshot w line
      ∷ snapshots_full w line
      ∷ need_data w line
      ∷ bad_chain w line
      ∷ area_small w line
      ∷ is_locked w line
      ∷ too_large line
      ∷ (if in_memory then None else data_full line)
      ∷ log_full w line
      ∷ [])

  -- a line that the program does not know yet is refused as one that is not in the grammar
  abbrev pub refusal : Command → Option Refusal
  refusal line = if is_built line then refusal_with rows_in_memory line else Some Syntax
