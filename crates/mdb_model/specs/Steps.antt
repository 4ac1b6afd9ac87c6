-- What each line does where nothing refuses it.
--     Facts      what a line learns from the devices
--     done      the answer and the world after a line
--     Fits      which facts a line may learn
use Rattle.std.specs.Prelude.{◌≡◌, ℕ, ◌+◌, ◌-◌, ◌<◌, ◌≤◌, List, [], ◌∷◌, ◌++◌, Bool, true, false, not, ◌==◌, Option, Some, None, if◌then◌else◌, IsTrue, IsSome, IfSome, All, length, map, filter, filter_map, find, max, unwrap_or, option_map}
use Rattle.std.specs.List.{range_with_len}
use Rattle.std.specs.FinMap.{get, insert, remove, contains_key, entries, keys, values, len, empty}
use Rattle.std.specs.FinSet.{from_list}
use Rattle.mdb_model.specs.declared.change.Change.{Change}
use Rattle.mdb_model.specs.declared.change.Change.TheVariants.{Put, Del}
use Rattle.mdb_model.specs.declared.name.Name.{Name}
use Rattle.mdb_model.specs.declared.name.State.TheVariants.{Offline, Admin, Online}
use Rattle.mdb_model.specs.declared.script.PageKind.{PageKind}
use Rattle.mdb_model.specs.declared.script.PageKind.TheVariants.{Complete, Incremental}
use Rattle.mdb_model.specs.declared.script.BackupKind.TheVariants.{OfPages, OfLog}
use Rattle.mdb_model.specs.declared.script.MediumState.{MediumState}
use Rattle.mdb_model.specs.declared.script.MediumState.TheVariants.{Blank, Busy, Saved, SavedLog}
use Rattle.mdb_model.specs.declared.script.Command.{Command}
use Rattle.mdb_model.specs.declared.script.Command.TheVariants.{GetRow, PutRow, DelRow, ScanTable, CommitWork, RollbackWork, DbAdmin, DbOnline, DbOffline, DbState, Kill, MakeSavepoint, TaskSavepoint, TaskBackup, TurnSavepoint, TurnBackup, MediumPut, MediumDelete, MediumList, BackupStart, Recover, SnapshotCreate, SnapshotDrop, SnapshotRevert, Info, CheckData}
use Rattle.mdb_model.specs.declared.script.Refusal.TheVariants.{NoTask, NoSnapshot, ChainGap, UntilOutside}
use Rattle.mdb_model.specs.declared.script.Reply.TheVariants.{PutDone, DelDone, NoRow, ScanOpen, Committed, NothingToCommit, RolledBack, AdminAt, OnlineAt, OfflineNow, StateIs, SavepointDone, TaskBegun, Running, PagesSaved, LogSaved, MediumMade, MediumDeleted, MediaOpen, Recovered, SnapshotMade, SnapshotDropped, Reverted, InfoIs, Checked}
use Rattle.mdb_model.specs.Tables.{Tables, place_of}
use Rattle.mdb_model.specs.History.{last, tables_of, commits_above}
use Rattle.mdb_model.specs.Pages.{Page, PageMap, PageReading, written_after, committed}
use Rattle.mdb_model.specs.Backups.{Backup, CompletePages, ChangedPages, LogGroups, Medium, name_of, same_name}
use Rattle.mdb_model.specs.Worlds.{World, BackupTask, Snapshot, Lock, ShareKey, ExclusiveKey, ShareTable, Live, transaction, with_transaction, without_transaction, is_busy, stopped}
use Rattle.mdb_model.specs.Sessions.{visible, net_changes}
use Rattle.mdb_model.specs.Space.{need, size_now, map_has_room}
use Rattle.mdb_model.specs.Chains.{Chain, Gap, Outside, Plan, chain, page_map_of, history_of}
use Rattle.mdb_model.specs.Answers.{Answer, Item, Row, MediumRow, plain, refused, row_reply}

pub record Facts : Type 0 where
  -- the pages and the number of the savepoint that the line makes
  pub pages : PageMap
  pub savepoint : ℕ
  -- the pages that a task has left after the line, or none where the line ends it
  pub left : Option ℕ
  -- whether a number in the restart record or the log info is past the end, 2 ^ 61, and one in a
  -- header of the chain
  pub record_past_end : Bool
  pub header_past_end : Bool

-- Sessions

-- with one more lock of the session
abbrev pub locked : World → ℕ → Lock → World
locked w session lock =
    let x = transaction w session in
    with_transaction w session (record x { locks = lock ∷ x.locks })

-- with one more change of the session, and its lock
abbrev pub changed : World → ℕ → Change → World
changed w session change =
    let x = transaction w session in
    with_transaction w session (record {
      changes = x.changes ++ change
          ∷ [];
      locks = ExclusiveKey (place_of change) ∷ x.locks;
    })

-- with the session's net changes as the next commit
abbrev pub committed_by : World → ℕ → World
committed_by w session =
    record (without_transaction w session) {
      history =
          record w.history {
            commits = w.history.commits
                ++ record { changes = net_changes (transaction w session).changes } ∷ [];
          };
    }

abbrev pub has_changes : World → ℕ → Bool
has_changes w session = not (length (transaction w session).changes == 0)

-- the rows of a table, by key
abbrev pub rows_of : Tables → ℕ → List Item
rows_of tables table = map (λ e. Row e.0.1 e.1) (filter (λ e. e.0.0 == table) (entries tables))

-- Media

-- with this backup on the medium
abbrev pub with_backup : World → ℕ → Backup → World
with_backup w medium backup =
    record w {
      media = insert w.media medium
          (record {
            pages = unwrap_or (option_map (λ m. m.pages) (get w.media medium)) 0;
            holds = Some
                backup;
          });
    }

-- the number of the base savepoint
abbrev pub base_number : World → ℕ
base_number w = unwrap_or (option_map (λ base. base.savepoint) w.base) 0

-- the pages that a backup of this kind copies
abbrev pub pages_to_copy : World → PageKind → PageMap → PageMap
pages_to_copy w Complete pages = pages
pages_to_copy w Incremental pages = written_after (base_number w) pages

-- the backup of these pages
abbrev pub page_backup : World → PageKind → (savepoint commit : ℕ) → PageMap → Backup
page_backup w Complete savepoint commit pages = CompletePages w.name savepoint commit pages w.blocks
page_backup w Incremental savepoint commit pages =
    ChangedPages w.name savepoint (base_number w) commit (pages_to_copy w Incremental pages)
    (from_list (keys pages)) w.blocks

-- with this page backup on the medium, and its savepoint as the base
abbrev pub pages_saved : World → ℕ → PageKind → (savepoint commit : ℕ) → PageMap → World
pages_saved w medium kind savepoint commit pages =
    record (with_backup w medium (page_backup w kind savepoint commit pages))
    { base = Some (record { savepoint = savepoint; pages = pages }) }

-- the log that no log backup holds
abbrev pub log_backup : World → Backup
log_backup w =
    LogGroups w.name (w.saved + 1) (last w.history) (commits_above w.history w.saved) w.blocks

abbrev pub medium_state : Option Backup → Bool → MediumState
medium_state holds true = Busy
medium_state None false = Blank
medium_state (Some (CompletePages name savepoint commit pages blocks)) false =
    Saved Complete name commit
medium_state (Some (ChangedPages name savepoint base commit some live blocks)) false =
    Saved Incremental name commit
medium_state (Some (LogGroups name from to commits blocks)) false = SavedLog name from to

-- the media by number
abbrev pub media_lines : World → List Item
media_lines w =
    map (λ e. MediumRow (record {
      medium = e.0;
      pages = e.1.pages;
      holds = medium_state e.1.holds
          (is_busy w e.0);
    })) (entries w.media)

-- the backups on media
abbrev pub backups_of : World → List Backup
backups_of w = filter_map (λ m. m.holds) (values w.media)

-- the greater of the savepoint and the base of a page backup, and 0 of a log backup
abbrev pub newest_number : Backup → ℕ
newest_number (CompletePages name savepoint commit pages blocks) = savepoint
newest_number (ChangedPages name savepoint base commit some live blocks) = max savepoint base
newest_number (LogGroups name from to commits blocks) = 0

-- Snapshots and restores

-- the next generation of a name
abbrev pub next_generation : Name → Name
next_generation name = record name { generation = name.generation + 1 }

-- the lowest number of a snapshot that is not there, and 9 where all eight are
abbrev pub free_number : World → ℕ
free_number w = unwrap_or (find (λ k. not (contains_key w.snapshots k)) (range_with_len 1 8)) 9

-- the backups on these media
abbrev pub links_of : World → List ℕ → Bool → List Backup
links_of w [] true = log_backup w ∷ []
links_of w [] false = []
links_of w (medium ∷ media) log = backup_then (get w.media medium) (links_of w media log) where
  backup_then : Option Medium → List Backup → List Backup
  backup_then None links = links
  backup_then (Some m) links = unwrap_or (option_map (λ backup. backup ∷ links) m.holds) links

module _ (reading : PageReading) where
  -- the tables that a chain begins with
  abbrev pub tables_in : List Backup → Tables
  tables_in links = unwrap_or (committed reading (page_map_of empty links)) empty

  -- after a recover up to a commit
  abbrev pub recovered : World → List Backup → ℕ → World
  recovered w links end =
      record w {
        state = Admin;
        area = Live;
        name = next_generation w.name;
        history = history_of (tables_in links) links end;
        saved = end;
        base = None;
        snapshots = empty;
      }

  -- after a turn of a backup: it copies 16 pages or the rest, or has none left and ends
  abbrev pub after_backup_turn : World → Option BackupTask → Answer × World
  after_backup_turn w None = (refused NoTask, w)
  after_backup_turn w (Some task) =
      if task.left == 0
      then (
        plain (PagesSaved task.kind task.commit),
        record (pages_saved w task.medium task.kind task.savepoint task.commit task.pages)
            { backup_task = None },
      )
      else (
        plain (Running (task.left - 16)),
        record w
            { backup_task = Some (record task { left = task.left - 16 }) },
      )

  -- after a turn of a savepoint that leaves so many pages, or ends it
  abbrev pub after_savepoint_turn : World → Option ℕ → Answer × World
  after_savepoint_turn w (Some left) =
      (plain (Running left), record w { savepoint_task = Some left })
  after_savepoint_turn w None = (plain SavepointDone, record w { savepoint_task = None })

  abbrev pub after_revert : World → Option Snapshot → Answer × World
  after_revert w None = (refused NoSnapshot, w)
  after_revert w (Some snapshot) = (
    plain (Reverted (last snapshot.history)),
    record w {
      name = next_generation w.name;
      history = snapshot.history;
      saved = last
          snapshot.history;
      base = None;
    },
  )

  abbrev pub after_recover : World → List Backup → Chain → Answer × World
  after_recover w links (Plan pages end) = (plain (Recovered end), recovered w links end)
  after_recover w links (Gap number) = (refused (ChainGap number), w)
  after_recover w links (Outside low high) = (refused (UntilOutside low high), w)

  -- what is said to a line, and the world after it
  abbrev pub done : World → Facts → Command → Answer × World
  done w facts (GetRow session table key) = (
    plain (row_reply (get (visible w session.0) (table.0, key))),
    locked w session.0
        (ShareKey (table.0, key)),
  )
  done w facts (PutRow session table key value) =
      (plain PutDone, changed w session.0 (Put table key value))
  done w facts (DelRow session table key) =
      if contains_key (visible w session.0) (table.0, key)
      then (plain DelDone, changed w session.0 (Del table key))
      else (plain NoRow, locked w session.0 (ExclusiveKey (table.0, key)))
  done w facts (ScanTable session table) = (
    record { items = rows_of (visible w session.0) table.0; reply = ScanOpen },
    locked w
        session.0 (ShareTable table.0),
  )
  done w facts (CommitWork session) =
      if has_changes w session.0
      then (plain (Committed (last w.history + 1)), committed_by w session.0)
      else (plain NothingToCommit, without_transaction w session.0)
  done w facts (RollbackWork session) = (plain RolledBack, without_transaction w session.0)
  done w facts DbAdmin = (plain (AdminAt (last w.history)), stopped Admin w)
  done w facts DbOnline = (plain (OnlineAt (last w.history)), record w { state = Online })
  done w facts DbOffline = (plain OfflineNow, stopped Offline w)
  done w facts Kill = (plain OfflineNow, stopped Offline w)
  done w facts DbState = (plain (StateIs w.state), w)
  done w facts MakeSavepoint = (plain SavepointDone, w)
  done w facts Info =
      (plain (InfoIs w.name (last w.history) w.saved w.blocks (need w)), w)
  done w facts CheckData = (plain Checked, w)
  done w facts TaskSavepoint = (plain TaskBegun, record w { savepoint_task = facts.left })
  done w facts TurnSavepoint = after_savepoint_turn w facts.left
  done w facts (TaskBackup medium kind) = (
    plain TaskBegun,
    record w {
      backup_task = Some (record {
        medium = medium;
        kind = kind;
        savepoint = facts.savepoint;
        commit = last w.history;
        pages = facts.pages;
        size = size_now w;
        left = len (pages_to_copy w kind facts.pages);
      });
    },
  )
  done w facts TurnBackup = after_backup_turn w w.backup_task
  done w facts (BackupStart medium (OfPages kind)) = (
    plain (PagesSaved kind (last w.history)),
    pages_saved w medium kind facts.savepoint
        (last w.history) facts.pages,
  )
  done w facts (BackupStart medium OfLog) = (
    plain (LogSaved (w.saved + 1) (last w.history)),
    record (with_backup w medium (log_backup w))
        { saved = last w.history },
  )
  done w facts (MediumPut medium pages) = (
    plain MediumMade,
    record w {
      media = insert w.media medium
          (record { pages = pages; holds = None });
    },
  )
  done w facts (MediumDelete medium) =
      (plain MediumDeleted, record w { media = remove w.media medium })
  done w facts MediumList = (record { items = media_lines w; reply = MediaOpen }, w)
  done w facts (Recover media log until) =
      after_recover w (links_of w media.items log) (chain (links_of w media.items log) until)
  done w facts SnapshotCreate = (
    plain (SnapshotMade (free_number w) (last w.history)),
    record w {
      snapshots = insert w.snapshots (free_number w)
          (record { history = w.history; size = size_now w });
    },
  )
  done w facts (SnapshotDrop number) =
      (plain SnapshotDropped, record w { snapshots = remove w.snapshots number })
  done w facts (SnapshotRevert number) = after_revert w (get w.snapshots number)

  -- Which facts may be learnt

  -- the pages and the number of a savepoint of these tables, by a world with at most so many pages
  pub record IsSavepoint (w : World) (tables : Tables) (size : ℕ) (pages : PageMap) (savepoint : ℕ)
      : Type 0 where
    pub rows : committed reading pages ≡ Some tables
    pub count : len pages ≤ size
    pub numbers : All (λ number. number < w.blocks) (keys pages)
    pub form : reading.IsWellFormed pages
    pub room : IsTrue (map_has_room reading pages 0 w.blocks)
    -- what was not written since the base is as it was there
    pub since_base : IfSome w.base (λ base. (base.savepoint < savepoint)
        × ((number : ℕ) → IfSome (get pages number) (λ page. page.stamp ≤ base.savepoint
        → (there : Page) × (get base.pages number ≡ Some there) × (there.bytes ≡ page.bytes))))
    -- no page backup of this name has a savepoint or a base of this number or a later one
    pub newest : All (λ backup. same_name (name_of backup) w.name ≡ true
        → newest_number backup < savepoint) (backups_of w)

  -- whether a line may learn these facts
  abbrev pub Fits : World → Facts → Command → Type 0
  Fits w facts (TaskBackup medium kind) =
      IsSavepoint w (tables_of w.history) (size_now w) facts.pages facts.savepoint
  Fits w facts (BackupStart medium (OfPages kind)) =
      IsSavepoint w (tables_of w.history) (size_now w) facts.pages facts.savepoint
  -- a savepoint has at most as many pages to write as there are
  Fits w facts TaskSavepoint = IfSome facts.left (λ left. left ≤ size_now w) × IsSome facts.left
  -- a turn that goes on wrote 16 pages or the rest, or more
  Fits w facts TurnSavepoint =
      IfSome facts.left (λ left. IfSome w.savepoint_task (λ before. (0 < before)
      × (left ≤ before - 16)))
  Fits w facts _ = Unit {0}
