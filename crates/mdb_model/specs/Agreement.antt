-- Which worlds make sense.
--     IsSound      the parts of a world fit each other
--     Ages, grown      what histories the names of databases had; with one more world's
--     Agrees      a world's media are backups of these histories
use Rattle.std.specs.Prelude.{◌≡◌, ◌≢◌, ℕ, ◌+◌, ◌-◌, ◌<◌, ◌≤◌, List, false, Option, Some, None, IsTrue, IfSome, All, Contains, length, take, slice_get}
use Rattle.std.specs.List.{list_all}
use Rattle.std.specs.declared.cmp.Ordering.{Ordering}
use Rattle.std.specs.Ordering.{nat_cmp, ordering_then}
use Rattle.std.specs.FinMap.{FinMap, get, insert, empty, keys}
use Rattle.mdb_model.specs.declared.change.Commit.{Commit}
use Rattle.mdb_model.specs.declared.name.Name.{Name}
use Rattle.mdb_model.specs.declared.name.State.TheVariants.{Offline, Online}
use Rattle.mdb_model.specs.History.{History, last, tables_of, cut, commits_above}
use Rattle.mdb_model.specs.Pages.{PageReading, committed, SameBytes}
use Rattle.mdb_model.specs.Backups.{Backup, LogGroups, Medium, name_of, blocks_of}
use Rattle.mdb_model.specs.Worlds.{World, Live, Lock, transaction}
use Rattle.mdb_model.specs.Sessions.{conflict}
use Rattle.mdb_model.specs.Space.{commit_has_room, map_has_room}
use Rattle.mdb_model.specs.Chains.{is_page_backup, gap, last_link, savepoint_of, commit_of, page_map_of}
use Rattle.mdb_model.specs.Steps.{IsSavepoint, backups_of}

-- by birth, and then by generation
abbrev pub name_cmp : Name → Name → Ordering
name_cmp a b = ordering_then (nat_cmp a.birth b.birth) (nat_cmp a.generation b.generation)

-- the history that each name of a database had
abbrev pub Ages : Type 0
Ages = FinMap name_cmp History

abbrev pub grown : Ages → World → Ages
grown ages w = insert ages w.name w.history

-- the commit of a number
abbrev pub commit_number : History → ℕ → Option Commit
commit_number h k = slice_get h.commits (k - h.first - 1)

-- the number is one from the first of a history to its last, so that the history can be cut there
abbrev pub HasNumber : History → ℕ → Type 0
HasNumber h number = (h.first ≤ number) × (number ≤ last h)

module _ (reading : PageReading) where
  pub record IsSound (w : World) : Type 0 where
    pub saved_from : w.history.first ≤ w.saved
    pub saved_to : w.saved ≤ last w.history
    pub locks : (s t : ℕ) (a b : Lock) → s ≢ t → Contains (transaction w s).locks a
        → Contains (transaction w t).locks b → conflict a b ≡ false
    pub at_rest : w.state ≢ Online → (w.sessions ≡ empty) × (w.savepoint_task ≡ None)
        × (w.backup_task ≡ None)
    pub in_order : w.state ≢ Offline → w.area ≡ Live
    -- a backup under way has a savepoint's pages, and its medium is there and holds nothing yet
    pub backup : IfSome w.backup_task (λ task.
        HasNumber w.history task.commit
        × IsSavepoint reading w (tables_of (cut w.history task.commit)) task.size task.pages
        task.savepoint
        × ((medium : Medium) × (get w.media task.medium ≡ Some medium) × (medium.holds ≡ None)))

  -- page backups on the media of a world, of which each has the one before as its base
  pub record IsPageChain (w : World) (links : List Backup) (end : Backup) : Type 0 where
    pub on_media : All (Contains (backups_of w)) links
    pub pages : IsTrue (list_all is_page_backup links)
    pub no_gap : gap links ≡ None
    pub ends : last_link links ≡ Some end

  -- the pages of a chain are those of its database at its last commit
  pub record IsOfAge (ages : Ages) (links : List Backup) (end : Backup) : Type 0 where
    pub numbers : All (λ number. number < blocks_of end) (keys (page_map_of empty links))
    pub form : reading.IsWellFormed (page_map_of empty links)
    pub room : IsTrue (map_has_room reading (page_map_of empty links) 0 (blocks_of end))
    pub rows : (h : History) × (get ages (name_of end) ≡ Some h) × HasNumber h (commit_of end)
        × (committed reading (page_map_of empty links) ≡ Some (tables_of (cut h (commit_of end))))

  -- a log backup holds these commits of its database, and each has room
  pub record IsLogOfAge (ages : Ages) (name : Name) (from to : ℕ) (commits : List Commit)
      (blocks : ℕ) : Type 0 where
    pub history : History
    pub age : get ages name ≡ Some history
    pub above_first : history.first < from
    pub count : length commits + from ≡ to + 1
    pub same : commits ≡ take (to + 1 - from) (commits_above history (from - 1))
    pub room : (k : ℕ) → from ≤ k → k ≤ to → IfSome (commit_number history k) (λ commit.
        IsTrue (commit_has_room (tables_of (cut history (k - 1))) commit.changes 0 blocks))

  pub record Agrees (w : World) (ages : Ages) : Type 0 where
    pub own : get ages w.name ≡ Some w.history
    -- nothing is of a later generation
    pub no_later_medium : All (λ backup. (name_of backup).birth ≡ w.name.birth
        → (name_of backup).generation ≤ w.name.generation) (backups_of w)
    pub no_later_age : (generation : ℕ) (h : History)
        → get ages (record { birth = w.name.birth; generation = generation }) ≡ Some h
        → generation ≤ w.name.generation
    pub page_chains : (links : List Backup) (end : Backup) → IsPageChain w links end
        → IsOfAge ages links end
    pub logs : (name : Name) (from to : ℕ) (commits : List Commit) (blocks : ℕ)
        → Contains (backups_of w) (LogGroups name from to commits blocks)
        → IsLogOfAge ages name from to commits blocks
    -- a chain up to the base savepoint gives the pages of the base
    pub base : (links : List Backup) (end : Backup) → IsPageChain w links end → name_of end ≡ w.name
        → IfSome w.base (λ base. savepoint_of end ≡ Some base.savepoint
        → SameBytes (page_map_of empty links) base.pages)
