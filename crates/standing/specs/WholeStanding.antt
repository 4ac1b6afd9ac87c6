-- When an image stands for a world, with any pages, backups and snapshots: by what the image shows,
-- and by nothing else.
--     LookStands      all its parts, each a record
--     AreaStands      the part on the data area: live, restoring or lost
--     StageAsks      what an early program asks besides
--     StandsWhole      the image stands for the world
--     pages_in, savepoint_in, commit_number_in      readings of an image
use Rattle.std.specs.Prelude.{◌≡◌, ◌≢◌, ◌⊎◌, ℕ, ◌+◌, ◌*◌, ◌<◌, ◌≤◌, min, List, [], ◌∷◌, ◌++◌, Bool, true, IsTrue, IfSome, IsSome, MatchOption, false, All, ◌==◌, length, get_or, map, sum, Option, Some, None, option_map, option_to_list, unwrap_or, filter_map}
use Rattle.std.specs.List.{flat_map, AllZip, AllByRecursion}
use Rattle.std.specs.Ordering.{nat_cmp}
use Rattle.std.specs.FinMap.{get, len, empty, entries}
use Rattle.std.specs.FinSet as set
use Rattle.mdb_model.specs.declared.change.Commit.{Commit}
use Rattle.mdb_model.specs.declared.fault.Device.TheVariants.{Data, Log, Medium as OnMedium}
use Rattle.mdb_model.specs.declared.name.State.TheVariants.{Offline}
use Rattle.mdb_model.specs.Tables.{Place, Tables, with_changes, with_commits}
use Rattle.mdb_model.specs.History.{last, tables_of, cut, commits_above}
use Rattle.mdb_model.specs.Images.{Image}
use Rattle.mdb_model.specs.Pages.{Page, PageMap, committed}
use Rattle.mdb_model.specs.Backups.{Backup, CompletePages, ChangedPages, LogGroups, Medium, name_of, same_name}
use Rattle.mdb_model.specs.Worlds.{World, Base, Snapshot, Area, Live, Restoring, Lost}
use Rattle.mdb_model.specs.Space.{has_room, commit_has_room, map_has_room, converter_pages, kept_for_snapshots}
use Rattle.mdb_model.specs.Steps.{backups_of, newest_number}
use Rattle.mdb_bytes.specs.declared.restart_record.AreaState.{AreaState}
use Rattle.mdb_bytes.specs.declared.restart_record.AreaState.TheVariants.{Normal, RestoreOpen}
use Rattle.mdb_bytes.specs.declared.log_info.LogInfo.{LogInfo}
use Rattle.mdb_bytes.specs.declared.restart_record.RestartRecord.{RestartRecord}
use Rattle.mdb_bytes.specs.declared.restart_record.SnapshotEntry.{SnapshotEntry}
use Rattle.mdb_bytes.specs.Fields.{all_differ}
use Rattle.mdb_bytes.specs.Parts.{KeepsLimits, page_len}
use Rattle.mdb_bytes.specs.LogicalPages.{own_number}
use Rattle.mdb_bytes.specs.Groups.{group_fits}
use Rattle.mdb_bytes.specs.MediumPages.{medium_header_format, most_pages}
use Rattle.mdb_bytes.specs.WholeBackups.{header_for, backup_bytes}
use Rattle.mdb_bytes.specs.LogReading.{log_bytes}
use Rattle.mdb_bytes.specs.Rings.{ring_size}
use Rattle.mdb_bytes.specs.KeptMaps.{KeptMap}
use Rattle.mdb_bytes.specs.PageReadings.{all_images}
use Rattle.mdb_bytes.specs.Forms.{IsWellFormed, reading}
use Rattle.mdb_bytes.specs.Stages.{no_backups, one_generation, no_snapshots, no_undo, no_changed_pages}
use Rattle.standing.specs.Standing.{AreVolumes}
use Rattle.standing.specs.Looks.{Look, look, base_in_force, saved_point}

-- Sizes

-- the log volume has the pages that its log info says, 4 to 65,536
pub record LogFits (l : Look) (info : LogInfo) (w : World) : Type 0 where
  pub there : l.sizes Log ≡ Some (info.pages * page_len)
  pub least : 4 ≤ info.pages
  pub most : info.pages ≤ 65536
  pub ring : w.ring ≡ ring_size info.pages

-- data volumes of these sizes are there, and are the blocks of the world
pub record AreaFits (l : Look) (volumes : List ℕ) (w : World) : Type 0 where
  pub limits : AreVolumes volumes
  pub blocks : w.blocks ≡ sum volumes
  pub there : (i : ℕ) → i < length volumes
      → l.sizes (Data (i + 1)) ≡ Some (get_or volumes i 0 * page_len)

-- Log

-- where a restart reads the log from; while a restore is open it reads from the saved position
-- alone
abbrev pub redo_from : AreaState → (position saved : ℕ) → ℕ
redo_from Normal position saved = position
redo_from RestoreOpen position saved = saved

-- where the log begins that is still needed: the saved position, or the record's where that is
-- lesser
abbrev pub needed_from : Look → ℕ
needed_from l =
    let saved = (saved_point l).position in
    unwrap_or (option_map (λ r. min (redo_from r.state r.position saved) saved) l.restart) saved

-- the commits that are not saved stand in the log, and the log that is needed is shorter than the
-- ring
pub record LogStands (l : Look) (w : World) : Type 0 where
  pub saved : (saved_point l).commit ≡ w.saved
  pub commits : l.saved_log ≡ Some (commits_above w.history w.saved)
  pub fits : (saved_point l).position + log_bytes (commits_above w.history w.saved) < needed_from l
      + w.ring

-- Maps

-- page numbers and blocks are of the area, no block is one of the first two, and each serves one
-- page
pub record BlocksAreApart (kept : KeptMap) (blocks : ℕ) : Type 0 where
  pub numbers : AllByRecursion (λ e. e.0 < blocks) kept.places
  pub converter : AllByRecursion (λ block. (2 ≤ block) × (block < blocks)) kept.converter
  pub placed : AllByRecursion (λ e. (2 ≤ e.1.block) × (e.1.block < blocks)) kept.places
  pub once : IsTrue (all_differ (λ a b. a == b) (kept.converter
      ++ map (λ e. e.1.block) kept.places))

-- a kept map has its blocks apart and its pages in order
pub record MapIsInOrder (kept : KeptMap) (blocks : ℕ) : Type 0 where
  pub blocks_apart : BlocksAreApart kept blocks
  pub form : IsWellFormed kept.pages

-- the maps that the image keeps
abbrev pub kept_maps : Look → List KeptMap
kept_maps l = option_to_list l.kept ++ filter_map (λ e. e.1) l.snapshots

-- of two kept maps: a block with a page of one serves in the other this page or nothing
pub record ShareNoBlock (a b : KeptMap) : Type 0 where
  pub pages : AllByRecursion (λ p. AllByRecursion (λ q. p.1.block ≡ q.1.block
      → p.0 ≡ q.0) b.places) a.places
  pub converter : AllByRecursion (λ p. AllByRecursion (λ block. p.1.block ≢ block) b.converter)
      a.places

-- the rows of the world: those that the record's map has as committed, and the log's commits after
-- the record
pub record RowsStand (l : Look) (r : RestartRecord) (kept : KeptMap) (w : World) : Type 0 where
  pub start : Tables
  pub log : List Commit
  pub in_map : committed reading kept.pages ≡ Some start
  pub in_log : l.redo_log ≡ Some log
  pub tables : with_commits log start ≡ tables_of w.history
  pub number : r.commit + length log ≡ last w.history
  -- from the record's position and from the saved one the log ends at one place, after one commit
  -- number
  pub same_number : r.commit + length log ≡ (saved_point l).commit
      + length (commits_above w.history w.saved)
  pub same_end : r.position + log_bytes log ≡ (saved_point l).position
      + log_bytes (commits_above w.history w.saved)

-- a snapshot of the world as an entry of the record and a map
pub record IsSnapshot (blocks : ℕ) (w_entry : ℕ × Snapshot) (l_entry : SnapshotEntry
    × Option KeptMap) : Type 0 where
  pub kept : KeptMap
  pub there : l_entry.1 ≡ Some kept
  pub number : l_entry.0.number ≡ w_entry.0
  pub size : l_entry.0.size ≡ w_entry.1.size
  pub commit : l_entry.0.commit ≡ last w_entry.1.history
  pub in_order : MapIsInOrder kept blocks
  pub no_images : all_images kept.pages ≡ []
  pub at_most : len kept.pages ≤ w_entry.1.size
  pub rows : committed reading kept.pages ≡ Some (tables_of w_entry.1.history)

-- each page not written since the base stands in the base's map with the same bytes
abbrev pub SinceBase : KeptMap → Base → Type 0
SinceBase kept base =
    (number : ℕ) → IfSome (get kept.pages number) (λ page. page.stamp ≤ base.savepoint
    → (there : Page) × (get base.pages number ≡ Some there) × (there.bytes ≡ page.bytes))

-- the base in force is the world's
pub record BaseStands (l : Look) (r : RestartRecord) (kept : KeptMap) (w : World) : Type 0 where
  pub in_force : base_in_force r l.media ≡ option_map (λ base. base.savepoint) w.base
  pub since : IfSome w.base (SinceBase kept)

-- Room

-- each commit in its turn has room
abbrev pub HaveRoom : Tables → List Commit → (kept blocks : ℕ) → Type 0
HaveRoom tables [] kept blocks = Unit {0}
HaveRoom tables (commit ∷ commits) kept blocks =
    IsTrue (commit_has_room tables commit.changes kept blocks)
    × HaveRoom (with_changes commit.changes tables) commits kept blocks

-- Each commit in its turn has room to be set on the rows, as a restart sets it, which writes no
-- before images. The rows may have any first part of the first commit already.
abbrev pub HaveRoomToRedo : Tables → List Commit → (kept blocks : ℕ) → Type 0
HaveRoomToRedo tables [] kept blocks = Unit {0}
HaveRoomToRedo tables (commit ∷ commits) kept blocks =
    IsTrue (has_room tables (with_changes commit.changes tables) 0 kept blocks)
    × HaveRoomToRedo (with_changes commit.changes tables) commits kept blocks

-- how many blocks serve a logical page of a kept map
abbrev pub blocks_in_use : Look → ℕ
blocks_in_use l =
    set.len (set.from_list {R = nat_cmp}
    (flat_map (λ kept. map (λ e. e.1.block) kept.places) (kept_maps l)))

-- A restart that has something to undo or redo has room beside what snapshots keep: the map; each
-- commit of the history after the record, as its transaction had it; and each commit that is
-- redone,
-- on the rows of the map, which a savepoint inside a commit leaves between two commits of the
-- history.
pub record RestartHasRoom (l : Look) (r : RestartRecord) (kept : KeptMap) (w : World)
    : Type 0 where
  pub map : IsTrue (map_has_room reading kept.pages (kept_for_snapshots w) w.blocks)
  pub history : HaveRoom (tables_of (cut w.history r.commit)) (commits_above w.history r.commit)
      (kept_for_snapshots w) w.blocks
  pub log : (start : Tables) (log : List Commit) → committed reading kept.pages ≡ Some start
      → l.redo_log ≡ Some log → HaveRoomToRedo start log (kept_for_snapshots w) w.blocks

-- each kept map has room, so has a restart, and there are blocks for one more converter
pub record RoomStands (l : Look) (r : RestartRecord) (kept : KeptMap) (w : World) : Type 0 where
  pub maps : AllByRecursion (λ a. IsTrue (map_has_room reading a.pages 0 w.blocks)) (kept_maps l)
  pub restart : (0 < length (all_images kept.pages)) ⊎ IfSome l.redo_log (λ log. 0 < length log)
      → RestartHasRoom l r kept w
  pub blocks : 2 + blocks_in_use l + (len w.snapshots + 2) * converter_pages w.blocks ≤ w.blocks

-- no savepoint that is known is later than the record's
pub record NumbersStand (l : Look) (r : RestartRecord) (w : World) : Type 0 where
  pub base : IfSome (base_in_force r l.media) (λ savepoint. savepoint ≤ r.savepoint)
  pub stamps : AllByRecursion (λ kept. AllByRecursion (λ e. e.1.stamp ≤ r.savepoint) kept.places)
      (kept_maps l)
  pub media : All (λ backup. same_name (name_of backup) w.name ≡ true
      → newest_number backup ≤ r.savepoint) (backups_of w)

-- Media

-- pages of a backup are whole and carry their numbers; groups of a backup are in their form
abbrev pub IsInForm : Backup → Type 0
IsInForm (CompletePages name savepoint commit pages blocks) =
    AllByRecursion (λ e. (own_number e.1.bytes ≡ e.0)
    × (length e.1.bytes ≡ page_len)) (entries pages)
IsInForm (ChangedPages name savepoint base commit changed live blocks) =
    AllByRecursion (λ e. (own_number e.1.bytes ≡ e.0)
    × (length e.1.bytes ≡ page_len)) (entries changed)
IsInForm (LogGroups name from to commits blocks) =
    (1 ≤ from) × (length commits + from ≡ to + 1)
    × AllByRecursion (λ commit. IsTrue (group_fits
    (record { name = name; number = from; changes = commit.changes }))) commits

-- the bytes of a medium begin with those of the backup. Where in the log a log backup ends is no
-- part of the world
pub record HoldsBackup (bytes : List ℕ) (backup : Backup) : Type 0 where
  pub end : ℕ
  pub rest : List ℕ
  pub header : KeepsLimits medium_header_format (header_for end backup)
  pub form : IsInForm backup
  pub whole : bytes ≡ backup_bytes end backup ++ rest

-- a medium of the world, as the device shows it
pub record MediumStands (l : Look) (number : ℕ) (medium : Medium) : Type 0 where
  pub there : l.sizes (OnMedium number) ≡ Some (medium.pages * page_len)
  pub least : 2 ≤ medium.pages
  pub most : medium.pages ≤ most_pages
  pub blank : medium.holds ≡ None → l.media number ≡ None
  pub holds : (backup : Backup) → medium.holds ≡ Some backup
      → (bytes : List ℕ) × (l.media number ≡ Some bytes) × HoldsBackup bytes backup

-- the media 1 to 99 are those of the world
pub record MediaStand (l : Look) (w : World) : Type 0 where
  pub numbers : (number : ℕ) → IsSome (get w.media number) → (1 ≤ number) × (number ≤ 99)
  pub each : (number : ℕ) → 1 ≤ number → number ≤ 99
      → MatchOption (get w.media number) (l.sizes (OnMedium number) ≡ None) (MediumStands l number)

-- The area

-- in order: the record's map and the log give the tables
pub record AreaIsLive (l : Look) (w : World) : Type 0 where
  pub rec : RestartRecord
  pub kept : KeptMap
  pub in_force : l.restart ≡ Some rec
  pub normal : rec.state ≡ Normal
  pub name : rec.name ≡ w.name
  pub sizes : AreaFits l rec.volumes.items w
  pub there : l.kept ≡ Some kept
  pub in_order : MapIsInOrder kept w.blocks
  pub rows : RowsStand l rec kept w
  pub snapshots : AllZip (IsSnapshot w.blocks) (entries w.snapshots) l.snapshots
  pub apart : AllByRecursion (λ a. AllByRecursion (ShareNoBlock a) (kept_maps l)) (kept_maps l)
  pub base : BaseStands l rec kept w
  pub room : RoomStands l rec kept w
  pub numbers : NumbersStand l rec w

-- a recover was begun and not ended. What the record still names is in order
pub record AreaIsRestoring (l : Look) (w : World) : Type 0 where
  pub rec : RestartRecord
  pub in_force : l.restart ≡ Some rec
  pub opened : rec.state ≡ RestoreOpen
  pub name : rec.name ≡ w.name
  pub sizes : AreaFits l rec.volumes.items w
  pub map : rec.root ≢ 0 → (kept : KeptMap) × (l.kept ≡ Some kept) × MapIsInOrder kept w.blocks

-- No record can be read. The volumes are those that are found from the first one on, up to one that
-- is not there, and the name is that of the log info, and one that a record can have
pub record AreaIsLost (l : Look) (info : LogInfo) (w : World) : Type 0 where
  pub volumes : List ℕ
  pub no_record : l.restart ≡ None
  pub sizes : AreaFits l volumes w
  pub no_more : length volumes < 8 → l.sizes (Data (length volumes + 1)) ≡ None
  pub name : info.name ≡ w.name
  pub has_birth : 1 ≤ w.name.birth
  pub has_generation : 1 ≤ w.name.generation

-- the data area is as the world has it
abbrev pub AreaStands : Area → Look → LogInfo → World → Type 0
AreaStands Live l info w = AreaIsLive l w
AreaStands Restoring l info w = AreaIsRestoring l w
AreaStands Lost l info w = AreaIsLost l info w

-- What an early program asks besides, since it does not read more

-- the entries on the undo pages of a backup
abbrev pub images_of_backup : Backup → List (Place × Option (List ℕ))
images_of_backup (CompletePages name savepoint commit pages blocks) = all_images pages
images_of_backup (ChangedPages name savepoint base commit changed live blocks) = all_images changed
images_of_backup (LogGroups name from to commits blocks) = []

-- whether a backup holds changed pages alone
abbrev pub is_changed_pages : Backup → Bool
is_changed_pages (CompletePages name savepoint commit pages blocks) = false
is_changed_pages (ChangedPages name savepoint base commit changed live blocks) = true
is_changed_pages (LogGroups name from to commits blocks) = false

-- each medium is blank, nothing is saved, there is no base, and nothing is pending
pub record HasNoBackups (l : Look) (w : World) : Type 0 where
  pub blank : backups_of w ≡ []
  pub saved : w.saved ≡ 0
  pub base : w.base ≡ None
  pub record_pending : IfSome l.restart (λ r. r.pending_medium ≡ 0)
  pub log_pending : IfSome l.log_info (λ info. info.pending_medium ≡ 0)

-- there are no undo entries, in kept maps and in backups
pub record HasNoImages (l : Look) (w : World) : Type 0 where
  pub maps : AllByRecursion (λ kept. all_images kept.pages ≡ []) (kept_maps l)
  pub media : All (λ backup. images_of_backup backup ≡ []) (backups_of w)

-- what is not built yet is not needed
pub record StageAsks (l : Look) (w : World) : Type 0 where
  pub backups : IsTrue no_backups → HasNoBackups l w
  pub generation : IsTrue one_generation → (w.area ≡ Live) × (w.name.generation ≡ 1)
      × IfSome l.log_info (λ info. info.name.generation ≡ 1)
  pub snapshots : IsTrue no_snapshots → w.snapshots ≡ empty
  pub images : IsTrue no_undo → HasNoImages l w
  pub changed_pages : IsTrue no_changed_pages
      → All (λ backup. is_changed_pages backup ≡ false) (backups_of w)

-- All of it

-- what an image shows stands for the world
pub record LookStands (l : Look) (w : World) : Type 0 where
  pub offline : w.state ≡ Offline
  pub info : LogInfo
  pub in_force : l.log_info ≡ Some info
  pub birth : info.name.birth ≡ w.name.birth
  pub generation : info.name.generation ≤ w.name.generation
  pub log_size : LogFits l info w
  pub log : LogStands l w
  pub area : AreaStands w.area l info w
  pub media : MediaStand l w
  pub room : HaveRoom (tables_of (cut w.history w.saved)) (commits_above w.history w.saved) 0
      w.blocks
  pub stage : StageAsks l w

-- the image stands for the world
abbrev pub StandsWhole : Image → World → Type 0
StandsWhole image w = LookStands (look image) w

-- Readings of an image

-- the pages of its record's map
abbrev pub pages_in : Image → PageMap
pages_in image = unwrap_or (option_map (λ kept. kept.pages) (look image).kept) empty

-- the number of its record's savepoint
abbrev pub savepoint_in : Image → ℕ
savepoint_in image = unwrap_or (option_map (λ r. r.savepoint) (look image).restart) 0

-- the number of its record's commit
abbrev pub commit_number_in : Image → ℕ
commit_number_in image = unwrap_or (option_map (λ r. r.commit) (look image).restart) 0
