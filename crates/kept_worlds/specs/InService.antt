-- A database in service, as the images show it that a crash may leave.
--     IsShown      the records in force, up to where the log is saved, and the commits to be redone
--     IsInService      a page store, its devices and the records, while a kernel works on them
--     AllStand      each image that a crash now may leave stands for the world
--     AtEachMoment      each image of each moment of a stretch
--     EndsAt      commits after a record end at this position, after this number
--     IsPlain      a live world without snapshots and a base
--     HasRoomToCommit      there is room for a commit, in the log and in the data area
--     LeadsTo      the rows with the commits that are not set are those of the world, with room
--     HasRoomToSet      commits have room on rows, set one after the other, which may stop anywhere
use Rattle.std.specs.Prelude.{◌≡◌, ℕ, ◌+◌, ◌≤◌, true, List, [], length, sum, Some, None, IsTrue}
use Rattle.mdb_model.specs.declared.change.Commit.{Commit}
use Rattle.mdb_model.specs.History.{tables_of}
use Rattle.mdb_model.specs.Images.{Image}
use Rattle.std.specs.FinMap.{empty}
use Rattle.std.specs.List.{AllByRecursion}
use Rattle.mdb_model.specs.Sessions.{group_bytes}
use Rattle.mdb_model.specs.Space.{has_room, commit_has_room}
use Rattle.mdb_model.specs.Tables.{Tables, with_commits}
use Rattle.mdb_model.specs.Worlds.{World, Live}
use Rattle.mdb_host.specs.Disk.{Disk, Keeps}
use Rattle.mdb_bytes.specs.declared.log_info.LogInfo.{LogInfo}
use Rattle.mdb_bytes.specs.declared.restart_record.RestartRecord.{RestartRecord}
use Rattle.mdb_bytes.specs.Firsts.{leaf_count}
use Rattle.mdb_bytes.specs.LogReading.{log_bytes}
use Rattle.gate_slots.specs.declared.slots.Slots.{Slots}
use Rattle.page_store.specs.Stamps.{AreStamped}
use Rattle.page_store.specs.Store.{Store, block_count}
use Rattle.page_store.specs.WholeSavepoint.{CanSave, IsInArea}
use Rattle.standing.specs.Looks.{Look, LogPoint, look, saved_point}
use Rattle.standing.specs.RedoRoom.{AllApart, places_of}
use Rattle.standing.specs.WholeStanding.{StandsWhole, HaveRoomToRedo}

-- the records in force, up to where the log is saved, and the commits after the restart record
pub record IsShown (r : RestartRecord) (info : LogInfo) (saved : LogPoint) (log : List Commit)
    (l : Look) : Type 0 where
  pub restart : l.restart ≡ Some r
  pub log_info : l.log_info ≡ Some info
  pub saved_upto : saved_point l ≡ saved
  pub redo : l.redo_log ≡ Some log

-- The host tells what it holds. A savepoint can be made; the store and the record are of one area,
-- without snapshots and pending backups; and each image that a crash now may leave shows these
-- records and this log.
pub record IsInService (tells : Type 0) (slots : Slots) (r : RestartRecord) (info : LogInfo)
    (saved : LogPoint) (log : List Commit) (s : Store) (d : Disk) : Type 0 where
  pub told : tells
  pub can_save : CanSave tells slots r s d
  pub stamped : AreStamped s
  pub sizes : s.sizes ≡ r.volumes.items
  pub conv : s.maps.conv ≡ 1 + leaf_count (sum r.volumes.items)
  pub blocks : block_count s ≡ sum r.volumes.items
  pub area : IsInArea s.maps.conv (sum r.volumes.items) s.maps.saved
  pub bare : r.snapshots.items ≡ []
  -- the log info says up to where the log is saved
  pub tells_saved : r.name.generation ≤ info.name.generation
  pub shown : (image : Image) → d.may_leave d.now image → IsShown r info saved log (look image)

-- each image that a crash now may leave stands for the world
abbrev pub AllStand : World → Disk → Type 0
AllStand w d = (image : Image) → d.may_leave d.now image → StandsWhole image w

-- nothing was said, and each image of each moment since has P
pub record AtEachMoment (old new : Disk) (P : Image → Type 0) : Type 0 where
  pub keeps : Keeps old new
  pub quiet : (t : ℕ) → old.now ≤ t → t ≤ new.now → new.said t ≡ old.said old.now
  pub each : (t : ℕ) (image : Image) → old.now ≤ t → t ≤ new.now → new.may_leave t image → P image

-- these commits after the record end at this position, after this number
pub record EndsAt (r : RestartRecord) (log : List Commit) (end number : ℕ) : Type 0 where
  pub position : end ≡ r.position + log_bytes log
  pub commit : number ≡ r.commit + length log

-- a live world without snapshots and a base
pub record IsPlain (w : World) : Type 0 where
  pub live : w.area ≡ Live
  pub no_snapshots : w.snapshots ≡ empty
  pub no_base : w.base ≡ None

-- There is room for a commit: in the log, beside what is not saved and what a restart reads, with a
-- closed gate after it; and in the data area.
pub record HasRoomToCommit (w : World) (r : RestartRecord) (saved : LogPoint) (size end : ℕ)
    (c : Commit) : Type 0 where
  pub unsaved : end + group_bytes c.changes + 1 ≤ saved.position + size
  pub needed : end + group_bytes c.changes + 1 ≤ r.position + size
  pub area : IsTrue (commit_has_room (tables_of w.history) c.changes 0 w.blocks)

-- the rows with the commits that are not set yet are those of the world; there is room for them as
-- they are, and to set these commits
pub record LeadsTo (w : World) (undone : List Commit) (rows : Tables) : Type 0 where
  pub aimed : with_commits undone rows ≡ tables_of w.history
  pub fits : has_room rows rows 0 0 w.blocks ≡ true
  pub to_redo : HaveRoomToRedo rows undone 0 w.blocks

-- commits have room on these rows, set one after the other, each with its changes at different
-- places; so have the rows as they are
pub record HasRoomToSet (blocks : ℕ) (commits : List Commit) (rows : Tables) : Type 0 where
  pub fits : has_room rows rows 0 0 blocks ≡ true
  pub to_redo : HaveRoomToRedo rows commits 0 blocks
  pub differ : AllByRecursion (λ commit. AllApart (places_of commit.changes)) commits
