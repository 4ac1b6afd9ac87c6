-- A savepoint as images show it: the record that comes to be in force, its map and the log behind
-- it.
--     shown_with      what an image would show with this record in force
--     switched      a look with another record, its map and the log behind it
--     IsSlotBlock      the two blocks of the slots
--     IsNext      the record of a savepoint beside the one before
--     TellsSaved, KeepsSaved      where the saved point does not move with the record
--     IsNewMap      a map in order, which with the log behind it gives the tables of the world
--     IsMark      the mark of a record after some commits
--     SwitchesTo      the slots are switched to the record of a savepoint
--     next_idle      the record of a savepoint that changes no page
use Rattle.std.specs.Prelude.{◌≡◌, ℕ, ◌+◌, ◌<◌, ◌≤◌, List, [], ◌++◌, IsTrue, IfSome, length, filter_map, Option, Some}
use Rattle.std.specs.List.{AllByRecursion}
use Rattle.mdb_model.specs.declared.change.Commit.{Commit}
use Rattle.mdb_model.specs.Tables.{Tables, with_commits}
use Rattle.mdb_model.specs.History.{last, tables_of, commits_above}
use Rattle.mdb_model.specs.Images.{Image}
use Rattle.mdb_model.specs.Pages.{committed}
use Rattle.mdb_model.specs.Worlds.{World}
use Rattle.mdb_bytes.specs.declared.log_info.LogInfo.{LogInfo}
use Rattle.mdb_bytes.specs.declared.restart_record.RestartRecord.{RestartRecord}
use Rattle.mdb_bytes.specs.LogReading.{log_bytes}
use Rattle.mdb_bytes.specs.KeptMaps.{KeptMap}
use Rattle.mdb_bytes.specs.PageReadings.{all_images}
use Rattle.mdb_bytes.specs.Forms.{reading}
use Rattle.mdb_bytes.specs.Stages.{no_undo}
use Rattle.gate_slots.specs.declared.body.SlotBody.TheVariants.{Restart}
use Rattle.gate_slots.specs.declared.slots.Slots.{Slots}
use Rattle.gate_slots.specs.Slots.{IsReady}
use Rattle.gate_slots.specs.Steps.{Switches}
use Rattle.standing.specs.Standing.{data_slots}
use Rattle.standing.specs.Looks.{Look, look, log_info_in, open_medium, map_of_record, snapshot_maps, saved_after, redo_after, base_in_force, saved_in_force, saved_point}
use Rattle.standing.specs.WholeStanding.{MapIsInOrder, ShareNoBlock, SinceBase, RoomStands}

-- what an image would show with this record in force
abbrev pub shown_with : Image → RestartRecord → Look
shown_with image next = record (look image) {
  restart = Some next;
  kept = map_of_record image next;
  snapshots = snapshot_maps image (Some next);
  saved_log = saved_after image (log_info_in image) (Some next);
  redo_log = redo_after image (log_info_in image) (Some next);
}

-- a look with another record, its map and the log behind it
abbrev pub switched : Look → RestartRecord → KeptMap → List Commit → Look
switched l next kept log = record l { restart = Some next; kept = Some kept; redo_log = Some log }

-- the two blocks of the slots
abbrev pub IsSlotBlock : ℕ → Type 0
IsSlotBlock block = block < 2

-- The record of a savepoint beside the one before: of the same database, volumes and snapshots,
-- with the same base in
-- force, neither its savepoint nor its mark before the other's.
pub record IsNext (media : ℕ → Option (List ℕ)) (r next : RestartRecord) : Type 0 where
  pub state : next.state ≡ r.state
  pub name : next.name ≡ r.name
  pub volumes : next.volumes ≡ r.volumes
  pub snapshots : next.snapshots ≡ r.snapshots
  pub base : base_in_force next media ≡ base_in_force r media
  pub pending : r.pending_medium ≡ 0 → next.pending_medium ≡ 0
  pub savepoint : r.savepoint ≤ next.savepoint
  pub position : r.position ≤ next.position

-- the log info is of the generation of the record, or of a later one
abbrev pub TellsSaved : Option LogInfo → RestartRecord → Type 0
TellsSaved info r = IfSome info (λ info. r.name.generation ≤ info.name.generation)

-- up to where the log is saved is the same under both records
abbrev pub KeepsSaved : (ℕ → Option (List ℕ)) → Option LogInfo → (r next : RestartRecord) → Type 0
KeepsSaved media info r next = saved_in_force (Some next) info media
    ≡ saved_in_force (Some r) info media

-- a map in order, which with the log behind it gives the tables of the world
pub record IsNewMap (l : Look) (next : RestartRecord) (new : KeptMap) (log : List Commit)
    (w : World) : Type 0 where
  pub in_order : MapIsInOrder new w.blocks
  pub start : Tables
  pub in_map : committed reading new.pages ≡ Some start
  pub tables : with_commits log start ≡ tables_of w.history
  pub number : next.commit + length log ≡ last w.history
  pub same_end : next.position + log_bytes log
      ≡ (saved_point l).position + log_bytes (commits_above w.history w.saved)
  pub own : ShareNoBlock new new
  pub beside : AllByRecursion (λ other. ShareNoBlock new other
      × ShareNoBlock other new) (filter_map (λ e. e.1) l.snapshots)
  pub since : IfSome w.base (SinceBase new)
  pub stamps : AllByRecursion (λ e. e.1.stamp ≤ next.savepoint) new.places
  pub room : RoomStands (switched l next new log) next new w
  pub images : IsTrue no_undo → all_images new.pages ≡ []

-- the mark of a record behind so many of the commits that were to be redone
pub record IsMark (r next : RestartRecord) (done : List Commit) : Type 0 where
  pub commit : next.commit ≡ r.commit + length done
  pub position : next.position ≡ r.position + log_bytes done

-- the record of a savepoint that changes no page
abbrev pub next_idle : RestartRecord → RestartRecord
next_idle r = record r { slot = r.slot + 1; savepoint = r.savepoint + 1 }

-- The slots of the restart record are switched to the record of a savepoint: its map stands on the
-- blocks, and its mark lies behind the first commits of the log.
pub record SwitchesTo (slots : Slots) (r next : RestartRecord) (old new : Image) (map : KeptMap)
    (done rest : List Commit) (w : World) : Type 0 where
  pub place : slots.place ≡ data_slots
  pub ready : IsReady slots (Restart r) old
  pub switches : Switches slots (Restart next) old new
  pub next_one : IsNext (open_medium old) r next
  pub saved : KeepsSaved (open_medium old) (log_info_in old) r next
  pub log : (look old).redo_log ≡ Some (done ++ rest)
  pub mark : IsMark r next done
  pub stands_there : map_of_record old next ≡ Some map
  pub new_map : IsNewMap (look old) next map rest w
