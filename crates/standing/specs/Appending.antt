-- One more commit, as images show it.
--     appended      a look with one commit more in both logs
--     with_commit      a world with one commit more
--     HasRoomFor      the log and the area have room for the commit
--     LogsAreDue      both logs of an image end where the group is to stand
--     TakesCommit      an image of a live database with room for a commit at its log's end
use Rattle.std.specs.Prelude.{◌≡◌, ℕ, ◌+◌, ◌≤◌, List, [], ◌∷◌, ◌++◌, IsTrue, Some}
use Rattle.mdb_model.specs.declared.change.Commit.{Commit}
use Rattle.mdb_model.specs.History.{last, tables_of, commits_above}
use Rattle.mdb_model.specs.Images.{Image}
use Rattle.mdb_model.specs.Sessions.{group_bytes}
use Rattle.mdb_model.specs.Space.{commit_has_room, map_has_room, kept_for_snapshots}
use Rattle.mdb_model.specs.Worlds.{World, Live}
use Rattle.mdb_bytes.specs.declared.log_info.LogInfo.{LogInfo}
use Rattle.mdb_bytes.specs.declared.restart_record.RestartRecord.{RestartRecord}
use Rattle.mdb_bytes.specs.KeptMaps.{KeptMap}
use Rattle.mdb_bytes.specs.LogReading.{log_bytes}
use Rattle.mdb_bytes.specs.Rings.{ring_size, ring_byte}
use Rattle.mdb_bytes.specs.Forms.{reading}
use Rattle.redo_ring.specs.Ring.{IsDue}
use Rattle.standing.specs.Looks.{Look, look, record_in, log_info_in, open_medium, saved_in_force, saved_point}
use Rattle.standing.specs.WholeStanding.{needed_from}

-- a look with one commit more in both logs
abbrev pub appended : Look → (saved redo : List Commit) → Commit → Look
appended l saved redo c = record l {
  saved_log = Some (saved ++ c ∷ []);
  redo_log = Some (redo
      ++ c ∷ []);
}

-- a world with one commit more
abbrev pub with_commit : World → Commit → World
with_commit w c = record w { history = record w.history { commits = w.history.commits ++ c ∷ [] } }

-- The log has room for the group and a closed gate behind it. So has the area for the commit, and
-- for
-- the map beside what snapshots keep.
pub record HasRoomFor (l : Look) (kept : KeptMap) (c : Commit) (w : World) : Type 0 where
  pub ring : (saved_point l).position + log_bytes (commits_above w.history w.saved)
      + group_bytes c.changes + 1 ≤ needed_from l + w.ring
  pub map : IsTrue (map_has_room reading kept.pages (kept_for_snapshots w) w.blocks)
  pub commit : IsTrue (commit_has_room (tables_of w.history) c.changes (kept_for_snapshots w)
      w.blocks)

-- The log of an image is due to take a commit: read from the saved point and from the record it
-- ends at this position, after this number, with room for the group.
pub record LogsAreDue (old : Image) (info : LogInfo) (r : RestartRecord) (end number : ℕ)
    (c : Commit) (saved redo : List Commit) : Type 0 where
  pub log_info : log_info_in old ≡ Some info
  pub restart : record_in old ≡ Some r
  pub saved_log : let point = saved_in_force (Some r) (Some info) (open_medium old) in
      IsDue (ring_size info.pages) r.name end number (group_bytes c.changes)
      (ring_byte (ring_size info.pages) old) point.position point.commit saved
  pub redo_log : IsDue (ring_size info.pages) r.name end number (group_bytes c.changes)
      (ring_byte (ring_size info.pages) old) r.position r.commit redo

-- An image of a live database takes a commit: its records and map are these, the log ends at this
-- position after this number, and there is room.
pub record TakesCommit (old : Image) (w : World) (c : Commit) (info : LogInfo) (r : RestartRecord)
    (kept : KeptMap) (end number : ℕ) : Type 0 where
  pub live : w.area ≡ Live
  pub log_info : log_info_in old ≡ Some info
  pub restart : record_in old ≡ Some r
  pub map : (look old).kept ≡ Some kept
  pub first : w.history.first ≤ w.saved
  pub saved : w.saved ≤ last w.history
  pub room : HasRoomFor (look old) kept c w
  pub at_end : end ≡ (saved_point (look old)).position
      + log_bytes (commits_above w.history w.saved)
  pub at_last : number ≡ last w.history
