-- The data area and the log of an open database, in service for a world.
--     IsSoundArea      what holds whatever the devices have
--     saved_by      up to where the log is saved, by the ring
--     ServesWorld      the devices stand for a world, and the rows are those of the world
--     CanTakeCommit      there is room for a commit, whose changes are at different places
--     CommitAnswer      when a commit is refused
--     IsRefusal      the refusals
--     read_from, reader_at_end, point_before      the ring read from a record; a reader after its
--         last group, and the point before that group
--     IsSet      the commit before a reader is set
--     CommitLeaves, SavepointLeaves      what a commit and a savepoint leave of the world
use Rattle.std.specs.Prelude.{◌≡◌, ◌⊎◌, ℕ, ◌+◌, ◌-◌, ◌<◌, ◌≤◌, min, true, List, ◌∷◌, Result, Ok, Err, OnOk, IfErr}
use Rattle.mdb_model.specs.declared.change.Commit.{Commit}
use Rattle.mdb_model.specs.declared.fault.PageFault.{PageFault}
use Rattle.mdb_model.specs.declared.fault.PageFault.TheVariants.{Failed as PageFailed, Damaged as PageDamaged}
use Rattle.mdb_model.specs.History.{tables_of}
use Rattle.mdb_model.specs.Space.{commit_has_room}
use Rattle.mdb_model.specs.Worlds.{World}
use Rattle.mdb_host.specs.Disk.{Disk}
use Rattle.mdb_bytes.specs.declared.log_info.LogInfo.{LogInfo}
use Rattle.mdb_bytes.specs.declared.restart_record.RestartRecord.{RestartRecord}
use Rattle.mdb_bytes.specs.Rings.{HasRing, ring_size}
use Rattle.gate_slots.specs.declared.slots.Slots.{Slots}
use Rattle.mdb_model.specs.declared.change.Change.{Change}
use Rattle.mdb_model.specs.declared.name.Name.{Name}
use Rattle.mdb_model.specs.Tables.{with_changes}
use Rattle.mdb_bytes.specs.Fields.{Spells}
use Rattle.mdb_bytes.specs.Groups.{group_format}
use Rattle.page_store.specs.declared.record.RecordInForce.{RecordInForce}
use Rattle.page_store.specs.Opens.{own_pages}
use Rattle.page_store.specs.Store.{Store, block_count}
use Rattle.redo_ring.specs.declared.reader.RingReader.{RingReader}
use Rattle.restart.specs.Redone.{IsFirstUndone}
use Rattle.page_ground.specs.declared.set_point.SetPoint.{SetPoint}
use Rattle.page_ground.specs.LogKnown.{left_in, IsLogKnown}
use Rattle.page_ground.specs.Aims.{rows_shown, undone_in, StandsForWorld, KeepsWorlds}
use Rattle.page_ground.specs.SetGroups.{HasTheseRows, SetsAll}
use Rattle.page_store.specs.WholeSavepoint.{CanSave}
use Rattle.redo_ring.specs.declared.ring.Ring.{Ring}
use Rattle.redo_ring.specs.Calls.{InOrder}
use Rattle.store_rows.specs.StoredRows.{stored_rows, HasRows}
use Rattle.standing.specs.Appending.{with_commit}
use Rattle.standing.specs.Looks.{LogPoint, look}
use Rattle.standing.specs.RedoRoom.{AllApart, places_of}
use Rattle.standing.specs.WholeStanding.{StandsWhole}
use Rattle.kept_worlds.specs.InService.{IsInService, AllStand, AtEachMoment, EndsAt, IsPlain, HasRoomToSet}
use Rattle.live_area.specs.declared.fault.CommitFault.{CommitFault}
use Rattle.live_area.specs.declared.fault.CommitFault.TheVariants.{Full, Pinned, Failed, Damaged}

-- a savepoint can be made, the numbers of the log fit each other, and its volume is there
pub record IsSoundArea (tells : Type 0) (slots : Slots) (r : RestartRecord) (s : Store)
    (ring : Ring) (d : Disk) : Type 0 where
  pub can_save : CanSave tells slots r s d
  pub order : InOrder ring
  pub there : tells → HasRing ring.size d.seen

-- up to where the log is saved
abbrev pub saved_by : Ring → LogPoint
saved_by ring = record { commit = ring.saved_commit; position = ring.saved_position }

-- Each image that a crash now may leave stands for the world, the database is in service, and the
-- rows are those of the world: all commits of the log are set.
pub record ServesWorld (tells : Type 0) (slots : Slots) (r : RestartRecord) (s : Store)
    (ring : Ring) (d : Disk) (w : World) : Type 0 where
  pub stand : AllStand w d
  pub plain : IsPlain w
  pub info : LogInfo
  pub log : List Commit
  pub service : IsInService tells slots r info (saved_by ring) log s d
  pub rows : HasRows tells s d.seen
  pub all_set : stored_rows s d.seen ≡ tables_of w.history
  pub ends : EndsAt r log ring.end_position ring.last_commit
  pub name : ring.name ≡ r.name
  pub size : ring.size ≡ ring_size info.pages
  pub redo : ring.redo_position ≡ r.position

-- the commit has room in the data area, and its changes are at different places
pub record CanTakeCommit (w : World) (c : Commit) : Type 0 where
  pub room : commit_has_room (tables_of w.history) c.changes 0 w.blocks ≡ true
  pub differ : AllApart (places_of c.changes)

-- A group of n bytes is refused where it, with a closed gate after it, does not fit beside the
-- bytes that are not saved, and else where it does not fit beside those that a restart reads.
abbrev pub CommitAnswer : (size unsaved needed n : ℕ) → Result (Unit {0}) CommitFault → Type 0
CommitAnswer size unsaved needed n (Err Full) = size < unsaved + n + 1
CommitAnswer size unsaved needed n (Err Pinned) =
    (unsaved + n + 1 ≤ size) × (size < needed + n + 1)
CommitAnswer size unsaved needed n _ = (unsaved + n + 1 ≤ size) × (needed + n + 1 ≤ size)

-- a commit that is refused, with nothing changed
abbrev pub IsRefusal : CommitFault → Type 0
IsRefusal Full = Unit {0}
IsRefusal Pinned = Unit {0}
IsRefusal _ = ⊥

-- At each moment each image stands for the world, or for it with the commit. After Ok all stand for
-- the latter, whose rows are set; a refusal changes nothing.
abbrev pub CommitLeaves : (old new : Disk) → World → Commit → (serves : World → Type 0)
    → Result (Unit {0}) CommitFault → Type 0
CommitLeaves old new w c serves (Ok done) =
    AtEachMoment old new (λ image. StandsWhole image w ⊎ StandsWhole image (with_commit w c))
    × serves (with_commit w c)
CommitLeaves old new w c serves (Err Full) = serves w
CommitLeaves old new w c serves (Err Pinned) = serves w
CommitLeaves old new w c serves (Err Failed) =
    AtEachMoment old new (λ image. StandsWhole image w ⊎ StandsWhole image (with_commit w c))
CommitLeaves old new w c serves (Err (Damaged damage)) = ⊥

-- at each moment each image stands for the world, and after Ok the database serves it
abbrev pub SavepointLeaves : (old new : Disk) → World → (serves : World → Type 0)
    → Result (Unit {0}) PageFault → Type 0
SavepointLeaves old new w serves (Ok done) =
    AtEachMoment old new (λ image. StandsWhole image w) × serves w
SavepointLeaves old new w serves (Err PageFailed) =
    AtEachMoment old new (λ image. StandsWhole image w)
SavepointLeaves old new w serves (Err (PageDamaged damage)) = ⊥

-- the ring as a restart reads it from a record
abbrev pub read_from : Ring → RestartRecord → Ring
read_from ring r = record ring { redo_position = min r.position ring.end_position }

-- a reader after the last group, which has n bytes, and the point before it
abbrev pub reader_at_end : Ring → RingReader
reader_at_end ring = record {
  name = ring.name;
  size = ring.size;
  start = ring.end_position;
  position = ring.end_position;
  number = ring.last_commit;
}

abbrev pub point_before : Ring → (n : ℕ) → SetPoint
point_before ring n =
    record { commit = ring.last_commit - 1; position = ring.end_position - n }

-- what setting the commit before a reader leaves, as set_group of page_ground says it
pub record IsSet (tells : Type 0) (reader : RingReader) (set : SetPoint) (s t : Store)
    (was now : RecordInForce) (group : List ℕ) (d e : Disk)
    (result : Result (Unit {0}) PageFault) : Type 0 where
  pub rows : HasRows tells s d.seen → IsLogKnown tells reader d.seen
      → (name : Name) (number : ℕ) (changes : List Change)
      → Spells group_format (record { name = name; number = number; changes = changes }) group
      → OnOk result (HasTheseRows tells t e.seen (with_changes changes (stored_rows s d.seen)))
  pub kept : HasRows tells s d.seen → IsLogKnown tells reader d.seen
      → StandsForWorld tells was.slots was.record reader set s d
      → (next : IsFirstUndone (rows_shown (look d.seen)) (undone_in reader set d.seen)
      (stored_rows s d.seen) group)
      → next.rest ≡ left_in reader d.seen
      → HasRoomToSet (block_count s) (undone_in reader set d.seen) (stored_rows s d.seen)
      → KeepsWorlds d e
      × OnOk result (SetsAll tells now.slots now.record reader reader.number t d e)
  pub whole : HasRows tells s d.seen → IsLogKnown tells reader d.seen
      → (name : Name) (number : ℕ) (changes : List Change) (commits : List Commit)
      → Spells group_format (record { name = name; number = number; changes = changes }) group
      → HasRoomToSet (block_count s) (record { changes = changes } ∷ commits) (stored_rows s d.seen)
      → s.maps.conv ≡ own_pages (block_count s)
      → IfErr result (λ fault. fault ≡ PageFailed)
