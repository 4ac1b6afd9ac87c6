-- The commits of the log after the record, in a store that was opened on an image that stands.
--     start_is      they start from the rows of the store
--     aimed, room      with them the rows are those of the world, and there is room to set them
--     in_ring, short, number_is      they stand in the ring, are shorter than it, and end with the
--         last commit
use Rattle.std.proofs.Common.{◌≡◌, inr, sym, ap, subst, ◌∙◌, ℕ, ◌+◌, ◌<◌, min, List, [], ◌∷◌, length, Some, arith}
use Rattle.std.proofs.Math.Nat.{min-le_left}
use Rattle.std.specs.Prelude.{IfSome, option_and_then}
use Rattle.std.proofs.lemmas.Option.{same_Some}
use Rattle.mdb_model.specs.declared.change.Commit.{Commit}
use Rattle.mdb_model.specs.History.{last, tables_of}
use Rattle.mdb_model.specs.Space.{kept_for_snapshots}
use Rattle.mdb_model.specs.Tables.{Tables, with_commits}
use Rattle.mdb_model.specs.Worlds.{World}
use Rattle.mdb_host.specs.Disk.{Disk}
use Rattle.mdb_bytes.specs.declared.log_info.LogInfo.{LogInfo}
use Rattle.mdb_bytes.specs.declared.restart_record.AreaState.TheVariants.{Normal}
use Rattle.mdb_bytes.specs.declared.restart_record.RestartRecord.{RestartRecord}
use Rattle.mdb_bytes.specs.LogReading.{IsLog, log_bytes}
use Rattle.mdb_bytes.specs.Rings.{ring_byte, ring_size}
use Rattle.mdb_bytes.proofs.LogLaw.{log_from-is_log}
use Rattle.gate_slots.specs.declared.slots.Slots.{Slots}
use Rattle.page_store.specs.Store.{Store}
use Rattle.store_rows.specs.StoredRows.{stored_rows}
use Rattle.standing.specs.Looks.{LogPoint, look, log_after, redo_point, saved_point}
use Rattle.standing.specs.WholeStanding.{AreaIsLive, HaveRoomToRedo, needed_from}
use Rattle.standing.proofs.SavepointStands.{needed_in_service}
use Rattle.kept_worlds.specs.InService.{IsPlain, HasRoomToSet}
use Rattle.kept_worlds.proofs.Plain.{kept_none}
use Rattle.opened_worlds.specs.Opened.{IsOpenedOn}
use Rattle.opened_worlds.proofs.Ascending.{log_differs}
use Rattle.opened_worlds.proofs.Live.{area, record_is, same_record}
use Rattle.opened_worlds.proofs.OpenedRows.{committed_is, rows_fit}

module _ (tells : Type 0) (slots : Slots) (r : RestartRecord) (info : LogInfo) (s : Store) (d : Disk) (w : World) (o : IsOpenedOn tells slots r info s d w)
    (plain : IsPlain w) where
  abbrev area_now : AreaIsLive (look d.seen) w
  area_now = area d.seen w r o.stands plain.live o.restart

  abbrev rows : Tables
  rows = stored_rows s d.seen

  abbrev log : List Commit
  log = area_now.rows.log

  abbrev point : LogPoint
  point = saved_point (look d.seen)

  abbrev ring : ℕ
  ring = ring_size info.pages

  -- The rows

  start_is : area_now.rows.start ≡ rows
  start_is = same_Some area_now.rows.start rows (sym area_now.rows.in_map ∙ committed_is tells slots r info s d w o plain.live)

  pub aimed : with_commits log rows ≡ tables_of w.history
  aimed = ap (with_commits log) (sym start_is) ∙ area_now.rows.tables

  -- The log

  read_is : log_after d.seen info r.name (redo_point r) ≡ Some log
  read_is =
      sym ((λ i. option_and_then (λ info. option_and_then (λ r. log_after d.seen info r.name (redo_point r)) (record_is d.seen w r o.stands plain.live o.restart i)) (o.log_info i)))
      ∙ area_now.rows.in_log

  pub in_ring : IsLog (ring_byte ring d.seen) r.name r.position r.commit log
  in_ring = log_from-is_log (ring_byte ring d.seen) r.name ring r.position r.commit log read_is

  normal : r.state ≡ Normal
  normal = ap (λ (x : RestartRecord). x.state) (sym (same_record d.seen w r o.stands plain.live o.restart)) ∙ area_now.normal

  needed_is : needed_from (look d.seen) ≡ min r.position point.position
  needed_is = needed_in_service (look d.seen).restart r point.position (record_is d.seen w r o.stands plain.live o.restart) normal

  ring_is : w.ring ≡ ring
  ring_is = o.stands.log_size.ring ∙ ap (λ (i : LogInfo). ring_size i.pages) (same_Some o.stands.info info (sym o.stands.in_force ∙ o.log_info))

  pub short : log_bytes log < ring
  short =
      let at : area_now.rec.position ≡ r.position = ap (λ (x : RestartRecord). x.position) (same_record d.seen w r o.stands plain.live o.restart) in
      omega (arith, at, area_now.rows.same_end, o.stands.log.fits, needed_is, min-le_left r.position point.position, ring_is)

  pub number_is : r.commit + length log ≡ last w.history
  number_is =
      let at : area_now.rec.commit ≡ r.commit = ap (λ (x : RestartRecord). x.commit) (same_record d.seen w r o.stands plain.live o.restart) in
      omega (arith, at, area_now.rows.number)

  -- The room

  redo_room : (commits : List Commit) → (look d.seen).redo_log ≡ Some commits → HaveRoomToRedo rows commits (kept_for_snapshots w) w.blocks
  redo_room [] is = tt
  redo_room (commit ∷ commits) is =
      let some : IfSome (look d.seen).redo_log (λ log. 0 < length log) = subst (λ o. IfSome o (λ log. 0 < length log)) (sym is) (omega arith) in
      (area_now.room.restart (inr some)).log rows (commit ∷ commits) (committed_is tells slots r info s d w o plain.live) is

  pub room : HasRoomToSet w.blocks log rows
  room = record {
    fits = rows_fit tells slots r info s d w o plain.live;
    to_redo = subst (λ n. HaveRoomToRedo rows log n w.blocks) (kept_none w plain.no_snapshots) (redo_room log area_now.rows.in_log);
    differ = log_differs (ring_byte ring d.seen) r.name r.position r.commit log in_ring;
  }
