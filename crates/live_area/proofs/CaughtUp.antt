-- The commits of the log were redone.
--     sound_redone      the area is sound then
--     each_kept, only_failed, served, fits      what it leaves of the world
--     then_saves      a savepoint after it
use Rattle.std.proofs.Common.{◌≡◌, sym, ap, subst, ◌∙◌, ℕ, ◌^◌, ◌<◌, true, List, [], length, Option, Result, Ok, Err, arith}
use Rattle.std.specs.Prelude.{OnOk, IfErr}
use Rattle.mdb_model.specs.declared.change.Commit.{Commit}
use Rattle.mdb_model.specs.declared.fault.Device.TheVariants.{Log}
use Rattle.mdb_model.specs.declared.fault.PageFault.{PageFault}
use Rattle.mdb_model.specs.declared.fault.PageFault.TheVariants.{Failed, Damaged}
use Rattle.mdb_model.specs.History.{tables_of}
use Rattle.mdb_model.specs.Images.{size_of}
use Rattle.mdb_model.specs.Space.{has_room}
use Rattle.mdb_model.specs.Tables.{Tables, with_commits}
use Rattle.mdb_model.specs.Worlds.{World}
use Rattle.mdb_host.specs.Disk.{Disk}
use Rattle.mdb_bytes.specs.declared.restart_record.RestartRecord.{RestartRecord}
use Rattle.mdb_bytes.specs.LogReading.{IsLog, log_bytes}
use Rattle.mdb_bytes.specs.Rings.{HasRing, ring_byte}
use Rattle.gate_slots.specs.declared.slots.Slots.{Slots}
use Rattle.page_store.specs.declared.record.RecordInForce.{RecordInForce}
use Rattle.page_store.specs.Opens.{own_pages}
use Rattle.page_store.specs.Store.{Store, block_count}
use Rattle.page_store.specs.WholeSavepoint.{CanSave}
use Rattle.redo_ring.specs.declared.ring.Ring.{Ring}
use Rattle.redo_ring.specs.declared.reader.RingReader.{RingReader}
use Rattle.redo_ring.specs.Calls.{InOrder}
use Rattle.store_rows.specs.StoredRows.{stored_rows}
use Rattle.standing.specs.Looks.{look}
use Rattle.standing.specs.WholeStanding.{StandsWhole}
use Rattle.kept_worlds.specs.InService.{IsInService, AtEachMoment, AllStand, HasRoomToSet}
use Rattle.page_ground.specs.LogKnown.{left_in, IsLogKnown}
use Rattle.page_ground.specs.Aims.{rows_shown, undone_in, StandsForWorld, KeepsWorlds}
use Rattle.page_ground.specs.AimLaws.{rows_are, at_both}
use Rattle.page_ground.specs.SetGroups.{HasTheseRows, RedoesAll, set_at}
use Rattle.page_ground.proofs.Log.{left_is}
use Rattle.page_ground.proofs.Redoes.{undone_is_left, set_done}
use Rattle.live_area.specs.Serving.{IsSoundArea, ServesWorld, SavepointLeaves, read_from, saved_by}
use Rattle.live_area.specs.Awaiting.{AwaitsRedo, IsRedone, reader_from}
use Rattle.live_area.proofs.AllSet.{serves_set, no_more}
use Rattle.live_area.proofs.Committed.{on_both}

pub sound_redone : (tells : Type 0) (slots : Slots) (r : RestartRecord) (t : Store) (ring ring2 : Ring) (d e : Disk) → InOrder ring → ring2 ≡ read_from ring r → CanSave tells slots r t e → (tells → HasRing ring.size d.seen) → (tells → e.seen Log ≡ d.seen Log) → IsSoundArea tells slots r t ring2 e
sound_redone tells slots r t ring ring2 d e order two can there same =
    subst (λ x. IsSoundArea tells slots r t x e) (sym two) (record {
      can_save = can;
      order = record { size = order.size; saved = order.saved; redo = omega arith; low = order.low; count = order.count };
      there = λ told. ap size_of (same told) ∙ there told;
    })

-- a savepoint behind other calls
pub then_saves : (d e f : Disk) (w : World) (serves : World → Type 0) (result : Result (Unit {0}) PageFault) → AtEachMoment d e (λ image. StandsWhole image w) → SavepointLeaves e f w serves result → SavepointLeaves d f w serves result
then_saves d e f w serves (Ok done) one two = (at_both d e f (λ image. StandsWhole image w) one two.0, two.1)
then_saves d e f w serves (Err Failed) one two = at_both d e f (λ image. StandsWhole image w) one two
then_saves d e f w serves (Err (Damaged damage)) one two = two

module _ (tells : Type 0) (was now : RecordInForce) (s t : Store) (ring ring2 : Ring) (d e : Disk) (w : World) (result : Result (Option ℕ) PageFault)
    (awaits : AwaitsRedo tells was.slots was.record s ring d w) (there : tells → HasRing ring.size d.seen) (seen_left : d.may_leave d.now d.seen) (seen_left2 : e.may_leave e.now e.seen)
    (low_end : ring.end_position < 2 ^ 62) (low_last : ring.last_commit < 2 ^ 62)
    (redone : IsRedone tells (reader_from ring was.record) s t was now d e result) (two : ring2 ≡ read_from ring now.record) where
  abbrev r : RestartRecord
  r = was.record

  abbrev reader : RingReader
  reader = reader_from ring r

  abbrev log : List Commit
  log = awaits.log

  abbrev rows : Tables
  rows = stored_rows s d.seen

  here : IsLog (ring_byte ring.size d.seen) ring.name r.position r.commit log
  here = subst (λ x. IsLog (ring_byte ring.size d.seen) x r.position r.commit log) (sym awaits.name) awaits.there

  left : left_in reader d.seen ≡ log
  left = left_is reader d.seen log here awaits.short

  undone : undone_in reader (set_at reader) d.seen ≡ log
  undone = undone_is_left reader d.seen ∙ left

  known : IsLogKnown tells reader d.seen
  known = record {
    told = awaits.service.told;
    ring = there awaits.service.told;
    log = subst (λ xs. IsLog (ring_byte ring.size d.seen) ring.name r.position r.commit xs) (sym left) here;
    room = omega (arith, ap log_bytes left, awaits.short);
  }

  stands : StandsForWorld tells was.slots r reader (set_at reader) s d
  stands = record {
    world = w;
    stand = awaits.stand;
    plain = awaits.plain;
    info = awaits.info;
    saved = saved_by ring;
    done = [];
    service = subst (λ xs. IsInService tells was.slots r awaits.info (saved_by ring) xs s d) (sym undone) awaits.service;
    ends = record { position = omega arith; commit = omega arith };
    name = awaits.name;
    size = awaits.size;
    known = known;
    same_end = omega (arith, ap log_bytes (undone_is_left reader d.seen));
    same_number = omega (arith, ap length (undone_is_left reader d.seen));
    low_end = omega (arith, ap log_bytes undone, awaits.ends.position, low_end);
    low_number = omega (arith, ap length undone, awaits.ends.commit, low_last);
  }

  aimed : with_commits (left_in reader d.seen) rows ≡ rows_shown (look d.seen)
  aimed = ap (λ xs. with_commits xs rows) left ∙ awaits.aimed ∙ sym (rows_are d.seen w (awaits.stand d.seen seen_left) awaits.plain.live)

  room : HasRoomToSet (block_count s) (left_in reader d.seen) rows
  room = subst (λ (x : ℕ × List Commit). HasRoomToSet x.0 x.1 rows) (λ i. (awaits.blocks i, sym left i)) awaits.room

  kept : KeepsWorlds d e × OnOk result (RedoesAll tells now.slots now.record reader t d e)
  kept = redone.kept awaits.rows known stands aimed room

  pub each_kept : AtEachMoment d e (λ image. StandsWhole image w)
  each_kept = kept.0.each_world w awaits.stand awaits.plain

  all_now : AllStand w e
  all_now image at = each_kept.each e.now image each_kept.keeps.later (omega arith) at

  pub only_failed : IfErr result (λ fault. fault ≡ Failed)
  only_failed = redone.whole awaits.rows known room (awaits.service.conv ∙ ap own_pages (sym awaits.service.blocks))

  pub served : OnOk result (ServesWorld tells now.slots now.record t ring2 e w)
  served =
      on_both (RedoesAll tells now.slots now.record reader t d e) (HasTheseRows tells t e.seen (with_commits (left_in reader d.seen) rows)) (ServesWorld tells now.slots now.record t ring2 e w) result
      (λ all these.
      subst (λ x. ServesWorld tells now.slots now.record t x e w) (sym two)
      (serves_set w awaits.plain ring r awaits.info log d seen_left awaits.stand (awaits.service.shown d.seen seen_left) awaits.ends tells now.slots now.record t e seen_left2 all_now all.reader all.set all.stands all.none
      (omega (arith, all.stands.same_end, all.reads.ends known, ap log_bytes left, ap log_bytes all.none, awaits.ends.position))
      (omega (arith, all.stands.same_number, all.reads.count known, ap length left, ap length all.none, awaits.ends.commit))
      all.reads.name all.reads.size (record { known = these.known; are = these.are ∙ ap (λ xs. with_commits xs rows) left ∙ awaits.aimed })))
      kept.1 (redone.rows awaits.rows known)

  pub fits : has_room (tables_of w.history) (tables_of w.history) 0 0 w.blocks ≡ true
  fits =
      let last : HasRoomToSet w.blocks [] (with_commits log rows) = set_done w.blocks log [] rows (subst (λ xs. HasRoomToSet w.blocks xs rows) (sym (no_more log)) awaits.room) in
      subst (λ (x : Tables). has_room x x 0 0 w.blocks ≡ true) awaits.aimed last.fits
