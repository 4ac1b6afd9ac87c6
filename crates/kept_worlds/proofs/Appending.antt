-- A commit is appended to the log of a database in service.
--     each_stands      at each moment each image stands for the world, or for it with the commit
--     all_stand, service_appended      after it each for the latter, and the database is in service
use Rattle.std.proofs.Common.{◌≡◌, ◌⊎◌, sym, ap, subst, ◌∙◌, ℕ, ◌+◌, ◌≤◌, min, List, [], ◌∷◌, ◌++◌, length, Some, arith}
use Rattle.std.specs.Prelude.{option_to_list, IsTrue, option_and_then}
use Rattle.std.specs.List.{AllByRecursion}
use Rattle.std.proofs.lemmas.Option.{same_Some}
use Rattle.mdb_model.specs.declared.change.Commit.{Commit}
use Rattle.mdb_model.specs.declared.fault.Device.TheVariants.{Log}
use Rattle.mdb_model.specs.declared.name.Name.{Name}
use Rattle.mdb_model.specs.History.{last, tables_of, commits_above}
use Rattle.mdb_model.specs.Images.{Image}
use Rattle.mdb_model.specs.Space.{map_has_room, commit_has_room, kept_for_snapshots}
use Rattle.mdb_model.specs.Worlds.{World}
use Rattle.mdb_host.specs.Disk.{Disk, Goes, Arrives, AgreeBut}
use Rattle.mdb_bytes.specs.declared.log_info.LogInfo.{LogInfo}
use Rattle.mdb_bytes.specs.declared.restart_record.RestartRecord.{RestartRecord}
use Rattle.mdb_bytes.specs.Forms.{reading}
use Rattle.mdb_bytes.specs.KeptMaps.{KeptMap}
use Rattle.mdb_bytes.specs.LogReading.{log_bytes}
use Rattle.mdb_bytes.specs.Rings.{ring_size}
use Rattle.gate_slots.specs.declared.slots.Slots.{Slots}
use Rattle.redo_ring.specs.Ring.{Appends, Appended}
use Rattle.savepoint.specs.Stands.{HasSavepoint}
use Rattle.page_store.specs.Store.{Store}
use Rattle.page_store.specs.WholeSavepoint.{saved_page}
use Rattle.standing.specs.Looks.{Look, LogPoint, look, saved_point}
use Rattle.standing.specs.WholeStanding.{StandsWhole, AreaStands, AreaIsLive, needed_from, kept_maps}
use Rattle.standing.specs.Appending.{with_commit, HasRoomFor}
use Rattle.standing.proofs.SavepointStands.{needed_in_service}
use Rattle.standing.proofs.AppendsStand.{appends_stand, appended_stands, appended_look, log_shown_is}
use Rattle.shown_maps.specs.ShownMaps.{shown_map}
use Rattle.shown_maps.proofs.Shown.{in_force_shown}
use Rattle.kept_worlds.specs.InService.{IsShown, IsInService, AllStand, AtEachMoment, EndsAt, IsPlain, HasRoomToCommit}
use Rattle.kept_worlds.proofs.Beside.{can_save_beside}
use Rattle.kept_worlds.proofs.Plain.{kept_none, saved_within}

-- the first of the maps that are kept
first_kept : (P : KeptMap → Type 0) (l : Look) (kept : KeptMap) → l.kept ≡ Some kept → AllByRecursion P (kept_maps l) → P kept
first_kept P l kept is all =
    (subst (λ o. AllByRecursion P (option_to_list o ++ Rattle.std.specs.Prelude.filter_map (λ e. e.1) l.snapshots)) is all).0

module _ (tells : Type 0) (slots : Slots) (r : RestartRecord) (info : LogInfo) (saved : LogPoint) (log : List Commit) (s : Store) (d e : Disk)
    (service : IsInService tells slots r info saved log s d) (w : World) (stand : AllStand w d) (plain : IsPlain w)
    (size : ℕ) (name : Name) (end number : ℕ) (c : Commit) (size_is : size ≡ ring_size info.pages) (name_is : name ≡ r.name)
    (ends : EndsAt r log end number) (room : HasRoomToCommit w r saved size end c) where
  module _ (before : Image) (left : d.may_leave d.now before) where
    st : StandsWhole before w
    st = stand before left

    shown : IsShown r info saved log (look before)
    shown = service.shown before left

    area : AreaIsLive (look before) w
    area = subst (λ a. AreaStands a (look before) st.info w) plain.live st.area

    same_record : area.rec ≡ r
    same_record = same_Some area.rec r (sym area.in_force ∙ shown.restart)

    same_log : area.rows.log ≡ log
    same_log = same_Some area.rows.log log (sym area.rows.in_log ∙ shown.redo)

    same_info : st.info ≡ info
    same_info = same_Some st.info info (sym st.in_force ∙ shown.log_info)

    abbrev map : KeptMap
    map = shown_map s.maps.conv s.maps.saved (saved_page s d.seen)

    there : (look before).kept ≡ Some map
    there =
        (in_force_shown r s.maps.saved s.maps.conv (saved_page s d.seen) before service.conv service.area
        (subst (λ (z : List ℕ). HasSavepoint z r s.maps.saved s.maps.conv (saved_page s d.seen) before) service.sizes ((service.can_save.standing service.told).stands before left))).1

    last_is : last w.history ≡ w.saved + length (commits_above w.history w.saved)
    last_is = omega (arith, area.rows.number, area.rows.same_number, st.log.saved)

    within : (w.history.first ≤ w.saved) × (w.saved ≤ last w.history)
    within = saved_within w last_is

    end_is : end ≡ (saved_point (look before)).position + log_bytes (commits_above w.history w.saved)
    end_is = ends.position ∙ (λ i. (sym same_record i).position + log_bytes (sym same_log i)) ∙ area.rows.same_end

    number_is : number ≡ last w.history
    number_is = ends.commit ∙ (λ i. (sym same_record i).commit + length (sym same_log i)) ∙ area.rows.number

    needed_is : needed_from (look before) ≡ min r.position (saved_point (look before)).position
    needed_is = needed_in_service (look before).restart r (saved_point (look before)).position shown.restart (ap (λ x. x.state) (sym same_record) ∙ area.normal)

    ring_is : w.ring ≡ size
    ring_is = st.log_size.ring ∙ ap (λ x. ring_size x.pages) same_info ∙ sym size_is

    kept_is : kept_for_snapshots w ≡ 0
    kept_is = kept_none w plain.no_snapshots

    room_for : HasRoomFor (look before) map c w
    room_for = record {
      ring = omega (arith, room.unsaved, room.needed, end_is, needed_is, ring_is, ap (λ (p : LogPoint). p.position) shown.saved_upto);
      map = subst (λ n. IsTrue (map_has_room reading map.pages n w.blocks)) (sym kept_is)
          (first_kept (λ a. IsTrue (map_has_room reading a.pages 0 w.blocks)) (look before) map there area.room.maps);
      commit = subst (λ n. IsTrue (commit_has_room (tables_of w.history) c.changes n w.blocks)) (sym kept_is) room.area;
    }

    module _ (image : Image) where
      as_told : Appends size name end number c.changes before image → Appends (ring_size info.pages) r.name end number c.changes before image
      as_told step = subst (λ (x : ℕ × Name). Appends x.0 x.1 end number c.changes before image) (λ i. (size_is i, name_is i)) step

      as_done : Appended size name end number c.changes before image → Appended (ring_size info.pages) r.name end number c.changes before image
      as_done step = subst (λ (x : ℕ × Name). Appended x.0 x.1 end number c.changes before image) (λ i. (size_is i, name_is i)) step

      at_moment : Appends size name end number c.changes before image → StandsWhole image w ⊎ StandsWhole image (with_commit w c)
      at_moment step =
          appends_stand before image w c info r map end number st plain.live shown.log_info shown.restart there within.0 within.1 room_for end_is number_is (as_told step)

      after_it : Appended size name end number c.changes before image → StandsWhole image (with_commit w c)
      after_it step =
          appended_stands before image w c info r map end number st plain.live shown.log_info shown.restart there within.0 within.1 room_for end_is number_is (as_done step)

      shown_after : Appended size name end number c.changes before image → IsShown r info saved (log ++ c ∷ []) (look image)
      shown_after step =
          let is = appended_look before image w c info r map end number st plain.live shown.log_info shown.restart there within.0 within.1 room_for end_is number_is (as_done step) in
          let log_is = log_shown_is before image w c info r map end number st plain.live shown.log_info shown.restart there within.0 within.1 room_for end_is number_is in
          subst (IsShown r info saved (log ++ c ∷ [])) (sym is) (record {
            restart = shown.restart;
            log_info = shown.log_info;
            saved_upto = shown.saved_upto;
            redo = ap (λ l. Some (l ++ c ∷ [])) (same_Some _ log (sym log_is ∙ shown.redo));
          })

  pub each_stands : Goes d e (Appends size name end number c.changes) → AtEachMoment d e (λ image. StandsWhole image w ⊎ StandsWhole image (with_commit w c))
  each_stands goes = record {
    keeps = goes.keeps;
    quiet = goes.quiet;
    each = λ at image from upto left.
        let x = goes.since at image from upto left in
        at_moment x.0 x.1 image x.2;
  }

  module _ (arrives : Arrives d e (Appended size name end number c.changes)) where
    pub all_stand : AllStand (with_commit w c) e
    all_stand image left =
        let x = arrives image left in
        after_it x.0 x.1 image x.2

    pub service_appended : AgreeBut Log d.seen e.seen → IsInService tells slots r info saved (log ++ c ∷ []) s e
    service_appended seen = record {
      told = service.told;
      can_save = can_save_beside tells slots r s d e seen (λ image left. (let x = arrives image left in (x.0, x.1, x.2.appends.others))) service.can_save;
      stamped = service.stamped;
      sizes = service.sizes;
      conv = service.conv;
      blocks = service.blocks;
      area = service.area;
      bare = service.bare;
      tells_saved = service.tells_saved;
      shown = λ image left.
          let x = arrives image left in
          shown_after x.0 x.1 image x.2;
    }
