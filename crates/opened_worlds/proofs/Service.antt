-- A store that was opened on an image that stands is a database in service.
--     as_shown      each image shows what a read gives
--     starts      it is in service for the world
use Rattle.std.proofs.Common.{◌≡◌, refl, sym, subst, ◌∙◌, ◌≤◌, Some}
use Rattle.std.specs.Prelude.{IfSome}
use Rattle.mdb_model.specs.Images.{Image}
use Rattle.mdb_model.specs.Worlds.{World}
use Rattle.mdb_host.specs.Disk.{Disk}
use Rattle.mdb_bytes.specs.declared.log_info.LogInfo.{LogInfo}
use Rattle.mdb_bytes.specs.declared.restart_record.RestartRecord.{RestartRecord}
use Rattle.gate_slots.specs.declared.slots.Slots.{Slots}
use Rattle.page_store.specs.Store.{Store}
use Rattle.page_store.specs.WholeSavepoint.{CanSave}
use Rattle.standing.specs.Looks.{look, saved_point}
use Rattle.standing.specs.WholeStanding.{LookStands, AreaIsLive}
use Rattle.standing.proofs.SavepointStands.{one_tells}
use Rattle.kept_worlds.specs.InService.{IsShown, IsInService, IsPlain}
use Rattle.opened_worlds.specs.Opened.{IsOpenedOn, StartsService}
use Rattle.opened_worlds.proofs.Live.{area, record_is, blocks_are}
use Rattle.opened_worlds.proofs.OpenedMap.{conv_is, count_is, map_area}
use Rattle.opened_worlds.proofs.OpenedRows.{tables}
use Rattle.opened_worlds.proofs.Plain.{plain, no_snapshots_kept}
use Rattle.opened_worlds.proofs.Redoing.{aimed, room, in_ring, short, number_is}
use Rattle.opened_worlds.proofs.Stamped.{stamped}

module _ (tells : Type 0) (slots : Slots) (r : RestartRecord) (info : LogInfo) (s : Store) (d : Disk) (w : World) (o : IsOpenedOn tells slots r info s d w)
    (can : CanSave tells slots r s d) where
  is_plain : IsPlain w
  is_plain = plain (look d.seen) w o.stands

  abbrev area_now : AreaIsLive (look d.seen) w
  area_now = area d.seen w r o.stands is_plain.live o.restart

  restart_is : (look d.seen).restart ≡ Some r
  restart_is = record_is d.seen w r o.stands is_plain.live o.restart

  as_shown : (image : Image) → d.may_leave d.now image → IsShown r info (saved_point (look d.seen)) area_now.rows.log (look image)
  as_shown image left = subst (IsShown r info (saved_point (look d.seen)) area_now.rows.log) (sym (o.synced image left)) (record {
    restart = restart_is;
    log_info = o.log_info;
    saved_upto = refl;
    redo = area_now.rows.in_log;
  })

  in_service : IsInService tells slots r info (saved_point (look d.seen)) area_now.rows.log s d
  in_service = record {
    told = o.told;
    can_save = can;
    stamped = stamped tells slots r info s d w o is_plain.live;
    sizes = o.opened.sizes_are;
    conv = conv_is tells slots r info s d w o;
    blocks = count_is tells slots r info s d w o;
    area = map_area tells slots r info s d w o;
    bare = no_snapshots_kept d.seen w r is_plain area_now restart_is;
    tells_saved = subst (λ x. IfSome x (λ info. r.name.generation ≤ info.name.generation)) o.log_info (one_tells (look d.seen) w r o.stands refl restart_is);
    shown = as_shown;
  }

  pub starts : StartsService tells slots r info s d w
  starts = record {
    log = area_now.rows.log;
    saved = saved_point (look d.seen);
    service = in_service;
    plain = is_plain;
    stand = λ image left. subst (λ l. LookStands l w) (sym (o.synced image left)) o.stands;
    rows = (o.known, tables tells slots r info s d w o is_plain.live);
    aimed = aimed tells slots r info s d w o is_plain;
    room = room tells slots r info s d w o is_plain;
    blocks = blocks_are d.seen w r o.stands is_plain.live o.restart ∙ sym (count_is tells slots r info s d w o);
    there = in_ring tells slots r info s d w o is_plain;
    short = short tells slots r info s d w o is_plain;
    number = number_is tells slots r info s d w o is_plain;
  }
