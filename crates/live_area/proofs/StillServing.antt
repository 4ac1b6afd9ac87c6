-- What leaves an area serving its world.
--     sound_of_calls, each_of_calls, serves_of_calls      calls on pages that leave the rows
--     sound_of_saying, serves_of_saying      time that goes on while the devices stay
use Rattle.std.proofs.Common.{◌≡◌, sym, ap, subst, ◌∙◌, ℕ, ◌+◌, arith}
use Rattle.mdb_model.specs.declared.fault.Device.TheVariants.{Data, Log}
use Rattle.mdb_model.specs.History.{tables_of}
use Rattle.mdb_model.specs.Images.{Image, size_of}
use Rattle.mdb_model.specs.Worlds.{World}
use Rattle.mdb_host.specs.Disk.{Disk, Goes, Agree}
use Rattle.mdb_bytes.specs.declared.restart_record.RestartRecord.{RestartRecord}
use Rattle.mdb_bytes.specs.Rings.{HasRing}
use Rattle.gate_slots.specs.declared.slots.Slots.{Slots}
use Rattle.savepoint.specs.Stands.{HasSavepoint}
use Rattle.page_store.specs.SavingStays.{stays}
use Rattle.page_store.specs.Steps.{KeepsStore}
use Rattle.page_store.specs.Store.{Store, IsKnown}
use Rattle.page_store.specs.WholeSavepoint.{AreStanding, CanSave, saved_page}
use Rattle.redo_ring.specs.declared.ring.Ring.{Ring}
use Rattle.store_rows.specs.StoredRows.{stored_rows, HasRows}
use Rattle.standing.specs.Looks.{look}
use Rattle.standing.specs.WholeStanding.{LookStands, StandsWhole}
use Rattle.kept_worlds.specs.InService.{IsInService, AtEachMoment}
use Rattle.kept_worlds.proofs.Calls.{looks_stay, service_stays}
use Rattle.live_area.specs.Serving.{IsSoundArea, saved_by, ServesWorld}
use Rattle.live_area.proofs.Found.{same_image}

log_apart : (volume : ℕ) → Log ≡ Data volume → ⊥
log_apart volume e = cc

-- Calls on pages write to the data volumes alone

pub sound_of_calls : (tells : Type 0) (slots : Slots) (r : RestartRecord) (s t : Store) (ring : Ring) (d e : Disk) → IsSoundArea tells slots r s ring d → KeepsStore tells s t d e → IsSoundArea tells slots r t ring e
sound_of_calls tells slots r s t ring d e sound keeps = record {
  can_save = stays tells slots r s t d e keeps sound.can_save;
  order = sound.order;
  there = λ told. ap size_of ((keeps.seen told).others Log (λ i lt. log_apart (i + 1))) ∙ sound.there told;
}

module _ (tells : Type 0) (slots : Slots) (r : RestartRecord) (s t : Store) (ring : Ring) (d e : Disk) (w : World) (serves : ServesWorld tells slots r s ring d w) (keeps : KeepsStore tells s t d e) where
  looks : Goes d e (λ before image. look image ≡ look before)
  looks = looks_stay tells slots r serves.info (saved_by ring) serves.log s t d e serves.service keeps

  pub each_of_calls : AtEachMoment d e (λ image. StandsWhole image w)
  each_of_calls = record {
    keeps = looks.keeps;
    quiet = looks.quiet;
    each = λ at image from upto left.
        let x = looks.since at image from upto left in
        subst (λ l. LookStands l w) (sym x.2) (serves.stand x.0 x.1);
  }

  pub serves_of_calls : HasRows tells t e.seen → stored_rows t e.seen ≡ stored_rows s d.seen → ServesWorld tells slots r t ring e w
  serves_of_calls rows same = record {
    stand = λ image left. each_of_calls.each e.now image each_of_calls.keeps.later (omega arith) left;
    plain = serves.plain;
    info = serves.info;
    log = serves.log;
    service = service_stays tells slots r serves.info (saved_by ring) serves.log s t d e serves.service keeps;
    rows = rows;
    all_set = same ∙ serves.all_set;
    ends = serves.ends;
    name = serves.name;
    size = serves.size;
    redo = serves.redo;
  }

-- The devices stay, and a crash leaves no image that it did not leave before

module _ (tells : Type 0) (slots : Slots) (r : RestartRecord) (s : Store) (ring : Ring) (d e : Disk) (agree : Agree d.seen e.seen) (from : (image : Image) → e.may_leave e.now image → d.may_leave d.now image) where
  same : d.seen ≡ e.seen
  same = sym (same_image d.seen e.seen agree)

  stand_on : AreStanding tells slots r s d → AreStanding tells slots r s e
  stand_on was = record {
    known = subst (IsKnown tells s) same was.known;
    ready = λ image left. was.ready image (from image left);
    stands = λ image left. subst (λ (x : Image). HasSavepoint s.sizes r s.maps.saved s.maps.conv (saved_page s x) image) same (was.stands image (from image left));
  }

  can_save_still : CanSave tells slots r s d → CanSave tells slots r s e
  can_save_still can = record {
    place = can.place;
    number = can.number;
    keeps = can.keeps;
    next = can.next;
    thawed = can.thawed;
    unpinned = can.unpinned;
    unmarked = can.unmarked;
    fits = can.fits;
    placed = can.placed;
    big = can.big;
    standing = λ told. stand_on (can.standing told);
  }

  pub sound_of_saying : IsSoundArea tells slots r s ring d → IsSoundArea tells slots r s ring e
  sound_of_saying sound = record {
    can_save = can_save_still sound.can_save;
    order = sound.order;
    there = λ told. subst (HasRing ring.size) same (sound.there told);
  }

  pub serves_of_saying : (w : World) → ServesWorld tells slots r s ring d w → ServesWorld tells slots r s ring e w
  serves_of_saying w serves = record {
    stand = λ image left. serves.stand image (from image left);
    plain = serves.plain;
    info = serves.info;
    log = serves.log;
    service = in_service serves.service;
    rows = subst (HasRows tells s) same serves.rows;
    all_set = subst (λ (x : Image). stored_rows s x ≡ tables_of w.history) same serves.all_set;
    ends = serves.ends;
    name = serves.name;
    size = serves.size;
    redo = serves.redo;
  }
    where
      in_service : IsInService tells slots r serves.info (saved_by ring) serves.log s d → IsInService tells slots r serves.info (saved_by ring) serves.log s e
      in_service service = record {
        told = service.told;
        can_save = can_save_still service.can_save;
        stamped = service.stamped;
        sizes = service.sizes;
        conv = service.conv;
        blocks = service.blocks;
        area = service.area;
        bare = service.bare;
        tells_saved = service.tells_saved;
        shown = λ image left. service.shown image (from image left);
      }
