-- What is known of a host that tells what it holds, in whatever words that is said.
--     serves_told, fits_told      what a database fits does not go by the words
--     area_still      an area that is sound stays so where the devices stay as they are
use Rattle.std.proofs.Common.{◌≡◌, subst, List}
use Rattle.mdb_host.proofs.Moments.{same_image}
use Rattle.mdb_host.specs.Disk.{Disk}
use Rattle.mdb_model.specs.Images.{Image}
use Rattle.mdb_model.specs.Worlds.{World, off}
use Rattle.mdb_model.specs.declared.change.Commit.{Commit}
use Rattle.mdb_bytes.specs.Rings.{HasRing}
use Rattle.mdb_bytes.specs.declared.log_info.LogInfo.{LogInfo}
use Rattle.mdb_bytes.specs.declared.restart_record.RestartRecord.{RestartRecord}
use Rattle.gate_slots.specs.declared.slots.Slots.{Slots}
use Rattle.page_store.specs.Store.{Store, IsKnown}
use Rattle.page_store.specs.WholeSavepoint.{AreStanding, CanSave, saved_page}
use Rattle.savepoint.specs.Stands.{HasSavepoint}
use Rattle.redo_ring.specs.declared.ring.Ring.{Ring}
use Rattle.standing.specs.Looks.{LogPoint}
use Rattle.store_rows.specs.StoredRows.{HasRows}
use Rattle.kept_worlds.specs.InService.{IsInService}
use Rattle.live_area.specs.Serving.{IsSoundArea, ServesWorld, saved_by}
use Rattle.open_database.specs.declared.database.Database.{Database}
use Rattle.open_database.specs.Serving.{Serves, FitsOpen}
use Rattle.open_database.specs.Stretch.{IsStill}

module _ (A B : Type 0) (a : A) (b : B) where
  known_told : (s : Store) (seen : Image) → IsKnown A s seen → IsKnown B s seen
  known_told s seen k = record { told = b; reads = k.reads; there = k.there }

  can_save_told : (slots : Slots) (r : RestartRecord) (s : Store) (d : Disk) → CanSave A slots r s d → CanSave B slots r s d
  can_save_told slots r s d c = record {
    place = c.place;
    number = c.number;
    keeps = c.keeps;
    next = c.next;
    thawed = c.thawed;
    unpinned = c.unpinned;
    unmarked = c.unmarked;
    fits = c.fits;
    placed = c.placed;
    big = c.big;
    standing = λ told. let x = c.standing a in record { known = known_told s d.seen x.known; ready = x.ready; stands = x.stands };
  }

  service_told : (slots : Slots) (r : RestartRecord) (info : LogInfo) (saved : LogPoint) (log : List Commit) (s : Store) (d : Disk) → IsInService A slots r info saved log s d → IsInService B slots r info saved log s d
  service_told slots r info saved log s d i = record {
    told = b;
    can_save = can_save_told slots r s d i.can_save;
    stamped = i.stamped;
    sizes = i.sizes;
    conv = i.conv;
    blocks = i.blocks;
    area = i.area;
    bare = i.bare;
    tells_saved = i.tells_saved;
    shown = i.shown;
  }

  area_told : (slots : Slots) (r : RestartRecord) (s : Store) (ring : Ring) (d : Disk) (w : World) → ServesWorld A slots r s ring d w → ServesWorld B slots r s ring d w
  area_told slots r s ring d w serves = record {
    stand = serves.stand;
    plain = serves.plain;
    info = serves.info;
    log = serves.log;
    service = service_told slots r serves.info (saved_by ring) serves.log s d serves.service;
    rows = (known_told s d.seen serves.rows.0, serves.rows.1);
    all_set = serves.all_set;
    ends = serves.ends;
    name = serves.name;
    size = serves.size;
    redo = serves.redo;
  }

  pub serves_told : (database : Database) (d : Disk) (w : World) → Serves A database d w → Serves B database d w
  serves_told database d w s = record {
    area = area_told database.area.in_force.slots database.area.in_force.record database.area.store database.area.ring d (off w) s.area;
    state = s.state;
    alone = s.alone;
    no_savepoint = s.no_savepoint;
    no_backup = s.no_backup;
    keys = s.keys;
    matches = s.matches;
    most = s.most;
    counted = s.counted;
  }

  pub fits_told : (database : Database) (d : Disk) (ws : List World) → FitsOpen A database d ws → FitsOpen B database d ws
  fits_told database d ws fit = record { w = fit.w; is = fit.is; serves = serves_told database d fit.w fit.serves }

-- Where the devices stay as they are
standing_still : (tells : Type 0) (slots : Slots) (r : RestartRecord) (s : Store) (d e : Disk) → IsStill d e → AreStanding tells slots r s d → AreStanding tells slots r s e
standing_still tells slots r s d e still x =
    let same : d.seen ≡ e.seen = same_image d.seen e.seen still.seen in
    record {
      known = subst (λ (seen : Image). IsKnown tells s seen) same x.known;
      ready = λ image left. x.ready image (still.left image left);
      stands = λ image left. subst (λ (seen : Image). HasSavepoint s.sizes r s.maps.saved s.maps.conv (saved_page s seen) image) same (x.stands image (still.left image left));
    }

pub area_still : (tells : Type 0) (slots : Slots) (r : RestartRecord) (s : Store) (ring : Ring) (d e : Disk) → IsSoundArea tells slots r s ring d → (tells → IsStill d e) → IsSoundArea tells slots r s ring e
area_still tells slots r s ring d e sound still = record {
  can_save = record {
    place = sound.can_save.place;
    number = sound.can_save.number;
    keeps = sound.can_save.keeps;
    next = sound.can_save.next;
    thawed = sound.can_save.thawed;
    unpinned = sound.can_save.unpinned;
    unmarked = sound.can_save.unmarked;
    fits = sound.can_save.fits;
    placed = sound.can_save.placed;
    big = sound.can_save.big;
    standing = λ told. standing_still tells slots r s d e (still told) (sound.can_save.standing told);
  };
  order = sound.order;
  there = λ told. subst (HasRing ring.size) (same_image d.seen e.seen (still told).seen) (sound.there told);
}
