-- What calls on one device that is no data volume leave of the data volumes.
--     block_apart, block_same      blocks are as they were; so they are for the log volume
--     can_save_apart, can_save_beside      so is what a savepoint needs
use Rattle.std.proofs.Common.{◌≡◌, sym, ap, subst, ◌∙◌, ℕ, ◌+◌, List}
use Rattle.mdb_model.specs.declared.fault.Device.{Device}
use Rattle.mdb_model.specs.declared.fault.Device.TheVariants.{Data, Log}
use Rattle.mdb_model.specs.Images.{Image, size_of}
use Rattle.mdb_host.specs.Disk.{Disk, AgreeBut}
use Rattle.mdb_bytes.specs.declared.restart_record.RestartRecord.{RestartRecord}
use Rattle.gate_slots.specs.declared.body.SlotBody.TheVariants.{Restart}
use Rattle.gate_slots.specs.declared.slots.Slots.{Slots}
use Rattle.gate_slots.proofs.Kept.{ready_device, force_device}
use Rattle.volume_disk.specs.Blocks.{place, block_at}
use Rattle.volume_disk.proofs.Pages.{page_agrees}
use Rattle.converter.specs.Maps.{block_of}
use Rattle.savepoint.specs.Stands.{HasSavepoint, restart_place}
use Rattle.savepoint.proofs.StandsSteps.{holds_moved}
use Rattle.page_store.specs.Store.{Store, IsKnown}
use Rattle.page_store.specs.WholeSavepoint.{CanSave, AreStanding, saved_page}

data_apart : (volume : ℕ) → Data volume ≡ Log → ⊥
data_apart volume e = cc

module _ (device : Device) (no_volume : (volume : ℕ) → Data volume ≡ device → ⊥) where
  pub block_apart : (sizes : List ℕ) (a b : Image) → AgreeBut device a b → (k : ℕ) → block_at sizes b k ≡ block_at sizes a k
  block_apart sizes a b agree k = page_agrees a b (Data (place 1 sizes k).0) (place 1 sizes k).1 (agree (Data (place 1 sizes k).0) (no_volume (place 1 sizes k).0))

module _ (device : Device) (no_volume : (volume : ℕ) → Data volume ≡ device → ⊥) (tells : Type 0) (slots : Slots) (r : RestartRecord) (s : Store) (d e : Disk) (seen : AgreeBut device d.seen e.seen)
    (from : (image : Image) → e.may_leave e.now image → (before : Image) × d.may_leave d.now before × AgreeBut device before image)
    (can : CanSave tells slots r s d) where
  pub known_apart : IsKnown tells s d.seen → IsKnown tells s e.seen
  known_apart known = record {
    told = known.told;
    reads = λ q b bytes own some has same frame. block_apart device no_volume s.sizes d.seen e.seen seen b ∙ known.reads q b bytes own some has same frame;
    there = λ i lt.
        let w = known.there i lt in
        (w.0, ap size_of (seen (Data (i + 1)) (no_volume (i + 1))) ∙ w.1, w.2);
  }

  pages_same : (page : ℕ) → saved_page s e.seen page ≡ saved_page s d.seen page
  pages_same page = block_apart device no_volume s.sizes d.seen e.seen seen (block_of s.maps.saved (s.maps.conv + page))

  standing_apart : tells → AreStanding tells slots r s e
  standing_apart told =
      let was : AreStanding tells slots r s d = can.standing told in
      record {
        known = known_apart was.known;
        ready = λ image left.
            let x = from image left in
            ready_device slots (Restart r) x.0 image (subst (λ p. image p.device ≡ x.0 p.device) (sym can.place) (x.2 (Data 1) (no_volume 1))) (was.ready x.0 x.1);
        stands = λ image left.
            let x = from image left in
            let at = was.stands x.0 x.1 in
            let now : HasSavepoint s.sizes r s.maps.saved s.maps.conv (saved_page s d.seen) image = record {
              force = force_device restart_place x.0 image (x.2 (Data 1) (no_volume 1)) ∙ at.force;
              root = at.root;
              map = holds_moved s.sizes s.maps.saved s.maps.conv (saved_page s d.seen) x.0 image can.placed (λ c high below q is. block_apart device no_volume s.sizes x.0 image x.2 c) at.map;
            } in
            subst (λ (f : ℕ → List ℕ). HasSavepoint s.sizes r s.maps.saved s.maps.conv f image) (λ i page. sym (pages_same page) i) now;
      }

  pub can_save_apart : CanSave tells slots r s e
  can_save_apart = record {
    place = can.place;
    number = can.number;
    keeps = can.keeps;
    next = can.next;
    thawed = can.thawed;
    unpinned = can.unpinned;
    unmarked = can.unmarked;
    fits = can.fits;
    placed = can.placed;
    big = can.big;
    standing = standing_apart;
  }

-- The log volume

pub block_same : (sizes : List ℕ) (a b : Image) → AgreeBut Log a b → (k : ℕ) → block_at sizes b k ≡ block_at sizes a k
block_same = block_apart Log data_apart

module _ (tells : Type 0) (slots : Slots) (r : RestartRecord) (s : Store) (d e : Disk) (seen : AgreeBut Log d.seen e.seen)
    (from : (image : Image) → e.may_leave e.now image → (before : Image) × d.may_leave d.now before × AgreeBut Log before image)
    (can : CanSave tells slots r s d) where
  pub known_beside : IsKnown tells s d.seen → IsKnown tells s e.seen
  known_beside = known_apart Log data_apart tells slots r s d e seen from can

  pub can_save_beside : CanSave tells slots r s e
  can_save_beside = can_save_apart Log data_apart tells slots r s d e seen from can
