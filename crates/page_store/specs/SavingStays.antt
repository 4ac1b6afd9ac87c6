-- What a savepoint needs, after calls on pages.
--     numbers_left      how many savepoints there are numbers for
use Rattle.std.proofs.Common.{◌≡◌, ◌∙◌, ℕ, ◌+◌, ◌-◌, ◌^◌, ◌≤◌, max, List, Bool, get_or, refl, sym, ap, subst, arith}
use Rattle.mdb_model.specs.Images.{Image}
use Rattle.mdb_bytes.specs.declared.restart_record.RestartRecord.{RestartRecord}
use Rattle.mdb_bytes.specs.declared.converter_pages.ConverterEntry.{ConverterEntry}
use Rattle.mdb_host.specs.Disk.{Disk}
use Rattle.free_blocks.specs.Marked.{IsMarked}
use Rattle.gate_slots.specs.declared.slots.Slots.{Slots}
use Rattle.gate_slots.specs.declared.body.SlotBody.TheVariants.{Restart}
use Rattle.volume_disk.specs.Blocks.{Writes, block_at}
use Rattle.converter.specs.Maps.{block_of}
use Rattle.savepoint.specs.Stands.{HasSavepoint, IsMapPlaced, KeepsSlots}
use Rattle.savepoint.proofs.StandsSteps.{slots_stay, holds_stays}
use Rattle.page_store.specs.Store.{Store}
use Rattle.page_store.specs.Steps.{KeepsMaps, MayWrite, KeepsStore}
use Rattle.page_store.specs.WholeSavepoint.{saved_page, AreStanding, CanSave}

module _ (T : Type 0) (slots : Slots) (restart : RestartRecord) (a b : Store) (d e : Disk)
    (keeps : KeepsStore T a b d e) (can : CanSave T slots restart a d) where
  abbrev maps : KeepsMaps a b
  maps = keeps.maps

  slots_kept : (x y : Image) → Writes a.sizes (MayWrite a) x y → KeepsSlots x y
  slots_kept x y writes = slots_stay a.sizes (MayWrite a) x y (λ k may. may.high) writes can.big

  page_same : (x y : Image) → Writes a.sizes (MayWrite a) x y → (page : ℕ)
      → saved_page b y page ≡ saved_page a x page
  page_same x y writes page =
      let one : saved_page b y page
      ≡ saved_page a y page = λ i. block_at (keeps.maps.sizes i) y
      (block_of (keeps.maps.saved i) (keeps.maps.conv i + page)) in
      one ∙ writes.outside (block_of a.maps.saved (a.maps.conv
      + page)) (can.placed.below (a.maps.conv + page)) (λ may. may.unsaved (a.maps.conv
      + page) refl)

  stand_on : T → AreStanding T slots restart b e
  stand_on told =
      let was : AreStanding T slots restart a d = can.standing told in
      record {
        known = keeps.known was.known;
        ready = λ image left.
            let x = (keeps.goes told).since e.now image (keeps.goes told).keeps.later (omega arith)
            left in
            (slots_kept x.0 image x.2).ready slots (Restart restart) can.place (was.ready x.0 x.1);
        stands = λ image left.
            let x = (keeps.goes told).since e.now image (keeps.goes told).keeps.later (omega arith)
            left in
            let at = was.stands x.0 x.1 in
            let now : HasSavepoint a.sizes restart a.maps.saved a.maps.conv (saved_page a d.seen)
            image = record {
              force = (slots_kept x.0 image x.2).force ∙ at.force;
              root = at.root;
              map = holds_stays a.sizes (MayWrite a) a.maps.saved a.maps.conv (saved_page a d.seen)
                  x.0 image can.placed (λ q may. may.unsaved q refl) x.2 at.map;
            } in
            subst (λ (t : List ℕ × List ConverterEntry × ℕ
            × (ℕ → List ℕ)). HasSavepoint t.0 restart t.1 t.2 t.3 image)
            (λ i. (
              sym keeps.maps.sizes i,
              sym keeps.maps.saved i,
              sym keeps.maps.conv i,
              λ page.
                  sym (page_same d.seen e.seen (keeps.seen told) page) i,
            )) now;
      }

  pub stays : CanSave T slots restart b e
  stays = record {
    place = can.place;
    number = can.number;
    keeps = can.keeps;
    next = keeps.maps.next ∙ can.next;
    thawed = keeps.maps.frozen_at ∙ can.thawed;
    unpinned = keeps.maps.pinned ∙ can.unpinned;
    unmarked = subst (λ (l : List (List Bool)). (x : ℕ) → IsMarked l x → ⊥) (sym keeps.maps.marks)
        can.unmarked;
    fits = keeps.room can.fits;
    placed = subst (λ (t : List ℕ × List ConverterEntry
        × ℕ). IsMapPlaced t.0 t.1 t.2)
        (λ i. (sym keeps.maps.sizes i, sym keeps.maps.saved i, sym keeps.maps.conv i)) can.placed;
    big = subst (λ (l : List ℕ). 2 ≤ get_or l 0 0) (sym keeps.maps.sizes) can.big;
    standing = stand_on;
  }

-- The numbers of a savepoint and of a record are below 2^62, and each savepoint takes one of each.
abbrev pub numbers_left : RestartRecord → Store → ℕ
numbers_left restart s = (2 ^ 62 - 1) - max s.next restart.slot

pub numbers_same : (T : Type 0) (restart : RestartRecord) (a b : Store) (d e : Disk)
    → KeepsStore T a b d e → numbers_left restart b ≡ numbers_left restart a
numbers_same T restart a b d e keeps = ap (λ (n : ℕ). (2 ^ 62 - 1) - max n restart.slot)
    keeps.maps.next
