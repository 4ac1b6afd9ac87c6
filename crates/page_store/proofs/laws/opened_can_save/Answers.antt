use Rattle.std.proofs.Common.{◌≡◌, ◌∙◌, inl, inr, ℕ, ◌+◌, ◌-◌, ◌<◌, ◌≤◌, List, Bool, get_or, replicate, false, sum, refl, sym, ap, subst, arith}
use Rattle.mdb_model.specs.Images.{Image}
use Rattle.mdb_bytes.specs.declared.restart_record.RestartRecord.{RestartRecord}
use Rattle.mdb_host.specs.Disk.{Disk}
use Rattle.free_blocks.specs.Free.{free_count}
use Rattle.free_blocks.specs.Marked.{IsMarked}
use Rattle.volume_disk.specs.Blocks.{IsDurable, block_at}
use Rattle.gate_slots.specs.declared.slots.Slots.{Slots}
use Rattle.gate_slots.specs.declared.place.SlotPlace.{SlotPlace}
use Rattle.gate_slots.specs.declared.body.SlotBody.TheVariants.{Restart}
use Rattle.gate_slots.specs.Slots.{HasBody, IsReady, in_force}
use Rattle.gate_slots.proofs.Forces.{ready_force}
use Rattle.converter.specs.Maps.{Maps, IsSoundMaps, block_of}
use Rattle.converter.specs.Loads.{IsRead}
use Rattle.converter.specs.Tree.{HasRootBytes, HasLeafBytes}
use Rattle.savepoint.specs.Stands.{restart_place}
use Rattle.page_store.specs.Opens.{IsStoreOpened}
use Rattle.page_store.specs.Store.{Store, IsStore, IsKnown, block_count}
use Rattle.page_store.specs.WholeSavepoint.{CanSave}
use Rattle.page_store.proofs.Opened.{none_marked}
use Rattle.page_store.proofs.laws.opened_can_save.Goals as goal

can_save : (T : Type 0) (slots : Slots) (restart : RestartRecord) (s : Store) (d : Disk) → HasBody restart_place slots (Restart restart) → IsStoreOpened s restart.volumes.items restart.savepoint → IsSoundMaps s.maps → IsStore s → s.maps.conv ≤ free_count s.free
    → 2 ≤ get_or s.sizes 0 0 → ((q : ℕ) → q < s.maps.conv → 1 < block_of s.maps.saved q) → (T → IsKnown T s d.seen) → (T → IsRead s.maps.conv (block_count s) restart.root (block_at s.sizes d.seen) (s.maps.conv - 1) s.maps.saved) → (T → IsDurable s.sizes d)
    → (T → (image : Image) → d.may_leave d.now image → IsReady slots (Restart restart) image) → CanSave T slots restart s d
can_save T slots restart s d found opened sound store fits big own known read settled ready = record {
  place = found.place;
  number = sym found.number;
  keeps = found.keeps;
  next = opened.next;
  thawed = ap (λ (m : Maps). m.frozen_at) opened.maps;
  unpinned = opened.pinned;
  unmarked = λ b marked. none_marked (sum s.sizes) b (subst (λ (l : List (List Bool)). IsMarked l b) (opened.marks ∙ ap (λ (l : List ℕ). replicate (sum l) (replicate 16 false)) (sym opened.sizes_are)) marked);
  fits = fits;
  placed = record {
    some = omega (arith, sound.leaves);
    own = own;
    high = λ q some. sound.high q (block_of s.maps.saved q) some (inr (inl refl));
    below = below;
  };
  big = big;
  standing = λ told. record {
    known = known told;
    ready = ready told;
    stands = λ image left.
        let r = read told in
        let same : (b : ℕ) → b < block_count s → block_at s.sizes image b ≡ block_at s.sizes d.seen b = λ b lt. settled told image left b (omega (arith, store.blocks, lt)) in
        record {
          force = ap (λ (p : SlotPlace). in_force image p) (sym found.place) ∙ ready_force slots (Restart restart) image (ready told image left);
          root = sym r.at;
          map = record {
            tree = record {
              root = subst (λ (bytes : List ℕ). HasRootBytes s.maps.saved s.maps.conv bytes) (ap (block_at s.sizes d.seen) (sym r.at) ∙ sym (same (block_of s.maps.saved 0) (sound.saved_small 0).0)) r.held;
              leaves = λ i lt. subst (λ (bytes : List ℕ). HasLeafBytes s.maps.saved s.maps.conv i bytes) (sym (same (block_of s.maps.saved (i + 1)) (sound.saved_small (i + 1)).0)) (r.leaves i (omega (arith, lt)));
            };
            page = λ p some. same (block_of s.maps.saved (s.maps.conv + p)) (sound.saved_small (s.maps.conv + p)).0;
          };
        };
  };
}
  where
    below : (q : ℕ) → block_of s.maps.saved q < sum s.sizes
    below q = omega (arith, store.blocks, (sound.saved_small q).0)

pub returns : goal.returns
returns g c slots restart s h = can_save g.H.Host.tells slots restart s (g.H.Host.disk h)
