-- What images stand for before and after the switch, and the store then.
use Rattle.std.proofs.Common.{◌≡◌, ◌⊎◌, ◌∙◌, inl, inr, ℕ, zero, suc, ◌+◌, ◌*◌, ◌<◌, ◌≤◌, List, [], ◌∷◌, Bool, true, false, Option, Some, None, length, get_or, replicate, refl, sym, ap, subst, arith}
use Rattle.std.specs.Prelude.{nat_lt, unwrap_or, if◌then◌else◌}
use Rattle.std.specs.FinMap.{insert}
use Rattle.std.proofs.lemmas.Bool.{false≢true}
use Rattle.mdb_model.specs.Images.{Image}
use Rattle.mdb_host.specs.Disk.{Disk, Goes, IsWithin}
use Rattle.mdb_host.proofs.Moments.{widen, chain}
use Rattle.mdb_bytes.specs.declared.converter_pages.ConverterEntry.{ConverterEntry}
use Rattle.mdb_bytes.specs.declared.restart_record.RestartRecord.{RestartRecord}
use Rattle.mdb_bytes.specs.Firsts.{no_entry}
use Rattle.mdb_bytes.specs.Parts.{KeepsLimits}
use Rattle.mdb_bytes.specs.SlotRecords.{restart_format}
use Rattle.free_blocks.specs.Free.{free_count}
use Rattle.free_blocks.specs.Marked.{IsMarked}
use Rattle.volume_disk.specs.Blocks.{IsArea, Writes, block_at}
use Rattle.volume_disk.proofs.Writes.{area_same}
use Rattle.gate_slots.specs.declared.slots.Slots.{Slots}
use Rattle.gate_slots.specs.declared.place.SlotPlace.{SlotPlace}
use Rattle.gate_slots.specs.Steps.{SlotsTorn}
use Rattle.mdb_model.specs.declared.fault.Device.TheVariants.{Data, Log}
use Rattle.gate_slots.specs.declared.body.SlotBody.TheVariants.{Restart}
use Rattle.gate_slots.specs.Slots.{IsReady}
use Rattle.gate_slots.specs.Steps.{Switches}
use Rattle.converter.specs.Maps.{IsSoundMaps, block_of, entry_at, frozen_as_saved}
use Rattle.savepoint.specs.Stands.{restart_place, HoldsMap, HasSavepoint, IsMapPlaced, AtSwitch, KeepsSlots}
use Rattle.savepoint.proofs.StandsSteps.{slots_stay, holds_stays}
use Rattle.page_store.specs.Store.{Store, IsKnown, block_count, page_block, frame_of, block_bytes}
use Rattle.page_store.specs.Stamps.{page_entry, AreStamped}
use Rattle.page_store.specs.LogicalPages.{live_pages_below, store_pages, lives_in}
use Rattle.page_store.specs.WholeSavepoint.{saved_page, present_page, next_record, IsBeside, AreStanding, CanSave, IsInArea, HasNextMap, WritesThenSwitches, Saves, IsWritten, IsSaved}
use Rattle.page_store.proofs.MapSteps.{holds_as}
use Rattle.converter.proofs.Sound.{none_there}

module _ (T : Type 0) (slots : Slots) (was : RestartRecord) (s : Store) (d0 d3 : Disk) (can : CanSave T slots was s d0) (told : T) (first : d0.may_leave d0.now d0.seen) (goes : Goes d0 d3 (Writes s.sizes (IsBeside s))) where
  standing : AreStanding T slots was s d0
  standing = can.standing told

  slots_kept : (x y : Image) → Writes s.sizes (IsBeside s) x y → KeepsSlots x y
  slots_kept x y writes = slots_stay s.sizes (IsBeside s) x y (λ b is. is.high) writes can.big

  -- the last record and its map stay
  old_stands : (x y : Image) → d0.may_leave d0.now x → Writes s.sizes (IsBeside s) x y → HasSavepoint s.sizes was s.maps.saved s.maps.conv (saved_page s d0.seen) y
  old_stands x y left writes =
      let w = standing.stands x left in
      record {
        force = (slots_kept x y writes).force ∙ w.force;
        root = w.root;
        map = holds_stays s.sizes (IsBeside s) s.maps.saved s.maps.conv (saved_page s d0.seen) x y can.placed (λ q is. is.unsaved q refl) writes w.map;
      }

  pub early_saves : (commit position : ℕ) → Saves s slots was commit position d0 d3
  early_saves commit position = record { map = s.maps.saved; each = widen d0 d3 _ _ goes (λ x y left writes. inl (old_stands x y left writes)); steps = widen d0 d3 _ _ goes (λ x y left writes. record { mid = y; written = writes; behind = inl (λ e. refl) }) }

  -- both maps stand, and the switch may come
  pub at_switch : (m : List ConverterEntry) → IsMapPlaced s.sizes m s.maps.conv → ((image : Image) → d3.may_leave d3.now image → HoldsMap s.sizes m s.maps.conv (present_page s d0.seen) image)
      → AtSwitch d3 s.sizes slots was s.maps.saved m s.maps.conv (saved_page s d0.seen) (present_page s d0.seen)
  at_switch m placed holds = record {
    both_slots = can.big;
    old_placed = can.placed;
    new_placed = placed;
    root = (standing.stands d0.seen first).root;
    ready = λ image left.
        let a = goes.since d3.now image goes.keeps.later (omega arith) left in
        (slots_kept a.0 image a.2).ready slots (Restart was) can.place (standing.ready a.0 a.1);
    old_holds = λ image left.
        let a = goes.since d3.now image goes.keeps.later (omega arith) left in
        (old_stands a.0 image a.1 a.2).map;
    new_holds = holds;
  }

  pub late_saves : (commit position : ℕ) (d4 : Disk) (m : List ConverterEntry) (rec : RestartRecord) → rec ≡ next_record was s.next commit position (block_of m 0) → IsMapPlaced s.sizes m s.maps.conv → IsInArea s.maps.conv (block_count s) m
      → ((q : ℕ) → s.maps.conv ≤ q → entry_at m q ≡ entry_at s.maps.present q)
      → Goes d3 d4 (λ x image. HasSavepoint s.sizes was s.maps.saved s.maps.conv (saved_page s d0.seen) image ⊎ HasSavepoint s.sizes rec m s.maps.conv (present_page s d0.seen) image)
      → Goes d3 d4 (Switches slots (Restart rec))
      → Saves s slots was commit position d0 d4
  late_saves commit position d4 m rec is placed area entries crash switches = record {
    map = m;
    each = chain d0 d3 d4 (Writes s.sizes (IsBeside s)) (λ x image. HasSavepoint s.sizes was s.maps.saved s.maps.conv (saved_page s d0.seen) image ⊎ HasSavepoint s.sizes rec m s.maps.conv (present_page s d0.seen) image)
        (λ x image. HasSavepoint s.sizes was s.maps.saved s.maps.conv (saved_page s d0.seen) image ⊎ HasNextMap s d0.seen was commit position m image) goes crash
        (λ x y left writes. inl (old_stands x y left writes))
        (λ x y z left writes mid either. elim either [
          | inl old ↦ inl old
          | inr new ↦ inr (record { placed = placed; area = area; entries = entries; stands = subst (λ (r : RestartRecord). HasSavepoint s.sizes r m s.maps.conv (present_page s d0.seen) z) is new })
        ]);
    steps = chain d0 d3 d4 (Writes s.sizes (IsBeside s)) (Switches slots (Restart rec)) (WritesThenSwitches s slots (next_record was s.next commit position (block_of m 0))) goes switches
        (λ x y left writes. record { mid = y; written = writes; behind = inl (λ e. refl) })
        (λ x y z left writes mid switch. record { mid = y; written = writes; behind = inr (subst (λ (r : RestartRecord). Switches slots (Restart r) y z) is switch) });
  }

-- a frozen map that is written is one of the area
pub frozen_in_area : (s w : Store) → IsWritten s w → IsSoundMaps w.maps → IsInArea s.maps.conv (block_count s) w.maps.frozen
frozen_in_area s w written sound =
    subst (λ (t : ℕ × ℕ). IsInArea t.0 t.1 w.maps.frozen) (λ i. (written.conv i, written.area i))
    (record {
      long = sound.frozen_long;
      own = λ q lt. omega (arith, written.placed.own q (omega (arith, lt, written.conv)));
      high = λ q some. sound.high q (block_of w.maps.frozen q) some (inr (inr refl));
      below = λ q. (sound.frozen_small q).0;
      apart = λ p q some is. sym (sound.owned p (block_of w.maps.frozen p) some (inr (inr refl))) ∙ sound.owned q (block_of w.maps.frozen p) some (inr (inr (sym is)));
    })

-- what the slots need
pub slots_within : (s : Store) (place : SlotPlace) (x y : Image) → place ≡ restart_place → 2 ≤ get_or s.sizes 0 0 → IsArea s.sizes x → Writes s.sizes (IsBeside s) x y → IsWithin y place.device (8192 * place.page) 16384
slots_within s place x y at big there writes =
    let w = area_same s.sizes x y writes.same_sizes there 0 (some s.sizes big) in
    subst (λ (p : SlotPlace). IsWithin y p.device (8192 * p.page) 16384) (sym at) (w.0, w.1, omega (arith, w.2, big))
  where
    some : (sizes : List ℕ) → 2 ≤ get_or sizes 0 0 → 0 < length sizes
    some [] le = absurd (omega (arith, le))
    some (n ∷ ns) le = omega arith

-- The store after the switch

abbrev pub after : (s w : Store) (free : List Bool) → Store
after s w free = record s { maps = frozen_as_saved w.maps; free = free; changed = w.changed; next = s.next + 1 }

pub after_is : (s w v r : Store) → IsWritten s w → v ≡ w → r ≡ record v { maps = frozen_as_saved v.maps; free = r.free } → r ≡ after s w r.free
after_is s w v r written same settled_is = settled_is ∙ ap (λ (x : Store). record x { maps = frozen_as_saved x.maps; free = r.free }) (same ∙ written.same)

-- the pages of two stores
pub pages_same : (live1 live2 : ℕ → Bool) (bytes1 bytes2 : ℕ → List ℕ) (n : ℕ) → ((p : ℕ) → live1 p ≡ live2 p) → ((p : ℕ) → live2 p ≡ true → bytes1 p ≡ bytes2 p) → live_pages_below live1 bytes1 n ≡ live_pages_below live2 bytes2 n
pages_same live1 live2 bytes1 bytes2 zero lives bytes = refl
pages_same live1 live2 bytes1 bytes2 (suc n) lives bytes =
    let before : live_pages_below live1 bytes1 n ≡ live_pages_below live2 bytes2 n = pages_same live1 live2 bytes1 bytes2 n lives bytes in
    let one : live_pages_below live1 bytes1 (suc n) ≡ (if live2 n then insert (live_pages_below live1 bytes1 n) n (bytes1 n) else live_pages_below live1 bytes1 n) =
    ap (λ (t : Bool). if t then insert (live_pages_below live1 bytes1 n) n (bytes1 n) else live_pages_below live1 bytes1 n) (lives n) in
    one ∙ elim (live2 n) as (λ (t : Bool). live2 n ≡ t → (if t then insert (live_pages_below live1 bytes1 n) n (bytes1 n) else live_pages_below live1 bytes1 n) ≡ (if t then insert (live_pages_below live2 bytes2 n) n (bytes2 n) else live_pages_below live2 bytes2 n)) [
      | true ↦ λ live. (λ i. insert (before i) n (bytes n live i))
      | false ↦ λ dead. before
    ] refl

-- a frame stays, and a block has what stood there
framed_same : (frame : Option (List ℕ)) (old new : List ℕ) → new ≡ unwrap_or frame old → unwrap_or frame new ≡ unwrap_or frame old
framed_same None old new is = is
framed_same (Some x) old new is = refl

module _ (T : Type 0) (slots slots2 : Slots) (was : RestartRecord) (s w r : Store) (d0 d4 : Disk) (can : CanSave T slots was s d0) (written : IsWritten s w) (is : r ≡ after s w r.free) where
  conv_is : w.maps.conv ≡ s.maps.conv
  conv_is = written.conv

  -- the new map has the present pages
  saved_block : (p : ℕ) → block_of w.maps.frozen (w.maps.conv + p) ≡ page_block s p
  saved_block p = ap (λ (n : ℕ). block_of w.maps.frozen (n + p)) conv_is ∙ ap (λ (e : ConverterEntry). e.block) (written.frozen (s.maps.conv + p) (omega arith))

  present_block : (p : ℕ) → block_of w.maps.present (w.maps.conv + p) ≡ page_block s p
  present_block p = ap (λ (n : ℕ). block_of w.maps.present (n + p)) conv_is ∙ ap (λ (e : ConverterEntry). e.block) (written.present (s.maps.conv + p) (omega arith))

  pub is_saved : IsSaved s r
  is_saved = subst (λ (x : Store). IsSaved s x) (sym is) (record { next = refl; conv = conv_is; area = written.area; sizes = refl; marks = refl; saved = written.frozen; present = written.present })

  -- the stamps are in order
  pub stamped_on : AreStamped s → AreStamped r
  stamped_on stamped = subst AreStamped (sym is) (record {
    present = λ p. omega (arith, as_present p, stamped.present p);
    frozen = λ p. let none : (entry_at (replicate (length w.maps.frozen) no_entry) (w.maps.conv + p)).stamp ≡ 0 = ap (λ (e : ConverterEntry). e.stamp) (none_there (length w.maps.frozen) (w.maps.conv + p)) in omega (arith, none);
    saved = λ p. omega (arith, as_frozen p, stamped.present p);
    own = λ p lives. inl (inl (w.maps.conv + p, inl (saved_block p ∙ sym (present_block p))));
  })
    where
      as_present : (p : ℕ) → (entry_at w.maps.present (w.maps.conv + p)).stamp ≡ (page_entry s p).stamp
      as_present p = ap (λ (n : ℕ). (entry_at w.maps.present (n + p)).stamp) conv_is ∙ ap (λ (e : ConverterEntry). e.stamp) (written.present (s.maps.conv + p) (omega arith))

      as_frozen : (p : ℕ) → (entry_at w.maps.frozen (w.maps.conv + p)).stamp ≡ (page_entry s p).stamp
      as_frozen p = ap (λ (n : ℕ). (entry_at w.maps.frozen (n + p)).stamp) conv_is ∙ ap (λ (e : ConverterEntry). e.stamp) (written.frozen (s.maps.conv + p) (omega arith))

  module _ (rec : RestartRecord) (stands : (image : Image) → d4.may_leave d4.now image → HasSavepoint s.sizes rec w.maps.frozen s.maps.conv (present_page s d0.seen) image × IsReady slots2 (Restart rec) image) (last : d4.may_leave d4.now d4.seen) where
    -- what stands on a page of the new map
    new_bytes : (p : ℕ) → 0 < page_block s p → block_at s.sizes d4.seen (page_block s p) ≡ present_page s d0.seen p
    new_bytes p lives =
        let same : block_of w.maps.frozen (s.maps.conv + p) ≡ page_block s p = ap (λ (e : ConverterEntry). e.block) (written.frozen (s.maps.conv + p) (omega arith)) in
        ap (block_at s.sizes d4.seen) (sym same) ∙ (stands d4.seen last).0.map.page p (omega (arith, same, lives))

    pub saved_bytes : (p : ℕ) → 0 < page_block s p → saved_page r d4.seen p ≡ present_page s d0.seen p
    saved_bytes p lives = ap (λ (x : Store). saved_page x d4.seen p) is ∙ ap (block_at s.sizes d4.seen) (saved_block p) ∙ new_bytes p lives

    live_is : (n : ℕ) → nat_lt 0 n ≡ true → 0 < n
    live_is zero off = absurd (false≢true off)
    live_is (suc n) on = omega arith

    pub pages_stay : store_pages r d4.seen ≡ store_pages s d0.seen
    pages_stay =
        let one : store_pages r d4.seen ≡ store_pages (after s w r.free) d4.seen = ap (λ (x : Store). store_pages x d4.seen) is in
        one
        ∙ ap (live_pages_below (lives_in (after s w r.free)) (λ page. block_bytes (after s w r.free) d4.seen (page_block (after s w r.free) page))) written.area
        ∙ pages_same (lives_in (after s w r.free)) (lives_in s) (λ page. block_bytes (after s w r.free) d4.seen (page_block (after s w r.free) page)) (λ page. block_bytes s d0.seen (page_block s page)) (block_count s)
        (λ p. ap (nat_lt 0) (present_block p))
        (λ p live.
        ap (λ (b : ℕ). unwrap_or (frame_of s b) (block_at s.sizes d4.seen b)) (present_block p)
        ∙ framed_same (frame_of s (page_block s p)) (block_at s.sizes d0.seen (page_block s p)) (block_at s.sizes d4.seen (page_block s p)) (new_bytes p (live_is (page_block s p) live)))

    pub stand_on : IsKnown T r d4.seen → AreStanding T slots2 rec r d4
    stand_on known = record {
      known = known;
      ready = λ image left. (stands image left).1;
      stands = λ image left.
          let now : HasSavepoint s.sizes rec w.maps.frozen w.maps.conv (present_page s d0.seen) image = subst (λ (n : ℕ). HasSavepoint s.sizes rec w.maps.frozen n (present_page s d0.seen) image) (sym conv_is) (stands image left).0 in
          subst (λ (x : Store). HasSavepoint x.sizes rec x.maps.saved x.maps.conv (saved_page x d4.seen) image) (sym is)
          (record {
            force = now.force;
            root = now.root;
            map = holds_as s.sizes w.maps.frozen w.maps.conv (present_page s d0.seen) (saved_page (after s w r.free) d4.seen) image
                (λ p some. let same = saved_block p in sym (ap (block_at s.sizes d4.seen) same ∙ new_bytes p (omega (arith, same, some))))
                now.map;
          });
    }

  pub can_save_on : (rec : RestartRecord) → slots2.place ≡ restart_place → rec.slot ≡ slots2.number → KeepsLimits restart_format rec → rec.savepoint ≡ s.next → r.maps.conv ≤ free_count r.free → (T → AreStanding T slots2 rec r d4) → CanSave T slots2 rec r d4
  can_save_on rec place number keeps savepoint fits standing = record {
    place = place;
    number = number;
    keeps = keeps;
    next = ap (λ (x : Store). x.next) is ∙ ap (λ (n : ℕ). n + 1) (sym savepoint);
    thawed = ap (λ (x : Store). x.maps.frozen_at) is;
    unpinned = ap (λ (x : Store). x.pinned) is ∙ can.unpinned;
    unmarked = subst (λ (x : Store). (b : ℕ) → IsMarked x.marks b → ⊥) (sym is) can.unmarked;
    fits = fits;
    placed = subst (λ (x : Store). IsMapPlaced x.sizes x.maps.saved x.maps.conv) (sym is) (subst (λ (n : ℕ). IsMapPlaced s.sizes w.maps.frozen n) (sym conv_is) written.placed);
    big = subst (λ (x : Store). 2 ≤ get_or x.sizes 0 0) (sym is) can.big;
    standing = standing;
  }

-- a switch of the slots leaves the log volume
pub beside_log : (place : SlotPlace) (a b : Image) → place ≡ restart_place → SlotsTorn place a b → b Log ≡ a Log
beside_log place a b is torn = torn.others Log (λ log. (let e : Log ≡ Data 1 = log ∙ ap (λ (p : SlotPlace). p.device) is in absurd cc))
