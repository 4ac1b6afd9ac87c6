-- What writes and a switch leave of what an image stands for.
use Rattle.std.proofs.Common.{◌≡◌, ◌⊎◌, inl, inr, ⊎_elim, ℕ, ◌+◌, ◌-◌, ◌*◌, ◌/◌, ◌<◌, ◌≤◌, List, [], ◌∷◌, get_or, Bool, refl, ap, sym, subst, ◌∙◌, arith}
use Rattle.std.specs.Prelude.{sum}
use Rattle.std.proofs.lemmas.Bool.{cases_eq, cases_lt}
use Rattle.std.proofs.lemmas.List.Sums.{sum_by-cons}
use Rattle.std.proofs.lemmas.List.{get_or-take, get_or-drop}
use Rattle.mdb_model.specs.declared.fault.Device.{Device}
use Rattle.mdb_model.specs.declared.fault.Device.TheVariants.{Data}
use Rattle.mdb_model.specs.Images.{Image, bytes_of, byte_at}
use Rattle.mdb_host.specs.Disk.{Disk, Goes, Arrives}
use Rattle.mdb_host.proofs.Moments.{widen}
use Rattle.mdb_bytes.specs.declared.converter_pages.ConverterEntry.{ConverterEntry}
use Rattle.mdb_bytes.specs.declared.restart_record.RestartRecord.{RestartRecord}
use Rattle.volume_disk.specs.Blocks.{Writes, place, device_page, block_at}
use Rattle.volume_disk.proofs.Places.{place_here, apart}
use Rattle.volume_disk.proofs.Pages.{page_kept, page_agrees, data_is}
use Rattle.gate_slots.specs.declared.body.SlotBody.TheVariants.{Restart}
use Rattle.gate_slots.specs.declared.place.SlotPlace.{SlotPlace}
use Rattle.gate_slots.specs.declared.slots.Slots.{Slots}
use Rattle.gate_slots.specs.Slots.{in_force, IsReady}
use Rattle.gate_slots.specs.Steps.{SlotsTorn, Switches, HasSwitched}
use Rattle.gate_slots.proofs.Kept.{SamePages, ready_bytes, force_bytes}
use Rattle.gate_slots.proofs.Forces.{ready_force}
use Rattle.free_blocks.specs.Free.{IsFree}
use Rattle.converter.specs.Maps.{Maps, AreUnused, block_of}
use Rattle.savepoint.specs.Stands.{restart_place, HoldsMap, HasSavepoint, IsMapPlaced, AtSwitch, KeepsSlots, KeepsMapBlocks}
use Rattle.savepoint.proofs.AlongSteps.{tree_moved}

-- the first two blocks are the first two pages of the first volume
pub slot_place : (sizes : List ℕ) (b : ℕ) → 2 ≤ get_or sizes 0 0 → b < 2 → place 1 sizes b ≡ (1, b)
slot_place [] b big lt = absurd (omega (arith, big))
slot_place (n ∷ ns) b big lt = place_here 1 n ns b (omega (arith, big, lt))

pub page_byte : (image : Image) (d : Device) (p i : ℕ) → i < 8192 → get_or (device_page image d p) i 0 ≡ byte_at (image d) (8192 * p + i)
unfolding device_page
page_byte image d p i lt = get_or-take 8192 _ i 0 lt ∙ get_or-drop (8192 * p) (bytes_of (image d)) i 0

-- a map whose blocks keep their bytes
pub holds_moved : (sizes : List ℕ) (m : List ConverterEntry) (conv : ℕ) (pages : ℕ → List ℕ) (a b : Image) → IsMapPlaced sizes m conv
    → ((c : ℕ) → 1 < c → c < sum sizes → (q : ℕ) → block_of m q ≡ c → block_at sizes b c ≡ block_at sizes a c) → HoldsMap sizes m conv pages a → HoldsMap sizes m conv pages b
holds_moved sizes m conv pages a b placed same holds = record {
  tree = tree_moved m conv (block_at sizes a) (block_at sizes b) (λ q lt. same (block_of m q) (placed.own q lt) (placed.below q) q refl) placed.some holds.tree;
  page = λ p some. same (block_of m (conv + p)) (placed.high (conv + p) some) (placed.below (conv + p)) (conv + p) refl ∙ holds.page p some;
}

-- writes to blocks that the map does not have
pub holds_stays : (sizes : List ℕ) (set : ℕ → Type 0) (m : List ConverterEntry) (conv : ℕ) (pages : ℕ → List ℕ) (a b : Image) → IsMapPlaced sizes m conv
    → ((q : ℕ) → set (block_of m q) → ⊥) → Writes sizes set a b → HoldsMap sizes m conv pages a → HoldsMap sizes m conv pages b
holds_stays sizes set m conv pages a b placed spared writes holds =
    holds_moved sizes m conv pages a b placed (λ c high below q is. writes.outside c below (λ written. spared q (subst (λ (x : ℕ). set x) (sym is) written))) holds

-- the bytes of the slots
low_bytes : (sizes : List ℕ) (set : ℕ → Type 0) (a b : Image) → 2 ≤ get_or sizes 0 0 → 2 ≤ sum sizes → ((c : ℕ) → set c → 1 < c) → Writes sizes set a b
    → (p i : ℕ) → p < 2 → i < 8192 → byte_at (b (Data 1)) (8192 * p + i) ≡ byte_at (a (Data 1)) (8192 * p + i)
low_bytes sizes set a b big two high writes p i lt less =
    let same = writes.outside p (omega (arith, two, lt)) (λ is. omega (arith, high p is, lt)) in
    let here = subst (λ (x : ℕ × ℕ). device_page b (Data x.0) x.1 ≡ device_page a (Data x.0) x.1) (slot_place sizes p big lt) same in
    sym (page_byte b (Data 1) p i less) ∙ ap (λ (l : List ℕ). get_or l i 0) here ∙ page_byte a (Data 1) p i less

-- at least as many blocks as the first volume has
first_few : (sizes : List ℕ) (n : ℕ) → n ≤ get_or sizes 0 0 → n ≤ sum sizes
first_few [] n le = le
first_few (x ∷ xs) n le = let s = sum_by-cons (λ (k : ℕ). k) x xs in omega (arith, le, s)

-- writes after the first two blocks leave the slots
pub slots_stay : (sizes : List ℕ) (set : ℕ → Type 0) (a b : Image) → ((c : ℕ) → set c → 1 < c) → Writes sizes set a b → 2 ≤ get_or sizes 0 0 → KeepsSlots a b
slots_stay sizes set a b high writes big = record {
  force = force_bytes restart_place a b same;
  ready = λ slots body at ready. ready_bytes slots body a b (subst (λ (p : SlotPlace). SamePages p a b) (sym at) same) ready;
}
  where
    same : SamePages restart_place a b
    same = record {
      size = writes.same_sizes (Data 1);
      bytes = λ k low lt.
          let e : 8192 * (k / 8192) + (k - 8192 * (k / 8192)) ≡ k = omega arith in
          subst (λ (j : ℕ). byte_at (b (Data 1)) j ≡ byte_at (a (Data 1)) j) e (low_bytes sizes set a b big (first_few sizes 2 big) high writes (k / 8192) (k - 8192 * (k / 8192)) (omega (arith, lt)) (omega arith));
    }

-- what writes to free blocks leave
pub free_keeps : (sizes : List ℕ) (flags : List Bool) (maps : Maps) (a b : Image) → AreUnused maps flags → Writes sizes (IsFree flags) a b → KeepsMapBlocks sizes flags a b
free_keeps sizes flags maps a b unused writes =
    let slots = slots_stay sizes (IsFree flags) a b (λ c free. (unused c free).0) writes in
    record {
      slots = slots;
      holds = λ m conv pages placed none holds. holds_stays sizes (IsFree flags) m conv pages a b placed none writes holds;
      stands = λ restart m conv pages big placed none stands. record {
        force = (slots big).force ∙ stands.force;
        root = stands.root;
        map = holds_stays sizes (IsFree flags) m conv pages a b placed none writes stands.map;
      };
    }

-- at each moment of a stretch of such writes
pub free_writes : (sizes : List ℕ) (flags : List Bool) (maps : Maps) (d0 d1 : Disk) → AreUnused maps flags → Goes d0 d1 (Writes sizes (IsFree flags)) → Goes d0 d1 (KeepsMapBlocks sizes flags)
free_writes sizes flags maps d0 d1 unused goes = widen d0 d1 _ _ goes (λ a b left writes. free_keeps sizes flags maps a b unused writes)

-- a switch leaves each block from 2 on
pub switch_blocks : (sizes : List ℕ) (a b : Image) (c : ℕ) → 2 ≤ get_or sizes 0 0 → 1 < c → SlotsTorn restart_place a b → block_at sizes b c ≡ block_at sizes a c
switch_blocks sizes a b c big high torn = elim (cases_eq (place 1 sizes c).0 1) [
  | inl first ↦
      let d_is : Data (place 1 sizes c).0 ≡ Data 1 = ap Data first in
      let far : 2 ≤ (place 1 sizes c).1 = elim (cases_lt (place 1 sizes c).1 2) [
        | inl lt ↦
            let there = slot_place sizes (place 1 sizes c).1 big lt in
            let is : c ≡ (place 1 sizes c).1 = apart 1 sizes c (place 1 sizes c).1 (first ∙ sym (ap (λ (x : ℕ × ℕ). x.0) there)) (sym (ap (λ (x : ℕ × ℕ). x.1) there)) in
            absurd (omega (arith, lt, high, is))
        | inr ge ↦ ge
      ] in
      subst (λ (d : Device). device_page b d (place 1 sizes c).1 ≡ device_page a d (place 1 sizes c).1) (sym d_is)
      (page_kept a b (Data 1) (place 1 sizes c).1 torn.size (λ k from to. torn.outside k (inr (omega (arith, from, far)))))
  | inr other ↦ page_agrees a b (Data (place 1 sizes c).0) (place 1 sizes c).1 (torn.others (Data (place 1 sizes c).0) (λ is. other (data_is _ _ is)))
]

module _ (d0 d1 : Disk) (sizes : List ℕ) (slots : Slots) (at : slots.place ≡ restart_place) (was next : RestartRecord) (old new : List ConverterEntry) (conv : ℕ) (before after : ℕ → List ℕ)
    (entry : AtSwitch d0 sizes slots was old new conv before after) (root : next.root ≡ block_of new 0)
    (goes : Goes d0 d1 (Switches slots (Restart next))) where
  kept : (m : List ConverterEntry) (pages : ℕ → List ℕ) (a b : Image) → IsMapPlaced sizes m conv → Switches slots (Restart next) a b → HoldsMap sizes m conv pages a → HoldsMap sizes m conv pages b
  kept m pages a b placed switches holds =
      let torn = subst (λ (p : SlotPlace). SlotsTorn p a b) at switches.torn in
      holds_moved sizes m conv pages a b placed (λ c high below q is. switch_blocks sizes a b c entry.both_slots high torn) holds

  -- at each moment one of the two
  pub either_stands : Goes d0 d1 (λ a b. HasSavepoint sizes was old conv before b ⊎ HasSavepoint sizes next new conv after b)
  either_stands = widen d0 d1 _ _ goes (λ a b left switches.
      ⊎_elim (λ force. inl (record { force = ap (λ (p : SlotPlace). in_force b p) (sym at) ∙ force; root = entry.root; map = kept old before a b entry.old_placed switches (entry.old_holds a left) }))
      (λ force. inr (record { force = ap (λ (p : SlotPlace). in_force b p) (sym at) ∙ force; root = root; map = kept new after a b entry.new_placed switches (entry.new_holds a left) }))
      (switches.force (Restart was) (entry.ready a left)))

  -- at last the new one
  pub new_stands : (now : Slots) → now.place ≡ slots.place → Arrives d0 d1 (HasSwitched slots now (Restart next)) → (image : Image) → d1.may_leave d1.now image → HasSavepoint sizes next new conv after image × IsReady now (Restart next) image
  new_stands now same arrives image left =
      let s = arrives image left in
      let g = goes.since d1.now image goes.keeps.later (omega arith) left in
      let ready = s.2.ready (Restart was) (entry.ready s.0 s.1) in
      (record { force = ap (λ (p : SlotPlace). in_force image p) (sym (same ∙ at)) ∙ ready_force now (Restart next) image ready; root = root; map = kept new after g.0 image entry.new_placed g.2 (entry.new_holds g.0 g.1) }, ready)
