-- Slots that nothing was written to.
--     ready_bytes, blank_bytes, force_bytes      where the bytes of the two pages are as before, so are the slots
--     ready_device, force_device      the same where the whole device is
--     read_synced      slots that were read of a synced device
use Rattle.std.proofs.Common.{◌≡◌, ◌≢◌, sym, ap, subst, ◌∙◌, ℕ, ◌+◌, ◌*◌, ◌<◌, ◌≤◌, Bool, true, false, cond, List, Option, None, arith}
use Rattle.std.specs.Prelude.{◌==◌}
use Rattle.mdb_model.specs.Images.{Image, size_of, byte_at}
use Rattle.mdb_host.specs.Disk.{Disk, Goes, Agree, Synced}
use Rattle.mdb_bytes.specs.Groups.{open_gate}
use Rattle.mdb_bytes.specs.SlotRecords.{slot_len}
use Rattle.gate_slots.specs.declared.body.SlotBody.{SlotBody}
use Rattle.gate_slots.specs.declared.place.Slot.{Slot}
use Rattle.gate_slots.specs.declared.place.Slot.TheVariants.{First, Second}
use Rattle.gate_slots.specs.declared.place.SlotPlace.{SlotPlace}
use Rattle.gate_slots.specs.declared.slots.Slots.{Slots}
use Rattle.gate_slots.specs.Slots.{other_of, slot_start, gate_in, body_in, decoded_body, slot_in, greater, in_force, Yields, Waits, IsReady, IsBlank}
use Rattle.gate_slots.proofs.Places.{start_low, start_high, body_same}

-- the bytes of the two pages are the same in both images, and the device is as long
pub record SamePages (place : SlotPlace) (old new : Image) : Type 0 where
  pub size : size_of (new place.device) ≡ size_of (old place.device)
  pub bytes : (k : ℕ) → 8192 * place.page ≤ k → k < 8192 * place.page + 16384 → byte_at (new place.device) k ≡ byte_at (old place.device) k

-- a whole device that is the same
pub same_device : (place : SlotPlace) (old new : Image) → new place.device ≡ old place.device → SamePages place old new
same_device place old new is = record { size = ap size_of is; bytes = λ k low high. ap (λ (o : Option (List ℕ)). byte_at o k) is }

module _ (place : SlotPlace) (old new : Image) (same : SamePages place old new) where
  -- the gates are the same
  gate_kept : (slot : Slot) → gate_in new place slot ≡ gate_in old place slot
  gate_kept slot = same.bytes (slot_start place slot + slot_len) (omega (arith, start_low place slot)) (omega (arith, start_high place slot))

  -- so are the bodies
  body_kept : (slot : Slot) → body_in new place slot ≡ body_in old place slot
  body_kept slot = body_same place slot old new same.size (λ k low high. same.bytes k (omega (arith, start_low place slot, low)) (omega (arith, start_high place slot, high)))

  -- and so is what the slots hold
  slot_kept : (slot : Slot) → slot_in new place slot ≡ slot_in old place slot
  slot_kept slot = λ i. cond (gate_kept slot i == open_gate) (decoded_body place.device (body_kept slot i)) None

  -- the same record is in force
  pub force_bytes : in_force new place ≡ in_force old place
  force_bytes = λ i. greater (slot_kept First i) (slot_kept Second i)

  -- slots that hold no record still hold none
  pub blank_bytes : (seen : Image) → IsBlank seen place old → IsBlank seen place new
  blank_bytes seen blank = record { none = λ slot. slot_kept slot ∙ blank.none slot; gates = λ slot. gate_kept slot ∙ blank.gates slot }

module _ (slots : Slots) (body : SlotBody) (old new : Image) (same : SamePages slots.place old new) where
  -- the other slot may still be written
  waits_bytes : (is_open : Bool) → Waits is_open slots body old → Waits is_open slots body new
  waits_bytes true yields =
      subst (λ (bytes : List ℕ). Yields slots.current body (decoded_body slots.place.device bytes)) (sym (body_kept slots.place old new same (other_of slots.current))) yields
  waits_bytes false shut = subst (λ (n : ℕ). n ≢ open_gate) (sym (gate_kept slots.place old new same (other_of slots.current))) shut

  -- slots that are ready still are
  pub ready_bytes : IsReady slots body old → IsReady slots body new
  ready_bytes ready = record {
    number = ready.number;
    here = slot_kept slots.place old new same slots.current ∙ ready.here;
    waits = waits_bytes slots.other_open ready.waits;
  }

-- the same of a whole device
pub ready_device : (slots : Slots) (body : SlotBody) (old new : Image) → new slots.place.device ≡ old slots.place.device → IsReady slots body old → IsReady slots body new
ready_device slots body old new is ready = ready_bytes slots body old new (same_device slots.place old new is) ready

-- the same record is in force on it
pub force_device : (place : SlotPlace) (old new : Image) → new place.device ≡ old place.device → in_force new place ≡ in_force old place
force_device place old new is = force_bytes place old new (same_device place old new is)

-- slots that were read of a device that is synced are so in each image
pub read_synced : (place : SlotPlace) (slots : Slots) (body : SlotBody) (d0 d1 : Disk) → slots.place ≡ place → Goes d0 d1 Agree → Synced d0 place.device → IsReady slots body d0.seen
    → (image : Image) → d1.may_leave d1.now image → IsReady slots body image
read_synced place slots body d0 d1 at calm synced ready image left =
    let before = calm.since d1.now image calm.keeps.later (omega arith) left in
    let is : image place.device ≡ d0.seen place.device = before.2 place.device ∙ synced before.0 before.1 in
    ready_device slots body d0.seen image (subst (λ (p : SlotPlace). image p.device ≡ d0.seen p.device) (sym at) is) ready
