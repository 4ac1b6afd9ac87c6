-- What two pages that were read say of their slots.
--     page_gate, page_same      a page that was read
--     chosen_ready, chosen_force, chosen_found      the slot that counts
use Rattle.std.proofs.Common.{◌≡◌, refl, sym, ap, subst, ◌∙◌, ℕ, ◌+◌, ◌<◌, Bool, true, false, cond, List, length, get_or, Option, Some, None, arith}
use Rattle.std.specs.Prelude.{◌==◌, IfSome}
use Rattle.mdb_model.specs.declared.fault.Device.{Device}
use Rattle.mdb_model.specs.Images.{Image, byte_at}
use Rattle.mdb_host.specs.Disk.{Agree, Has}
use Rattle.mdb_host.proofs.Moments.{same_image}
use Rattle.mdb_bytes.specs.Groups.{open_gate}
use Rattle.mdb_bytes.specs.SlotRecords.{slot_len}
use Rattle.gate_slots.specs.declared.body.SlotBody.{SlotBody}
use Rattle.gate_slots.specs.declared.gates.SlotPage.{SlotPage}
use Rattle.gate_slots.specs.declared.place.Slot.{Slot}
use Rattle.gate_slots.specs.declared.place.Slot.TheVariants.{First, Second}
use Rattle.gate_slots.specs.declared.place.SlotPlace.{SlotPlace}
use Rattle.gate_slots.specs.declared.slots.Slots.{Slots}
use Rattle.gate_slots.specs.Slots.{other_of, slot_start, gate_in, slot_in, in_force, IsFor, KeepsBody, Yields, Waits, IsReady, HasBody}
use Rattle.gate_slots.specs.Choice.{IsPageOf, HasKept, page_counts, page_of_slot, IsChosen}
use Rattle.gate_slots.proofs.Places.{told_shut}
use Rattle.gate_slots.proofs.Forces.{ready_force}

-- the last byte of a slot
pub page_gate : (image : Image) (place : SlotPlace) (slot : Slot) (at : ℕ) (whole back : List ℕ) → at ≡ slot_start place slot → slot_len < length whole → Has image place.device at whole
    → ((k d : ℕ) → get_or back k d ≡ get_or whole (slot_len + k) d) → (get_or back 0 0 == open_gate) ≡ (gate_in image place slot == open_gate)
page_gate image place slot at whole back is long has behind =
    let e : slot_len + 0 ≡ slot_len = omega arith in
    let gate : gate_in image place slot ≡ get_or back 0 0 =
    ap (λ (n : ℕ). byte_at (image place.device) (n + slot_len)) (sym is) ∙ has slot_len long ∙ ap (λ (n : ℕ). get_or whole n 0) (sym e) ∙ sym (behind 0 0) in
    ap (λ (n : ℕ). n == open_gate) (sym gate)

-- a page that was read of one image is that of one that agrees with it
pub page_same : (a b : Image) (place : SlotPlace) (slot : Slot) (page : SlotPage) → Agree a b → IsPageOf b place slot page → IsPageOf a place slot page
page_same a b place slot page same is = subst (λ (x : Image). IsPageOf x place slot page) (sym (same_image a b same)) is

-- each of two pages is that of its slot
page_is : (image : Image) (place : SlotPlace) (first second : SlotPage) → IsPageOf image place First first → IsPageOf image place Second second → (slot : Slot) → IsPageOf image place slot (page_of_slot first second slot)
page_is image place first second one two First = one
page_is image place first second one two Second = two

-- what a page counts for is what its slot holds
counts_is : (image : Image) (place : SlotPlace) (slot : Slot) (page : SlotPage) → IsPageOf image place slot page → page_counts page ≡ slot_in image place slot
counts_is image place slot page is = λ i. cond (is.gate i) (is.body i) None

-- what counts is the record of the page
counts_body : (page : SlotPage) (is_open : Bool) → page.is_open ≡ is_open → (body : SlotBody) → page_counts page ≡ Some body → page.body ≡ Some body
counts_body page true is body here = sym (ap (λ (b : Bool). cond b page.body None) is) ∙ here
counts_body page false is body here = let none : None ≡ Some body = sym (ap (λ (b : Bool). cond b page.body None) is) ∙ here in absurd cc

module _ (image : Image) (place : SlotPlace) (first second : SlotPage) (one : IsPageOf image place First first) (two : IsPageOf image place Second second) (slots : Slots) (body : SlotBody)
    (chosen : IsChosen place first second slots body) where
  -- the page of the slot that is not current
  abbrev other_page : SlotPage
  other_page = page_of_slot first second (other_of slots.current)

  -- it is that of its slot
  other_is : IsPageOf image place (other_of slots.current) other_page
  other_is = page_is image place first second one two (other_of slots.current)

  -- the other slot may be written
  waits : (is_open : Bool) → other_page.is_open ≡ is_open → Waits is_open (record slots { place = place }) body image
  waits true is =
      let counts : page_counts other_page ≡ other_page.body = ap (λ (b : Bool). cond b other_page.body None) is in
      subst (λ (o : Option SlotBody). Yields slots.current body o) (counts ∙ other_is.body) chosen.yields
  waits false is = told_shut (gate_in image place (other_of slots.current)) other_page.is_open other_is.gate is

  -- the slots are as they were read
  pub chosen_ready : IsReady slots body image
  chosen_ready = subst (λ (p : SlotPlace). IsReady (record slots { place = p }) body image) (sym chosen.place) (record {
    number = sym chosen.number;
    here = sym (counts_is image place slots.current (page_of_slot first second slots.current) (page_is image place first second one two slots.current)) ∙ chosen.here;
    waits = waits slots.other_open (sym chosen.other_open);
  })

  -- the record that was found is in force
  pub chosen_force : in_force image place ≡ Some body
  chosen_force = subst (λ (p : SlotPlace). in_force image p ≡ Some body) chosen.place (ready_force slots body image chosen_ready)

-- each of two pages has a record that keeps its limits, if any
kept_of : (device : Device) (first second : SlotPage) (slot : Slot) → HasKept device first → HasKept device second → HasKept device (page_of_slot first second slot)
kept_of device first second First one two = one
kept_of device first second Second one two = two

-- what is known of the slots that were found
pub chosen_found : (place : SlotPlace) (first second : SlotPage) (slots : Slots) (body : SlotBody) → IsChosen place first second slots body → HasKept place.device first → HasKept place.device second
    → HasBody place slots body
chosen_found place first second slots body chosen one two =
    let page = page_of_slot first second slots.current in
    let has : page.body ≡ Some body = counts_body page page.is_open refl body chosen.here in
    let kept : IsFor place.device body × KeepsBody body =
    subst (λ (o : Option SlotBody). IfSome o (λ body. IsFor place.device body × KeepsBody body)) has (kept_of place.device first second slots.current one two) in
    record { place = chosen.place; number = chosen.number; kind = kept.0; keeps = kept.1 }
