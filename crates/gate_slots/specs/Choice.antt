-- Which of two pages that were read counts.
--     IsPageOf, HasKept      what a read of a slot gives
--     IsChosen, Chooses      the slot of two that counts
use Rattle.std.specs.Prelude.{◌≡◌, ◌==◌, if◌then◌else◌, Option, Some, None, IfSome}
use Rattle.mdb_model.specs.declared.fault.Device.{Device}
use Rattle.mdb_model.specs.Images.{Image}
use Rattle.mdb_bytes.specs.Groups.{open_gate}
use Rattle.gate_slots.specs.declared.body.SlotBody.{SlotBody}
use Rattle.gate_slots.specs.declared.gates.SlotPage.{SlotPage}
use Rattle.gate_slots.specs.declared.place.Slot.{Slot}
use Rattle.gate_slots.specs.declared.place.Slot.TheVariants.{First, Second}
use Rattle.gate_slots.specs.declared.place.SlotPlace.{SlotPlace}
use Rattle.gate_slots.specs.declared.slots.Slots.{Slots}
use Rattle.gate_slots.specs.Slots.{other_of, gate_in, body_in, decoded_body, slot_number, greater, IsFor, KeepsBody, Yields}

-- the page has the gate and the body of a slot of the image
pub record IsPageOf (image : Image) (place : SlotPlace) (slot : Slot) (page : SlotPage)
    : Type 0 where
  pub gate : page.is_open ≡ (gate_in image place slot == open_gate)
  pub body : page.body ≡ decoded_body place.device (body_in image place slot)

-- its record, if there is one, is of the device's kind and keeps its limits
abbrev pub HasKept : Device → SlotPage → Type 0
HasKept device page = IfSome page.body (λ body. IsFor device body × KeepsBody body)

-- the record that counts where the gate is open
abbrev pub page_counts : SlotPage → Option SlotBody
page_counts page = if page.is_open then page.body else None

-- the page of a slot, of two
abbrev pub page_of_slot : (first second : SlotPage) → Slot → SlotPage
page_of_slot first second First = first
page_of_slot first second Second = second

-- the current slot holds this record, beside which the other does not count
pub record IsChosen (at : SlotPlace) (first second : SlotPage) (slots : Slots) (body : SlotBody)
    : Type 0 where
  pub place : slots.place ≡ at
  pub number : slots.number ≡ slot_number body
  pub here : page_counts (page_of_slot first second slots.current) ≡ Some body
  pub other_open : slots.other_open ≡ (page_of_slot first second (other_of slots.current)).is_open
  pub yields : Yields slots.current body
      (page_counts (page_of_slot first second (other_of slots.current)))

-- the slot that counts, or none where neither does
abbrev pub Chooses : SlotPlace → (first second : SlotPage) → Option (Slots × SlotBody) → Type 0
Chooses place first second (Some found) = IsChosen place first second found.0 found.1
Chooses place first second None = greater (page_counts first) (page_counts second) ≡ None
