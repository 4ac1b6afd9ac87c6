-- What calls do to the images that a crash may leave.
--     SlotsTorn      the two pages hold anything, all else is as before
--     Switches, HasSwitched      a record is in force, or the next one; the next one is
--     Begins, Begun      none is in force, or the first one; the first one is
--     KeepsOther      what is written in one slot leaves the other
--     Closes, Empties, Replaces, Replaced      the same of one slot
use Rattle.std.specs.Prelude.{◌≡◌, ◌≢◌, ◌⊎◌, ◌*◌, Bool, true, false, Some, None}
use Rattle.mdb_model.specs.Images.{Image}
use Rattle.mdb_host.specs.Disk.{Torn}
use Rattle.mdb_bytes.specs.Groups.{open_gate}
use Rattle.gate_slots.specs.declared.body.SlotBody.{SlotBody}
use Rattle.gate_slots.specs.declared.place.Slot.{Slot}
use Rattle.gate_slots.specs.declared.place.SlotPlace.{SlotPlace}
use Rattle.gate_slots.specs.declared.slots.Slots.{Slots}
use Rattle.gate_slots.specs.Slots.{other_of, gate_in, body_in, decoded_body, slot_in, in_force, IsReady, IsBlank}

-- the two pages hold anything, all else is as before
abbrev pub SlotsTorn : SlotPlace → Image → Image → Type 0
SlotsTorn place old new = Torn place.device (8192 * place.page) 16384 old new

-- the record that was in force is, or the next one
pub record Switches (slots : Slots) (next : SlotBody) (old new : Image) : Type 0 where
  pub torn : SlotsTorn slots.place old new
  pub force : (body : SlotBody) → IsReady slots body old
      → (in_force new slots.place ≡ Some body) ⊎ (in_force new slots.place ≡ Some next)

-- the next one is, as the slots say now
pub record HasSwitched (slots now : Slots) (next : SlotBody) (old new : Image) : Type 0 where
  pub torn : SlotsTorn slots.place old new
  pub ready : (body : SlotBody) → IsReady slots body old → IsReady now next new

-- where neither slot counted, none does or this record is in force
pub record Begins (seen : Image) (place : SlotPlace) (body : SlotBody) (old new : Image)
    : Type 0 where
  pub torn : SlotsTorn place old new
  pub force : IsBlank seen place old → (in_force new place ≡ None)
      ⊎ (in_force new place ≡ Some body)

-- it is in force, as the slots say
pub record Begun (seen : Image) (slots : Slots) (body : SlotBody) (old new : Image) : Type 0 where
  pub torn : SlotsTorn slots.place old new
  pub ready : IsBlank seen slots.place old → IsReady slots body new

-- One slot

-- the other slot is as it was
pub record KeepsOther (place : SlotPlace) (slot : Slot) (old new : Image) : Type 0 where
  pub torn : SlotsTorn place old new
  pub gate : gate_in new place (other_of slot) ≡ gate_in old place (other_of slot)
  pub body : body_in new place (other_of slot) ≡ body_in old place (other_of slot)

-- the slot is closed where it is not known to be open
abbrev pub IsGateKnown : (is_open : Bool) → SlotPlace → Slot → Image → Type 0
IsGateKnown is_open place slot image = is_open ≡ false → gate_in image place slot ≢ open_gate

-- it does not count, or, where it was known to be open, holds what its body says
pub record Closes (place : SlotPlace) (slot : Slot) (is_open : Bool) (old new : Image)
    : Type 0 where
  pub keeps : KeepsOther place slot old new
  pub this : IsGateKnown is_open place slot old
      → (slot_in new place slot ≡ None) ⊎ ((is_open ≡ true)
      × (slot_in new place slot ≡ decoded_body place.device (body_in old place slot)))

-- its gate is closed
pub record Empties (place : SlotPlace) (slot : Slot) (is_open : Bool) (old new : Image)
    : Type 0 where
  pub keeps : KeepsOther place slot old new
  pub shut : IsGateKnown is_open place slot old → gate_in new place slot ≢ open_gate

-- as one of the two, or it holds the next record
pub record Replaces (place : SlotPlace) (slot : Slot) (is_open : Bool) (next : SlotBody)
    (old new : Image) : Type 0 where
  pub keeps : KeepsOther place slot old new
  pub this : IsGateKnown is_open place slot old
      → (slot_in new place slot ≡ None) ⊎
      (((is_open ≡ true) × (slot_in new place slot
      ≡ decoded_body place.device (body_in old place slot))) ⊎ (slot_in new place slot ≡ Some next))

-- it holds the next record
pub record Replaced (place : SlotPlace) (slot : Slot) (next : SlotBody) (old new : Image)
    : Type 0 where
  pub keeps : KeepsOther place slot old new
  pub this : slot_in new place slot ≡ Some next
