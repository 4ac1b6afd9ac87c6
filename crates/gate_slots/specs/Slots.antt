-- Two slots of a page each: a body of 8,191 bytes, and a gate after it.
--     gate_in, body_in      the gate of a slot and the bytes of its body
--     slot_in      the record that an open slot holds
--     in_force      the record of the two that counts
--     IsSlotPlace, IsFor, KeepsBody      what calls ask of a place and a record
--     IsReady      one slot holds this record, and the other does not count beside it
--     IsBlank      neither slot counts
--     HasBody      the numbers of slots that were read
use Rattle.std.specs.Prelude.{◌≡◌, ◌≢◌, ◌⊎◌, ℕ, ◌+◌, ◌*◌, ◌^◌, ◌<◌, ◌≤◌, List, take, drop, Bool, true, false, ◌==◌, nat_lt, if◌then◌else◌, Option, Some, None, option_map}
use Rattle.mdb_model.specs.declared.fault.Device.{Device}
use Rattle.mdb_model.specs.declared.fault.Device.TheVariants.{Data, Log, Medium}
use Rattle.mdb_model.specs.Images.{Image, bytes_of, byte_at}
use Rattle.mdb_bytes.specs.Fields.{decoded}
use Rattle.mdb_bytes.specs.Groups.{open_gate}
use Rattle.mdb_bytes.specs.Parts.{KeepsLimits}
use Rattle.mdb_bytes.specs.SlotRecords.{slot_len, log_info_format, restart_format}
use Rattle.gate_slots.specs.declared.body.SlotBody.{SlotBody}
use Rattle.gate_slots.specs.declared.body.SlotBody.TheVariants.{Restart, Log as LogBody}
use Rattle.gate_slots.specs.declared.place.Slot.{Slot}
use Rattle.gate_slots.specs.declared.place.Slot.TheVariants.{First, Second}
use Rattle.gate_slots.specs.declared.place.SlotPlace.{SlotPlace}
use Rattle.gate_slots.specs.declared.slots.Slots.{Slots}

-- the slot beside one
abbrev pub other_of : Slot → Slot
other_of First = Second
other_of Second = First

-- the byte of the device at which a slot begins
abbrev pub slot_start : SlotPlace → Slot → ℕ
slot_start place First = 8192 * place.page
slot_start place Second = 8192 * (place.page + 1)

-- the last byte of a slot
abbrev pub gate_in : Image → SlotPlace → Slot → ℕ
gate_in image place slot = byte_at (image place.device) (slot_start place slot + slot_len)

-- the bytes in front of it
unfoldable pub body_in : Image → SlotPlace → Slot → List ℕ
body_in image place slot =
    take slot_len (drop (slot_start place slot) (bytes_of (image place.device)))

-- the record that the bytes of a body spell on a device, if there is one
abbrev pub decoded_body : Device → List ℕ → Option SlotBody
decoded_body (Data volume) bytes = option_map Restart (decoded restart_format bytes)
decoded_body Log bytes = option_map LogBody (decoded log_info_format bytes)
decoded_body (Medium medium) bytes = None

-- the number by which the greater record counts
abbrev pub slot_number : SlotBody → ℕ
slot_number (Restart restart) = restart.slot
slot_number (LogBody info) = info.slot

-- the record that a slot holds: none where its gate is closed, and where its body is no record
abbrev pub slot_in : Image → SlotPlace → Slot → Option SlotBody
slot_in image place slot =
    if gate_in image place slot == open_gate then decoded_body place.device
    (body_in image place slot) else None

-- of two the one with the greater number, and the first where the numbers are equal
abbrev pub greater : Option SlotBody → Option SlotBody → Option SlotBody
greater None second = second
greater (Some a) None = Some a
greater (Some a) (Some b) = if nat_lt (slot_number a) (slot_number b) then Some b else Some a

-- the record of the two slots that counts
abbrev pub in_force : Image → SlotPlace → Option SlotBody
in_force image place = greater (slot_in image place First) (slot_in image place Second)

-- What calls ask

-- the data area has restart records, and the log volume log infos
pub record IsSlotPlace (place : SlotPlace) : Type 0 where
  pub device : (place.device ≡ Data 1) ⊎ (place.device ≡ Log)
  pub page : place.page < 2 ^ 32

-- the record is of the kind that the device has
abbrev pub IsFor : Device → SlotBody → Type 0
IsFor (Data volume) (Restart restart) = Unit {0}
IsFor Log (LogBody info) = Unit {0}
IsFor (Data volume) (LogBody info) = ⊥
IsFor Log (Restart restart) = ⊥
IsFor (Medium medium) body = ⊥

-- the record keeps the limits of its format
abbrev pub KeepsBody : SlotBody → Type 0
KeepsBody (Restart restart) = KeepsLimits restart_format restart
KeepsBody (LogBody info) = KeepsLimits log_info_format info

-- the other slot does not count beside a record in this one
abbrev pub Yields : Slot → SlotBody → Option SlotBody → Type 0
Yields slot body None = Unit {0}
Yields First body (Some other) = slot_number other ≤ slot_number body
Yields Second body (Some other) = slot_number other < slot_number body

-- the other slot may be written: its gate is closed, or it is known to be open and its body would
-- not count
abbrev pub Waits : (is_open : Bool) → Slots → SlotBody → Image → Type 0
Waits true slots body image =
    Yields slots.current body (decoded_body slots.place.device
    (body_in image slots.place (other_of slots.current)))
Waits false slots body image = gate_in image slots.place (other_of slots.current) ≢ open_gate

-- The current slot is open on this record, which is then in force. The numbers are those of
-- src/slots.rt.
pub record IsReady (slots : Slots) (body : SlotBody) (image : Image) : Type 0 where
  -- (1)
  pub number : slot_number body ≡ slots.number
  -- (2)
  pub here : slot_in image slots.place slots.current ≡ Some body
  -- (3)
  pub waits : Waits slots.other_open slots body image

-- neither slot counts, and the gates are those that a read gives
pub record IsBlank (seen : Image) (place : SlotPlace) (image : Image) : Type 0 where
  pub none : (slot : Slot) → slot_in image place slot ≡ None
  pub gates : (slot : Slot) → gate_in image place slot ≡ gate_in seen place slot

-- what is known of slots that were read, whatever the host tells
pub record HasBody (at : SlotPlace) (slots : Slots) (body : SlotBody) : Type 0 where
  -- (4)
  pub place : slots.place ≡ at
  -- (1)
  pub number : slots.number ≡ slot_number body
  -- (5)
  pub kind : IsFor at.device body
  pub keeps : KeepsBody body
