-- Slots and bytes of a device.
--     body_read      what a read of a slot gives
--     torn_slots, torn_keeps      what is written in one slot leaves the other
--     slot_open, slot_shut      a slot with an open gate, and with a closed one
use Rattle.std.proofs.Common.{◌≡◌, ◌≢◌, ◌⊎◌, refl, sym, ap, ◌∙◌, inl, inr, ℕ, ◌+◌, ◌*◌, ◌<◌, ◌≤◌, Bool, true, false, cond, List, length, get_or, Option, Some, None, arith}
use Rattle.std.specs.Prelude.{◌==◌}
use Rattle.std.proofs.lemmas.Bool.Decides.{eqb_tells}
use Rattle.mdb_host.proofs.Whole.{same_length}
use Rattle.mdb_model.specs.Images.{Image, bytes_of, size_of, byte_at}
use Rattle.mdb_host.specs.Disk.{Outside, Torn, Has, IsWithin}
use Rattle.mdb_host.proofs.Moments.{torn_twice}
use Rattle.mdb_bytes.specs.Groups.{open_gate}
use Rattle.mdb_bytes.specs.SlotRecords.{slot_len}
use Rattle.gate_slots.specs.declared.body.SlotBody.{SlotBody}
use Rattle.gate_slots.specs.declared.place.Slot.{Slot}
use Rattle.gate_slots.specs.declared.place.Slot.TheVariants.{First, Second}
use Rattle.gate_slots.specs.declared.place.SlotPlace.{SlotPlace}
use Rattle.gate_slots.specs.Slots.{other_of, slot_start, gate_in, body_in, decoded_body, slot_in}
use Rattle.gate_slots.specs.Steps.{SlotsTorn, KeepsOther}
use Rattle.gate_slots.proofs.Bodies.{part_same, part_is}

-- the bytes of a device that is there
length_of : (o : Option (List ℕ)) (n : ℕ) → size_of o ≡ Some n → length (bytes_of o) ≡ n
length_of None n is = absurd cc
length_of (Some bytes) n is = cc

-- both slots lie in their two pages
pub start_low : (place : SlotPlace) (slot : Slot) → 8192 * place.page ≤ slot_start place slot
start_low place First = omega arith
start_low place Second = omega arith

-- and end in them
pub start_high : (place : SlotPlace) (slot : Slot) → slot_start place slot + 8192 ≤ 8192 * place.page + 16384
start_high place First = omega arith
start_high place Second = omega arith

-- and apart from each other
slots_apart : (place : SlotPlace) (slot : Slot) → (slot_start place slot + 8192 ≤ slot_start place (other_of slot)) ⊎ (slot_start place (other_of slot) + 8192 ≤ slot_start place slot)
slots_apart place First = inl (omega arith)
slots_apart place Second = inr (omega arith)

-- what a read of a slot gives
pub body_read : (image : Image) (place : SlotPlace) (slot : Slot) (at : ℕ) (whole body : List ℕ) → IsWithin image place.device (8192 * place.page) 16384 → at ≡ slot_start place slot
    → slot_len ≤ length whole → length body ≡ slot_len → Has image place.device at whole → ((k d : ℕ) → k < slot_len → get_or body k d ≡ get_or whole k d) → body_in image place slot ≡ body
unfolding body_in
body_read image place slot at whole body within is long len has same =
    let held = bytes_of (image place.device) in
    let size : length held ≡ within.0 = length_of (image place.device) within.0 within.1 in
    part_is slot_len (slot_start place slot) held body len (omega (arith, start_high place slot, within.2, size))
    (λ k lt.
    let short : k < slot_len = omega (arith, lt, len) in
    ap (λ (n : ℕ). get_or held (n + k) 0) (sym is) ∙ has k (omega (arith, short, long)) ∙ sym (same k 0 short))

-- a body that was written
pub body_has : (image : Image) (place : SlotPlace) (slot : Slot) (at : ℕ) (body : List ℕ) → IsWithin image place.device (8192 * place.page) 16384 → at ≡ slot_start place slot
    → length body ≡ slot_len → Has image place.device at body → body_in image place slot ≡ body
body_has image place slot at body within is len has = body_read image place slot at body body within is (omega (arith, len)) len has (λ k d lt. refl)

-- a body whose bytes are the same
pub body_same : (place : SlotPlace) (slot : Slot) (old new : Image) → size_of (new place.device) ≡ size_of (old place.device)
    → ((k : ℕ) → slot_start place slot ≤ k → k < slot_start place slot + slot_len → byte_at (new place.device) k ≡ byte_at (old place.device) k)
    → body_in new place slot ≡ body_in old place slot
unfolding body_in
body_same place slot old new size same =
    part_same slot_len (slot_start place slot) (bytes_of (new place.device)) (bytes_of (old place.device)) (same_length (new place.device) (old place.device) size) same

-- a write in a slot is one in the two pages
pub torn_slots : (place : SlotPlace) (slot : Slot) (at n : ℕ) (old new : Image) → slot_start place slot ≤ at → at + n ≤ slot_start place slot + 8192 → Torn place.device at n old new
    → SlotsTorn place old new
torn_slots place slot at n old new from to torn = record {
  others = torn.others;
  size = torn.size;
  outside = λ k out. torn.outside k (narrower k out);
}
  where
    -- what is outside the pages is outside the write
    narrower : (k : ℕ) → Outside (8192 * place.page) 16384 k → Outside at n k
    narrower k (inl below) = inl (omega (arith, start_low place slot, from, below))
    narrower k (inr above) = inr (omega (arith, start_high place slot, to, above))

-- and leaves the other slot
pub torn_keeps : (place : SlotPlace) (slot : Slot) (at n : ℕ) (old new : Image) → slot_start place slot ≤ at → at + n ≤ slot_start place slot + 8192 → Torn place.device at n old new
    → KeepsOther place slot old new
torn_keeps place slot at n old new from to torn = record {
  torn = torn_slots place slot at n old new from to torn;
  gate = same (slot_start place (other_of slot) + slot_len) (omega arith) (omega arith);
  body = body_same place (other_of slot) old new torn.size (λ k low high. same k low (omega (arith, high)));
}
  where
    -- the other slot is outside the write
    beside : (k : ℕ) → slot_start place (other_of slot) ≤ k → k < slot_start place (other_of slot) + 8192 → Outside at n k
    beside k low high = elim (slots_apart place slot) [
      | inl front ↦ inr (omega (arith, front, to, low))
      | inr behind ↦ inl (omega (arith, behind, from, high))
    ]

    -- so its bytes stay
    same : (k : ℕ) → slot_start place (other_of slot) ≤ k → k < slot_start place (other_of slot) + 8192 → byte_at (new place.device) k ≡ byte_at (old place.device) k
    same k low high = torn.outside k (beside k low high)

-- nothing was written
pub slots_none : (place : SlotPlace) (a : Image) → SlotsTorn place a a
slots_none place a = record { others = λ e other. refl; size = refl; outside = λ k out. refl }

-- nothing was written to the other slot
pub keeps_none : (place : SlotPlace) (slot : Slot) (a : Image) → KeepsOther place slot a a
keeps_none place slot a = record { torn = slots_none place a; gate = refl; body = refl }

-- two writes to one slot
pub keeps_twice : (place : SlotPlace) (slot : Slot) (a b c : Image) → KeepsOther place slot a b → KeepsOther place slot b c → KeepsOther place slot a c
keeps_twice place slot a b c one two = record {
  torn = torn_twice place.device (8192 * place.page) 16384 a b c one.torn two.torn;
  gate = two.gate ∙ one.gate;
  body = two.body ∙ one.body;
}

-- the other slot holds what it held
pub other_held : (place : SlotPlace) (slot : Slot) (a b : Image) → KeepsOther place slot a b → slot_in b place (other_of slot) ≡ slot_in a place (other_of slot)
other_held place slot a b keeps = λ i. cond (keeps.gate i == open_gate) (decoded_body place.device (keeps.body i)) None

-- Gates

-- a test of two numbers that differ
not_same : (a b : ℕ) → a ≢ b → (a == b) ≡ false
not_same a b apart = elim (eqb_tells a b) [
  | inl same ↦ absurd (apart same.1)
  | inr differ ↦ differ.0
]

-- an open slot holds what its body says
pub slot_open : (image : Image) (place : SlotPlace) (slot : Slot) → gate_in image place slot ≡ open_gate → slot_in image place slot ≡ decoded_body place.device (body_in image place slot)
slot_open image place slot is = ap (λ (n : ℕ). cond (n == open_gate) (decoded_body place.device (body_in image place slot)) None) is

-- a closed slot holds no record
pub slot_shut : (image : Image) (place : SlotPlace) (slot : Slot) → gate_in image place slot ≢ open_gate → slot_in image place slot ≡ None
slot_shut image place slot shut = ap (λ (b : Bool). cond b (decoded_body place.device (body_in image place slot)) None) (not_same (gate_in image place slot) open_gate shut)

-- a slot that counts is open
pub counts_open : (image : Image) (place : SlotPlace) (slot : Slot) (body : SlotBody) → slot_in image place slot ≡ Some body
    → (gate_in image place slot ≡ open_gate) × (decoded_body place.device (body_in image place slot) ≡ Some body)
counts_open image place slot body here = elim (eqb_tells (gate_in image place slot) open_gate) [
  | inl same ↦ (same.1, sym (slot_open image place slot same.1) ∙ here)
  | inr differ ↦ let none : None ≡ Some body = sym (slot_shut image place slot differ.1) ∙ here in absurd cc
]

-- what a test of a gate tells
pub told_shut : (gate : ℕ) (is_open : Bool) → is_open ≡ (gate == open_gate) → is_open ≡ false → gate ≢ open_gate
told_shut gate is_open is shut opened =
    let opens : is_open ≡ true = is ∙ ap (λ (n : ℕ). n == open_gate) opened in
    let both : true ≡ false = sym opens ∙ shut in
    absurd cc

-- and where it tells an open gate
pub told_open : (gate : ℕ) (is_open : Bool) → is_open ≡ (gate == open_gate) → is_open ≡ true → gate ≡ open_gate
told_open gate is_open is opened = elim (eqb_tells gate open_gate) [
  | inl same ↦ same.1
  | inr differ ↦ let both : true ≡ false = sym opened ∙ is ∙ differ.0 in absurd cc
]
