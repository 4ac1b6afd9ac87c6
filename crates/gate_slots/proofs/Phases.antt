-- What the phases of a write to one slot leave.
--     closing, shut_arrives      the gate is closed
--     writes      then the body is written
--     replaces, replaced_arrives      then the gate is opened
use Rattle.std.proofs.Common.{◌≡◌, refl, sym, ap, ◌∙◌, inl, inr, ℕ, ◌+◌, ◌≤◌, Bool, true, List, [], ◌∷◌, Some, arith}
use Rattle.std.proofs.lemmas.Bool.{cases_eq, cases_lt}
use Rattle.mdb_model.specs.declared.fault.Device.{Device}
use Rattle.mdb_model.specs.Images.{Image, size_of, byte_at}
use Rattle.mdb_host.specs.Disk.{Disk, Goes, Arrives, Torn, Has, IsWithin}
use Rattle.mdb_host.proofs.Moments.{Step, keeps_on}
use Rattle.mdb_bytes.specs.Groups.{open_gate}
use Rattle.mdb_bytes.specs.SlotRecords.{slot_len}
use Rattle.gate_slots.specs.declared.body.SlotBody.{SlotBody}
use Rattle.gate_slots.specs.declared.place.Slot.{Slot}
use Rattle.gate_slots.specs.declared.place.SlotPlace.{SlotPlace}
use Rattle.gate_slots.specs.Slots.{slot_start, gate_in, body_in, decoded_body, slot_in}
use Rattle.gate_slots.specs.Steps.{Closes, Empties, Replaces, Replaced}
use Rattle.gate_slots.proofs.Places.{body_same, torn_keeps, keeps_twice, slot_open, slot_shut}

-- Runs of calls

-- a further run, where more is known of the moment between
pub chain_on : (old mid new : Disk) (early first second step : Step) → Goes old mid early → Arrives old mid first → Goes mid new second
    → ((a b : Image) → early a b → step a b)
    → ((a b c : Image) → first a b → mid.may_leave mid.now b → second b c → step a c)
    → Goes old new step
chain_on old mid new early first second step one here two before after = record {
  keeps = keeps_on old mid new one.keeps two.keeps;
  since = each;
  quiet = quiet;
}
  where
    -- at each moment
    each : (t : ℕ) (image : Image) → old.now ≤ t → t ≤ new.now → new.may_leave t image → (a : Image) × old.may_leave old.now a × step a image
    each t image from to left = elim (cases_lt t mid.now) [
      | inl lt ↦
          let a = one.since t image from (omega arith) (two.keeps.no_more t image (omega arith) left) in
          (a.0, a.1, before a.0 image a.2)
      | inr ge ↦
          let b = two.since t image ge to left in
          let a = here b.0 b.1 in
          (a.0, a.1, after a.0 b.0 image a.2 b.1 b.2)
    ]

    -- nothing is said
    quiet : (t : ℕ) → old.now ≤ t → t ≤ new.now → new.said t ≡ old.said old.now
    quiet t from to = elim (cases_lt t mid.now) [
      | inl lt ↦ two.keeps.said t (omega arith) ∙ one.quiet t from (omega arith)
      | inr ge ↦ two.quiet t ge to ∙ one.quiet mid.now one.keeps.later (omega arith)
    ]

-- what is left after a further run
pub arrive_on : (old mid new : Disk) (first second step : Step) → Arrives old mid first → Goes mid new second
    → ((a b c : Image) → first a b → mid.may_leave mid.now b → second b c → new.may_leave new.now c → step a c) → Arrives old new step
arrive_on old mid new first second step here two after image left =
    let b = two.since new.now image two.keeps.later (omega arith) left in
    let a = here b.0 b.1 in
    (a.0, a.1, after a.0 b.0 image a.2 b.1 b.2 left)

-- an image has the room that a read has
pub within_image : (seen image : Image) (device : Device) (at n : ℕ) → IsWithin seen device at n → size_of (image device) ≡ size_of (seen device) → IsWithin image device at n
within_image seen image device at n within size = (within.0, size ∙ within.1, within.2)

-- One slot

module _ (place : SlotPlace) (slot : Slot) where
  -- the byte at the place of a gate
  gate_byte : (image : Image) (value : ℕ) → Has image place.device (slot_start place slot + slot_len) (value ∷ []) → gate_in image place slot ≡ value
  gate_byte image value has =
      let e : slot_start place slot + slot_len ≡ slot_start place slot + slot_len + 0 = omega arith in
      ap (λ (k : ℕ). byte_at (image place.device) k) e ∙ has 0 (omega arith)

  -- a gate alone leaves the body
  body_left : (a b : Image) → Torn place.device (slot_start place slot + slot_len) 1 a b → body_in b place slot ≡ body_in a place slot
  body_left a b torn = body_same place slot a b torn.size (λ k low high. torn.outside k (inl high))

  -- the first phase
  pub closing : (a b : Image) → Torn place.device (slot_start place slot + slot_len) 1 a b → Closes place slot true a b
  closing a b torn = record {
    keeps = torn_keeps place slot (slot_start place slot + slot_len) 1 a b (omega arith) (omega arith) torn;
    this = λ told. elim (cases_eq (gate_in b place slot) open_gate) [
      | inl is ↦ inr (refl, slot_open b place slot is ∙ ap (λ (bytes : List ℕ). decoded_body place.device bytes) (body_left a b torn))
      | inr shut ↦ inl (slot_shut b place slot shut)
    ];
  }

  -- after the first phase the gate is closed
  pub shut_arrives : (old new : Disk) → Goes old new (Torn place.device (slot_start place slot + slot_len) 1)
      → ((image : Image) → new.may_leave new.now image → Has image place.device (slot_start place slot + slot_len) (0 ∷ [])) → Arrives old new (Empties place slot true)
  shut_arrives old new goes kept image left =
      let a = goes.since new.now image goes.keeps.later (omega arith) left in
      let zero_is : gate_in image place slot ≡ 0 = gate_byte image 0 (kept image left) in (
        a.0,
        a.1,
        record {
          keeps = torn_keeps place slot (slot_start place slot + slot_len) 1 a.0 image (omega arith) (omega arith) a.2;
          shut = λ told opened. omega (arith, zero_is, opened);
        },
      )

  -- after the third it is open
  pub opened_gate : (image : Image) → Has image place.device (slot_start place slot + slot_len) (79 ∷ []) → gate_in image place slot ≡ open_gate
  opened_gate image has = gate_byte image 79 has

  module _ (is_open : Bool) where
    -- the second: a body after a closed gate
    pub writes : (a b c : Image) → Empties place slot is_open a b → Torn place.device (slot_start place slot) slot_len b c → Empties place slot is_open a c
    writes a b c empty torn = record {
      keeps = keeps_twice place slot a b c empty.keeps (torn_keeps place slot (slot_start place slot) slot_len b c (omega arith) (omega arith) torn);
      shut = λ told opened. empty.shut told (sym (torn.outside (slot_start place slot + slot_len) (inr (omega arith))) ∙ opened);
    }

    module _ (next : SlotBody) where
      -- the first phase as a part of the whole
      pub closes_replaces : (a b : Image) → Closes place slot is_open a b → Replaces place slot is_open next a b
      closes_replaces a b closes = record {
        keeps = closes.keeps;
        this = λ told. elim (closes.this told) [
          | inl none ↦ inl none
          | inr held ↦ inr (inl held)
        ];
      }

      -- the second phase as a part of the whole
      pub empties_replaces : (a b : Image) → Empties place slot is_open a b → Replaces place slot is_open next a b
      empties_replaces a b empty = record { keeps = empty.keeps; this = λ told. inl (slot_shut b place slot (empty.shut told)) }

      -- the third: the gate is opened on the body that is kept
      opened_holds : (b c : Image) → decoded_body place.device (body_in b place slot) ≡ Some next → Torn place.device (slot_start place slot + slot_len) 1 b c → gate_in c place slot ≡ open_gate
          → slot_in c place slot ≡ Some next
      opened_holds b c body torn is = slot_open c place slot is ∙ ap (λ (bytes : List ℕ). decoded_body place.device bytes) (body_left b c torn) ∙ body

      -- the third phase as a part of the whole
      opens : (a b c : Image) → Empties place slot is_open a b → decoded_body place.device (body_in b place slot) ≡ Some next → Torn place.device (slot_start place slot + slot_len) 1 b c
          → Replaces place slot is_open next a c
      opens a b c empty body torn = record {
        keeps = keeps_twice place slot a b c empty.keeps (torn_keeps place slot (slot_start place slot + slot_len) 1 b c (omega arith) (omega arith) torn);
        this = λ told. elim (cases_eq (gate_in c place slot) open_gate) [
          | inl is ↦ inr (inr (opened_holds b c body torn is))
          | inr shut ↦ inl (slot_shut c place slot shut)
        ];
      }

      module _ (d0 d1 d2 : Disk) (one : Goes d0 d1 (Closes place slot is_open)) (shut : Arrives d0 d1 (Empties place slot is_open)) (two : Goes d1 d2 (Torn place.device (slot_start place slot) slot_len)) where
        -- at each moment up to the second phase
        pub written : Goes d0 d2 (Replaces place slot is_open next)
        written = chain_on d0 d1 d2 _ (Empties place slot is_open) _ _ one shut two closes_replaces (λ a b c empty left torn. empties_replaces a c (writes a b c empty torn))

        -- after the second phase
        still_shut : Arrives d0 d2 (Empties place slot is_open)
        still_shut = arrive_on d0 d1 d2 (Empties place slot is_open) _ _ shut two (λ a b c empty left torn left2. writes a b c empty torn)

        module _ (d3 : Disk) (kept : (image : Image) → d2.may_leave d2.now image → decoded_body place.device (body_in image place slot) ≡ Some next)
            (three : Goes d2 d3 (Torn place.device (slot_start place slot + slot_len) 1)) where
          -- at each moment of the whole
          pub replaces : Goes d0 d3 (Replaces place slot is_open next)
          replaces = chain_on d0 d2 d3 _ (Empties place slot is_open) _ _ written still_shut three (λ a b step. step) (λ a b c empty left torn. opens a b c empty (kept b left) torn)

          -- after the whole
          pub replaced_arrives : ((image : Image) → d3.may_leave d3.now image → gate_in image place slot ≡ open_gate) → Arrives d0 d3 (Replaced place slot next)
          replaced_arrives opened = arrive_on d0 d2 d3 (Empties place slot is_open) _ _ still_shut three (λ a b c empty left torn left2. record {
            keeps = keeps_twice place slot a b c empty.keeps (torn_keeps place slot (slot_start place slot + slot_len) 1 b c (omega arith) (omega arith) torn);
            this = opened_holds b c (kept b left) torn (opened c left2);
          })
