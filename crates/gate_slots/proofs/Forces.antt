-- Which of two slots is in force.
--     ready_force      slots that are ready have their record in force
--     switches, switched      what a switch leaves
--     begins, begun      what the first record leaves
use Rattle.std.proofs.Common.{◌≡◌, ◌≢◌, refl, sym, ap, subst, ◌∙◌, inl, inr, ℕ, ◌+◌, ◌<◌, ◌≤◌, Bool, true, false, cond, List, Option, Some, None, arith}
use Rattle.std.specs.Prelude.{nat_lt, ◌==◌}
use Rattle.std.proofs.lemmas.Bool.{cases_eq, cases_Bool, lt-ltb, ltb-true}
use Rattle.mdb_model.specs.Images.{Image}
use Rattle.mdb_host.specs.Disk.{Disk, Goes, Arrives, Agree}
use Rattle.mdb_host.proofs.Moments.{chain, widen, same_image}
use Rattle.mdb_bytes.specs.Groups.{open_gate}
use Rattle.gate_slots.specs.declared.body.SlotBody.{SlotBody}
use Rattle.gate_slots.specs.declared.place.Slot.{Slot}
use Rattle.gate_slots.specs.declared.place.Slot.TheVariants.{First, Second}
use Rattle.gate_slots.specs.declared.place.SlotPlace.{SlotPlace}
use Rattle.gate_slots.specs.declared.slots.Slots.{Slots}
use Rattle.gate_slots.specs.Slots.{other_of, gate_in, body_in, decoded_body, slot_number, slot_in, greater, in_force, Yields, Waits, IsReady, IsBlank}
use Rattle.gate_slots.specs.Steps.{SlotsTorn, KeepsOther, IsGateKnown, Replaces, Replaced, Switches, HasSwitched, Begins, Begun}
use Rattle.gate_slots.proofs.Places.{slots_none, other_held, slot_open, slot_shut, counts_open, told_shut, told_open}
-- crates above cite it from here
pub use Rattle.mdb_host.proofs.Moments.{agree_on}

-- the slot beside the slot beside one
other_twice : (slot : Slot) → other_of (other_of slot) ≡ slot
other_twice First = refl
other_twice Second = refl

-- a test of numbers that holds, and one that does not
less_true : (a b : ℕ) → a < b → nat_lt a b ≡ true
less_true a b lt = lt-ltb a b lt

-- a test of numbers that does not hold
less_false : (a b : ℕ) → b ≤ a → nat_lt a b ≡ false
less_false a b le = elim (cases_Bool (nat_lt a b)) [
  | inl less ↦ absurd (omega (arith, le, ltb-true a b less))
  | inr more ↦ more
]

-- the record of one slot counts beside one that yields
yields_first : (body : SlotBody) (other : Option SlotBody) → Yields First body other → greater (Some body) other ≡ Some body
yields_first body None yields = refl
yields_first body (Some other) yields = ap (λ (b : Bool). cond b (Some other) (Some body)) (less_false (slot_number body) (slot_number other) yields)

-- the same of the second slot
yields_second : (body : SlotBody) (other : Option SlotBody) → Yields Second body other → greater other (Some body) ≡ Some body
yields_second body None yields = refl
yields_second body (Some other) yields = ap (λ (b : Bool). cond b (Some body) (Some other)) (less_true (slot_number other) (slot_number body) yields)

-- a record beside which the other yields is in force
pub yields_force : (image : Image) (place : SlotPlace) (slot : Slot) (body : SlotBody) → slot_in image place slot ≡ Some body → Yields slot body (slot_in image place (other_of slot))
    → in_force image place ≡ Some body
yields_force image place First body here yields = ap (λ (o : Option SlotBody). greater o (slot_in image place Second)) here ∙ yields_first body (slot_in image place Second) yields
yields_force image place Second body here yields = ap (greater (slot_in image place First)) here ∙ yields_second body (slot_in image place First) yields

-- a lesser number yields
less_yields : (slot : Slot) (body other : SlotBody) → slot_number other < slot_number body → Yields slot body (Some other)
less_yields First body other lt = omega (arith, lt)
less_yields Second body other lt = lt

-- a body that would yield does, whether its slot is open or not
yields_held : (image : Image) (place : SlotPlace) (slot other : Slot) (body : SlotBody) → Yields slot body (decoded_body place.device (body_in image place other)) → Yields slot body (slot_in image place other)
yields_held image place slot other body yields = elim (cases_eq (gate_in image place other) open_gate) [
  | inl is ↦ subst (λ (o : Option SlotBody). Yields slot body o) (sym (slot_open image place other is)) yields
  | inr shut ↦ subst (λ (o : Option SlotBody). Yields slot body o) (sym (slot_shut image place other shut)) (yields_none slot body)
]
  where
    -- no record yields
    yields_none : (slot : Slot) (body : SlotBody) → Yields slot body None
    yields_none First body = tt
    yields_none Second body = tt

-- a slot that holds no record yields
none_yields : (image : Image) (place : SlotPlace) (slot other : Slot) (body : SlotBody) → slot_in image place other ≡ None → Yields slot body (slot_in image place other)
none_yields image place First other body none = subst (λ (o : Option SlotBody). Yields First body o) (sym none) tt
none_yields image place Second other body none = subst (λ (o : Option SlotBody). Yields Second body o) (sym none) tt

-- a slot that may be written yields
waits_yields : (slots : Slots) (body : SlotBody) (image : Image) (is_open : Bool) → Waits is_open slots body image → Yields slots.current body (slot_in image slots.place (other_of slots.current))
waits_yields slots body image true yields = yields_held image slots.place slots.current (other_of slots.current) body yields
waits_yields slots body image false shut = none_yields image slots.place slots.current (other_of slots.current) body (slot_shut image slots.place (other_of slots.current) shut)

-- the record of slots that are ready is in force
pub ready_force : (slots : Slots) (body : SlotBody) (image : Image) → IsReady slots body image → in_force image slots.place ≡ Some body
ready_force slots body image ready = yields_force image slots.place slots.current body ready.here (waits_yields slots body image slots.other_open ready.waits)

-- A switch

module _ (slots : Slots) (next : SlotBody) (a b : Image) where
  -- the slot that is written
  abbrev target : Slot
  target = other_of slots.current

  -- it is closed where it is not known to be open
  waits_told : (body : SlotBody) → Waits slots.other_open slots body a → IsGateKnown slots.other_open slots.place target a
  waits_told body waits shut = let P : Bool → Type 0 = λ o. Waits o slots body a in subst P shut waits

  -- where it is known to be open, its body would yield
  waits_open : (body : SlotBody) → Waits slots.other_open slots body a → slots.other_open ≡ true → Yields slots.current body (decoded_body slots.place.device (body_in a slots.place target))
  waits_open body waits opens = let P : Bool → Type 0 = λ o. Waits o slots body a in subst P opens waits

  -- the current slot holds what it held
  still_here : KeepsOther slots.place target a b → (body : SlotBody) → slot_in a slots.place slots.current ≡ Some body → slot_in b slots.place slots.current ≡ Some body
  still_here keeps body here =
      subst (λ (s : Slot). slot_in b slots.place s ≡ slot_in a slots.place s) (other_twice slots.current) (other_held slots.place target a b keeps) ∙ here

  -- the next record is in force where its slot holds it
  next_force : (body : SlotBody) → slot_number body < slot_number next → slot_in b slots.place slots.current ≡ Some body → slot_in b slots.place target ≡ Some next → in_force b slots.place ≡ Some next
  next_force body lt here there =
      yields_force b slots.place target next there
      (subst (λ (s : Slot). Yields target next (slot_in b slots.place s)) (sym (other_twice slots.current))
      (subst (λ (o : Option SlotBody). Yields target next o) (sym here) (less_yields target next body lt)))

  module _ (one_more : slot_number next ≡ slots.number + 1) where
    -- at each moment the record that was in force is, or the next one
    pub switches : Replaces slots.place target slots.other_open next a b → Switches slots next a b
    switches step = record {
      torn = step.keeps.torn;
      force = λ body ready.
          let here = still_here step.keeps body ready.here in
          elim (step.this (waits_told body ready.waits)) [
            | inl none ↦ inl (yields_force b slots.place slots.current body here (none_yields b slots.place slots.current target body none))
            | inr (inl (opens, held)) ↦ inl (yields_force b slots.place slots.current body here (subst (λ (o : Option SlotBody). Yields slots.current body o) (sym held) (waits_open body ready.waits opens)))
            | inr (inr there) ↦ inr (next_force body (omega (arith, one_more, ready.number)) here there)
          ];
    }

    -- after it the next one is
    pub switched : (now : Slots) → now ≡ record slots { number = slots.number + 1; current = target; other_open = true } → Replaced slots.place target next a b → HasSwitched slots now next a b
    switched now is step = record {
      torn = step.keeps.torn;
      ready = λ body ready. subst (λ (s : Slots). IsReady s next b) (sym is) (record {
        number = one_more;
        here = step.this;
        waits =
            let old = counts_open a slots.place slots.current body ready.here in
            let bytes : body_in b slots.place slots.current ≡ body_in a slots.place slots.current =
            subst (λ (s : Slot). body_in b slots.place s ≡ body_in a slots.place s) (other_twice slots.current) step.keeps.body in
            let is_body : decoded_body slots.place.device (body_in b slots.place slots.current) ≡ Some body = ap (λ (l : List ℕ). decoded_body slots.place.device l) bytes ∙ old.1 in
            subst (λ (s : Slot). Yields target next (decoded_body slots.place.device (body_in b slots.place s))) (sym (other_twice slots.current))
            (subst (λ (o : Option SlotBody). Yields target next o) (sym is_body) (less_yields target next body (omega (arith, one_more, ready.number))));
      });
    }

-- The first record

module _ (seen : Image) (place : SlotPlace) (body : SlotBody) (a b : Image) (first_open : Bool) (first_is : first_open ≡ (gate_in seen place First == open_gate)) where
  -- the first slot is closed where a read does not give an open gate
  blank_told : IsBlank seen place a → IsGateKnown first_open place First a
  blank_told blank shut = subst (λ (n : ℕ). n ≢ open_gate) (sym (blank.gates First)) (told_shut (gate_in seen place First) first_open first_is shut)

  -- an open gate on no record
  blank_body : IsBlank seen place a → (slot : Slot) (is_open : Bool) → is_open ≡ (gate_in seen place slot == open_gate) → is_open ≡ true → decoded_body place.device (body_in a place slot) ≡ None
  blank_body blank slot is_open is opens =
      sym (slot_open a place slot (blank.gates slot ∙ told_open (gate_in seen place slot) is_open is opens)) ∙ blank.none slot

  -- the second slot still holds no record
  second_none : KeepsOther place First a b → IsBlank seen place a → slot_in b place Second ≡ None
  second_none keeps blank = other_held place First a b keeps ∙ blank.none Second

  -- of no records none counts
  both_none : (first second : Option SlotBody) → first ≡ None → second ≡ None → greater first second ≡ None
  both_none first second one two = λ i. greater (one i) (two i)

  -- the record of the first slot counts alone
  first_alone : slot_in b place First ≡ Some body → slot_in b place Second ≡ None → in_force b place ≡ Some body
  first_alone here none = λ i. greater (here i) (none i)

  -- at each moment no record is in force, or the first one
  pub begins : Replaces place First first_open body a b → Begins seen place body a b
  begins step = record {
    torn = step.keeps.torn;
    force = λ blank.
        let second = second_none step.keeps blank in
        elim (step.this (blank_told blank)) [
          | inl none ↦ inl (both_none _ _ none second)
          | inr (inl (opens, held)) ↦ inl (both_none _ _ (held ∙ blank_body blank First first_open first_is opens) second)
          | inr (inr there) ↦ inr (first_alone there second)
        ];
  }

  -- where nothing was written yet
  pub begins_calm : Agree a b → Begins seen place body a b
  begins_calm same = record {
    torn = subst (λ (x : Image). SlotsTorn place a x) (same_image a b same) (slots_none place a);
    force = λ blank. inl (subst (λ (x : Image). in_force x place ≡ None) (same_image a b same) (both_none _ _ (blank.none First) (blank.none Second)));
  }

  module _ (second_open : Bool) (second_is : second_open ≡ (gate_in seen place Second == open_gate)) (number : slot_number body ≡ 1) where
    -- the second slot may be written by the next switch
    second_waits : KeepsOther place First a b → IsBlank seen place a → (is_open : Bool) → is_open ≡ second_open
        → Waits is_open (record { place = place; number = 1; current = First; other_open = second_open }) body b
    second_waits keeps blank true is =
        let none : decoded_body place.device (body_in b place Second) ≡ None =
        ap (λ (l : List ℕ). decoded_body place.device l) keeps.body ∙ blank_body blank Second second_open second_is (sym is) in
        subst (λ (o : Option SlotBody). Yields First body o) (sym none) tt
    second_waits keeps blank false is =
        subst (λ (n : ℕ). n ≢ open_gate) (sym (keeps.gate ∙ blank.gates Second)) (told_shut (gate_in seen place Second) second_open second_is (sym is))

    -- after it the first record is in force
    pub begun : Replaced place First body a b → Begun seen (record { place = place; number = 1; current = First; other_open = second_open }) body a b
    begun step = record {
      torn = step.keeps.torn;
      ready = λ blank. record {
        number = number;
        here = step.this;
        waits = second_waits step.keeps blank second_open refl;
      };
    }

-- A whole call of `first`: reads, and then the writes

module _ (seen : Image) (place : SlotPlace) (body : SlotBody) (first_open : Bool) (first_is : first_open ≡ (gate_in seen place First == open_gate)) (d0 d1 d2 : Disk) (calm : Goes d0 d1 Agree) where
  -- at each moment
  pub first_goes : Goes d1 d2 (Replaces place First first_open body) → Goes d0 d2 (Begins seen place body)
  first_goes goes = chain d0 d1 d2 _ _ _ calm goes (λ a b left same. begins_calm seen place body a b first_open first_is same)
      (λ a b c left same left2 step. subst (λ (x : Image). Begins seen place body x c) (sym (same_image a b same)) (begins seen place body b c first_open first_is step))

  -- after it
  pub first_arrives : (second_open : Bool) → second_open ≡ (gate_in seen place Second == open_gate) → slot_number body ≡ 1 → Arrives d1 d2 (Replaced place First body)
      → Arrives d0 d2 (Begun seen (record { place = place; number = 1; current = First; other_open = second_open }) body)
  first_arrives second_open second_is number there image left =
      let b = there image left in
      let a = calm.since d1.now b.0 calm.keeps.later (omega arith) b.1 in (
        a.0,
        a.1,
        subst (λ (x : Image). Begun seen (record { place = place; number = 1; current = First; other_open = second_open }) body x image) (sym (same_image a.0 b.0 a.2))
            (begun seen place body b.0 image first_open first_is second_open second_is number b.2),
      )

-- the same from an image that agrees
pub slots_after : (place : SlotPlace) (a b c : Image) → Agree a b → SlotsTorn place b c → SlotsTorn place a c
slots_after place a b c same torn = subst (λ (x : Image). SlotsTorn place x c) (sym (same_image a b same)) torn

-- A whole call of `switch`

module _ (slots : Slots) (next : SlotBody) (one_more : slot_number next ≡ slots.number + 1) (slot : Slot) (slot_is : slot ≡ other_of slots.current) (d0 d1 : Disk) where
  -- at each moment
  pub switch_goes : Goes d0 d1 (Replaces slots.place slot slots.other_open next) → Goes d0 d1 (Switches slots next)
  switch_goes goes =
      widen d0 d1 (Replaces slots.place (other_of slots.current) slots.other_open next) (Switches slots next)
      (subst (λ (s : Slot). Goes d0 d1 (Replaces slots.place s slots.other_open next)) slot_is goes) (λ a b left step. switches slots next a b one_more step)

  -- after it
  pub switch_arrives : (number : ℕ) → number ≡ slot_number next → Arrives d0 d1 (Replaced slots.place slot next)
      → Arrives d0 d1 (HasSwitched slots (record { place = slots.place; number = number; current = slot; other_open = true }) next)
  switch_arrives number number_is there image left =
      let a = there image left in (
        a.0,
        a.1,
        switched slots next a.0 image one_more (record { place = slots.place; number = number; current = slot; other_open = true })
            (λ i. record { place = slots.place; number = (number_is ∙ one_more) i; current = slot_is i; other_open = true })
            (subst (λ (s : Slot). Replaced slots.place s next a.0 image) slot_is a.2),
      )
