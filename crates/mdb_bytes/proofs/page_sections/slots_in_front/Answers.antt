use Rattle.std.proofs.Common.{sym, ap, ◌∙◌, ◌++◌, [], ◌∷◌, arith}
use Rattle.mdb_bytes.specs.Fields.{Two, spelled, number_at}
use Rattle.mdb_bytes.proofs.NumberBytes.{as_bytes}
use Rattle.mdb_bytes.proofs.SlotFacts.{slot_longer, slot_tells, slot_there}
use Rattle.mdb_bytes.proofs.page_sections.slots_in_front.Goals as goal

pub returns-then-slots-lt2 : goal.returns-then-slots-lt2
returns-then-slots-lt2 c = λ others is. let longer = slot_longer c.args.slots.now others c.args.place is in absurd (omega arith)

pub returns-then-u16_at-place : goal.returns-then-u16_at-place
returns-then-u16_at-place c =
    λ others is. c.if-u16_at-place.true (c.u16_at.ensures ∙ ap (number_at 2 0) c.split_at.ensures.back ∙ slot_tells c.args.slots.now others c.args.place c.requires is)

pub returns : goal.returns
returns c =
    slot_there c.args.slots.now c.args.place (as_bytes c.args.slots.now c.type_inv.slots) c.if-slots-lt2.false
    (sym (c.u16_at.ensures ∙ ap (number_at 2 0) c.split_at.ensures.back) ∙ c.if-u16_at-place.false)
    ∙ ap (λ t. t ++ spelled (Two c.args.place ∷ [])) (sym c.split_at.ensures.front)
