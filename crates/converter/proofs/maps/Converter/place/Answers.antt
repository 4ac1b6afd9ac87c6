use Rattle.std.proofs.Common.{◌-◌, ◌∙◌, length, length-set, ap, arith, subst}
use Rattle.converter.specs.Maps.{Maps, IsUsed}
use Rattle.converter.proofs.Followed.{loaded_on, tracked_set, tracked_own}
use Rattle.converter.proofs.maps.Converter.place.Goals as goal

pub invariant_of-self : goal.invariant_of-self
invariant_of-self c =
    let old = c.self.view_is in
    let long = ap (λ (m : Maps). length m.owner) old in
    let conv = ap (λ (m : Maps). m.conv) old in
    let bound = c.self.invariant.sound.bound in
    loaded_on _ _ _ _ c.self.invariant c.args.place c.args.entry _ (ap (λ (m : Maps). m.frozen_at) old ∙ c.requires.thawed) c.requires.block.0 (omega (arith, c.requires.block.1, long)) c.requires.stamp
    (λ le. c.requires.fits (omega (arith, le, conv))) (omega (arith, c.requires.place, long, conv)) (λ used. c.requires.unused (subst (λ (m : Maps). IsUsed m c.args.entry.block) old used))
    (length-set c.self.inside.frozen.behind _ _ ∙ c.self.invariant.room_flags)
    (tracked_set c.self.inside.conv (c.args.place - c.self.inside.conv) c.self.inside.present.items c.self.inside.frozen.entries.items c.self.inside.frozen.behind c.args.place c.args.entry (omega arith)
    (omega (arith, c.self.invariant.room_flags, bound, c.requires.place, long, conv)) c.self.invariant.stored)

pub invariant_of-self-else-place-self : goal.invariant_of-self-else-place-self
invariant_of-self-else-place-self c =
    let old = c.self.view_is in
    let long = ap (λ (m : Maps). length m.owner) old in
    let conv = ap (λ (m : Maps). m.conv) old in
    loaded_on _ _ _ _ c.self.invariant c.args.place c.args.entry _ (ap (λ (m : Maps). m.frozen_at) old ∙ c.requires.thawed) c.requires.block.0 (omega (arith, c.requires.block.1, long)) c.requires.stamp
    (λ le. c.requires.fits (omega (arith, le, conv))) (omega (arith, c.requires.place, long, conv)) (λ used. c.requires.unused (subst (λ (m : Maps). IsUsed m c.args.entry.block) old used))
    c.self.invariant.room_flags
    (tracked_own c.self.inside.conv c.self.inside.present.items c.self.inside.frozen.entries.items c.self.inside.frozen.behind c.args.place c.args.entry (omega arith) c.self.invariant.stored)
