use Rattle.std.proofs.Common.{◌∙◌, length, ap, refl, arith, subst}
use Rattle.converter.specs.Maps.{Maps, IsUsed}
use Rattle.converter.proofs.Followed.{own_on}
use Rattle.converter.proofs.maps.Converter.set_own.Goals as goal

pub invariant_of-self : goal.invariant_of-self
invariant_of-self c =
    let old = c.self.view_is in
    let long = ap (λ (m : Maps). length m.owner) old in
    own_on _ _ _ _ c.self.invariant c.args.place c.args.savepoint c.args.entry (omega (arith, c.requires.place, ap (λ (m : Maps). m.conv) old)) (ap (λ (m : Maps). m.frozen_at) old ∙ c.requires.frozen) refl
    c.requires.block.0 (omega (arith, c.requires.block.1, long)) c.requires.stamp (λ used. c.requires.unused (subst (λ (m : Maps). IsUsed m c.args.entry.block) old used))
