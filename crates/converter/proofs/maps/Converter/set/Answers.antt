use Rattle.std.proofs.Common.{◌≡◌, ℕ, ◌+◌, length, ap, refl, arith, subst}
use Rattle.converter.specs.Maps.{Maps, HasAt}
use Rattle.converter.proofs.Followed.{set_on, entry_fits}
use Rattle.converter.proofs.maps.Converter.set.Goals as goal

pub invariant_of-self : goal.invariant_of-self
invariant_of-self c =
    let old = c.self.view_is in
    let long = ap (λ (m : Maps). length m.owner) old in
    set_on _ _ _ _ c.self.invariant c.args.page _ c.args.entry refl (omega (arith, long)) c.requires.block.0 (omega (arith, c.requires.block.1, long)) c.requires.stamp.1 (entry_fits c.args.entry c.requires.block.0 c.requires.stamp.0)
    (λ q has. subst (λ (m : Maps). (q' : ℕ) → q' ≡ m.conv + c.args.page → q' ≡ c.self.inside.conv + c.args.page) old (λ q' e. e) q (c.requires.alone q (subst (λ (m : Maps). HasAt m q c.args.entry.block) old has)))
