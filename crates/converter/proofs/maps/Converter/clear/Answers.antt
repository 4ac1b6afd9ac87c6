use Rattle.std.proofs.Common.{length, ap, refl, arith}
use Rattle.converter.specs.Maps.{Maps}
use Rattle.converter.proofs.Followed.{cleared_on}
use Rattle.converter.proofs.maps.Converter.clear.Goals as goal

pub invariant_of-self : goal.invariant_of-self
invariant_of-self c = cleared_on _ _ _ _ c.self.invariant c.args.page _ refl (omega (arith, ap (λ (m : Maps). length m.owner) c.self.view_is))
