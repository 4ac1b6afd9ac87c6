use Rattle.std.proofs.Common.{◌∙◌, ap, refl}
use Rattle.converter.specs.declared.kept.KeptMap.{KeptMap}
use Rattle.converter.specs.Maps.{Maps}
use Rattle.converter.proofs.Sound.{saved_apart, saved_taken}
use Rattle.converter.proofs.Followed.{settled_on}
use Rattle.converter.proofs.maps.Converter.settle.Goals as goal

pub give_left-requires-clause-apart : goal.give_left-requires-clause-apart
give_left-requires-clause-apart c = saved_apart _ _ refl c.self.invariant.sound

pub give_left-requires-clause-taken : goal.give_left-requires-clause-taken
give_left-requires-clause-taken c = saved_taken c.args.self.now _ _ (ap (λ (m : Maps). m.saved) c.self.view_is) c.requires.unused

pub invariant_of-self : goal.invariant_of-self
invariant_of-self c =
    settled_on _ _ _ _ c.self.invariant c.args.map.savepoint _ _ _ _ (ap (λ (m : Maps). m.frozen_at) c.self.view_is ∙ c.requires.frozen) refl
    (ap (λ (k : KeptMap). k.entries.items) c.swap.ensures.x_after) (ap (λ (k : KeptMap). k.entries.items) c.swap.ensures.y_after)
    (ap (λ (k : KeptMap). k.behind) c.swap.ensures.x_after) (ap (λ (k : KeptMap). k.behind) c.swap.ensures.y_after)
