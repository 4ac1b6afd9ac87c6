use Rattle.shown_maps.proofs.Unbroken.{unbroken}
use Rattle.shown_maps.proofs.laws.no_rule_is_broken.Goals as goal

pub returns : goal.returns
returns c sizes row conv n root kept conv_is shown apart damage breaks = unbroken sizes row conv n root kept conv_is shown apart damage breaks
