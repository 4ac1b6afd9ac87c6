use Rattle.std.proofs.Common.{◌∙◌}
use Rattle.space_rule.specs.Spaces.{known_costs}
use Rattle.known_needs.proofs.NeedKnown.{need_is}
use Rattle.space_lines.proofs.ending.info_need.Goals as goal

pub returns-clause-world : goal.returns-clause-world
returns-clause-world c w counted = c.need.ensures ∙ need_is (known_costs c.args.space.now) w counted.known_of counted.apart
