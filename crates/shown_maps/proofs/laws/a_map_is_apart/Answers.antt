use Rattle.shown_maps.proofs.Apart.{blocks_apart, shares_none}
use Rattle.shown_maps.proofs.laws.a_map_is_apart.Goals as goal

pub returns-clause-apart : goal.returns-clause-apart
returns-clause-apart c = blocks_apart

pub returns-clause-own : goal.returns-clause-own
returns-clause-own c = shares_none
