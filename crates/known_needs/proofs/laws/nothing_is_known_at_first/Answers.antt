use Rattle.known_needs.proofs.FirstKnown.{first_known}
use Rattle.known_needs.proofs.laws.nothing_is_known_at_first.Goals as goal

pub returns : goal.returns
returns c = first_known
