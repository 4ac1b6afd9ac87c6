use Rattle.known_needs.proofs.PagesKnown.{pages_are}
use Rattle.known_needs.proofs.laws.pages_are_known.Goals as goal

pub returns : goal.returns
returns c = pages_are
