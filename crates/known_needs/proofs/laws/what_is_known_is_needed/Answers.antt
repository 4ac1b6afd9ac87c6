use Rattle.known_needs.proofs.NeedKnown.{need_is}
use Rattle.known_needs.proofs.laws.what_is_known_is_needed.Goals as goal

pub returns : goal.returns
returns c = need_is
