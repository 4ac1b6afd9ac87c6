use Rattle.known_needs.proofs.NeedKnown.{need_is}
use Rattle.space_lines.proofs.laws.the_need_is_counted.Goals as goal

pub returns : goal.returns
returns c known w counted = need_is known w counted.known_of counted.apart
