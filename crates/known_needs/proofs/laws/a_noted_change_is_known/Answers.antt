use Rattle.known_needs.proofs.NotedKnown.{noted_known}
use Rattle.known_needs.proofs.laws.a_noted_change_is_known.Goals as goal

pub returns : goal.returns
returns c known w session change is inside = noted_known known w session change is inside
