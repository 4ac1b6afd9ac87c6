use Rattle.known_needs.proofs.EndedKnown.{rollback_known}
use Rattle.known_needs.proofs.laws.a_rollback_is_known.Goals as goal

pub returns : goal.returns
returns c known w session is = rollback_known known w session is
