use Rattle.known_needs.proofs.EndedKnown.{commit_known}
use Rattle.known_needs.proofs.laws.a_commit_is_known.Goals as goal

pub returns : goal.returns
returns c known w session is apart many = commit_known known w session is apart many
