use Rattle.known_needs.proofs.LoadedKnown.{loaded_known}
use Rattle.known_needs.proofs.laws.what_is_loaded_is_known.Goals as goal

pub returns : goal.returns
returns c = loaded_known
