use Rattle.known_needs.proofs.UndoKnown.{undo_is}
use Rattle.known_needs.proofs.laws.undo_is_known.Goals as goal

pub returns : goal.returns
returns c = undo_is
