use Rattle.standing.proofs.Untold.{untold_moves}
use Rattle.standing.proofs.savepoint.an_untold_point_moves.Goals as goal

pub returns : goal.returns
returns c = untold_moves
