use Rattle.standing.proofs.Idle.{idle_law}
use Rattle.standing.proofs.savepoint.an_idle_savepoint_stands.Goals as goal

pub returns : goal.returns
returns c = idle_law
