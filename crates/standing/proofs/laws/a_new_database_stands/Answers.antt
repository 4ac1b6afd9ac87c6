use Rattle.standing.proofs.WholeLaw.{new_stands}
use Rattle.standing.proofs.laws.a_new_database_stands.Goals as goal

pub returns : goal.returns
returns c = new_stands
