use Rattle.standing.proofs.LookSwitched.{look_switched}
use Rattle.standing.proofs.savepoint.a_switch_shows.Goals as goal

pub returns : goal.returns
returns c = look_switched
