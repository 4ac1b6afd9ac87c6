use Rattle.standing.proofs.StaleRows.{history_is_not_enough}
use Rattle.standing.proofs.room.history_is_not_enough.Goals as goal

pub returns : goal.returns
returns c = history_is_not_enough
