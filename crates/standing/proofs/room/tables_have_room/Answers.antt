use Rattle.standing.proofs.RedoRoom.{tables_have_room}
use Rattle.standing.proofs.room.tables_have_room.Goals as goal

pub returns : goal.returns
returns c = tables_have_room
