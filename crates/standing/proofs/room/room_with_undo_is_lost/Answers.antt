use Rattle.standing.proofs.RoomRows.{room_is_lost}
use Rattle.standing.proofs.room.room_with_undo_is_lost.Goals as goal

pub returns : goal.returns
returns c = room_is_lost
