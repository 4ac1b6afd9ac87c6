use Rattle.standing.proofs.RoomKept.{room_kept}
use Rattle.standing.proofs.room.a_savepoint_keeps_room.Goals as goal

pub returns : goal.returns
returns c l w r next old new done rest start now in_map in_log mark rows part = room_kept l w r next old new done rest start now in_map in_log mark rows part
