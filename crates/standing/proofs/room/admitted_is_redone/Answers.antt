use Rattle.std.specs.Prelude.{◌∷◌}
use Rattle.standing.proofs.RedoRoom.{redo_room_given}
use Rattle.standing.proofs.RoomKept.{redo_part, part_has_room}
use Rattle.standing.proofs.room.admitted_is_redone.Goals as goal

pub returns-clause-given : goal.returns-clause-given
returns-clause-given c = redo_room_given

pub returns-clause-inside : goal.returns-clause-inside
returns-clause-inside c commit commits = redo_part (commit ∷ commits)

pub returns-clause-rows : goal.returns-clause-rows
returns-clause-rows c = part_has_room
