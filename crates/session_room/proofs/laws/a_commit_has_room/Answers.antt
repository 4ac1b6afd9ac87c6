use Rattle.session_room.proofs.SessionRoom.{commit_room, net_room, room_after}
use Rattle.session_room.proofs.laws.a_commit_has_room.Goals as goal

pub returns-clause-given : goal.returns-clause-given
returns-clause-given c = commit_room

pub returns-clause-logged : goal.returns-clause-logged
returns-clause-logged c = net_room

pub returns-clause-after : goal.returns-clause-after
returns-clause-after c = room_after
