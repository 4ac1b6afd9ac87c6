use Rattle.session_room.proofs.SessionRoom.{apart_by_locks}
use Rattle.session_room.proofs.laws.locked_changes_are_apart.Goals as goal

pub returns : goal.returns
returns c = apart_by_locks
