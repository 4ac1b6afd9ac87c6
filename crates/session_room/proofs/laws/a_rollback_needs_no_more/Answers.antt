use Rattle.session_room.proofs.SessionRoom.{rollback_need}
use Rattle.session_room.proofs.laws.a_rollback_needs_no_more.Goals as goal

pub returns : goal.returns
returns c = rollback_need
