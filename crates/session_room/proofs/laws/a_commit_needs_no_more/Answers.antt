use Rattle.session_room.proofs.SessionRoom.{commit_need}
use Rattle.session_room.proofs.laws.a_commit_needs_no_more.Goals as goal

pub returns : goal.returns
returns c = commit_need
