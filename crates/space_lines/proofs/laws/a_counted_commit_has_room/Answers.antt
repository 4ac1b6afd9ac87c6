use Rattle.session_room.proofs.SessionRoom.{net_room}
use Rattle.space_lines.proofs.laws.a_counted_commit_has_room.Goals as goal

pub returns : goal.returns
returns c known w session counted has = net_room w session counted.apart (counted.changes_fit session has)
