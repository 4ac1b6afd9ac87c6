use Rattle.space_lines.proofs.Counting.{counted_alone}
use Rattle.space_lines.proofs.laws.a_world_without_sessions_is_counted.Goals as goal

pub returns : goal.returns
returns c known w is none tables numbers room = counted_alone known w is none tables numbers room
