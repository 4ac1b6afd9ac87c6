use Rattle.standing.proofs.CostLaws.{pages_mono, room_mono}
use Rattle.standing.proofs.room.costs_tell_room.Goals as goal

pub returns-clause-pages : goal.returns-clause-pages
returns-clause-pages c = pages_mono

pub returns-clause-room : goal.returns-clause-room
returns-clause-room c = room_mono
