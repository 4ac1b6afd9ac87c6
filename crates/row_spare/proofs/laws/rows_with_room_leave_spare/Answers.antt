use Rattle.row_spare.proofs.Spare.{spare_left}
use Rattle.row_spare.proofs.laws.rows_with_room_leave_spare.Goals as goal

pub returns : goal.returns
returns c = spare_left
