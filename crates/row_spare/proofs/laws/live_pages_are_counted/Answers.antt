use Rattle.row_spare.proofs.Spare.{live_counted}
use Rattle.row_spare.proofs.laws.live_pages_are_counted.Goals as goal

pub returns : goal.returns
returns c = live_counted
