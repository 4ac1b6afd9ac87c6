use Rattle.space_lines.proofs.LockTaken.{locked_counted}
use Rattle.space_lines.proofs.laws.a_lock_leaves_it_counted.Goals as goal

pub returns : goal.returns
returns c known w session lock is counted = locked_counted known w session lock is counted
