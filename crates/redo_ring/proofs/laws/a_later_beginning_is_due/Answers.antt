use Rattle.redo_ring.proofs.LaterBeginnings.{later_log, later_due}
use Rattle.redo_ring.proofs.laws.a_later_beginning_is_due.Goals as goal

pub returns-clause-log : goal.returns-clause-log
returns-clause-log c = later_log

pub returns-clause-due : goal.returns-clause-due
returns-clause-due c = later_due
