use Rattle.standing.proofs.SavepointStands.{told_keeps, unmoved_keeps, one_tells}
use Rattle.standing.proofs.savepoint.a_saved_point_stays.Goals as goal

pub returns-clause-told : goal.returns-clause-told
returns-clause-told c = told_keeps

pub returns-clause-unmoved : goal.returns-clause-unmoved
returns-clause-unmoved c = unmoved_keeps

pub returns-clause-in_one_generation : goal.returns-clause-in_one_generation
returns-clause-in_one_generation c = one_tells
