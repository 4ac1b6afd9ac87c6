use Rattle.run_forms.proofs.Standing.{standing_are, images_are, before_are, undo_are, committed_are}
use Rattle.run_forms.proofs.laws.leaves_are_standing.Goals as goal

pub returns-clause-standing : goal.returns-clause-standing
returns-clause-standing c = standing_are

pub returns-clause-images : goal.returns-clause-images
returns-clause-images c = images_are

pub returns-clause-before : goal.returns-clause-before
returns-clause-before c = before_are

pub returns-clause-undo : goal.returns-clause-undo
returns-clause-undo c = undo_are

pub returns-clause-committed : goal.returns-clause-committed
returns-clause-committed c = committed_are
