use Rattle.session_rows.specs.Serving.{no_pages}
use Rattle.session_rows.proofs.Answering.{rollback_answered}
use Rattle.session_rows.proofs.changing.give_up.Goals as goal

pub returns-clause-answered : goal.returns-clause-answered
returns-clause-answered c rows w served =
    rollback_answered no_pages rows c.args.transactions.now c.rollback.new.self w served c.args.session c.requires.session c.rollback.ensures
