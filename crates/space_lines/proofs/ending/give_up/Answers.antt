use Rattle.std.proofs.Common.{sym, subst}
use Rattle.mdb_model.specs.declared.script.Command.TheVariants.{RollbackWork}
use Rattle.mdb_model.specs.declared.script.Reply.TheVariants.{RolledBack}
use Rattle.mdb_model.specs.Answers.{plain}
use Rattle.mdb_model.specs.Worlds.{without_transaction}
use Rattle.session_rows.specs.Serving.{no_pages, IsAnswered}
use Rattle.space_rule.specs.KnownCosts.{KnownCosts}
use Rattle.space_rule.specs.Spaces.{known_costs}
use Rattle.space_lines.proofs.Lines.{Serves}
use Rattle.space_lines.proofs.Ends.{rolled, given_up}
use Rattle.space_lines.proofs.ending.give_up.Goals as goal

pub returns-clause-answered : goal.returns-clause-answered
returns-clause-answered c rows w served counted =
    subst (λ (known : KnownCosts). IsAnswered no_pages w (RollbackWork c.args.session) (plain RolledBack) (Serves rows c.rollback.new.self known)) (sym c.ended.ensures)
    (rolled rows c.args.transactions.now c.rollback.new.self w served (known_costs c.args.space.now) counted c.args.session c.requires.session c.rollback.ensures)

pub returns-clause-given_up : goal.returns-clause-given_up
returns-clause-given_up c rows w served counted =
    subst (λ (known : KnownCosts). Serves rows c.rollback.new.self known (without_transaction w c.args.session.0)) (sym c.ended.ensures)
    (given_up rows c.args.transactions.now c.rollback.new.self w served (known_costs c.args.space.now) counted c.args.session c.requires.session c.rollback.ensures)
