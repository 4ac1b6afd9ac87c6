use Rattle.std.proofs.Common.{sym, subst}
use Rattle.mdb_model.specs.Steps.{committed_by}
use Rattle.session_rows.specs.Scan.{seen_rows}
use Rattle.space_rule.specs.KnownCosts.{KnownCosts}
use Rattle.space_rule.specs.Spaces.{known_costs}
use Rattle.space_lines.proofs.Lines.{Serves}
use Rattle.space_lines.proofs.Ends.{committed_served}
use Rattle.space_lines.proofs.ending.end_commit.Goals as goal

pub returns-clause-committed : goal.returns-clause-committed
returns-clause-committed c rows w served counted =
    subst (λ (known : KnownCosts). Serves (seen_rows rows c.args.transactions.now c.args.session.0) c.ended.new.self known (committed_by w c.args.session.0)) (sym c.ended-2.ensures)
    (committed_served rows c.args.transactions.now c.ended.new.self w served (known_costs c.args.space.now) counted c.args.session c.requires.session c.ended.ensures c.changed-changed.ensures.each_fits)
