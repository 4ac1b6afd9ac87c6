use Rattle.db_kernel.proofs.Untied.{scans_untied, syntax_untied, starved_untied}
use Rattle.db_kernel.proofs.laws.these_tie_nothing.Goals as goal

pub returns-clause-scans : goal.returns-clause-scans
returns-clause-scans c = scans_untied

pub returns-clause-syntax : goal.returns-clause-syntax
returns-clause-syntax c = syntax_untied

pub returns-clause-starved : goal.returns-clause-starved
returns-clause-starved c = starved_untied
