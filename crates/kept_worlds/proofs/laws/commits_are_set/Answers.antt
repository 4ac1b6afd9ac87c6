use Rattle.kept_worlds.proofs.Setting.{set_rest, part_leads}
use Rattle.kept_worlds.proofs.laws.commits_are_set.Goals as goal

pub returns-clause-rest : goal.returns-clause-rest
returns-clause-rest c = set_rest

pub returns-clause-part : goal.returns-clause-part
returns-clause-part c = part_leads
