use Rattle.standing.proofs.AppendStands.{append_stands}
use Rattle.standing.proofs.AppendsStand.{off_committed}
use Rattle.standing.proofs.append.a_commit_stands.Goals as goal

pub returns-clause-of_look : goal.returns-clause-of_look
returns-clause-of_look c = append_stands

pub returns-clause-of_line : goal.returns-clause-of_line
returns-clause-of_line c = off_committed
