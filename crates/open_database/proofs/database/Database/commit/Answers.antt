use Rattle.open_database.proofs.CommitLines.{commit_in_admin}
use Rattle.open_database.proofs.database.Database.commit.Goals as goal

pub returns-in-Admin-clause-does : goal.returns-in-Admin-clause-does
returns-in-Admin-clause-does g c told ws fit =
    commit_in_admin g.H.Host.tells c.args.self.now (g.H.Host.disk c.args.host.now) c.args.session c.in-Admin.is ws fit
