use Rattle.std.proofs.Common.{refl}
use Rattle.mdb_model.specs.declared.script.Command.TheVariants.{ScanTable}
use Rattle.open_database.proofs.Answering.{refused_in_admin}
use Rattle.open_database.proofs.database.Database.begin_scan.Goals as goal

pub returns-in-Admin-clause-does : goal.returns-in-Admin-clause-does
returns-in-Admin-clause-does g c told ws fit =
    refused_in_admin g.H.Host.tells c.args.self.now (g.H.Host.disk c.args.host.now) c.in-Admin.is ws (ScanTable c.args.session c.args.table) tt refl refl fit
