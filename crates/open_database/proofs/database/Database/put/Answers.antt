use Rattle.std.proofs.Common.{refl}
use Rattle.mdb_model.specs.declared.script.Command.TheVariants.{PutRow}
use Rattle.open_database.proofs.Answering.{refused_in_admin}
use Rattle.open_database.proofs.RowLines.{takes_nothing}
use Rattle.open_database.proofs.database.Database.put.Goals as goal

pub returns-in-Admin-clause-takes : goal.returns-in-Admin-clause-takes
returns-in-Admin-clause-takes g c = takes_nothing g.H.Host.tells (g.H.Host.disk c.args.host.now) (g.H.Host.faults c.args.host.now) c.args.self.now c.requires.sound

pub returns-in-Admin-clause-does : goal.returns-in-Admin-clause-does
returns-in-Admin-clause-does g c stage told ws fit =
    refused_in_admin g.H.Host.tells c.args.self.now (g.H.Host.disk c.args.host.now) c.in-Admin.is ws (PutRow c.args.session c.args.table c.args.key.now c.args.value.now) tt refl refl fit
