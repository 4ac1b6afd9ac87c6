use Rattle.std.proofs.Common.{subst, Option}
use Rattle.open_database.specs.declared.database.Database.{Database}
use Rattle.db_kernel.specs.Kept.{FitsWorlds}
use Rattle.db_kernel.proofs.OpenLines.{asked_none}
use Rattle.db_kernel.proofs.kernel.Kernel.command.Goals as goal

pub returns-in-None-clause-does : goal.returns-in-None-clause-does
returns-in-None-clause-does g c told ws fit stand =
    c.command_off.ensures.does told ws (subst (λ (o : Option Database). FitsWorlds o (g.H.Host.disk c.args.host.now) ws) c.in-None.is fit) stand

pub returns-in-None-clause-can_ask : goal.returns-in-None-clause-can_ask
returns-in-None-clause-can_ask g c told ws fit = asked_none c.args.line.now c.command_off.new.self.database (g.H.Host.disk c.command_off.new.host) c.command_off.ensures.none

pub returns-in-Some-clause-does : goal.returns-in-Some-clause-does
returns-in-Some-clause-does g c told ws fit stand = c.command_open.ensures.does told ws fit
