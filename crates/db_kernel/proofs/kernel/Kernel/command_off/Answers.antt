use Rattle.std.proofs.Common.{rules, ◌≡◌, sym, subst, true, false, Option, Some, None}
use Rattle.std.specs.List.{list_any}
use Rattle.mdb_model.specs.Refusals.{states_of, same_state}
use Rattle.mdb_model.specs.Stages.{is_built}
use Rattle.mdb_model.specs.declared.name.State.TheVariants.{Offline}
use Rattle.mdb_model.specs.declared.script.Command.{Command}
use Rattle.mdb_model.specs.declared.script.Command.TheVariants.{DbState, Kill}
use Rattle.mdb_model.specs.declared.script.Refusal.TheVariants.{Syntax, WrongState}
use Rattle.mdb_model.specs.declared.script.Reply.TheVariants.{Refused, StateIs, OfflineNow}
use Rattle.open_database.specs.declared.database.Database.{Database}
use Rattle.open_database.specs.Outside.{page_reading, StandsFor}
use Rattle.open_database.specs.Stretch.{Completes}
use Rattle.db_kernel.specs.Kept.{FitsWorlds, IsScan, answer_of}
use Rattle.db_kernel.specs.Taking.{TakesLine}
use Rattle.db_kernel.proofs.Closed.{entry_unbuilt, entry_state}
use Rattle.db_kernel.proofs.Fitting.{fits_out}
use Rattle.db_kernel.proofs.OffLines.{takes_quiet, refused_off, told_off, killed_off, all_offline}
use Rattle.db_kernel.proofs.Untied.{state_untied, syntax_untied}
use Rattle.db_kernel.proofs.kernel.Kernel.command_off.Goals as goal

pub returns-in-DbAdmin-clause-takes : goal.returns-in-DbAdmin-clause-takes
returns-in-DbAdmin-clause-takes g c =
    subst (λ (line : Command). TakesLine g.H.Host.tells (g.H.Host.disk c.args.host.now) (g.H.Host.disk c.restart.new.host) (g.H.Host.faults c.args.host.now) (g.H.Host.faults c.restart.new.host) c.args.self.now.database c.restart.new.self.database line c.restart.result) (sym c.in-DbAdmin.is) c.restart.ensures.takes

pub returns-in-DbAdmin-clause-does : goal.returns-in-DbAdmin-clause-does
returns-in-DbAdmin-clause-does g c told ws fit stand =
    let d0 = g.H.Host.disk c.args.host.now in
    let d1 = g.H.Host.disk c.restart.new.host in
    subst (λ (line : Command). Completes page_reading StandsFor d0 d1 ws (Some line) (answer_of line c.restart.new.self.database d1 c.restart.result) (FitsWorlds c.restart.new.self.database d1)) (sym c.in-DbAdmin.is)
    (c.restart.ensures.does told ws fit stand)

pub returns-in-DbAdmin-clause-none : goal.returns-in-DbAdmin-clause-none
returns-in-DbAdmin-clause-none g c scan = absurd (subst IsScan c.in-DbAdmin.is scan)

pub returns-in-DbOnline-clause-takes : goal.returns-in-DbOnline-clause-takes
returns-in-DbOnline-clause-takes g c =
    subst (λ (line : Command). TakesLine g.H.Host.tells (g.H.Host.disk c.args.host.now) (g.H.Host.disk c.restart-in-DbOnline.new.host) (g.H.Host.faults c.args.host.now) (g.H.Host.faults c.restart-in-DbOnline.new.host) c.args.self.now.database c.restart-in-DbOnline.new.self.database line c.restart-in-DbOnline.result) (sym c.in-DbOnline.is) c.restart-in-DbOnline.ensures.takes

pub returns-in-DbOnline-clause-does : goal.returns-in-DbOnline-clause-does
returns-in-DbOnline-clause-does g c told ws fit stand =
    let d0 = g.H.Host.disk c.args.host.now in
    let d1 = g.H.Host.disk c.restart-in-DbOnline.new.host in
    subst (λ (line : Command). Completes page_reading StandsFor d0 d1 ws (Some line) (answer_of line c.restart-in-DbOnline.new.self.database d1 c.restart-in-DbOnline.result) (FitsWorlds c.restart-in-DbOnline.new.self.database d1)) (sym c.in-DbOnline.is)
    (c.restart-in-DbOnline.ensures.does told ws fit stand)

pub returns-in-DbOnline-clause-none : goal.returns-in-DbOnline-clause-none
returns-in-DbOnline-clause-none g c scan = absurd (subst IsScan c.in-DbOnline.is scan)

pub returns-in-DbState-clause-takes : goal.returns-in-DbState-clause-takes
returns-in-DbState-clause-takes g c =
    let d = g.H.Host.disk c.args.host.now in
    let f = g.H.Host.faults c.args.host.now in
    subst (λ (o : Option Database). TakesLine g.H.Host.tells d d f f o o c.args.line.now (StateIs Offline)) (sym c.requires.off) (takes_quiet g.H.Host.tells d f c.args.line.now (StateIs Offline) tt (λ opened. opened))

pub returns-in-DbState-clause-does : goal.returns-in-DbState-clause-does
returns-in-DbState-clause-does g c told ws fit stand =
    let d = g.H.Host.disk c.args.host.now in
    subst (λ (line : Command). Completes page_reading StandsFor d d ws (Some line) (answer_of line c.args.self.now.database d (StateIs Offline)) (FitsWorlds c.args.self.now.database d)) (sym c.in-DbState.is)
    (told_off d ws c.args.self.now.database c.requires.off fit stand)

pub returns-in-Kill-clause-takes : goal.returns-in-Kill-clause-takes
returns-in-Kill-clause-takes g c =
    let d = g.H.Host.disk c.args.host.now in
    let f = g.H.Host.faults c.args.host.now in
    subst (λ (o : Option Database). TakesLine g.H.Host.tells d d f f o o c.args.line.now OfflineNow) (sym c.requires.off) (takes_quiet g.H.Host.tells d f c.args.line.now OfflineNow tt (λ opened. opened))

pub returns-in-Kill-clause-does : goal.returns-in-Kill-clause-does
returns-in-Kill-clause-does g c told ws fit stand =
    let d = g.H.Host.disk c.args.host.now in
    subst (λ (line : Command). Completes page_reading StandsFor d d ws (Some line) (answer_of line c.args.self.now.database d OfflineNow) (FitsWorlds c.args.self.now.database d)) (sym c.in-Kill.is)
    (killed_off d ws c.args.self.now.database c.requires.off fit stand)

pub returns-in-GetRow-clause-takes : goal.returns-in-GetRow-clause-takes
returns-in-GetRow-clause-takes g c =
    let d = g.H.Host.disk c.args.host.now in
    let f = g.H.Host.faults c.args.host.now in
    subst (λ (o : Option Database). TakesLine g.H.Host.tells d d f f o o c.args.line.now (Refused (WrongState Offline))) (sym c.requires.off) (takes_quiet g.H.Host.tells d f c.args.line.now (Refused (WrongState Offline)) tt (λ opened. opened))

pub returns-in-GetRow-clause-does : goal.returns-in-GetRow-clause-does
returns-in-GetRow-clause-does g c told ws fit stand =
    let d = g.H.Host.disk c.args.host.now in
    let built : is_built c.args.line.now ≡ true = search rules in
    let barred : list_any (same_state Offline) (states_of c.args.line.now) ≡ false = search rules in
    refused_off d ws c.args.line.now (WrongState Offline) c.args.self.now.database c.requires.off fit stand (state_untied c.args.line.now Offline)
    (entry_state page_reading ws c.args.line.now Offline built barred (all_offline ws (fits_out None d ws fit)))

pub returns-in-TaskSavepoint-clause-takes : goal.returns-in-TaskSavepoint-clause-takes
returns-in-TaskSavepoint-clause-takes g c =
    let d = g.H.Host.disk c.args.host.now in
    let f = g.H.Host.faults c.args.host.now in
    subst (λ (o : Option Database). TakesLine g.H.Host.tells d d f f o o c.args.line.now (Refused Syntax)) (sym c.requires.off) (takes_quiet g.H.Host.tells d f c.args.line.now (Refused Syntax) tt (λ opened. opened))

pub returns-in-TaskSavepoint-clause-does : goal.returns-in-TaskSavepoint-clause-does
returns-in-TaskSavepoint-clause-does g c told ws fit stand =
    let d = g.H.Host.disk c.args.host.now in
    let unbuilt : is_built c.args.line.now ≡ false = search rules in
    refused_off d ws c.args.line.now Syntax c.args.self.now.database c.requires.off fit stand (syntax_untied (Some c.args.line.now)) (entry_unbuilt page_reading ws c.args.line.now unbuilt)
