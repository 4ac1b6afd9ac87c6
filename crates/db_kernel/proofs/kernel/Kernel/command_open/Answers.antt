use Rattle.std.proofs.Common.{◌≡◌, sym, subst, ◌∙◌, true, false, Option, Some, None, Ok, Err}
use Rattle.mdb_model.specs.declared.script.Refusal.{Refusal}
use Rattle.mdb_model.specs.declared.script.Reply.TheVariants.{Refused}
use Rattle.open_database.specs.declared.database.Database.{Database}
use Rattle.open_database.specs.Outside.{page_reading, StandsFor}
use Rattle.open_database.specs.Stretch.{Completes}
use Rattle.open_database.specs.Taking.{closes}
use Rattle.db_kernel.specs.Kept.{IsSoundKernel, FitsWorlds, answer_of, page_refusal, CanAsk}
use Rattle.db_kernel.specs.Taking.{TakesLine}
use Rattle.db_kernel.proofs.Fitting.{sound_of}
use Rattle.db_kernel.proofs.NextRows.{fit_told}
use Rattle.db_kernel.proofs.OpenLines.{stage, closed_done, open_done, failed_done, takes_kept, takes_closed, takes_given_up, asked_open, asked_off}
use Rattle.db_kernel.proofs.kernel.Kernel.command_open.Goals as goal

pub command-requires-clause-sound : goal.command-requires-clause-sound
command-requires-clause-sound g c =
    let d = g.H.Host.disk c.args.host.now in
    sound_of g.H.Host.tells c.in-Some.database d (subst (λ (o : Option Database). IsSoundKernel g.H.Host.tells o d) c.in-Some.is c.requires.sound)

pub returns-in-Ok-clause-takes : goal.returns-in-Ok-clause-takes
returns-in-Ok-clause-takes g c =
    let d0 = g.H.Host.disk c.args.host.now in
    let d1 = g.H.Host.disk c.command.new.host in
    let f0 = g.H.Host.faults c.args.host.now in
    let f1 = g.H.Host.faults c.command.new.host in
    let closing : closes c.args.line.now ≡ true = sym c.closes_database.ensures ∙ c.if-closes_database.true in
    subst (λ (n : Option Database). TakesLine g.H.Host.tells d0 d1 f0 f1 c.args.self.now.database n c.args.line.now c.in-Ok.reply) (sym c.turn_off.ensures)
    (subst (λ (o : Option Database). TakesLine g.H.Host.tells d0 d1 f0 f1 o None c.args.line.now c.in-Ok.reply) (sym c.in-Some.is)
    (takes_closed g.H.Host.tells d0 d1 f0 f1 c.args.line.now c.in-Some.database c.command.new.self c.in-Ok.reply (c.in-Ok.ensures.closed closing) c.in-Ok.ensures.takes))

pub returns-in-Ok-clause-does : goal.returns-in-Ok-clause-does
returns-in-Ok-clause-does g c told ws fit =
    let d0 = g.H.Host.disk c.args.host.now in
    let d1 = g.H.Host.disk c.command.new.host in
    let here = fit_told g.H.Host.tells told c.in-Some.database d0 ws (subst (λ (o : Option Database). FitsWorlds o d0 ws) c.in-Some.is fit) in
    subst (λ (n : Option Database). Completes page_reading StandsFor d0 d1 ws (Some c.args.line.now) (answer_of c.args.line.now n d1 c.in-Ok.reply) (FitsWorlds n d1)) (sym c.turn_off.ensures)
    (closed_done g.H.Host.tells told d0 d1 ws c.args.line.now c.command.new.self c.in-Ok.reply (sym c.closes_database.ensures ∙ c.if-closes_database.true) (c.in-Ok.ensures.does stage told ws here))

pub returns-in-Ok-2-clause-takes : goal.returns-in-Ok-2-clause-takes
returns-in-Ok-2-clause-takes g c =
    let d0 = g.H.Host.disk c.args.host.now in
    let d1 = g.H.Host.disk c.command.new.host in
    let f0 = g.H.Host.faults c.args.host.now in
    let f1 = g.H.Host.faults c.command.new.host in
    subst (λ (o : Option Database). TakesLine g.H.Host.tells d0 d1 f0 f1 o (Some c.command.new.self) c.args.line.now c.in-Ok.reply) (sym c.in-Some.is)
    (takes_kept g.H.Host.tells d0 d1 f0 f1 c.args.line.now c.in-Some.database c.command.new.self c.in-Ok.reply c.in-Ok.ensures.takes)

pub returns-in-Ok-2-clause-does : goal.returns-in-Ok-2-clause-does
returns-in-Ok-2-clause-does g c told ws fit =
    let d0 = g.H.Host.disk c.args.host.now in
    let d1 = g.H.Host.disk c.command.new.host in
    let here = fit_told g.H.Host.tells told c.in-Some.database d0 ws (subst (λ (o : Option Database). FitsWorlds o d0 ws) c.in-Some.is fit) in
    open_done g.H.Host.tells told d0 d1 ws c.args.line.now c.command.new.self c.in-Ok.reply (sym c.closes_database.ensures ∙ c.if-closes_database.false) (c.in-Ok.ensures.does stage told ws here)

pub returns-in-Ok-2-clause-can_ask : goal.returns-in-Ok-2-clause-can_ask
returns-in-Ok-2-clause-can_ask g c told ws fit =
    let d0 = g.H.Host.disk c.args.host.now in
    let here = fit_told g.H.Host.tells told c.in-Some.database d0 ws (subst (λ (o : Option Database). FitsWorlds o d0 ws) c.in-Some.is fit) in
    asked_open c.args.line.now c.command.new.self (g.H.Host.disk c.command.new.host) (c.in-Ok.ensures.can_ask told ws here)

pub returns-in-Ok-clause-can_ask : goal.returns-in-Ok-clause-can_ask
returns-in-Ok-clause-can_ask g c told ws fit =
    subst (λ (n : Option Database). CanAsk c.args.line.now n (g.H.Host.disk c.command.new.host)) (sym c.turn_off.ensures)
    (asked_off c.args.line.now (g.H.Host.disk c.command.new.host))

pub returns-in-Err-clause-takes : goal.returns-in-Err-clause-takes
returns-in-Err-clause-takes g c =
    let d0 = g.H.Host.disk c.args.host.now in
    let d1 = g.H.Host.disk c.command.new.host in
    let f0 = g.H.Host.faults c.args.host.now in
    let f1 = g.H.Host.faults c.command.new.host in
    subst (λ (n : Option Database). TakesLine g.H.Host.tells d0 d1 f0 f1 c.args.self.now.database n c.args.line.now (Refused c.refusal_of.result)) (sym c.turn_off-in-Err.ensures)
    (subst (λ (r : Refusal). TakesLine g.H.Host.tells d0 d1 f0 f1 c.args.self.now.database None c.args.line.now (Refused r)) (sym c.refusal_of.ensures)
    (subst (λ (o : Option Database). TakesLine g.H.Host.tells d0 d1 f0 f1 o None c.args.line.now (Refused (page_refusal c.in-Err.fault))) (sym c.in-Some.is)
    (takes_given_up g.H.Host.tells d0 d1 f0 f1 c.args.line.now c.in-Some.database c.command.new.self c.in-Err.fault c.in-Err.ensures.takes)))

pub returns-in-Err-clause-does : goal.returns-in-Err-clause-does
returns-in-Err-clause-does g c told ws fit =
    let d0 = g.H.Host.disk c.args.host.now in
    let d1 = g.H.Host.disk c.command.new.host in
    let here = fit_told g.H.Host.tells told c.in-Some.database d0 ws (subst (λ (o : Option Database). FitsWorlds o d0 ws) c.in-Some.is fit) in
    subst (λ (n : Option Database). Completes page_reading StandsFor d0 d1 ws (Some c.args.line.now) (answer_of c.args.line.now n d1 (Refused c.refusal_of.result)) (FitsWorlds n d1)) (sym c.turn_off-in-Err.ensures)
    (subst (λ (r : Refusal). Completes page_reading StandsFor d0 d1 ws (Some c.args.line.now) (answer_of c.args.line.now None d1 (Refused r)) (FitsWorlds None d1)) (sym c.refusal_of.ensures)
    (failed_done g.H.Host.tells told d0 d1 ws c.args.line.now c.command.new.self c.in-Err.fault (c.in-Err.ensures.does stage told ws here)))

pub returns-in-Err-clause-can_ask : goal.returns-in-Err-clause-can_ask
returns-in-Err-clause-can_ask g c told ws fit =
    subst (λ (n : Option Database). CanAsk c.args.line.now n (g.H.Host.disk c.command.new.host)) (sym c.turn_off-in-Err.ensures)
    (asked_off c.args.line.now (g.H.Host.disk c.command.new.host))
