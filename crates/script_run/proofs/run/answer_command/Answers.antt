use Rattle.std.proofs.Common.{◌≡◌, sym, subst, ap, ◌∙◌, ◌++◌, Some, rules}
use Rattle.mdb_host.proofs.Moments.{on_ok, keeps_on}
use Rattle.mdb_model.specs.declared.script.Command.{Command}
use Rattle.mdb_model.specs.declared.script.Reply.{Reply}
use Rattle.mdb_model.specs.Answers.{Answer, plain}
use Rattle.mdb_model.specs.Text.{text_of}
use Rattle.db_kernel.specs.Kept.{FitsWorlds, CanAsk, answer_of, scanned_rows}
use Rattle.open_database.specs.Stretch.{Completes}
use Rattle.mdb_model.specs.Steps.{rows_of}
use Rattle.script_run.specs.Progress.{DoesLine}
use Rattle.script_run.specs.Scans.{IsOpenScan}
use Rattle.script_run.proofs.ScanLines.{scan_line}
use Rattle.script_run.proofs.Outcomes.{does_line, command_causes, other_scan, other_command}
use Rattle.script_run.proofs.run.answer_command.Goals as goal
use Rattle.open_database.specs.Outside.{page_reading, StandsFor}

pub returns-in-ScanOpen-clause-keeps : goal.returns-in-ScanOpen-clause-keeps
returns-in-ScanOpen-clause-keeps g c told =
    keeps_on (g.H.Host.disk c.args.host.now) (g.H.Host.disk c.command-reply.new.host) (g.H.Host.disk c.say_scan.new.host) (c.command-reply.ensures.takes.keeps told) (c.say_scan.ensures.keeps told)

pub returns-in-ScanOpen-clause-does : goal.returns-in-ScanOpen-clause-does
returns-in-ScanOpen-clause-does g c told ws fit stand =
    let d0 = g.H.Host.disk c.args.host.now in
    let d1 = g.H.Host.disk c.command-reply.new.host in
    let d2 = g.H.Host.disk c.say_scan.new.host in
    let f0 = g.H.Host.faults c.args.host.now in
    let f1 = g.H.Host.faults c.command-reply.new.host in
    let f2 = g.H.Host.faults c.say_scan.new.host in
    let database = c.command-reply.new.self.database in
    let session = c.in-ScanTable.session in
    let table = c.in-ScanTable.table in
    let rows = rows_of (scanned_rows database d1 session) table.0 in
    let can = subst (λ (line : Command). CanAsk line database d1) c.in-ScanTable.is (c.command-reply.ensures.can_ask told ws fit) in
    let done = subst (λ (e : Command × Reply). Completes page_reading StandsFor d0 d1 ws (Some e.0) (answer_of e.0 database d1 e.1) (FitsWorlds database d1))
    (λ i. (c.in-ScanTable.is i, c.in-ScanOpen.is i)) (c.command-reply.ensures.does told ws fit stand) in
    let seen = stand d0.seen (g.met.H.Host.seen_left c.args.host.now told) in
    let opened : IsOpenScan d1 done.after database session table = record { fit = done.fit; stand = done.does.stand; keys = can.keyed; few = can.few } in
    subst (λ (line : Command). DoesLine d0 d2 f0 f2 ws (Some line) c.say_scan.new.kernel.database c.say_scan.result) (sym c.in-ScanTable.is)
    (scan_line d0 d1 d2 f0 f1 f2 c.command-reply.ensures.takes.later c.say_scan.ensures.later ws session table rows (FitsWorlds database d1) done seen.0 seen.1 c.say_scan.new.kernel.database c.say_scan.result
    (c.say_scan.ensures.says told done.after opened))

pub returns-in-ScanTable : goal.returns-in-ScanTable
returns-in-ScanTable g c = record {
  sound = search rules;
  numbers = search rules;
  keeps = search rules;
  does = λ told ws fit stand.
      let d0 = g.H.Host.disk c.args.host.now in
      let d1 = g.H.Host.disk c.command-reply.new.host in
      let d2 = g.H.Host.disk c.say_reply.new.host in
      let database = c.command-reply.new.self.database in
      let answer = plain c.command-reply.result in
      let answer_is : answer_of c.args.command.now database d1 c.command-reply.result ≡ answer =
      ap (λ (line : Command). answer_of line database d1 c.command-reply.result) c.in-ScanTable.is ∙ other_scan c.in-ScanTable.session c.in-ScanTable.table database d1 c.command-reply.result c.in_default-reply.not-ScanOpen in
      does_line d0 d1 d2 (g.H.Host.faults c.args.host.now) (g.H.Host.faults c.command-reply.new.host) (g.H.Host.faults c.say_reply.new.host) ws (Some c.args.command.now) answer database
      (subst (λ (a : Answer). Completes page_reading StandsFor d0 d1 ws (Some c.args.command.now) a (FitsWorlds database d1)) answer_is (c.command-reply.ensures.does told ws fit stand))
      (command_causes d0 d1 (g.H.Host.faults c.args.host.now) (g.H.Host.faults c.command-reply.new.host) ws c.args.kernel.now.database fit c.args.command.now c.command-reply.result
      (c.command-reply.ensures.takes.keeps told).later c.command-reply.ensures.takes.later c.command-reply.ensures.takes.cause (c.command-reply.ensures.takes.past_end told) (c.command-reply.ensures.takes.in_reach told)) c.say_reply.ensures.faults (c.say_reply.ensures.speaks told) c.say_reply.result
      (on_ok c.say_reply.result _ (d2.said d2.now ≡ d1.said d1.now ++ text_of answer) (λ said. said told) c.say_reply.ensures.said);
  later = search rules;
  say_cause = search rules;
}

pub returns : goal.returns
returns g c = record {
  sound = search rules;
  numbers = search rules;
  keeps = search rules;
  does = λ told ws fit stand.
      let d0 = g.H.Host.disk c.args.host.now in
      let d1 = g.H.Host.disk c.command-reply.new.host in
      let d2 = g.H.Host.disk c.say_reply-in_default.new.host in
      let database = c.command-reply.new.self.database in
      let answer = plain c.command-reply.result in
      let answer_is : answer_of c.args.command.now database d1 c.command-reply.result ≡ answer = other_command c.args.command.now database d1 c.command-reply.result c.in_default.not-ScanTable in
      does_line d0 d1 d2 (g.H.Host.faults c.args.host.now) (g.H.Host.faults c.command-reply.new.host) (g.H.Host.faults c.say_reply-in_default.new.host) ws (Some c.args.command.now) answer database
      (subst (λ (a : Answer). Completes page_reading StandsFor d0 d1 ws (Some c.args.command.now) a (FitsWorlds database d1)) answer_is (c.command-reply.ensures.does told ws fit stand))
      (command_causes d0 d1 (g.H.Host.faults c.args.host.now) (g.H.Host.faults c.command-reply.new.host) ws c.args.kernel.now.database fit c.args.command.now c.command-reply.result
      (c.command-reply.ensures.takes.keeps told).later c.command-reply.ensures.takes.later c.command-reply.ensures.takes.cause (c.command-reply.ensures.takes.past_end told) (c.command-reply.ensures.takes.in_reach told)) c.say_reply-in_default.ensures.faults (c.say_reply-in_default.ensures.speaks told) c.say_reply-in_default.result
      (on_ok c.say_reply-in_default.result _ (d2.said d2.now ≡ d1.said d1.now ++ text_of answer) (λ said. said told) c.say_reply-in_default.ensures.said);
  later = search rules;
  say_cause = search rules;
}
