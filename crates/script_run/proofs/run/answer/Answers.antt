use Rattle.std.proofs.Common.{sym, subst}
use Rattle.script_lines.specs.declared.lines.LineKind.{LineKind}
use Rattle.script_run.specs.Progress.{IsLineText, HandlesLine}
use Rattle.script_run.proofs.run.answer.Goals as goal

pub returns-in-TooLong-clause-turned : goal.returns-in-TooLong-clause-turned
returns-in-TooLong-clause-turned g c told ws fit stand =
    subst (λ (kind : LineKind). HandlesLine (g.H.Host.disk c.args.host.now) (g.H.Host.disk c.refuse_line.new.host) (g.H.Host.faults c.args.host.now) (g.H.Host.faults c.refuse_line.new.host) ws
    (IsLineText kind c.args.found.now) c.args.kernel.now.database c.refuse_line.result) (sym c.in-TooLong.is) (c.refuse_line.ensures.turned told ws fit stand)
