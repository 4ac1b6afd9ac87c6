use Rattle.std.proofs.Common.{◌<◌, List, ℕ, None, length}
use Rattle.db_kernel.specs.Kept.{FitsWorlds}
use Rattle.script_run.proofs.Answering.{syntax_answered}
use Rattle.script_run.proofs.Outcomes.{turned_err}
use Rattle.script_lines.proofs.ReadingLaws.{too_long-answered, too_long-Reads}
use Rattle.script_run.proofs.run.refuse_line.Goals as goal

pub returns-in_err-refuse-clause-turned : goal.returns-in_err-refuse-clause-turned
returns-in_err-refuse-clause-turned g c told ws fit stand =
    let d0 = g.H.Host.disk c.args.host.now in
    turned_err d0 (g.H.Host.disk c.refuse.new.host) (g.H.Host.faults c.args.host.now) (g.H.Host.faults c.refuse.new.host) ws (λ (text : List ℕ). 8192 < length text) c.args.kernel.now.database c.from_residual.result c.from_residual.ensures.0 (
      None,
      λ text long. (too_long-answered text long, too_long-Reads text long),
      c.in_err-refuse.ensures.does told ws None (syntax_answered d0 ws (FitsWorlds c.args.kernel.now.database (g.H.Host.disk c.args.host.now)) fit stand),
    )

pub returns-clause-turned : goal.returns-clause-turned
returns-clause-turned g c told ws fit stand =
    let d0 = g.H.Host.disk c.args.host.now in (
      None,
      λ text long. (too_long-answered text long, too_long-Reads text long),
      c.in_ok-refuse.ensures.does told ws None (syntax_answered d0 ws (FitsWorlds c.args.kernel.now.database (g.H.Host.disk c.args.host.now)) fit stand),
    )
