use Rattle.std.proofs.Common.{subst, ◌≡◌, ℕ, List, Some, None, Err}
use Rattle.dbm_script.specs.declared.fault.LineFault.{LineFault}
use Rattle.dbm_script.specs.Reading.{IsParsed}
use Rattle.db_kernel.specs.Kept.{FitsWorlds}
use Rattle.script_run.proofs.Answering.{syntax_answered, starved_answered}
use Rattle.script_run.proofs.Outcomes.{turned_err, reads_text}
use Rattle.script_run.proofs.run.take_line.Goals as goal

pub returns-in_err-refuse-in-Err-Syntax-clause-turned : goal.returns-in_err-refuse-in-Err-Syntax-clause-turned
returns-in_err-refuse-in-Err-Syntax-clause-turned g c told ws fit stand =
    let d0 = g.H.Host.disk c.args.host.now in
    let parsed = subst (λ (f : LineFault). IsParsed c.args.line.now (Err f)) c.in-Err-Syntax.field-0-is c.in-Err-Syntax.ensures in
    turned_err d0 (g.H.Host.disk c.refuse.new.host) (g.H.Host.faults c.args.host.now) (g.H.Host.faults c.refuse.new.host) ws (λ (text : List ℕ). text ≡ c.args.line.now) c.args.kernel.now.database c.from_residual-in_err-refuse-in-Err-Syntax.result
    c.from_residual-in_err-refuse-in-Err-Syntax.ensures.0
    (None, reads_text c.args.line.now None parsed.0 parsed.1, c.in_err-refuse-in-Err-Syntax.ensures.does told ws None (syntax_answered d0 ws (FitsWorlds c.args.kernel.now.database (g.H.Host.disk c.args.host.now)) fit stand))

pub returns-in_err-refuse-in-Err-Memory-clause-turned : goal.returns-in_err-refuse-in-Err-Memory-clause-turned
returns-in_err-refuse-in-Err-Memory-clause-turned g c told ws fit stand =
    let d0 = g.H.Host.disk c.args.host.now in
    let parsed = subst (λ (f : LineFault). IsParsed c.args.line.now (Err f)) c.in-Err-Memory.field-0-is c.in-Err-Memory.ensures in
    turned_err d0 (g.H.Host.disk c.refuse-in-Err-Memory.new.host) (g.H.Host.faults c.args.host.now) (g.H.Host.faults c.refuse-in-Err-Memory.new.host) ws (λ (text : List ℕ). text ≡ c.args.line.now) c.args.kernel.now.database
    c.from_residual-in_err-refuse-in-Err-Memory.result c.from_residual-in_err-refuse-in-Err-Memory.ensures.0 (
      Some parsed.1.0,
      reads_text c.args.line.now (Some parsed.1.0) parsed.0 parsed.1.2,
      c.in_err-refuse-in-Err-Memory.ensures.does told ws (Some parsed.1.0) (starved_answered d0 ws parsed.1.0 parsed.1.1 (FitsWorlds c.args.kernel.now.database (g.H.Host.disk c.args.host.now)) fit stand),
    )

pub returns-in_ok-refuse-in-Err-Syntax-clause-turned : goal.returns-in_ok-refuse-in-Err-Syntax-clause-turned
returns-in_ok-refuse-in-Err-Syntax-clause-turned g c told ws fit stand =
    let parsed = subst (λ (f : LineFault). IsParsed c.args.line.now (Err f)) c.in-Err-Syntax.field-0-is c.in-Err-Syntax.ensures in
    (None, reads_text c.args.line.now None parsed.0 parsed.1, c.in_ok-refuse-in-Err-Syntax.ensures.does told ws None (syntax_answered (g.H.Host.disk c.args.host.now) ws (FitsWorlds c.args.kernel.now.database (g.H.Host.disk c.args.host.now)) fit stand))

pub returns-in_ok-refuse-in-Err-Memory-clause-turned : goal.returns-in_ok-refuse-in-Err-Memory-clause-turned
returns-in_ok-refuse-in-Err-Memory-clause-turned g c told ws fit stand =
    let parsed = subst (λ (f : LineFault). IsParsed c.args.line.now (Err f)) c.in-Err-Memory.field-0-is c.in-Err-Memory.ensures in (
      Some parsed.1.0,
      reads_text c.args.line.now (Some parsed.1.0) parsed.0 parsed.1.2,
      c.in_ok-refuse-in-Err-Memory.ensures.does told ws (Some parsed.1.0) (starved_answered (g.H.Host.disk c.args.host.now) ws parsed.1.0 parsed.1.1 (FitsWorlds c.args.kernel.now.database (g.H.Host.disk c.args.host.now)) fit stand),
    )
