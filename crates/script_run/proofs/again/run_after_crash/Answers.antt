use Rattle.std.proofs.Common.{◌≡◌, sym, subst, ℕ, ◌≤◌, arith}
use Rattle.script_run.specs.Again.{RunsAgain, new_world}
use Rattle.script_run.proofs.AfterCrash.{runs_again}
use Rattle.script_run.proofs.again.run_after_crash.Goals as goal

pub returns : goal.returns
returns g c told birth log_pages data_pages asked_create asked_run =
    let d1 = g.H.Host.disk c.run.new.host in
    let d2 = g.H.Host.disk c.run-first.new.host in
    let e0 = g.H.Host.disk c.in-Ok.again in
    let e1 = g.H.Host.disk c.run-second.new.host in
    let start : c.clock-start.result ≡ d1.now = c.clock-start.ensures told in
    let end : c.clock.result ≡ d2.now = c.clock.ensures told in
    let keeps = c.run-first.ensures.keeps told in
    let from : d1.now ≤ c.min-at.result = omega (arith, keeps.later, start, end, c.max.ensures, c.min-at.ensures) in
    let upto : c.min-at.result ≤ d2.now = omega (arith, end, c.min-at.ensures) in
    let left = c.in-Ok.ensures told in
    subst (λ (n : ℕ). RunsAgain d2 e1 (new_world birth log_pages data_pages) c.run-first.result c.run-second.result n c.min-at.result) (sym start)
    (runs_again (g.H.Host.disk c.args.host.now) d1 d2 e0 e1 (g.H.Host.faults c.run.new.host) (g.H.Host.faults c.run-first.new.host) (g.H.Host.faults c.in-Ok.again) (g.H.Host.faults c.run-second.new.host)
    (g.S.Source.left c.run.new.script) (g.S.Source.left c.run-first.new.script) (g.S.Source.left c.args.scripts.1.now) (g.S.Source.left c.run-second.new.script) birth log_pages data_pages c.run-first.result c.run-second.result
    (c.in-Done.ensures.creates birth log_pages data_pages asked_create told) (c.each_image_is_a_start.ensures told)
    (c.run-first.ensures.runs asked_run told) c.min-at.result from upto
    left.0 left.1 left.2 (c.each_image_is_a_start-2.ensures told)
    (c.run-second.ensures.runs asked_run told) (c.run-second.ensures.keeps told))
