use Rattle.std.proofs.Common.{◌≡◌, ◌++◌}
use Rattle.mdb_model.specs.Steps.{rows_of}
use Rattle.mdb_host.proofs.Moments.{on_ok}
use Rattle.db_kernel.specs.Kept.{scanned_rows}
use Rattle.db_kernel.proofs.Fitting.{fits_still}
use Rattle.script_run.proofs.Speaking.{still_of}
use Rattle.script_run.proofs.ScanTexts.{scan_said, scan_cut, end_text}
use Rattle.script_run.proofs.saying.say_scan.Goals as goal

pub returns-in_err-rows-clause-says : goal.returns-in_err-rows-clause-says
returns-in_err-rows-clause-says g c told ws opened =
    scan_cut ws (rows_of (scanned_rows c.args.kernel.now.database (g.H.Host.disk c.args.host.now) c.args.session) c.args.table.0) (g.H.Host.disk c.args.host.now) (g.H.Host.disk c.say_rows.new.host) (g.H.Host.faults c.args.host.now) (g.H.Host.faults c.say_rows.new.host)
    c.say_rows.new.kernel.database c.from_residual.result c.from_residual.ensures.0 (c.in_err-rows.ensures.says told ws opened)

pub returns-clause-says : goal.returns-clause-says
returns-clause-says g c told ws opened =
    let d0 = g.H.Host.disk c.args.host.now in
    let d1 = g.H.Host.disk c.say_rows.new.host in
    let d2 = g.H.Host.disk c.say_end.new.host in
    let after = c.say_rows.new.kernel.database in
    let speaks = c.say_end.ensures.speaks told in
    scan_said ws (rows_of (scanned_rows c.args.kernel.now.database (g.H.Host.disk c.args.host.now) c.args.session) c.args.table.0) d0 d1 d2 (g.H.Host.faults c.args.host.now) (g.H.Host.faults c.say_rows.new.host) (g.H.Host.faults c.say_end.new.host) after
    c.in_ok-rows.rows c.in_ok-rows.reply (c.in_ok-rows.ensures.says told ws opened) c.say_end.ensures.faults speaks
    (λ fit. fits_still after d1 d2 ws fit (still_of d1 d2 (end_text c.in_ok-rows.rows c.in_ok-rows.reply) speaks)) c.say_end.result
    (on_ok c.say_end.result (g.H.Host.tells → d2.said d2.now ≡ d1.said d1.now ++ end_text c.in_ok-rows.rows c.in_ok-rows.reply) (d2.said d2.now ≡ d1.said d1.now ++ end_text c.in_ok-rows.rows c.in_ok-rows.reply) (λ said. said told) c.say_end.ensures.said)
