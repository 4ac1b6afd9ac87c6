use Rattle.std.proofs.Common.{subst}
use Rattle.redo_ring.specs.declared.reader.RingReader.{RingReader}
use Rattle.live_area.specs.Awaiting.{IsRedone}
use Rattle.live_area.proofs.area.LiveArea.redo.Goals as goal

pub returns-clause-redone : goal.returns-clause-redone
returns-clause-redone g c =
    subst (λ (x : RingReader). IsRedone g.H.Host.tells x c.args.self.now.store c.redo_log-result.new.store c.args.self.now.in_force c.redo_log-result.new.in_force (g.H.Host.disk c.args.host.now) (g.H.Host.disk c.redo_log-result.new.host) c.redo_log-result.result) c.reader-reader.ensures.begins
    (record { rows = c.redo_log-result.ensures.rows; kept = c.redo_log-result.ensures.kept; whole = c.redo_log-result.ensures.whole })
