use Rattle.std.proofs.Common.{◌∙◌}
use Rattle.mdb_host.proofs.Moments.{on_ok}
use Rattle.redo_ring.proofs.Log.{first_half, both_halves, arrives, behind_goes, behind_kept}
use Rattle.redo_ring.proofs.ring.append_closed.Goals as goal

pub returns-in_err-write_ring_kept-clause-any_moment : goal.returns-in_err-write_ring_kept-clause-any_moment
returns-in_err-write_ring_kept-clause-any_moment g c told name last changes group is spelled =
    first_half c.args.size name c.args.end last changes group spelled (g.H.Host.disk c.args.host.now) (g.H.Host.disk c.write_ring_kept.new.host)
    (behind_goes c.args.size c.args.end group c.args.closed.now is (g.H.Host.disk c.args.host.now) (g.H.Host.disk c.write_ring_kept.new.host) (c.write_ring_kept.ensures.writes.goes told))

pub returns-clause-any_moment : goal.returns-clause-any_moment
returns-clause-any_moment g c told name last changes group is spelled =
    both_halves c.args.size name c.args.end last changes group spelled (g.H.Host.disk c.args.host.now) (g.H.Host.disk c.write_ring_kept.new.host)
    (behind_goes c.args.size c.args.end group c.args.closed.now is (g.H.Host.disk c.args.host.now) (g.H.Host.disk c.write_ring_kept.new.host) (c.write_ring_kept.ensures.writes.goes told)) (g.H.Host.disk c.write_ring_kept-2.new.host)
    (behind_kept c.args.size c.args.end group c.args.closed.now is (g.H.Host.disk c.write_ring_kept.new.host) (c.in_ok-write_ring_kept.ensures.kept told)) (c.write_ring_kept-2.ensures.writes.goes told)

pub returns-clause-there : goal.returns-clause-there
returns-clause-there g c = on_ok c.write_ring_kept-2.result _ _ (λ kept told name last changes group is spelled.
    arrives c.args.size name c.args.end last changes group spelled (g.H.Host.disk c.args.host.now) (g.H.Host.disk c.write_ring_kept.new.host)
    (behind_goes c.args.size c.args.end group c.args.closed.now is (g.H.Host.disk c.args.host.now) (g.H.Host.disk c.write_ring_kept.new.host) (c.write_ring_kept.ensures.writes.goes told)) (g.H.Host.disk c.write_ring_kept-2.new.host)
    (behind_kept c.args.size c.args.end group c.args.closed.now is (g.H.Host.disk c.write_ring_kept.new.host) (c.in_ok-write_ring_kept.ensures.kept told)) (c.write_ring_kept-2.ensures.writes.goes told) (kept told)) c.write_ring_kept-2.ensures.kept

pub returns-clause-elsewhere : goal.returns-clause-elsewhere
returns-clause-elsewhere g c told device other =
    (c.write_ring_kept-2.ensures.writes.seen told).others device other ∙ (c.write_ring_kept.ensures.writes.seen told).others device other
