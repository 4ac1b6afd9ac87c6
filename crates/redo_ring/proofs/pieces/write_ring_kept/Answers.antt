use Rattle.std.proofs.Common.{length, ◌∙◌}
use Rattle.mdb_host.proofs.Moments.{calmly, on_ok}
use Rattle.redo_ring.proofs.Places.{torn_calm, stands_kept}
use Rattle.redo_ring.proofs.pieces.write_ring_kept.Goals as goal

pub returns-clause-writes : goal.returns-clause-writes
returns-clause-writes g c = record {
  goes = λ told. calmly _ _ _ _ (torn_calm c.args.size c.args.position (length c.args.bytes.now)) (c.write_ring.ensures.writes.goes told) (c.sync.ensures.calls told).goes;
  seen = λ told. torn_calm c.args.size c.args.position (length c.args.bytes.now) _ _ _ (c.write_ring.ensures.writes.seen told) (c.sync.ensures.calls told).seen;
  say_faults = c.sync.ensures.say_faults ∙ c.write_ring.ensures.writes.say_faults;
}

pub returns-clause-kept : goal.returns-clause-kept
returns-clause-kept g c = on_ok c.sync.result _ _ (λ synced told.
    stands_kept c.args.size c.args.position c.args.bytes.now (g.H.Host.disk c.write_ring.new.host) (g.H.Host.disk c.sync.new.self) (c.in_ok-write_ring.ensures.written told) (c.sync.ensures.calls told).seen (synced told)) c.sync.ensures.synced
