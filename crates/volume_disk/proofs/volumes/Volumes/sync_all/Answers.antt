use Rattle.std.proofs.Common.{length, ap, arith}
use Rattle.mdb_host.specs.Disk.{Agree}
use Rattle.mdb_host.proofs.Moments.{onward, agree_twice}
use Rattle.volume_disk.proofs.Writes.{volume_there, settled_more, all_settled}
use Rattle.volume_disk.proofs.volumes.Volumes.sync_all.Goals as goal

pub sync-requires : goal.sync-requires
sync-requires g c told =
    volume_there c.args.self.now (g.H.Host.disk c.args.host.now).seen (g.H.Host.disk c.loop-i.host).seen c.loop-i.i (c.loop-i.invariant.seen told) (c.requires told) (omega (arith, ap length c.self.view_is))

pub returns-in_err-sync-clause-goes : goal.returns-in_err-sync-clause-goes
returns-in_err-sync-clause-goes g c told = onward _ _ _ Agree agree_twice (c.loop-i.invariant.goes told) (c.sync.ensures.calls told).goes

pub returns-in_err-sync-clause-moments : goal.returns-in_err-sync-clause-moments
returns-in_err-sync-clause-moments g c told = omega (arith, (c.sync.ensures.calls told).no_more_than_one, c.loop-i.invariant.moments told, ap length c.self.view_is)

pub loop-i-preserved : goal.loop-i-preserved
loop-i-preserved g c = record {
  goes = λ told. onward _ _ _ Agree agree_twice (c.loop-i.invariant.goes told) (c.sync.ensures.calls told).goes;
  seen = λ told. agree_twice (g.H.Host.disk c.args.host.now).seen (g.H.Host.disk c.loop-i.host).seen (g.H.Host.disk c.sync.new.self).seen (c.loop-i.invariant.seen told) (c.sync.ensures.calls told).seen;
  moments = λ told. omega (arith, (c.sync.ensures.calls told).no_more_than_one, c.loop-i.invariant.moments told);
  settled = λ told. settled_more (g.H.Host.disk c.loop-i.host) (g.H.Host.disk c.sync.new.self) c.loop-i.i (c.sync.ensures.calls told).goes (c.sync.ensures.calls told).seen (c.loop-i.invariant.settled told) (c.in_ok-sync.ensures.synced told);
  faults = omega (arith, c.sync.ensures.cause.later, c.loop-i.invariant.faults);
  say_faults = cc;
}

pub returns-clause-moments : goal.returns-clause-moments
returns-clause-moments g c told = omega (arith, c.loop-i.invariant.moments told, ap length c.self.view_is)

pub returns-clause-settled : goal.returns-clause-settled
returns-clause-settled g c told = all_settled c.args.self.now (g.H.Host.disk c.loop-i.host) c.loop-i.i (omega (arith, ap length c.self.view_is)) (c.loop-i.invariant.settled told)
