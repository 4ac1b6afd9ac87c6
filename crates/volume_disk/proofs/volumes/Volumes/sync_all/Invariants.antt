use Rattle.std.proofs.Common.{◌≡◌, ◌+◌, ◌≤◌}
use Rattle.mdb_host.specs.Disk.{Goes, Agree}
use Rattle.volume_disk.specs.Blocks.{AreVolumesDurable}
use Rattle.volume_disk.proofs.volumes.Volumes.sync_all.Given as goal

abbrev pub invariant-loop-i : goal.invariant-loop-i
invariant-loop-i g l = record {
  goes : g.H.Host.tells → Goes (g.H.Host.disk l.fn.host) (g.H.Host.disk l.host) Agree;
  seen : g.H.Host.tells → Agree (g.H.Host.disk l.fn.host).seen (g.H.Host.disk l.host).seen;
  moments : g.H.Host.tells → (g.H.Host.disk l.host).now ≤ (g.H.Host.disk l.fn.host).now + l.i;
  settled : g.H.Host.tells → AreVolumesDurable l.i (g.H.Host.disk l.host);
  faults : g.H.Host.faults l.fn.host ≤ g.H.Host.faults l.host;
  say_faults : g.H.Host.say_faults l.host ≡ g.H.Host.say_faults l.fn.host;
}
