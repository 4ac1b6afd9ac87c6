use Rattle.std.proofs.Common.{◌≡◌, ◌≤◌}
use Rattle.mdb_host.specs.Disk.{Goes, Agree}
use Rattle.creation.specs.Devices.{SyncedUpTo}
use Rattle.creation.proofs.devices.sync_devices.Given as goal

abbrev pub invariant-loop-number : goal.invariant-loop-number
invariant-loop-number g l = record {
  calm : g.H.Host.tells → Goes (g.H.Host.disk l.fn.host) (g.H.Host.disk l.host) Agree;
  seen : g.H.Host.tells → Agree (g.H.Host.disk l.fn.host).seen (g.H.Host.disk l.host).seen;
  synced : g.H.Host.tells → SyncedUpTo l.number (g.H.Host.disk l.host);
  faults : g.H.Host.faults l.fn.host ≤ g.H.Host.faults l.host;
  say_faults : g.H.Host.say_faults l.host ≡ g.H.Host.say_faults l.fn.host;
}
