use Rattle.std.proofs.Common.{◌≡◌, ℕ, ◌≤◌}
use Rattle.mdb_host.specs.Disk.{Goes}
use Rattle.creation.specs.Making.{Each, HasZeroVolumes}
use Rattle.creation.specs.Quiet.{AnyHow}
use Rattle.creation.proofs.area.make_devices.Given as goal

abbrev pub invariant-loop-i : goal.invariant-loop-i
invariant-loop-i g l = record {
  fresh : g.H.Host.tells → (birth : ℕ) → Each (g.H.Host.disk l.host) (HasZeroVolumes (record { birth = birth; volumes = l.fn.volumes.items; log_pages = l.fn.log_pages }) l.i);
  goes : g.H.Host.tells → Goes (g.H.Host.disk l.fn.host) (g.H.Host.disk l.host) AnyHow;
  faults : g.H.Host.faults l.fn.host ≤ g.H.Host.faults l.host;
  say_faults : g.H.Host.say_faults l.host ≡ g.H.Host.say_faults l.fn.host;
}
