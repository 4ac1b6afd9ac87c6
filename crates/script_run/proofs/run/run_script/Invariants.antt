use Rattle.std.proofs.Common.{◌+◌, ◌-◌, ◌*◌, ◌^◌, ◌≤◌, List}
use Rattle.mdb_host.specs.Disk.{Keeps}
use Rattle.mdb_model.specs.Worlds.{World}
use Rattle.db_kernel.specs.Kept.{IsSoundKernel, greatest_in}
use Rattle.open_database.specs.Serving.{AreOff}
use Rattle.open_database.specs.Stretch.{LeavesOnly}
use Rattle.script_run.specs.Progress.{Progress}
use Rattle.script_run.proofs.run.run_script.Given as goal
use Rattle.open_database.specs.Outside.{page_reading, StandsFor}

abbrev pub invariant-loop-count : goal.invariant-loop-count
invariant-loop-count g l = record {
  count : l.count ≤ 16777216;
  sound : IsSoundKernel g.H.Host.tells l.kernel.database (g.H.Host.disk l.host);
  numbers : greatest_in l.kernel.database ≤ 2 ^ 61 + l.count * 2 ^ 35;
  keeps : g.H.Host.tells → Keeps (g.H.Host.disk l.fn.host) (g.H.Host.disk l.host);
  faults : g.H.Host.faults l.fn.host ≤ g.H.Host.faults l.host;
  say_faults : g.H.Host.say_faults l.fn.host ≤ g.H.Host.say_faults l.host;
  script : g.S.Source.faults l.fn.source ≤ g.S.Source.faults l.source;
  progress : g.H.Host.tells → (ws : List World) → AreOff ws → LeavesOnly page_reading StandsFor (g.H.Host.disk l.fn.host) ws
      → Progress (g.H.Host.disk l.fn.host) (g.H.Host.disk l.host) (g.H.Host.faults l.fn.host) (g.H.Host.faults l.host) ws l.kernel.database l.reader
      (g.S.Source.left l.fn.source) (g.S.Source.left l.source) l.count;
}

abbrev pub decreases-loop-count : goal.decreases-loop-count
decreases-loop-count g l = 16777217 - l.count
