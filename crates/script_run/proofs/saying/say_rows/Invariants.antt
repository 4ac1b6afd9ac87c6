use Rattle.std.proofs.Common.{◌-◌, ◌≤◌, List}
use Rattle.mdb_model.specs.Worlds.{World}
use Rattle.mdb_host.specs.Disk.{Keeps}
use Rattle.db_kernel.specs.Kept.{IsSoundKernel, greatest_in}
use Rattle.script_run.specs.Scans.{IsOpenScan}
use Rattle.script_run.proofs.ScanTexts.{SaidTo}
use Rattle.script_run.proofs.saying.say_rows.Given as goal

abbrev pub invariant-loop-rows : goal.invariant-loop-rows
invariant-loop-rows g l = record {
  sound : IsSoundKernel g.H.Host.tells l.kernel.database (g.H.Host.disk l.host);
  numbers : greatest_in l.kernel.database ≤ greatest_in l.fn.kernel.database;
  keeps : g.H.Host.tells → Keeps (g.H.Host.disk l.fn.host) (g.H.Host.disk l.host);
  said : g.H.Host.tells → (ws : List World) → IsOpenScan (g.H.Host.disk l.fn.host) ws l.fn.kernel.database l.session l.table
      → SaidTo ws l.fn.kernel.database l.session l.table (g.H.Host.disk l.fn.host) (g.H.Host.disk l.host) l.kernel.database l.rows l.after.items;
  faults : g.H.Host.faults l.fn.host ≤ g.H.Host.faults l.host;
  say_faults : g.H.Host.say_faults l.fn.host ≤ g.H.Host.say_faults l.host;
}

abbrev pub decreases-loop-rows : goal.decreases-loop-rows
decreases-loop-rows g l = 18446744073709551615 - l.rows
