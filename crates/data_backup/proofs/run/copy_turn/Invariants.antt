use Rattle.std.proofs.Common.{◌≡◌, ◌+◌, ◌-◌, ◌*◌, ◌≤◌, min}
use Rattle.mdb_model.specs.declared.fault.Device.TheVariants.{Medium}
use Rattle.mdb_model.specs.Images.{Image}
use Rattle.mdb_host.specs.Disk.{Goes, Torn}
use Rattle.mdb_bytes.specs.Parts.{page_len}
use Rattle.data_backup.specs.Copying.{HasLeft, IsCopying}
use Rattle.data_backup.proofs.run.copy_turn.Given as goal

abbrev pub invariant-loop-run : goal.invariant-loop-run
invariant-loop-run g l = record {
  low : l.rest ≤ l.run.left;
  high : l.run.left ≤ l.fn.run.left;
  run : l.run ≡ record {
    writer = record l.fn.run.writer { appended = l.fn.run.writer.appended + (l.fn.run.left - l.run.left) };
    base = l.fn.run.base;
    last = l.run.last;
    left = l.run.left;
  };
  left : (image : Image) → HasLeft l.run (g.F.FrozenPages.frozen l.fn.pages image);
  follows : g.F.FrozenPages.follows l.fn.pages l.pages;
  copying : g.H.Host.tells → g.F.FrozenPages.is_known l.fn.pages (g.H.Host.disk l.fn.host).seen → IsCopying l.fn.run (g.F.FrozenPages.frozen l.fn.pages (g.H.Host.disk l.fn.host).seen) (g.H.Host.disk l.fn.host)
      → IsCopying l.run (g.F.FrozenPages.frozen l.fn.pages (g.H.Host.disk l.fn.host).seen) (g.H.Host.disk l.host);
  goes : g.H.Host.tells → Goes (g.H.Host.disk l.fn.host) (g.H.Host.disk l.host) (Torn (Medium l.fn.run.writer.medium) (page_len * (1 + l.fn.run.writer.appended)) (page_len * min l.most l.fn.run.left));
  seen : g.H.Host.tells → Torn (Medium l.fn.run.writer.medium) (page_len * (1 + l.fn.run.writer.appended)) (page_len * min l.most l.fn.run.left) (g.H.Host.disk l.fn.host).seen (g.H.Host.disk l.host).seen;
  later : g.H.Host.faults l.fn.host ≤ g.H.Host.faults l.host;
  say_faults : g.H.Host.say_faults l.host ≡ g.H.Host.say_faults l.fn.host;
}

abbrev pub decreases-loop-run : goal.decreases-loop-run
decreases-loop-run g l = l.run.left - l.rest
