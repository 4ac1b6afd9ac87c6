use Rattle.std.proofs.Common.{◌≡◌, ◌≤◌}
use Rattle.page_store.specs.Steps.{CleansFrames, KeepsStore, unwritten}
use Rattle.page_store.proofs.keeping.write_pages.Given as goal

abbrev pub invariant-loop-left : goal.invariant-loop-left
invariant-loop-left g l = record {
  turned : CleansFrames l.fn.store l.store;
  keeps : KeepsStore g.H.Host.tells l.fn.store l.store (g.H.Host.disk l.fn.host) (g.H.Host.disk l.host);
  faults : g.H.Host.faults l.fn.host ≤ g.H.Host.faults l.host;
  say_faults : g.H.Host.say_faults l.host ≡ g.H.Host.say_faults l.fn.host;
}

abbrev pub decreases-loop-left : goal.decreases-loop-left
decreases-loop-left g l = unwritten l.store
