use Rattle.std.proofs.Common.{◌≡◌, ◌≤◌, ◌+◌, ◌-◌, ℕ}
use Rattle.page_store.specs.Steps.{CleansFrames, KeepsStore, is_unwritten, unwritten_below}
use Rattle.page_store.proofs.store.PageStore.turn_savepoint.Given as goal

abbrev pub invariant-loop-page : goal.invariant-loop-page
invariant-loop-page g l = record {
  turned : CleansFrames l.fn.self l.self;
  keeps : KeepsStore g.H.Host.tells l.fn.self l.self (g.H.Host.disk l.fn.host) (g.H.Host.disk l.host);
  rest : (k : ℕ) → l.page ≤ k → is_unwritten l.self k ≡ is_unwritten l.fn.self k;
  still : l.left ≡ unwritten_below l.self l.page;
  total : l.written + l.left ≡ unwritten_below l.fn.self l.page;
  over : l.left ≡ unwritten_below l.fn.self l.page - l.most;
  few : l.written + l.left ≤ l.page;
  faults : g.H.Host.faults l.fn.host ≤ g.H.Host.faults l.host;
  say_faults : g.H.Host.say_faults l.host ≡ g.H.Host.say_faults l.fn.host;
}
