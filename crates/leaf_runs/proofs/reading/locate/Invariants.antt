use Rattle.std.proofs.Common.{◌≡◌, ◌≤◌, ◌<◌, List, length}
use Rattle.leaf_runs.specs.Runs.{Leaf, IsTableRun}
use Rattle.leaf_runs.proofs.Walks.{IsWalk}
use Rattle.leaf_runs.proofs.reading.locate.Given as goal

abbrev pub invariant-loop : goal.invariant-loop
invariant-loop g l = record {
  same : g.P.Pages.is_known l.initial.pages → g.P.Pages.is_known l.pages × (g.P.Pages.pages l.pages ≡ g.P.Pages.pages l.initial.pages);
  walk : (leaves : List Leaf) → IsTableRun (g.P.Pages.pages l.initial.pages) l.table.0 l.fn.entry leaves → 0 < length leaves → g.P.Pages.is_known l.initial.pages → IsWalk leaves l.key l.before l.page l.counter;
  spare : g.P.Pages.spare l.initial.pages ≤ g.P.Pages.spare l.pages;
  faults : g.P.Pages.faults l.initial.pages ≤ g.P.Pages.faults l.pages;
  follows : g.P.Pages.follows l.initial.pages l.pages;
}
