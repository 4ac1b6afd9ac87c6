use Rattle.std.proofs.Common.{◌≡◌, ◌≤◌}
use Rattle.std.specs.FinMap.{values}
use Rattle.transactions.specs.Ongoing.{changes_of}
use Rattle.session_rows.proofs.Scans.{Comes}
use Rattle.session_rows.proofs.scanning.next_seen.Given as goal

abbrev pub invariant-loop-change : goal.invariant-loop-change
invariant-loop-change g l = record {
  comes : g.R.Held.is_known l.fn.rows → Comes (values
      (changes_of l.transactions l.fn.session.0)) (g.R.Held.held l.fn.rows).rows l.table.0 l.after.items l.passed.items l.change-iterator;
  known : g.R.Held.is_known l.fn.rows → g.R.Held.is_known l.rows;
  same : g.R.Held.is_known l.fn.rows → g.R.Held.held l.rows ≡ g.R.Held.held l.fn.rows;
  spare : g.R.Held.spare l.fn.rows ≤ g.R.Held.spare l.rows;
  later : g.R.Held.faults l.fn.rows ≤ g.R.Held.faults l.rows;
  follows : g.R.Held.follows l.fn.rows l.rows;
}
