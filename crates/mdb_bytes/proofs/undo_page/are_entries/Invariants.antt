use Rattle.std.proofs.Common.{◌+◌, ◌-◌, ◌≤◌, ◌↔◌, None, [], length}
use Rattle.mdb_bytes.specs.TablePages.{longest_value}
use Rattle.mdb_bytes.specs.EntryPages.{undo_layout, IsEntryRun}
use Rattle.mdb_bytes.proofs.undo_page.are_entries.Given as goal

abbrev pub invariant-loop : goal.invariant-loop
invariant-loop l = record {
  within : length l.rest ≤ length l.entries;
  left : IsEntryRun (undo_layout longest_value) None l.count 64 l.entries []
      ↔ IsEntryRun (undo_layout longest_value) None (l.count - l.counter) (64 + (length l.entries - length l.rest)) l.rest [];
}
