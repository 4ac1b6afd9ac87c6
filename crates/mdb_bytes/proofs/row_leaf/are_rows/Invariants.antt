use Rattle.std.proofs.Common.{◌+◌, ◌-◌, ◌≤◌, ◌↔◌, None, length}
use Rattle.mdb_bytes.specs.TablePages.{longest_value}
use Rattle.mdb_bytes.specs.EntryPages.{row_layout, key_in, IsEntryRun}
use Rattle.mdb_bytes.proofs.row_leaf.are_rows.Given as goal

abbrev pub invariant-loop : goal.invariant-loop
invariant-loop l = record {
  within : length l.rest ≤ length l.rows;
  left : IsEntryRun (row_layout longest_value) None l.count 64 l.rows l.slots
      ↔ IsEntryRun (row_layout longest_value) (key_in l.last) (l.count - l.counter) (64 + (length l.rows - length l.rest)) l.rest l.left;
}
