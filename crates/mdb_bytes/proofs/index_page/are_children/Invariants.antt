use Rattle.std.proofs.Common.{◌+◌, ◌-◌, ◌≤◌, ◌↔◌, None, length}
use Rattle.mdb_bytes.specs.EntryPages.{child_layout, key_in, IsEntryRun}
use Rattle.mdb_bytes.proofs.index_page.are_children.Given as goal

abbrev pub invariant-loop : goal.invariant-loop
invariant-loop l = record {
  within : length l.rest ≤ length l.children;
  left : IsEntryRun child_layout None l.count 64 l.children l.slots
      ↔ IsEntryRun child_layout (key_in l.last) (l.count - l.counter) (64 + (length l.children - length l.rest)) l.rest l.left;
}
