use Rattle.std.proofs.Common.{◌≡◌, ◌+◌, ◌-◌, ◌↔◌, ℕ, None, [], length, refl, subst, arith}
use Rattle.mdb_bytes.specs.Fields.{spelled}
use Rattle.mdb_bytes.specs.TablePages.{longest_value}
use Rattle.mdb_bytes.specs.UndoPages.{UndoEntry}
use Rattle.mdb_bytes.specs.EntryPages.{undo_layout, IsEntryRun}
use Rattle.mdb_bytes.proofs.Booleans.{empty_test}
use Rattle.mdb_bytes.proofs.EntryRuns.{begins_longer, run_on, run_lacks, run_ends}
use Rattle.mdb_bytes.proofs.UndoEntries.{undo_law}
use Rattle.mdb_bytes.proofs.undo_page.are_entries.Goals as goal

pub returns-in_default : goal.returns-in_default
returns-in_default c =
    run_lacks (undo_layout longest_value) 0 (undo_law longest_value) None c.args.count c.loop.counter (64 + (length c.args.entries.now - length c.loop.rest.now))
    c.loop.rest.now [] c.loop-test.true c.loop.invariant.left c.in_default.ensures

pub loop-preserved : goal.loop-preserved
unfolding spelled
loop-preserved c =
    let v : UndoEntry = c.in-Some.ensures.0 in
    let longer = begins_longer (undo_layout longest_value) 0 (undo_law longest_value) v c.loop.rest.now c.in-Some.behind.now c.in-Some.ensures.1 in
    let within = c.loop.invariant.within in
    let place : 64 + (length c.args.entries.now - length c.loop.rest.now) + (undo_layout longest_value).len v ≡ 64 + (length c.args.entries.now - length c.in-Some.behind.now) =
    omega arith in record {
      within = omega arith;
      left = subst (λ (at : ℕ). IsEntryRun (undo_layout longest_value) None c.args.count 64 c.args.entries.now []
          ↔ IsEntryRun (undo_layout longest_value) None (c.args.count - (c.loop.counter + 1)) at c.in-Some.behind.now []) place
          (run_on (undo_layout longest_value) 0 (undo_law longest_value) None c.args.count c.loop.counter (64 + (length c.args.entries.now - length c.loop.rest.now))
          c.loop.rest.now [] c.loop-test.true c.loop.invariant.left v c.in-Some.behind.now [] c.in-Some.ensures.1 refl refl);
    }

pub returns : goal.returns
returns c =
    let none_left : c.args.count - c.loop.counter ≡ 0 = omega arith in
    let empty = empty_test c.is_empty.result c.loop.rest.now c.is_empty.ensures in
    run_ends (undo_layout longest_value) 0 (undo_law longest_value) None (c.args.count - c.loop.counter) (64 + (length c.args.entries.now - length c.loop.rest.now))
    c.loop.rest.now [] c.is_empty.result none_left (λ t. (empty.0 t, refl), λ both. empty.1 both.0) c.loop.invariant.left
