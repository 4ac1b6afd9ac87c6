use Rattle.std.proofs.Common.{◌≡◌, ◌+◌, ◌-◌, ◌↔◌, None, Some, length, sym, subst, ◌∙◌, arith}
use Rattle.mdb_bytes.specs.TablePages.{Row, longest_value}
use Rattle.mdb_bytes.specs.EntryPages.{row_layout, key_in, IsEntryRun}
use Rattle.mdb_bytes.proofs.EntryRuns.{begins_longer, run_on, run_breaks, run_slot, run_lacks, run_ends}
use Rattle.mdb_bytes.proofs.RowEntries.{row_law}
use Rattle.mdb_bytes.proofs.SlotFacts.{both_empty, some_left}
use Rattle.mdb_bytes.proofs.row_leaf.are_rows.Goals as goal

pub returns-in_default : goal.returns-in_default
returns-in_default c =
    run_lacks (row_layout longest_value) 2 (row_law longest_value) (key_in c.loop.last) c.args.count c.loop.counter (64 + (length c.args.rows.now - length c.loop.rest.now))
    c.loop.rest.now c.loop.left.now c.loop-test.true c.loop.invariant.left c.in_default.ensures

pub returns-then-not-may_stand : goal.returns-then-not-may_stand
returns-then-not-may_stand c =
    let row : Row = (c.in-Some.key.now, c.in-Some.ensures.0) in
    run_breaks (row_layout longest_value) 2 (row_law longest_value) (key_in c.loop.last) c.args.count c.loop.counter (64 + (length c.args.rows.now - length c.loop.rest.now))
    c.loop.rest.now c.loop.left.now c.loop-test.true c.loop.invariant.left row c.in-Some.behind.now c.in-Some.ensures.1 (sym c.may_stand.ensures ∙ c.if-not-may_stand.true)

pub returns-in_default-slots_in_front : goal.returns-in_default-slots_in_front
returns-in_default-slots_in_front c =
    run_slot (row_layout longest_value) 2 (row_law longest_value) (key_in c.loop.last) c.args.count c.loop.counter (64 + (length c.args.rows.now - length c.loop.rest.now))
    c.loop.rest.now c.loop.left.now c.loop-test.true c.loop.invariant.left c.in_default-slots_in_front.ensures

pub loop-preserved : goal.loop-preserved
loop-preserved c =
    let row : Row = (c.in-Some.key.now, c.in-Some.ensures.0) in
    let longer = begins_longer (row_layout longest_value) 2 (row_law longest_value) row c.loop.rest.now c.in-Some.behind.now c.in-Some.ensures.1 in
    let within = c.loop.invariant.within in
    let place : 64 + (length c.args.rows.now - length c.loop.rest.now) + (row_layout longest_value).len row ≡ 64 + (length c.args.rows.now - length c.in-Some.behind.now) =
    omega arith in record {
      within = omega arith;
      left = subst (λ at. IsEntryRun (row_layout longest_value) None c.args.count 64 c.args.rows.now c.args.slots.now
          ↔ IsEntryRun (row_layout longest_value) (Some c.in-Some.key.now) (c.args.count - (c.loop.counter + 1)) at c.in-Some.behind.now c.in-Some-slots_in_front.others.now) place
          (run_on (row_layout longest_value) 2 (row_law longest_value) (key_in c.loop.last) c.args.count c.loop.counter (64 + (length c.args.rows.now - length c.loop.rest.now))
          c.loop.rest.now c.loop.left.now c.loop-test.true c.loop.invariant.left row c.in-Some.behind.now c.in-Some-slots_in_front.others.now c.in-Some.ensures.1
          c.in-Some-slots_in_front.ensures (sym c.may_stand.ensures ∙ c.if-not-may_stand.false));
    }

pub returns-then-is_empty : goal.returns-then-is_empty
returns-then-is_empty c =
    let none_left : c.args.count - c.loop.counter ≡ 0 = omega arith in
    run_ends (row_layout longest_value) 2 (row_law longest_value) (key_in c.loop.last) (c.args.count - c.loop.counter) (64 + (length c.args.rows.now - length c.loop.rest.now))
    c.loop.rest.now c.loop.left.now c.is_empty-then-is_empty.result none_left
    (both_empty c.is_empty.result c.is_empty-then-is_empty.result c.loop.rest.now c.loop.left.now c.is_empty.ensures c.if-is_empty.true c.is_empty-then-is_empty.ensures)
    c.loop.invariant.left

pub returns-else-is_empty : goal.returns-else-is_empty
returns-else-is_empty c =
    let none_left : c.args.count - c.loop.counter ≡ 0 = omega arith in
    run_ends (row_layout longest_value) 2 (row_law longest_value) (key_in c.loop.last) (c.args.count - c.loop.counter) (64 + (length c.args.rows.now - length c.loop.rest.now))
    c.loop.rest.now c.loop.left.now c.is_empty.result none_left (some_left c.is_empty.result c.loop.rest.now c.loop.left.now c.is_empty.ensures c.if-is_empty.false)
    c.loop.invariant.left
