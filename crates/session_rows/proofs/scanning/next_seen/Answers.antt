use Rattle.std.proofs.Common.{◌≡◌, sym, ap, ◌∙◌, subst, ℕ, ◌+◌, List, arith}
use Rattle.mdb_model.specs.declared.change.Change.{Change}
use Rattle.std.specs.FinMap.{values}
use Rattle.mdb_model.specs.Tables.{place_of}
use Rattle.mdb_bytes.specs.Held.{Holding, next_row}
use Rattle.transactions.specs.Ongoing.{changes_of}
use Rattle.session_rows.specs.Scan.{as_row, only_before}
use Rattle.session_rows.proofs.Behind.{same_item}
use Rattle.session_rows.proofs.Scans.{Comes, take_rest, take_row, take_put, pass, left_item, place_here, left_none, next_of, next_there, next_absent}
use Rattle.session_rows.proofs.scanning.next_seen.Goals as goal

pub returns-then-table_of-table-clause-found : goal.returns-then-table_of-table-clause-found
returns-then-table_of-table-clause-found g c known =
    let cs = values (changes_of c.args.transactions.now c.args.session.0) in
    let comes = c.loop-change.invariant.comes known in
    let item = c.in-Some.change.now in
    let here = left_item cs comes.at (c.in-Some.field-0-0.now, item) c.next.new.self
    (sym comes.behind ∙ c.in-Some.ensures.steps) in
    let row = take_rest cs c.changes_behind-change-items.ensures.ascend (g.R.Held.held c.args.rows.now).rows c.args.table.0 c.args.after.now.items c.loop-change.passed.items comes.at comes.come
    (λ e inside same. c.if-table_of-table.true (c.table_of.ensures
    ∙ ap (λ x. (place_of x).0) (sym (same_item cs comes.at e item inside ∙ here.1)) ∙ same)) in
    next_of _ _ _ (c.scan_next.ensures.found (c.loop-change.invariant.known known))
    (ap (λ (h : Holding). next_row h.rows c.args.table.0 c.loop-change.passed.items) (c.loop-change.invariant.same known) ∙ sym row)

pub returns-then-branch-clause-found : goal.returns-then-branch-clause-found
returns-then-branch-clause-found g c known =
    let cs = values (changes_of c.args.transactions.now c.args.session.0) in
    let comes = c.loop-change.invariant.comes known in
    let item = c.in-Some.change.now in
    let key = c.bytes.result.now in
    let here = left_item cs comes.at (c.in-Some.field-0-0.now, item) c.next.new.self
    (sym comes.behind ∙ c.in-Some.ensures.steps) in
    let there = place_here _ item here.1 c.args.table.0 key (sym c.table_of.ensures
    ∙ c.if-table_of-table.false) (sym (c.bytes.ensures ∙ c.key_of.ensures)) in
    take_row cs c.changes_behind-change-items.ensures.ascend (g.R.Held.held c.args.rows.now).rows c.args.table.0 c.args.after.now.items c.loop-change.passed.items comes.at comes.come item here.0 key there
    c.read_before.new.key.items c.read_before.new.value.items
    (ap (λ (h : Holding). only_before key (next_row h.rows c.args.table.0 c.loop-change.passed.items)) (sym (c.loop-change.invariant.same known))
    ∙ next_there c.in_ok-read_before.field-0 (only_before key (next_row (g.R.Held.held c.loop-change.rows).rows c.args.table.0 c.loop-change.passed.items)) c.read_before.new.key.items c.read_before.new.value.items c.if-branch.true (c.in_ok-read_before.ensures.found (c.loop-change.invariant.known known)))

pub returns-then-copy_put-clause-found : goal.returns-then-copy_put-clause-found
returns-then-copy_put-clause-found g c known =
    let cs = values (changes_of c.args.transactions.now c.args.session.0) in
    let comes = c.loop-change.invariant.comes known in
    let item = c.in-Some.change.now in
    let key = c.bytes.result.now in
    let here = left_item cs comes.at (c.in-Some.field-0-0.now, item) c.next.new.self
    (sym comes.behind ∙ c.in-Some.ensures.steps) in
    let there = place_here _ item here.1 c.args.table.0 key (sym c.table_of.ensures
    ∙ c.if-table_of-table.false) (sym (c.bytes.ensures ∙ c.key_of.ensures)) in
    take_put cs c.changes_behind-change-items.ensures.ascend (g.R.Held.held c.args.rows.now).rows c.args.table.0 c.args.after.now.items c.loop-change.passed.items comes.at comes.come item here.0 key there
    (ap (λ (h : Holding). only_before key (next_row h.rows c.args.table.0 c.loop-change.passed.items)) (sym (c.loop-change.invariant.same known))
    ∙ next_absent c.in_ok-read_before.field-0 (only_before key (next_row (g.R.Held.held c.loop-change.rows).rows c.args.table.0 c.loop-change.passed.items)) c.read_before.new.key.items c.read_before.new.value.items c.if-branch.false (c.in_ok-read_before.ensures.found (c.loop-change.invariant.known known)))
    c.copy_put.new.key.items c.copy_put.new.value.items (ap as_row here.1 ∙ c.if-copy_put.ensures)

pub loop-change-preserved : goal.loop-change-preserved
loop-change-preserved g c =
    let cs = values (changes_of c.args.transactions.now c.args.session.0) in
    let before = c.loop-change.invariant in
    let read = c.in_ok-read_before.ensures in
    let item = c.in-Some.change.now in
    let key = c.bytes.result.now in
    let there = λ (at : Change) (is : at ≡ item). place_here at item is c.args.table.0 key (sym c.table_of.ensures
    ∙ c.if-table_of-table.false) (sym (c.bytes.ensures ∙ c.key_of.ensures)) in
    let same_key : key ≡ c.to_buf-passed.result.items = c.bytes.ensures ∙ c.key_of.ensures
    ∙ sym ((λ i. (c.to_buf-passed.ensures i).items) ∙ c.key_of-in-loop-change.ensures) in
    record {
      comes = λ known.
          let comes = before.comes known in
          let here = left_item cs comes.at (c.in-Some.field-0-0.now, item) c.next.new.self (sym comes.behind ∙ c.in-Some.ensures.steps) in
          let absent = ap (λ (h : Holding). only_before key (next_row h.rows c.args.table.0 c.loop-change.passed.items)) (sym (before.same known))
          ∙ next_absent c.in_ok-read_before.field-0 (only_before key (next_row (g.R.Held.held c.loop-change.rows).rows c.args.table.0 c.loop-change.passed.items)) c.read_before.new.key.items c.read_before.new.value.items c.if-branch.false (read.found (before.known known)) in
          subst (λ (k : List ℕ). Comes cs (g.R.Held.held c.args.rows.now).rows c.args.table.0 c.args.after.now.items k c.next.new.self) same_key
          (record {
            at = comes.at + 1;
            come = pass cs c.changes_behind-change-items.ensures.ascend (g.R.Held.held c.args.rows.now).rows c.args.table.0 c.args.after.now.items c.loop-change.passed.items comes.at comes.come item here.0 key (there _ here.1)
                absent (ap as_row here.1 ∙ c.if-copy_put.ensures);
            behind = here.2;
          });
      known = λ known. (read.same (before.known known)).0;
      same = λ known. (read.same (before.known known)).1 ∙ before.same known;
      spare = omega (arith, before.spare, read.spare);
      later = omega (arith, before.later, read.cause.later);
      follows = g.R.Held.follows_on _ _ _ before.follows read.follows;
    }

pub returns-clause-found : goal.returns-clause-found
returns-clause-found g c known =
    let cs = values (changes_of c.args.transactions.now c.args.session.0) in
    let comes = c.loop-change.invariant.comes known in
    let past = left_none cs comes.at (sym comes.behind ∙ c.in-None.ensures.steps.0) in
    let row = take_rest cs c.changes_behind-change-items.ensures.ascend (g.R.Held.held c.args.rows.now).rows c.args.table.0 c.args.after.now.items c.loop-change.passed.items comes.at comes.come (λ e inside. absurd (omega (arith, past, inside))) in
    next_of _ _ _ (c.scan_next-2.ensures.found (c.loop-change.invariant.known known))
    (ap (λ (h : Holding). next_row h.rows c.args.table.0 c.loop-change.passed.items) (c.loop-change.invariant.same known) ∙ sym row)
