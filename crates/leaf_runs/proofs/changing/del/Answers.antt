use Rattle.std.proofs.Common.{◌≡◌, None, is_some, refl, sym, ap, ◌∙◌, arith}
use Rattle.std.specs.FinMap.{get, find}
use Rattle.row_page.specs.Entries.{by_bytes}
use Rattle.leaf_runs.specs.Runs.{rows_in_pages, run_rows}
use Rattle.leaf_runs.proofs.Causes.{cause_through}
use Rattle.leaf_runs.proofs.Gets.{table_limits, has_leaves, no_leaves, row_there, run_on}
use Rattle.leaf_runs.proofs.RowCosts.{cost_none, cost_some}
use Rattle.leaf_runs.proofs.NewRuns.{whole_run, whole_on, new_on}
use Rattle.leaf_runs.proofs.Changes.{entry_ready, new_runs, new_others, others_same, removed_map, removed_absent, runs_same}
use Rattle.leaf_runs.proofs.Places.{catalogue_some}
use Rattle.leaf_runs.proofs.changing.del.Goals as goal

-- No leaves

pub returns-then-entry-eq0-clause-found : goal.returns-then-entry-eq0-clause-found
returns-then-entry-eq0-clause-found g c = λ known r.
    let m = g.P.Pages.pages c.args.pages.now in
    let t = table_limits c.args.table.0 c.requires.table in
    let whole = whole_run m r c.args.table.0 c.in_ok-entry.entry t.0 t.1 (c.in_ok-entry.ensures.entry known (catalogue_some m r)) in
    sym (ap is_some (row_there m r c.args.table.0 c.args.key.now t.0 t.1 ∙ ap (find by_bytes c.args.key.now) (no_leaves m c.args.table.0 c.in_ok-entry.entry (r.runs c.args.table.0) whole.run c.if-entry-eq0.true)))

pub returns-then-entry-eq0-clause-gone : goal.returns-then-entry-eq0-clause-gone
returns-then-entry-eq0-clause-gone g c = λ known r.
    let m = g.P.Pages.pages c.args.pages.now in
    let m1 = g.P.Pages.pages c.read_entry.new.pages in
    let t = table_limits c.args.table.0 c.requires.table in
    let one = c.in_ok-entry.ensures.same known in
    let whole = whole_run m r c.args.table.0 c.in_ok-entry.entry t.0 t.1 (c.in_ok-entry.ensures.entry known (catalogue_some m r)) in
    let none : get (rows_in_pages m) (c.args.table.0, c.args.key.now) ≡ None =
    row_there m r c.args.table.0 c.args.key.now t.0 t.1 ∙ ap (find by_bytes c.args.key.now) (no_leaves m c.args.table.0 c.in_ok-entry.entry (r.runs c.args.table.0) whole.run c.if-entry-eq0.true) in
    record {
      runs = runs_same m m1 one.1 r;
      rows = removed_absent m m1 c.args.table.0 c.args.key.now one.1 none;
      others = others_same m m1 c.args.table.0 one.1;
    }

-- No row

pub returns-then-found-eq0-clause-found : goal.returns-then-found-eq0-clause-found
returns-then-found-eq0-clause-found g c = λ known r.
    let m = g.P.Pages.pages c.args.pages.now in
    let m1 = g.P.Pages.pages c.read_entry.new.pages in
    let t = table_limits c.args.table.0 c.requires.table in
    let one = c.in_ok-entry.ensures.same known in
    let whole = whole_run m r c.args.table.0 c.in_ok-entry.entry t.0 t.1 (c.in_ok-entry.ensures.entry known (catalogue_some m r)) in
    let some = has_leaves m c.args.table.0 c.in_ok-entry.entry (r.runs c.args.table.0) whole.run c.if-entry-eq0.false in
    let found = c.in_ok-found.ensures.found one.0 (r.runs c.args.table.0) (run_on m m1 c.args.table.0 c.in_ok-entry.entry (r.runs c.args.table.0) one.1 whole.run) some in
    sym (ap is_some (row_there m r c.args.table.0 c.args.key.now t.0 t.1 ∙ cost_none c.args.key.now (find by_bytes c.args.key.now (run_rows (r.runs c.args.table.0))) (sym found.cost_is ∙ c.if-found-eq0.true)))

pub returns-then-found-eq0-clause-gone : goal.returns-then-found-eq0-clause-gone
returns-then-found-eq0-clause-gone g c = λ known r.
    let m = g.P.Pages.pages c.args.pages.now in
    let m1 = g.P.Pages.pages c.read_entry.new.pages in
    let m2 = g.P.Pages.pages c.find_row.new.pages in
    let t = table_limits c.args.table.0 c.requires.table in
    let one = c.in_ok-entry.ensures.same known in
    let whole = whole_run m r c.args.table.0 c.in_ok-entry.entry t.0 t.1 (c.in_ok-entry.ensures.entry known (catalogue_some m r)) in
    let some = has_leaves m c.args.table.0 c.in_ok-entry.entry (r.runs c.args.table.0) whole.run c.if-entry-eq0.false in
    let found = c.in_ok-found.ensures.found one.0 (r.runs c.args.table.0) (run_on m m1 c.args.table.0 c.in_ok-entry.entry (r.runs c.args.table.0) one.1 whole.run) some in
    let two = c.in_ok-found.ensures.same one.0 in
    let none : get (rows_in_pages m) (c.args.table.0, c.args.key.now) ≡ None =
    row_there m r c.args.table.0 c.args.key.now t.0 t.1 ∙ cost_none c.args.key.now (find by_bytes c.args.key.now (run_rows (r.runs c.args.table.0))) (sym found.cost_is ∙ c.if-found-eq0.true) in
    record {
      runs = runs_same m m2 (two.1 ∙ one.1) r;
      rows = removed_absent m m2 c.args.table.0 c.args.key.now (two.1 ∙ one.1) none;
      others = others_same m m2 c.args.table.0 (two.1 ∙ one.1);
    }

-- A row

pub returns-in_err-changed-clause-cause : goal.returns-in_err-changed-clause-cause
returns-in_err-changed-clause-cause g c =
    let h = c.in_err-changed.ensures.cause in
    cause_through (g.P.Pages.faults c.args.pages.now) (g.P.Pages.faults c.find_row.new.pages) (g.P.Pages.faults c.take_from_table.new.pages) c.in_err-changed.field-0.0 c.from_residual-in_err-changed.result
    c.from_residual-in_err-changed.ensures.1 (omega (arith, c.read_entry.ensures.cause.later, c.find_row.ensures.cause.later)) h.later h.failed
    (λ k.
    let m = g.P.Pages.pages c.args.pages.now in
    let m1 = g.P.Pages.pages c.read_entry.new.pages in
    let m2 = g.P.Pages.pages c.find_row.new.pages in
    let r = k.1 in
    let t = table_limits c.args.table.0 c.requires.table in
    let one = c.in_ok-entry.ensures.same k.0 in
    let whole = whole_run m r c.args.table.0 c.in_ok-entry.entry t.0 t.1 (c.in_ok-entry.ensures.entry k.0 (catalogue_some m r)) in
    let some = has_leaves m c.args.table.0 c.in_ok-entry.entry (r.runs c.args.table.0) whole.run c.if-entry-eq0.false in
    let found = c.in_ok-found.ensures.found one.0 (r.runs c.args.table.0) (run_on m m1 c.args.table.0 c.in_ok-entry.entry (r.runs c.args.table.0) one.1 whole.run) some in
    let two = c.in_ok-found.ensures.same one.0 in
    h.whole (two.0, (r.runs c.args.table.0, whole_on m m2 c.args.table.0 c.in_ok-entry.entry (r.runs c.args.table.0) (two.1 ∙ one.1) whole, found)))

pub returns-in_err-changed-clause-follows : goal.returns-in_err-changed-clause-follows
returns-in_err-changed-clause-follows g c =
    g.P.Pages.follows_on _ _ _ (g.P.Pages.follows_on _ _ _ c.read_entry.ensures.follows c.find_row.ensures.follows) c.take_from_table.ensures.follows

pub returns-in_err-write_entry-clause-cause : goal.returns-in_err-write_entry-clause-cause
returns-in_err-write_entry-clause-cause g c =
    let h = c.in_err-write_entry.ensures.cause in
    cause_through (g.P.Pages.faults c.args.pages.now) (g.P.Pages.faults c.take_from_table.new.pages) (g.P.Pages.faults c.write_entry.new.pages) c.in_err-write_entry.field-0.0 c.from_residual-in_err-write_entry.result
    c.from_residual-in_err-write_entry.ensures.1 (omega (arith, c.read_entry.ensures.cause.later, c.find_row.ensures.cause.later, c.take_from_table.ensures.cause.later)) h.later h.failed
    (λ k.
    let m = g.P.Pages.pages c.args.pages.now in
    let m1 = g.P.Pages.pages c.read_entry.new.pages in
    let m2 = g.P.Pages.pages c.find_row.new.pages in
    let m3 = g.P.Pages.pages c.take_from_table.new.pages in
    let r = k.1 in
    let t = table_limits c.args.table.0 c.requires.table in
    let one = c.in_ok-entry.ensures.same k.0 in
    let whole = whole_run m r c.args.table.0 c.in_ok-entry.entry t.0 t.1 (c.in_ok-entry.ensures.entry k.0 (catalogue_some m r)) in
    let some = has_leaves m c.args.table.0 c.in_ok-entry.entry (r.runs c.args.table.0) whole.run c.if-entry-eq0.false in
    let found = c.in_ok-found.ensures.found one.0 (r.runs c.args.table.0) (run_on m m1 c.args.table.0 c.in_ok-entry.entry (r.runs c.args.table.0) one.1 whole.run) some in
    let two = c.in_ok-found.ensures.same one.0 in
    let new =
    new_on m m2 m3 c.args.table.0 _ c.in_ok-changed.changed (two.1 ∙ one.1)
    (c.in_ok-changed.ensures.made two.0 (r.runs c.args.table.0) (whole_on m m2 c.args.table.0 c.in_ok-entry.entry (r.runs c.args.table.0) (two.1 ∙ one.1) whole) found) in
    let ready = entry_ready m m3 r c.args.table.0 t.0 t.1 _ c.in_ok-changed.changed new in
    h.whole (c.in_ok-changed.ensures.known two.0, ready.0, ready.1))

pub returns-in_err-write_entry-clause-follows : goal.returns-in_err-write_entry-clause-follows
returns-in_err-write_entry-clause-follows g c =
    g.P.Pages.follows_on _ _ _ (g.P.Pages.follows_on _ _ _ (g.P.Pages.follows_on _ _ _ c.read_entry.ensures.follows c.find_row.ensures.follows) c.take_from_table.ensures.follows) c.write_entry.ensures.follows

pub returns-clause-found : goal.returns-clause-found
returns-clause-found g c = λ known r.
    let m = g.P.Pages.pages c.args.pages.now in
    let m1 = g.P.Pages.pages c.read_entry.new.pages in
    let t = table_limits c.args.table.0 c.requires.table in
    let one = c.in_ok-entry.ensures.same known in
    let whole = whole_run m r c.args.table.0 c.in_ok-entry.entry t.0 t.1 (c.in_ok-entry.ensures.entry known (catalogue_some m r)) in
    let some = has_leaves m c.args.table.0 c.in_ok-entry.entry (r.runs c.args.table.0) whole.run c.if-entry-eq0.false in
    let found = c.in_ok-found.ensures.found one.0 (r.runs c.args.table.0) (run_on m m1 c.args.table.0 c.in_ok-entry.entry (r.runs c.args.table.0) one.1 whole.run) some in
    sym (ap is_some (row_there m r c.args.table.0 c.args.key.now t.0 t.1) ∙ cost_some c.args.key.now (find by_bytes c.args.key.now (run_rows (r.runs c.args.table.0))) (λ none. c.if-found-eq0.false (found.cost_is ∙ none)))

pub returns-clause-gone : goal.returns-clause-gone
returns-clause-gone g c = λ known r.
    let m = g.P.Pages.pages c.args.pages.now in
    let m1 = g.P.Pages.pages c.read_entry.new.pages in
    let m2 = g.P.Pages.pages c.find_row.new.pages in
    let m3 = g.P.Pages.pages c.take_from_table.new.pages in
    let m4 = g.P.Pages.pages c.write_entry.new.pages in
    let t = table_limits c.args.table.0 c.requires.table in
    let one = c.in_ok-entry.ensures.same known in
    let whole = whole_run m r c.args.table.0 c.in_ok-entry.entry t.0 t.1 (c.in_ok-entry.ensures.entry known (catalogue_some m r)) in
    let some = has_leaves m c.args.table.0 c.in_ok-entry.entry (r.runs c.args.table.0) whole.run c.if-entry-eq0.false in
    let found = c.in_ok-found.ensures.found one.0 (r.runs c.args.table.0) (run_on m m1 c.args.table.0 c.in_ok-entry.entry (r.runs c.args.table.0) one.1 whole.run) some in
    let two = c.in_ok-found.ensures.same one.0 in
    let new =
    new_on m m2 m3 c.args.table.0 _ c.in_ok-changed.changed (two.1 ∙ one.1)
    (c.in_ok-changed.ensures.made two.0 (r.runs c.args.table.0) (whole_on m m2 c.args.table.0 c.in_ok-entry.entry (r.runs c.args.table.0) (two.1 ∙ one.1) whole) found) in
    let set = c.in_ok-write_entry.ensures.set (c.in_ok-changed.ensures.known two.0) (entry_ready m m3 r c.args.table.0 t.0 t.1 _ c.in_ok-changed.changed new).0 in
    record {
      runs = new_runs m m3 r c.args.table.0 t.0 t.1 _ c.in_ok-changed.changed new m4 set;
      rows = removed_map m m3 r c.args.table.0 t.0 t.1 _ c.in_ok-changed.changed new m4 set c.args.key.now refl;
      others = new_others m m3 r c.args.table.0 t.0 t.1 _ c.in_ok-changed.changed new m4 set;
    }

pub returns-clause-follows : goal.returns-clause-follows
returns-clause-follows g c =
    g.P.Pages.follows_on _ _ _ (g.P.Pages.follows_on _ _ _ (g.P.Pages.follows_on _ _ _ c.read_entry.ensures.follows c.find_row.ensures.follows) c.take_from_table.ensures.follows) c.write_entry.ensures.follows
