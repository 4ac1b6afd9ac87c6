use Rattle.std.proofs.Common.{refl, arith}
use Rattle.leaf_runs.proofs.Causes.{cause_through, cause_last, on_ok}
use Rattle.leaf_runs.proofs.Gets.{table_limits}
use Rattle.leaf_runs.proofs.NewRuns.{catalogue_lives, live_on, whole_run, whole_on, new_on}
use Rattle.leaf_runs.proofs.Changes.{entry_ready, new_runs, new_others, put_map}
use Rattle.leaf_runs.proofs.Places.{catalogue_some}
use Rattle.leaf_runs.proofs.changing.put.Goals as goal

pub returns-in_err-changed-clause-cause : goal.returns-in_err-changed-clause-cause
returns-in_err-changed-clause-cause g c =
    let h = c.in_err-changed.ensures.cause in
    cause_through (g.P.Pages.faults c.args.pages.now) (g.P.Pages.faults c.read_entry.new.pages) (g.P.Pages.faults c.put_in_table.new.pages) c.in_err-changed.field-0.0 c.from_residual-in_err-changed.result
    c.from_residual-in_err-changed.ensures.1 c.read_entry.ensures.cause.later h.later h.failed
    (λ k.
    let m = g.P.Pages.pages c.args.pages.now in
    let m1 = g.P.Pages.pages c.read_entry.new.pages in
    let r = k.1 in
    let t = table_limits c.args.table.0 c.requires.table in
    let one = c.in_ok-entry.ensures.same k.0 in
    let whole = whole_run m r c.args.table.0 c.in_ok-entry.entry t.0 t.1 (c.in_ok-entry.ensures.entry k.0 (catalogue_some m r)) in
    h.whole (one.0, live_on m m1 one.1 (catalogue_lives m r), (r.runs c.args.table.0, whole_on m m1 c.args.table.0 c.in_ok-entry.entry (r.runs c.args.table.0) one.1 whole)))

pub returns-clause-set : goal.returns-clause-set
returns-clause-set g c = λ known r.
    let m = g.P.Pages.pages c.args.pages.now in
    let m1 = g.P.Pages.pages c.read_entry.new.pages in
    let m2 = g.P.Pages.pages c.put_in_table.new.pages in
    let m3 = g.P.Pages.pages c.write_entry.new.pages in
    let t = table_limits c.args.table.0 c.requires.table in
    let one = c.in_ok-entry.ensures.same known in
    let whole = whole_run m r c.args.table.0 c.in_ok-entry.entry t.0 t.1 (c.in_ok-entry.ensures.entry known (catalogue_some m r)) in
    let two = c.in_ok-changed.ensures.known one.0 in
    let new =
    new_on m m1 m2 c.args.table.0 _ c.in_ok-changed.changed one.1
    (c.in_ok-changed.ensures.made one.0 (live_on m m1 one.1 (catalogue_lives m r)) (r.runs c.args.table.0) (whole_on m m1 c.args.table.0 c.in_ok-entry.entry (r.runs c.args.table.0) one.1 whole)) in
    on_ok _ _ c.write_entry.result (λ set. record {
      runs = new_runs m m2 r c.args.table.0 t.0 t.1 _ c.in_ok-changed.changed new m3 set;
      rows = put_map m m2 r c.args.table.0 t.0 t.1 _ c.in_ok-changed.changed new m3 set c.args.key.now c.args.value.now refl;
      others = new_others m m2 r c.args.table.0 t.0 t.1 _ c.in_ok-changed.changed new m3 set;
    }) (c.write_entry.ensures.set two (entry_ready m m2 r c.args.table.0 t.0 t.1 _ c.in_ok-changed.changed new).0)

pub returns-clause-cause : goal.returns-clause-cause
returns-clause-cause g c =
    cause_last (g.P.Pages.faults c.args.pages.now) (g.P.Pages.faults c.put_in_table.new.pages) (g.P.Pages.faults c.write_entry.new.pages) c.write_entry.result
    (omega (arith, c.read_entry.ensures.cause.later, c.put_in_table.ensures.cause.later)) c.write_entry.ensures.cause
    (λ k.
    let m = g.P.Pages.pages c.args.pages.now in
    let m1 = g.P.Pages.pages c.read_entry.new.pages in
    let m2 = g.P.Pages.pages c.put_in_table.new.pages in
    let r = k.1 in
    let t = table_limits c.args.table.0 c.requires.table in
    let one = c.in_ok-entry.ensures.same k.0 in
    let whole = whole_run m r c.args.table.0 c.in_ok-entry.entry t.0 t.1 (c.in_ok-entry.ensures.entry k.0 (catalogue_some m r)) in
    let new =
    new_on m m1 m2 c.args.table.0 _ c.in_ok-changed.changed one.1
    (c.in_ok-changed.ensures.made one.0 (live_on m m1 one.1 (catalogue_lives m r)) (r.runs c.args.table.0) (whole_on m m1 c.args.table.0 c.in_ok-entry.entry (r.runs c.args.table.0) one.1 whole)) in
    let ready = entry_ready m m2 r c.args.table.0 t.0 t.1 _ c.in_ok-changed.changed new in
    (c.in_ok-changed.ensures.known one.0, ready.0, ready.1))

pub returns-clause-follows : goal.returns-clause-follows
returns-clause-follows g c =
    g.P.Pages.follows_on _ _ _ (g.P.Pages.follows_on _ _ _ c.read_entry.ensures.follows c.put_in_table.ensures.follows) c.write_entry.ensures.follows
