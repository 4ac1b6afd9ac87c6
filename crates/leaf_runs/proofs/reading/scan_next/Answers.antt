use Rattle.std.proofs.Common.{[], false, ap, ◌∙◌, arith}
use Rattle.std.specs.FinMap.{find}
use Rattle.row_page.specs.Entries.{by_bytes}
use Rattle.leaf_runs.proofs.Causes.{cause_last, if_ok}
use Rattle.leaf_runs.proofs.Gets.{table_limits, table_run, has_leaves, no_leaves, run_on, scanned_on, two_leaves, scan_first, first_of_all}
use Rattle.leaf_runs.proofs.Places.{catalogue_some}
use Rattle.leaf_runs.proofs.reading.scan_next.Goals as goal

pub returns-then-entry-eq0-clause-found : goal.returns-then-entry-eq0-clause-found
returns-then-entry-eq0-clause-found g c = λ known r.
    let m = g.P.Pages.pages c.args.pages.now in
    let t = table_limits c.args.table.0 c.requires in
    let run = table_run m c.args.table.0 c.in_ok-entry.entry r t.0 t.1 (c.in_ok-entry.ensures.entry known (catalogue_some m r)) in
    first_of_all m r c.args.table.0 c.args.after.now false [] [] t.0 t.1 (λ k more. ap (find by_bytes k) (no_leaves m c.args.table.0 c.in_ok-entry.entry (r.runs c.args.table.0) run c.if-entry-eq0.true))

pub returns-clause-found : goal.returns-clause-found
returns-clause-found g c = λ known r.
    let m = g.P.Pages.pages c.args.pages.now in
    let t = table_limits c.args.table.0 c.requires in
    let run = table_run m c.args.table.0 c.in_ok-entry.entry r t.0 t.1 (c.in_ok-entry.ensures.entry known (catalogue_some m r)) in
    let one = c.in_ok-entry.ensures.same known in
    let two = c.in_ok-spot.ensures.same one.0 in
    let some = has_leaves m c.args.table.0 c.in_ok-entry.entry (r.runs c.args.table.0) run c.if-entry-eq0.false in
    let spot = c.in_ok-spot.ensures.found one.0 (r.runs c.args.table.0) (run_on m _ c.args.table.0 c.in_ok-entry.entry (r.runs c.args.table.0) one.1 run) some in
    if_ok _ _ c.scan_from.result
    (λ found h. first_of_all m r c.args.table.0 c.args.after.now found _ _ t.0 t.1
    (scan_first m c.args.table.0 c.in_ok-entry.entry (r.runs c.args.table.0) run c.args.after.now c.in_ok-spot.spot.before c.in_ok-spot.spot.page spot found _ _
    (scanned_on m _ c.in_ok-spot.spot.page c.args.after.now found _ _ (two.1 ∙ one.1) h)))
    (c.scan_from.ensures.found two.0 (two_leaves m _ c.args.table.0 c.in_ok-entry.entry (r.runs c.args.table.0) run c.args.after.now c.in_ok-spot.spot.before c.in_ok-spot.spot.page spot (two.1 ∙ one.1)))

pub returns-clause-cause : goal.returns-clause-cause
returns-clause-cause g c =
    cause_last (g.P.Pages.faults c.args.pages.now) (g.P.Pages.faults c.locate.new.pages) (g.P.Pages.faults c.scan_from.new.pages) c.scan_from.result
    (omega (arith, c.read_entry.ensures.cause.later, c.locate.ensures.cause.later)) c.scan_from.ensures.cause
    (λ k.
    let m = g.P.Pages.pages c.args.pages.now in
    let r = k.1 in
    let t = table_limits c.args.table.0 c.requires in
    let run = table_run m c.args.table.0 c.in_ok-entry.entry r t.0 t.1 (c.in_ok-entry.ensures.entry k.0 (catalogue_some m r)) in
    let one = c.in_ok-entry.ensures.same k.0 in
    let two = c.in_ok-spot.ensures.same one.0 in
    let some = has_leaves m c.args.table.0 c.in_ok-entry.entry (r.runs c.args.table.0) run c.if-entry-eq0.false in
    let spot = c.in_ok-spot.ensures.found one.0 (r.runs c.args.table.0) (run_on m _ c.args.table.0 c.in_ok-entry.entry (r.runs c.args.table.0) one.1 run) some in
    (two.0, two_leaves m _ c.args.table.0 c.in_ok-entry.entry (r.runs c.args.table.0) run c.args.after.now c.in_ok-spot.spot.before c.in_ok-spot.spot.page spot (two.1 ∙ one.1)))

pub returns-clause-follows : goal.returns-clause-follows
returns-clause-follows g c =
    g.P.Pages.follows_on _ _ _ (g.P.Pages.follows_on _ _ _ c.read_entry.ensures.follows c.locate.ensures.follows) c.scan_from.ensures.follows
