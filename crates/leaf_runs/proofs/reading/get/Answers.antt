use Rattle.std.proofs.Common.{◌≡◌, Some, ap, sym, subst, ◌∙◌, arith}
use Rattle.std.specs.FinMap.{find}
use Rattle.mdb_bytes.specs.Paged.{PageBytes}
use Rattle.row_page.specs.Entries.{by_bytes}
use Rattle.leaf_runs.specs.Runs.{leaf_at}
use Rattle.leaf_runs.proofs.Causes.{cause_last, if_ok}
use Rattle.leaf_runs.proofs.Gets.{row_there, table_limits, table_run, has_leaves, no_leaves, row_as, run_on, leaf_on_same, spot_leaf, spot_row}
use Rattle.leaf_runs.proofs.Places.{catalogue_some}
use Rattle.leaf_runs.proofs.reading.get.Goals as goal

pub returns-then-entry-eq0-clause-found : goal.returns-then-entry-eq0-clause-found
returns-then-entry-eq0-clause-found g c = λ known r.
    let m = g.P.Pages.pages c.args.pages.now in
    let t = table_limits c.args.table.0 c.requires in
    let run = table_run m c.args.table.0 c.in_ok-entry.entry r t.0 t.1 (c.in_ok-entry.ensures.entry known (catalogue_some m r)) in
    row_there m r c.args.table.0 c.args.key.now t.0 t.1 ∙ ap (find by_bytes c.args.key.now) (no_leaves m c.args.table.0 c.in_ok-entry.entry (r.runs c.args.table.0) run c.if-entry-eq0.true)

pub returns-clause-found : goal.returns-clause-found
returns-clause-found g c = λ known r.
    let m = g.P.Pages.pages c.args.pages.now in
    let t = table_limits c.args.table.0 c.requires in
    let run = table_run m c.args.table.0 c.in_ok-entry.entry r t.0 t.1 (c.in_ok-entry.ensures.entry known (catalogue_some m r)) in
    let one = c.in_ok-entry.ensures.same known in
    let two = c.in_ok-spot.ensures.same one.0 in
    let some = has_leaves m c.args.table.0 c.in_ok-entry.entry (r.runs c.args.table.0) run c.if-entry-eq0.false in
    let spot = c.in_ok-spot.ensures.found one.0 (r.runs c.args.table.0) (run_on m _ c.args.table.0 c.in_ok-entry.entry (r.runs c.args.table.0) one.1 run) some in
    if_ok _ _ c.read_value.result
    (λ found h. row_as found _ _ _
    (spot_row m c.args.table.0 c.in_ok-entry.entry (r.runs c.args.table.0) run c.args.key.now c.in_ok-spot.spot.before c.in_ok-spot.spot.page spot h.0
    (subst (λ (p : PageBytes). leaf_at p c.in_ok-spot.spot.page ≡ Some h.0) (two.1 ∙ one.1) h.1)
    ∙ sym (row_there m r c.args.table.0 c.args.key.now t.0 t.1)) h.2)
    (c.read_value.ensures.found two.0 (leaf_on_same m _ c.args.table.0 c.in_ok-spot.spot.page (two.1 ∙ one.1) (spot_leaf m c.args.table.0 c.in_ok-entry.entry (r.runs c.args.table.0) run c.args.key.now c.in_ok-spot.spot.before c.in_ok-spot.spot.page spot)))

pub returns-clause-cause : goal.returns-clause-cause
returns-clause-cause g c =
    cause_last (g.P.Pages.faults c.args.pages.now) (g.P.Pages.faults c.locate.new.pages) (g.P.Pages.faults c.read_value.new.pages) c.read_value.result
    (omega (arith, c.read_entry.ensures.cause.later, c.locate.ensures.cause.later)) c.read_value.ensures.cause
    (λ k.
    let m = g.P.Pages.pages c.args.pages.now in
    let r = k.1 in
    let t = table_limits c.args.table.0 c.requires in
    let run = table_run m c.args.table.0 c.in_ok-entry.entry r t.0 t.1 (c.in_ok-entry.ensures.entry k.0 (catalogue_some m r)) in
    let one = c.in_ok-entry.ensures.same k.0 in
    let two = c.in_ok-spot.ensures.same one.0 in
    let some = has_leaves m c.args.table.0 c.in_ok-entry.entry (r.runs c.args.table.0) run c.if-entry-eq0.false in
    let spot = c.in_ok-spot.ensures.found one.0 (r.runs c.args.table.0) (run_on m _ c.args.table.0 c.in_ok-entry.entry (r.runs c.args.table.0) one.1 run) some in
    (two.0, leaf_on_same m _ c.args.table.0 c.in_ok-spot.spot.page (two.1 ∙ one.1) (spot_leaf m c.args.table.0 c.in_ok-entry.entry (r.runs c.args.table.0) run c.args.key.now c.in_ok-spot.spot.before c.in_ok-spot.spot.page spot)))

pub returns-clause-follows : goal.returns-clause-follows
returns-clause-follows g c =
    g.P.Pages.follows_on _ _ _ (g.P.Pages.follows_on _ _ _ c.read_entry.ensures.follows c.locate.ensures.follows) c.read_value.ensures.follows
