use Rattle.std.proofs.Common.{true, refl}
use Rattle.leaf_runs.proofs.PlacedRows.{first_placed, has_named, live_some, put_as}
use Rattle.leaf_runs.proofs.placing.first_row.Goals as goal

pub returns-clause-made : goal.returns-clause-made
returns-clause-made g c = λ known lives run.
    let p0 = g.P.Pages.pages c.args.pages.now in
    let p1 = g.P.Pages.pages c.new_leaf.new.pages in
    let p2 = g.P.Pages.pages c.put_on_leaf.new.pages in
    let new = c.in_ok-page.ensures.made known in
    let p = c.in_ok-put_on_leaf.ensures.put (c.in_ok-page.ensures.known known) (has_named p1 c.args.table.0 c.in_ok-page.page _ (new.set.there, refl, refl)) in
    first_placed p0 p1 c.args.table.0 c.in_ok-page.page (c.in_ok-page.ensures.made known) p2 p.0 c.args.key.now c.args.value.now (live_some p0 0 lives) run p.1
    (put_as c.in_ok-put_on_leaf.field-0 true p1 p2 c.in_ok-page.page p.0 c.args.key.now c.args.value.now c.if-not-branch.false p.2)
