use Rattle.leaf_runs.proofs.Causes.{on_ok}
use Rattle.leaf_runs.proofs.PageSteps.{joined_to}
use Rattle.leaf_runs.proofs.writing.join_leaves.Goals as goal

pub returns-clause-joined : goal.returns-clause-joined
returns-clause-joined g c = λ known leaf next named named2 up fits.
    let d = c.in_ok-write_pair.ensures.edited.edited known in
    let e = d.1 in
    on_ok _ _ c.free_page.result
    (λ f. joined_to (g.P.Pages.pages c.args.pages.now) (g.P.Pages.pages c.write_pair.new.self) _ c.args.edit.now.table.0 c.args.edit.now.first c.args.edit.now.second c.in_ok-write_pair.field-0
    e.0 e.1 e.2 e.3 leaf next e.4 e.5 e.6 e.7 f.1 c.requires.differ named named2 up fits)
    (c.free_page.ensures.freed d.0)
