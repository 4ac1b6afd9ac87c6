use Rattle.std.proofs.Common.{rules}
use Rattle.leaf_runs.proofs.PageSteps.{new_leaf_made, lives_now}
use Rattle.leaf_runs.proofs.writing.new_leaf.Goals as goal

pub write-requires-clause-lives : goal.write-requires-clause-lives
write-requires-clause-lives g c = lives_now (g.P.Pages.pages c.args.pages.now) (g.P.Pages.pages c.new_page.new.self) c.in_ok-page.page c.in_ok-page.ensures.fresh.living

pub returns-clause-made : goal.returns-clause-made
returns-clause-made g c = λ known.
    let f = c.in_ok-page.ensures.fresh in
    let a = f.added known in
    let b = a.1 in
    let w = (c.write.follows.holds _ (search rules)).0 in
    new_leaf_made (g.P.Pages.pages c.args.pages.now) (g.P.Pages.pages c.new_page.new.self) _ c.args.table.0 c.in_ok-page.page b.0 _ f.fresh f.small b.2 (w.written a.0).1 c.requires.table c.start.ensures.page c.start.ensures.head c.start.ensures.empty
