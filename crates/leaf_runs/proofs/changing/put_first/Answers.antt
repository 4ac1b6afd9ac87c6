use Rattle.std.proofs.Common.{refl}
use Rattle.leaf_runs.proofs.NewRuns.{new_first}
use Rattle.leaf_runs.proofs.changing.put_first.Goals as goal

pub returns-clause-made : goal.returns-clause-made
returns-clause-made g c = λ known live empty.
    new_first (g.P.Pages.pages c.args.pages.now) (g.P.Pages.pages c.first_row.new.pages) c.args.table.0 c.args.key.now c.args.value.now _ c.in_ok-root.root
    (search (c.in_ok-root.ensures.made)) refl refl c.cost_of.ensures.cost
