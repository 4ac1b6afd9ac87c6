use Rattle.std.proofs.Common.{◌∙◌, ap, sym, ℕ}
use Rattle.std.specs.FinMap.{remove}
use Rattle.leaf_runs.proofs.Causes.{on_ok}
use Rattle.leaf_runs.proofs.JoinedRuns.{dropped_run}
use Rattle.leaf_runs.proofs.settling.drop_leaf.Goals as goal

pub returns-clause-dropped : goal.returns-clause-dropped
returns-clause-dropped g c = λ known table here run page_is.
    let m = g.P.Pages.pages c.args.pages.now in
    on_ok _ _ c.free_page.result (λ f. dropped_run m (g.P.Pages.pages c.free_page.new.self) table here run (f.1 ∙ ap (λ (n : ℕ). remove m n) (sym page_is))) (c.free_page.ensures.freed known)
