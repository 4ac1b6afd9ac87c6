use Rattle.std.proofs.Common.{◌≡◌, Some, ap, subst, ◌∙◌}
use Rattle.mdb_bytes.specs.Paged.{PageBytes}
use Rattle.leaf_runs.specs.Runs.{leaf_at}
use Rattle.leaf_runs.proofs.Causes.{cause_through}
use Rattle.leaf_runs.proofs.Gets.{leaf_on_same, spot_leaf, spot_row}
use Rattle.leaf_runs.proofs.RowCosts.{value_cost}
use Rattle.leaf_runs.proofs.changing.find_row.Goals as goal

pub returns-in_err-cost-clause-cause : goal.returns-in_err-cost-clause-cause
returns-in_err-cost-clause-cause g c =
    let h = c.in_err-cost.ensures.cause in
    cause_through (g.P.Pages.faults c.args.pages.now) (g.P.Pages.faults c.locate.new.pages) (g.P.Pages.faults c.row_cost_at.new.pages) c.in_err-cost.field-0.0 c.from_residual-in_err-cost.result
    c.from_residual-in_err-cost.ensures.1 c.locate.ensures.cause.later h.later h.failed
    (λ k.
    let m = g.P.Pages.pages c.args.pages.now in
    let one = c.in_ok-spot.ensures.same k.0 in
    let leaves = k.1 in
    let spot = c.in_ok-spot.ensures.found k.0 leaves.0 leaves.1 leaves.2 in
    h.whole (one.0, leaf_on_same m _ c.args.table.0 c.in_ok-spot.spot.page one.1 (spot_leaf m c.args.table.0 c.args.entry leaves.0 leaves.1 c.args.key.now c.in_ok-spot.spot.before c.in_ok-spot.spot.page spot)))

pub returns-clause-found : goal.returns-clause-found
returns-clause-found g c = λ known leaves run some.
    let m = g.P.Pages.pages c.args.pages.now in
    let one = c.in_ok-spot.ensures.same known in
    let spot = c.in_ok-spot.ensures.found known leaves run some in
    let has = leaf_on_same m _ c.args.table.0 c.in_ok-spot.spot.page one.1 (spot_leaf m c.args.table.0 c.args.entry leaves run c.args.key.now c.in_ok-spot.spot.before c.in_ok-spot.spot.page spot) in
    let cost = c.in_ok-cost.ensures.cost one.0 has in record {
      spot = spot;
      cost_is = cost.2 ∙ ap (value_cost c.args.key.now) (spot_row m c.args.table.0 c.args.entry leaves run c.args.key.now c.in_ok-spot.spot.before c.in_ok-spot.spot.page spot cost.0
          (subst (λ (p : PageBytes). leaf_at p c.in_ok-spot.spot.page ≡ Some cost.0) one.1 cost.1));
    }
