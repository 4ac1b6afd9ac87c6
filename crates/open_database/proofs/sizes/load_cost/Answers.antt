use Rattle.std.proofs.Common.{◌≡◌, ◌∙◌, ◌<◌, ◌^◌, arith}
use Rattle.open_database.proofs.sizes.load_cost.Goals as goal

pub returns-clause-loaded : goal.returns-clause-loaded
returns-clause-loaded g c = (
  c.min-cost.result,
  c.load.ensures,
  λ known.
      let small : c.in_ok-cost_of_table.field-0 < 2 ^ 62 = c.in_ok-cost_of_table.ensures.small known in
      let same : c.min-cost.result ≡ c.in_ok-cost_of_table.field-0 = omega (arith, small, c.min-cost.ensures) in
      same ∙ c.in_ok-cost_of_table.ensures.cost known,
)
