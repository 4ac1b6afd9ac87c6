use Rattle.std.proofs.Common.{◌-◌}
use Rattle.space_rule.specs.Spaces.{known_costs}
use Rattle.open_database.specs.Costs.{IsForgotten}
use Rattle.open_database.proofs.sizes.forget_changes.Given as goal

abbrev pub invariant-loop-number : goal.invariant-loop-number
invariant-loop-number l = IsForgotten (known_costs l.fn.space) (known_costs l.space) (l.number - 1)
