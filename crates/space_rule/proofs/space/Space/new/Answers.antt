use Rattle.space_rule.proofs.Starting.{sums-none}
use Rattle.space_rule.proofs.space.Space.new.Goals as goal

pub invariant_of-result-clause-sums : goal.invariant_of-result-clause-sums
invariant_of-result-clause-sums c = rw (c.no_costs.ensures, c.no_costs-2.ensures, c.no_changes.ensures, c.no_bytes.ensures) sums-none
