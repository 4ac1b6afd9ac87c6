use Rattle.std.proofs.Common.{◌≡◌, length}
use Rattle.space_rule.specs.KnownCosts.{changes_at, ended}
use Rattle.space_rule.specs.Spaces.{known_costs}
use Rattle.space_rule.proofs.space.Space.ended.Given as goal

abbrev pub invariant-loop : goal.invariant-loop
invariant-loop l = ended (known_costs l.self) l.number l.committed ≡ ended (known_costs l.initial.self) l.number l.committed

abbrev pub decreases-loop : goal.decreases-loop
decreases-loop l = length (changes_at (known_costs l.self).sessions l.number)
