-- A `Space` as what it knows.
use Rattle.std.specs.Prelude.{option_map}
use Rattle.space_rule.specs.declared.space.Space.{Space}
use Rattle.space_rule.specs.KnownCosts.{KnownCosts}
use Rattle.space_rule.specs.Weighing.{lists}

-- what it knows
abbrev pub known_costs : Space → KnownCosts
known_costs space = record {
  blocks = space.blocks;
  kept = space.kept;
  committed = space.committed;
  sessions = lists space.sessions;
  prepared = option_map (λ taken. (taken.0.0, taken.1)) space.prepared;
}
