use Rattle.std.proofs.Common.{arith, rules}
use Rattle.space_rule.proofs.Starting.{all-empty}
use Rattle.space_rule.proofs.space.calls.no_changes.Goals as goal

pub returns : goal.returns
returns c = all-empty 65 c.from_fn.result c.from_fn.ensures.items.long (λ i d inside.
    let made = c.from_fn.ensures.items.at i d (omega (arith, inside, c.from_fn.ensures.items.long)) in
    let called = made.2 in
    search rules)
