use Rattle.std.proofs.Common.{arith}
use Rattle.converter.proofs.Loaded.{no_leaf}
use Rattle.converter.proofs.load.leaf_in.Goals as goal

pub returns-then-value-leaf : goal.returns-then-value-leaf
returns-then-value-leaf c = no_leaf c.in_ok-value.value _ c.args.blocks c.args.leaf c.in_ok-value.ensures (λ e past. c.if-value-leaf.true e)

pub returns-else-none_from : goal.returns-else-none_from
returns-else-none_from c = no_leaf c.in_ok-value.value _ c.args.blocks c.args.leaf c.in_ok-value.ensures
    (λ e past. absurd (let t = c.none_from.ensures.1 (λ k lt le. past k lt (omega (arith, le))) in cc))
