use Rattle.std.proofs.Common.{arith}
use Rattle.converter.proofs.Runs.{all_caught}
use Rattle.converter.proofs.kept.catch_up.Goals as goal

pub returns-clause-same : goal.returns-clause-same
returns-clause-same c =
    all_caught c.args.conv c.args.present.now c.loop-leaf.kept.entries.items c.loop-leaf.kept.behind c.loop-leaf.invariant.long c.requires.small.1 c.loop-leaf.invariant.own
    (λ i lt. c.loop-leaf.invariant.down i (omega (arith, lt))) c.loop-leaf.invariant.tracked
