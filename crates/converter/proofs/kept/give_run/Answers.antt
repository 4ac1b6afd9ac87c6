use Rattle.std.proofs.Common.{arith}
use Rattle.converter.proofs.Left.{given_all}
use Rattle.converter.proofs.kept.give_run.Goals as goal

pub returns : goal.returns
returns c =
    given_all _ _ _ _ c.args.at c.loop-k.k _ _ c.loop-k.invariant c.args.end c.min-k-end.result c.requires.range (omega arith) (λ less. omega (arith, less)) c.loop-k-test.false c.loop-k.auto.k-end
