use Rattle.std.proofs.Common.{arith}
use Rattle.free_blocks.proofs.Words.{first_bit, no_bit}
use Rattle.free_blocks.proofs.free.first_set.Goals as goal

pub returns-then-word-ne0 : goal.returns-then-word-ne0
returns-then-word-ne0 c = first_bit c.args.words.now c.loop-i.i c.loop-i-test.true (omega (arith, c.if-word-ne0.true)) (c.type_inv.words c.loop-i.i).fits c.loop-i.invariant

pub returns : goal.returns
returns c = no_bit c.args.words.now (λ k lt. c.loop-i.invariant k (omega (arith, lt, c.loop-i-test.false)))
