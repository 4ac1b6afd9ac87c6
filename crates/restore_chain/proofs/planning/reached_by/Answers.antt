use Rattle.restore_chain.proofs.Media.{more_taken, more_fails}
use Rattle.restore_chain.proofs.planning.reached_by.Goals as goal

pub returns-in_default-with_medium : goal.returns-in_default-with_medium
returns-in_default-with_medium c rest =
    more_fails c.args.headers.now c.loop-i.i _ c.loop-i-test.true (c.in_default-with_medium.ensures _ c.loop-i.invariant) rest

pub loop-i-preserved : goal.loop-i-preserved
loop-i-preserved c =
    more_taken c.args.headers.now c.loop-i.i _ c.in-Some-with_medium.next c.loop-i-test.true (c.in-Some-with_medium.ensures _ c.loop-i.invariant)
