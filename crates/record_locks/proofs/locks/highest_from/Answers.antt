use Rattle.std.proofs.Common.{arith}
use Rattle.record_locks.proofs.Found.{lower}
use Rattle.record_locks.proofs.locks.highest_from.Goals as goal

pub loop-highest-preserved : goal.loop-highest-preserved
loop-highest-preserved c = lower c.args.sessions.now c.loop-highest.highest c.index-sessions-highest.result _ c.loop-highest.invariant (omega (arith, c.requires.long, c.loop-highest.invariant.most)) (omega (arith, c.loop-highest-test.true)) c.index-sessions-highest.is c.if-is_empty.ensures
