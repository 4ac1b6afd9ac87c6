use Rattle.std.proofs.Common.{arith}
use Rattle.record_locks.proofs.Found.{above-free}
use Rattle.record_locks.proofs.Numbers.{session-below}
use Rattle.record_locks.proofs.locks.Locks.take.Goals as goal

pub invariant_of-self : goal.invariant_of-self
invariant_of-self c = above-free c.self.inside.sessions c.self.inside.highest c.args.session.0 c.max-self-inside.result _ c.self.invariant (omega (arith, c.max-self-inside.ensures)) (omega (arith, c.max-self-inside.ensures)) (omega (arith, c.max-self-inside.ensures, c.self.invariant.most, session-below c.args.session.0 c.requires))
