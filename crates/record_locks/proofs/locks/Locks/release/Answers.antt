use Rattle.std.proofs.Common.{◌≡◌, length, arith, rules}
use Rattle.record_locks.proofs.Found.{cleared-free}
use Rattle.record_locks.proofs.Numbers.{session-below}
use Rattle.record_locks.proofs.locks.Locks.release.Goals as goal

pub highest_from-self-inside-requires-clause-bound : goal.highest_from-self-inside-requires-clause-bound
highest_from-self-inside-requires-clause-bound c =
    let long : length c.self.inside.sessions ≡ 65 = search rules in
    cleared-free c.self.inside.sessions c.self.inside.highest c.args.session.0 _ (omega (arith, long, session-below c.args.session.0 c.requires.session)) c.self.invariant c.clear.ensures
