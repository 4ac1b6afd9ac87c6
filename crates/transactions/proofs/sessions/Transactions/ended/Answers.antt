use Rattle.transactions.proofs.UnderLocks.{locked-ended}
use Rattle.transactions.proofs.sessions.Transactions.ended.Goals as goal

pub invariant_of-self : goal.invariant_of-self
invariant_of-self c = record {
  small = c.self.invariant.small;
  locked = locked-ended c.self.inside.locks c.release.new.self c.self.inside.sessions c.self.invariant.locked c.args.session.0 c.index-self-session.result c.clear.new.self c.release.ensures c.clear.ensures;
}
