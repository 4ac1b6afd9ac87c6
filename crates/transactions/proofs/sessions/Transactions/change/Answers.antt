use Rattle.std.proofs.Common.{sym, ap, subst, get_or, OnOk}
use Rattle.std.specs.FinMap.{FinMap}
use Rattle.mdb_model.specs.declared.change.Change.{Change}
use Rattle.mdb_model.specs.Tables.{Place, place_cmp}
use Rattle.mdb_model.specs.Worlds.{ExclusiveKey}
use Rattle.record_locks.specs.Holders.{HasLock}
use Rattle.transactions.proofs.UnderLocks.{locked-change}
use Rattle.transactions.proofs.sessions.Transactions.change.Goals as goal

pub invariant_of-self : goal.invariant_of-self
invariant_of-self c =
    let own : FinMap place_cmp Change = get_or c.self.inside.sessions c.args.session.0 c.index-self-session.result in
    record {
      small = c.self.invariant.small;
      locked = locked-change c.self.inside.locks c.change.new.locks c.self.inside.sessions c.self.invariant.locked c.args.session.0 own c.change.new.self
          (ap (λ (d : FinMap place_cmp Change). get_or c.self.inside.sessions c.args.session.0 d) c.index-self-session.is) c.args.change c.change.result
          (subst (λ (p : Place). OnOk c.change.result (HasLock c.self.inside.locks c.change.new.locks c.args.session.0 (ExclusiveKey p))) (sym c.requires.place) c.change.ensures.locked)
          c.change.ensures.unlocked c.change.ensures.ok c.change.ensures.err;
    }
