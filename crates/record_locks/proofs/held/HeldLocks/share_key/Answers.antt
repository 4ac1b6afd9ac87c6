use Rattle.std.proofs.Common.{◌≡◌, sym, subst, false, List}
use Rattle.std.specs.List.{list_any}
use Rattle.record_locks.specs.Holders.{covers}
use Rattle.mdb_model.specs.Worlds.{Lock, ShareKey}
use Rattle.record_locks.specs.LockedPlaces.{all_locks}
use Rattle.record_locks.specs.Holding.{HasOneMore}
use Rattle.record_locks.proofs.Answering.{on_ok-more, on_err-more}
use Rattle.record_locks.proofs.SessionLocks.{share-more, share-there, share-wanting}
use Rattle.record_locks.proofs.held.HeldLocks.share_key.Goals as goal

pub returns-then-contains-clause-ok : goal.returns-then-contains-clause-ok
returns-then-contains-clause-ok c =
    subst (λ (locks : List Lock). HasOneMore locks locks (ShareKey (c.args.table.0, c.args.key.now))) c.self.view_is
    (share-there c.self.inside.shared c.self.inside.exclusive c.self.inside.tables (c.args.table.0, c.args.key.now) (sym c.if-contains.ensures))

pub returns-clause-ok : goal.returns-clause-ok
returns-clause-ok c =
    on_ok-more _ _ c.insert.result (λ adds.
    subst (λ (locks : List Lock). HasOneMore locks (all_locks c.insert.new.self c.self.inside.exclusive c.self.inside.tables) (ShareKey (c.args.table.0, c.args.key.now))) c.self.view_is
    (share-more c.self.inside.shared c.self.inside.exclusive c.self.inside.tables c.insert.new.self (c.args.table.0, c.args.key.now) adds)) c.insert.ensures.ok

pub returns-clause-wanting : goal.returns-clause-wanting
returns-clause-wanting c =
    on_err-more _ _ c.insert.result (λ not_shared.
    subst (λ (locks : List Lock). list_any (covers (ShareKey (c.args.table.0, c.args.key.now))) locks ≡ false) c.self.view_is
    (share-wanting c.self.inside.shared c.self.inside.exclusive c.self.inside.tables (c.args.table.0, c.args.key.now) not_shared (sym c.if-contains.ensures))) c.insert.ensures.wanting
