use Rattle.std.proofs.Common.{◌≡◌, subst, false, List}
use Rattle.std.specs.List.{list_any}
use Rattle.record_locks.specs.Holders.{covers}
use Rattle.mdb_model.specs.Tables.{Place}
use Rattle.mdb_model.specs.Worlds.{Lock, ExclusiveKey, ShareTable}
use Rattle.record_locks.specs.LockedPlaces.{all_locks}
use Rattle.record_locks.specs.Holding.{HasOneMore}
use Rattle.record_locks.proofs.Answering.{on_ok-more, on_err-more}
use Rattle.record_locks.proofs.SessionLocks.{exclusive-more, table-more, exclusive-wanting, table-wanting}
use Rattle.record_locks.proofs.held.HeldLocks.take.Goals as goal

pub returns-in-ExclusiveKey-clause-ok : goal.returns-in-ExclusiveKey-clause-ok
returns-in-ExclusiveKey-clause-ok c =
    let p : Place = (c.in-ExclusiveKey.table.0, c.in-ExclusiveKey.key.now) in
    let more : List Lock = all_locks c.self.inside.shared c.insert.new.self c.self.inside.tables in
    rw c.in-ExclusiveKey.is (on_ok-more _ _ c.insert.result (λ adds.
    subst (λ (locks : List Lock). HasOneMore locks more (ExclusiveKey p)) c.self.view_is
    (exclusive-more c.self.inside.shared c.self.inside.exclusive c.self.inside.tables c.insert.new.self p adds)) c.insert.ensures.ok)

pub returns-in-ShareTable-clause-ok : goal.returns-in-ShareTable-clause-ok
returns-in-ShareTable-clause-ok c =
    let inside = c.self-in-ShareTable.inside in
    let more : List Lock = all_locks inside.shared inside.exclusive c.insert-in-ShareTable.new.self in
    rw c.in-ShareTable.is (on_ok-more _ _ c.insert-in-ShareTable.result (λ adds.
    subst (λ (locks : List Lock). HasOneMore locks more (ShareTable c.in-ShareTable.table.0)) c.self-in-ShareTable.view_is
    (table-more inside.shared inside.exclusive inside.tables c.insert-in-ShareTable.new.self c.in-ShareTable.table.0 adds)) c.insert-in-ShareTable.ensures.ok)

pub returns-in-ExclusiveKey-clause-wanting : goal.returns-in-ExclusiveKey-clause-wanting
returns-in-ExclusiveKey-clause-wanting c =
    let p : Place = (c.in-ExclusiveKey.table.0, c.in-ExclusiveKey.key.now) in
    rw c.in-ExclusiveKey.is (on_err-more _ _ c.insert.result (λ not_there.
    subst (λ (locks : List Lock). list_any (covers (ExclusiveKey p)) locks ≡ false) c.self.view_is
    (exclusive-wanting c.self.inside.shared c.self.inside.exclusive c.self.inside.tables p not_there)) c.insert.ensures.wanting)

pub returns-in-ShareTable-clause-wanting : goal.returns-in-ShareTable-clause-wanting
returns-in-ShareTable-clause-wanting c =
    let inside = c.self-in-ShareTable.inside in
    rw c.in-ShareTable.is (on_err-more _ _ c.insert-in-ShareTable.result (λ not_there.
    subst (λ (locks : List Lock). list_any (covers (ShareTable c.in-ShareTable.table.0)) locks ≡ false) c.self-in-ShareTable.view_is
    (table-wanting inside.shared inside.exclusive inside.tables c.in-ShareTable.table.0 not_there)) c.insert-in-ShareTable.ensures.wanting)
