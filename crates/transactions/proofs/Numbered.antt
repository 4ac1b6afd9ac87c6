-- The sessions by their numbers.
--     del_locked      a deletion that another session bars
use Rattle.std.proofs.Common.{◌≡◌, refl, ℕ, Bool, true, false, Some, Err}
use Rattle.mdb_model.specs.declared.change.Change.{Change}
use Rattle.mdb_model.specs.declared.name.Session.{Session}
use Rattle.mdb_model.specs.Tables.{place_of}
use Rattle.mdb_model.specs.Worlds.{ExclusiveKey}
use Rattle.record_locks.specs.Holders.{holder_in}
use Rattle.transactions.specs.declared.fault.TxFault.TheVariants.{Locked}
use Rattle.transactions.specs.Ongoing.{Ongoing}
use Rattle.transactions.specs.Calls.{DelDoes}

pub del_locked : (x : Ongoing) (session : ℕ) (change : Change) (fits visible : Bool) (holder : Session) → holder_in x.locks session (ExclusiveKey (place_of change)) ≡ Some holder.0
    → DelDoes x x session change fits visible (Err (Locked holder))
del_locked x session change fits true holder is = (is, refl)
del_locked x session change fits false holder is = (is, refl)
