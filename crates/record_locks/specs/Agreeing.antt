-- The locks that are kept against those of the machine.
--     LocksAgree      each session bars what its locks in the machine conflict with
--     AreNumbered      the sessions of a world have the numbers 1 to 64
use Rattle.std.specs.Prelude.{◌≡◌, ℕ, List, IsTrue}
use Rattle.std.specs.List.{list_any}
use Rattle.std.specs.FinMap.{contains_key}
use Rattle.mdb_model.specs.Script.{is_session}
use Rattle.mdb_model.specs.Worlds.{World, Lock, transaction}
use Rattle.mdb_model.specs.Sessions.{conflict}
use Rattle.record_locks.specs.Holders.{bars}

-- each session bars exactly what its locks in the machine conflict with
abbrev pub LocksAgree : List (List Lock) → World → Type 0
LocksAgree locks w =
    (session : ℕ) → IsTrue (is_session session) → (lock : Lock)
    → bars locks session lock ≡ list_any (conflict lock) (transaction w session).locks

-- the sessions that have a transaction are numbered 1 to 64
abbrev pub AreNumbered : World → Type 0
AreNumbered w =
    (session : ℕ) → IsTrue (contains_key w.sessions session) → IsTrue (is_session session)
