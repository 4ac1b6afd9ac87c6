-- The transactions that are kept against those of the machine.
--     MatchesWorld      the locks bar the same, and each session's net changes are the same
use Rattle.std.specs.Prelude.{◌≡◌, ℕ, IsTrue}
use Rattle.mdb_model.specs.Script.{is_session}
use Rattle.mdb_model.specs.Worlds.{World, transaction}
use Rattle.mdb_model.specs.Sessions.{last_changes}
use Rattle.record_locks.specs.Agreeing.{LocksAgree, AreNumbered}
use Rattle.transactions.specs.Ongoing.{Ongoing, changes_of}

-- the locks bar the same, and each session's net changes are the same
pub record MatchesWorld (x : Ongoing) (w : World) : Type 0 where
  pub locks : LocksAgree x.locks w
  pub changes : (session : ℕ) → IsTrue (is_session session)
      → changes_of x session ≡ last_changes (transaction w session).changes
  pub numbered : AreNumbered w
