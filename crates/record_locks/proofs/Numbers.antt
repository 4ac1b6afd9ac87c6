-- Numbers of sessions.
--     session-from, session-below, is-session      a session is one of 1 to 64
use Rattle.std.proofs.Common.{ℕ, ◌<◌, ◌≤◌, IsTrue, arith}
use Rattle.std.proofs.lemmas.Bool.Decides.{nat_tests}
use Rattle.mdb_model.specs.Script.{is_session}

pub session-from : (n : ℕ) → IsTrue (is_session n) → 1 ≤ n
session-from n is = grind (arith, nat_tests)

pub session-below : (n : ℕ) → IsTrue (is_session n) → n < 65
session-below n is = grind (arith, nat_tests)

pub is-session : (n : ℕ) → 1 ≤ n → n < 65 → IsTrue (is_session n)
is-session n from below = grind (arith, nat_tests)
