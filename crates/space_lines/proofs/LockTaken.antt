-- A session takes one more lock, and changes nothing.
--     locked_counted      the world stays counted
use Rattle.std.proofs.Common.{◌≡◌, refl, sym, ap, ◌∙◌, ℕ, ◌<◌, Bool, true, false, ◌==◌, cond, is_some, ◌∷◌, length, Some, IsTrue, arith}
use Rattle.std.specs.Prelude.{IsSome}
use Rattle.std.specs.FinMap.{get, get-insert}
use Rattle.std.specs.Cmp.{nat_cmp_total}
use Rattle.std.proofs.lemmas.Bool.{eqb-true}
use Rattle.mdb_model.specs.Script.{is_session}
use Rattle.mdb_model.specs.Sessions.{last_changes}
use Rattle.mdb_model.specs.Steps.{locked}
use Rattle.mdb_model.specs.Worlds.{World, Transaction, Lock, transaction}
use Rattle.sorted_places.proofs.Tests.{tie-eqb}
use Rattle.record_locks.proofs.Agreement.{transaction-with}
use Rattle.record_locks.proofs.Numbers.{session-below}
use Rattle.space_rule.specs.KnownCosts.{KnownCosts}
use Rattle.space_lines.specs.Counted.{IsCounted}
use Rattle.space_lines.proofs.Alike.{counted_alike}

module _ (known : KnownCosts) (w : World) (session : ℕ) (lock : Lock) (is : IsTrue (is_session session)) (c : IsCounted known w) where
  abbrev next : World
  next = locked w session lock

  abbrev more : Transaction
  more = record { changes = (transaction w session).changes; locks = lock ∷ (transaction w session).locks }

  alike : (s : ℕ) → last_changes (transaction next s).changes ≡ last_changes (transaction w s).changes
  alike s = ap (λ (t : Transaction). last_changes t.changes) (transaction-with w session more s) ∙ by_session (s == session) refl where
    by_session : (b : Bool) → (s == session) ≡ b → last_changes (cond b more (transaction w s)).changes ≡ last_changes (transaction w s).changes
    by_session true same = ap (λ k. last_changes (transaction w k).changes) (sym (eqb-true s session same))
    by_session false other = refl

  -- what is found of a session
  got : (s : ℕ) → is_some (get next.sessions s) ≡ is_some (cond (s == session) (Some more) (get w.sessions s))
  got s = ap is_some (get-insert nat_cmp_total w.sessions session more s) ∙ ap (λ b. is_some (cond b (Some more) (get w.sessions s))) (λ i. tie-eqb s i session)

  numbers : (s : ℕ) → IsSome (get next.sessions s) → s < length known.sessions
  numbers s there = by_session (s == session) refl where
    by_session : (b : Bool) → (s == session) ≡ b → s < length known.sessions
    by_session true same = let low = session-below session is in omega (arith, eqb-true s session same, low, c.numbers)
    by_session false other = c.known_of.numbers s (ap (λ b. is_some (cond b (Some more) (get w.sessions s))) (sym other) ∙ sym (got s) ∙ there)

  pub locked_counted : IsCounted known next
  locked_counted = counted_alike known w next.sessions c alike numbers
