use Rattle.std.proofs.Common.{◌≡◌, refl, ap, ℕ, zero, suc, ◌<◌, List, [], ◌∷◌, length, get_or, arith, rules}
use Rattle.std.specs.List.{list_any}
use Rattle.mdb_model.specs.Worlds.{Lock}
use Rattle.mdb_model.specs.Sessions.{conflict}
use Rattle.record_locks.proofs.locks.Locks.new.Goals as goal

-- where no session of the list has a lock, no number has one
none-each : (locks : List (List Lock)) → ((i : ℕ) → i < length locks → get_or locks i [] ≡ []) → (session : ℕ) → get_or locks session [] ≡ []
none-each [] none session = refl
none-each (own ∷ locks) none zero = none 0 (omega arith)
none-each (own ∷ locks) none (suc session) = none-each locks (λ i inside. none (suc i) (omega (arith, inside))) session

pub invariant_of-result : goal.invariant_of-result
invariant_of-result c = record {
  most = omega arith;
  none_above = λ session lock above.
      ap (list_any (conflict lock)) (none-each c.from_fn.result (λ i inside.
      let made = c.from_fn.ensures.items.at i [] (omega (arith, inside, c.from_fn.ensures.items.long)) in
      let called = made.2 in
      search rules) session);
}

pub returns : goal.returns
returns c = λ session lock.
    ap (list_any (conflict lock)) (none-each c.from_fn.result (λ i inside.
    let made = c.from_fn.ensures.items.at i [] (omega (arith, inside, c.from_fn.ensures.items.long)) in
    let called = made.2 in
    search rules) session)
