use Rattle.std.proofs.Common.{◌≡◌, refl, ℕ, zero, suc, ◌<◌, List, [], ◌∷◌, length, get_or, arith, rules}
use Rattle.std.specs.FinMap.{FinMap, empty}
use Rattle.mdb_model.specs.declared.change.Change.{Change}
use Rattle.mdb_model.specs.Tables.{place_cmp}
use Rattle.transactions.proofs.UnderLocks.{locked-none}
use Rattle.transactions.proofs.sessions.Transactions.new.Goals as goal

-- where each item is the one that stands for those that are not there, each number has that one
all-same : {A : Type 0} (d : A) (xs : List A) → ((i : ℕ) → i < length xs → get_or xs i d ≡ d) → (k : ℕ) → get_or xs k d ≡ d
all-same d [] same k = refl
all-same d (x ∷ xs) same zero = same 0 (omega arith)
all-same d (x ∷ xs) same (suc k) = all-same d xs (λ i inside. same (suc i) (omega (arith, inside))) k

pub returns-clause-changes : goal.returns-clause-changes
returns-clause-changes c = all-same {A = FinMap place_cmp Change} empty c.from_fn.result (λ i inside.
    let made = c.from_fn.ensures.items.at i empty (omega (arith, inside, c.from_fn.ensures.items.long)) in
    let called = made.2 in
    search rules)

pub invariant_of-result : goal.invariant_of-result
invariant_of-result c = record {
  small = c.requires;
  locked = locked-none c.new.result c.from_fn.result (all-same {A = FinMap place_cmp Change} empty c.from_fn.result (λ i inside.
      let made = c.from_fn.ensures.items.at i empty (omega (arith, inside, c.from_fn.ensures.items.long)) in
      let called = made.2 in
      search rules));
}
