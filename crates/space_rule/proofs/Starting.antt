-- The sums of the space rule where there are neither rows nor changes.
use Rattle.std.proofs.Common.{◌≡◌, refl, sym, ap, ◌∙◌, ℕ, zero, suc, ◌+◌, ◌<◌, List, [], ◌∷◌, length, get_or, arith}
use Rattle.std.specs.Prelude.{replicate, sum_by, Vec}
use Rattle.std.specs.declared.alloc.Global.{Global}
use Rattle.std.specs.List.{range_with_len}
use Rattle.std.proofs.lemmas.List.Sums.{sum_by-cons}
use Rattle.mdb_model.specs.Space.{table_pages, every_table}
use Rattle.space_rule.specs.declared.open_change.OpenChange.{OpenChange}
use Rattle.space_rule.specs.KnownCosts.{growth_of, open_table_cost, all_table_pages, session_undo, undo_cost, growth_on}
use Rattle.space_rule.proofs.Settling.{less-along}
use Rattle.space_rule.specs.Weighing.{AreSums, IsInOrder, lists}

-- each item of a row of the same
pub none-at : {X : Type 0} (n i : ℕ) (d : X) → get_or (replicate n d) i d ≡ d
none-at zero i d = refl
none-at (suc n) zero d = refl
none-at (suc n) (suc i) d = none-at n i d

-- a sum of nothing
none-summed : (f : ℕ → ℕ) (a n : ℕ) → ((i : ℕ) → f i ≡ 0) → sum_by f (range_with_len a n) ≡ 0
none-summed f a zero none = refl
none-summed f a (suc n) none =
    let x = sum_by-cons f a (range_with_len (a + 1) n) in
    let one = none a in
    let rest = none-summed f (a + 1) n none in
    omega arith

-- sessions without changes add nothing
all-none : (f : List OpenChange → ℕ) (n : ℕ) → f [] ≡ 0 → sum_by f (replicate n []) ≡ 0
all-none f zero none = refl
all-none f (suc n) none =
    let x = sum_by-cons f [] (replicate n []) in
    let rest = all-none f n none in
    omega arith

-- a table without rows costs nothing
cost-none : (i : ℕ) → open_table_cost (replicate 501 0) (replicate 65 []) i ≡ 0
cost-none i = ap (λ n. n + growth_of i (replicate 65 [])) (none-at 501 i 0) ∙ ap (λ n. 0 + n) (all-none (λ changes. sum_by (growth_on i) changes) 65 refl)

-- tables without rows have no pages
pages-none : all_table_pages (replicate 501 0) (replicate 65 []) ≡ 0
unfolding every_table
pages-none = none-summed (λ i. table_pages (open_table_cost (replicate 501 0) (replicate 65 []) i)) 1 500 (λ i. ap table_pages (cost-none i))

-- no changes are in order
order-none : IsInOrder []
order-none = record { ascend = refl; tables = λ i d inside. absurd (omega arith) }

-- the sums of nothing
pub sums-none : AreSums (replicate 501 0) (replicate 501 0) (replicate 65 []) (replicate 65 0) 0 0
sums-none = record {
  many_tables = (refl, refl);
  many_sessions = (refl, refl);
  costs_small = λ i lt. less-along _ _ _ (ap (λ n. n + n) (none-at 501 i 0)) (omega arith);
  grown_is = λ i lt. none-at 501 i 0 ∙ sym (all-none (λ changes. sum_by (growth_on i) changes) 65 refl);
  bytes_small = λ i lt. less-along _ _ _ (none-at 65 i 0) (omega arith);
  bytes_are = λ i lt. none-at 65 i 0 ∙ sym (let none : List OpenChange = [] in ap (sum_by undo_cost) (none-at 65 i none));
  pages_is = sym pages-none;
  undo_is = sym (all-none session_undo 65 refl);
  undo_small = omega arith;
  pages_small = omega arith;
  in_order = λ i lt. let none : List OpenChange = [] in rw (none-at 65 i none) order-none;
}

-- lists that are empty each are lists of nothing
pub all-empty : (n : ℕ) (sessions : List (Vec OpenChange Global)) → length sessions ≡ n → ((i : ℕ) (d : Vec OpenChange Global) → i < length sessions → (get_or sessions i d).items ≡ []) → lists sessions ≡ replicate n []
all-empty zero [] len none = refl
all-empty zero (v ∷ sessions) len none = absurd (omega arith)
all-empty (suc n) [] len none = absurd (omega arith)
all-empty (suc n) (v ∷ sessions) len none =
    let rest = all-empty n sessions (omega arith) (λ i d inside. none (suc i) d (omega arith)) in
    rw (none 0 v (omega arith), rest) refl
