-- The sums of the space rule after one step.
--     growth-set, growth-noted      the growth of a table after the changes of a session became others
--     pages-at      the pages after the cost of one table became another
--     undo-set      the undo pages after the changes of a session became others
--     table_in, session_in      a part is no more than the sum
--     pages-small      the pages are few
use Rattle.std.proofs.Common.{◌≡◌, refl, ap, ℕ, zero, suc, ◌+◌, ◌*◌, ◌^◌, ◌<◌, ◌≤◌, inl, inr, List, [], length, set, arith}
use Rattle.std.specs.Prelude.{nat_eq, nat_le, sum_by}
use Rattle.std.specs.List.{range_with_len}
use Rattle.std.proofs.lemmas.Bool.{cases_Bool, cases_order}
use Rattle.std.proofs.lemmas.List.Sums.{sum_by-cons, sum_by-set, get_or-le-sum_by}
use Rattle.mdb_model.specs.Space.{table_pages, every_table}
use Rattle.space_rule.specs.declared.open_change.OpenChange.{OpenChange}
use Rattle.space_rule.specs.KnownCosts.{changes_at, growth_on, growth_of, open_table_cost, all_table_pages, session_undo, undo_of, with_open}
use Rattle.space_rule.proofs.Opens.{sum-elsewhere}

-- the growth of a table after the changes of a session became others
pub growth-set : (table session : ℕ) (sessions : List (List OpenChange)) (xs : List OpenChange) → session < length sessions
    → growth_of table (set sessions session xs) + sum_by (growth_on table) (changes_at sessions session) ≡ growth_of table sessions + sum_by (growth_on table) xs
growth-set table session sessions xs inside = sum_by-set (λ changes. sum_by (growth_on table) changes) sessions session xs [] inside

-- the growth of other tables stays
pub growth-noted : (table session : ℕ) (sessions : List (List OpenChange)) (x : OpenChange) → session < length sessions → (x.table.0 ≡ table → ⊥)
    → growth_of table (set sessions session (with_open x (changes_at sessions session))) ≡ growth_of table sessions
growth-noted table session sessions x inside other =
    let a = growth-set table session sessions (with_open x (changes_at sessions session)) inside in
    let b = sum-elsewhere table x (changes_at sessions session) other in
    omega arith

-- the undo pages after the changes of a session became others
pub undo-set : (session : ℕ) (sessions : List (List OpenChange)) (xs : List OpenChange) → session < length sessions
    → undo_of (set sessions session xs) + session_undo (changes_at sessions session) ≡ undo_of sessions + session_undo xs
undo-set session sessions xs inside = sum_by-set session_undo sessions session xs [] inside

-- the undo pages of a session are among those of all
pub session_in : (session : ℕ) (sessions : List (List OpenChange)) → session < length sessions → session_undo (changes_at sessions session) ≤ undo_of sessions
session_in session sessions inside = get_or-le-sum_by session_undo sessions session [] inside

-- the growth by a session is part of that of the table
pub growth_in : (table session : ℕ) (sessions : List (List OpenChange)) → session < length sessions → sum_by (growth_on table) (changes_at sessions session) ≤ growth_of table sessions
growth_in table session sessions inside = get_or-le-sum_by (λ changes. sum_by (growth_on table) changes) sessions session [] inside

-- sums over numbers in a row

-- a term that is not among them changes no sum
same_sums : (f g : ℕ → ℕ) (t a n : ℕ) → t < a → ((i : ℕ) → (i ≡ t → ⊥) → f i ≡ g i) → sum_by f (range_with_len a n) ≡ sum_by g (range_with_len a n)
same_sums f g t a zero below same = refl
same_sums f g t a (suc n) below same =
    let x = sum_by-cons f a (range_with_len (a + 1) n) in
    let y = sum_by-cons g a (range_with_len (a + 1) n) in
    let first = same a (λ e. omega arith) in
    let rest = same_sums f g t (a + 1) n (omega arith) same in
    omega arith

-- sums that differ in one term
one_point : (f g : ℕ → ℕ) (t a n : ℕ) → a ≤ t → t < a + n → ((i : ℕ) → (i ≡ t → ⊥) → f i ≡ g i)
    → sum_by f (range_with_len a n) + g t ≡ sum_by g (range_with_len a n) + f t
one_point f g t a zero low high same = absurd (omega arith)
one_point f g t a (suc n) low high same =
    let x = sum_by-cons f a (range_with_len (a + 1) n) in
    let y = sum_by-cons g a (range_with_len (a + 1) n) in
    elim (cases_order a t) [
      | inl here ↦
          let rest = same_sums f g t (a + 1) n (omega arith) same in
          let p = ap f here in
          let q = ap g here in
          omega arith
      | inr (inl before) ↦
          let first = same a (λ e. omega arith) in
          let rest = one_point f g t (a + 1) n (omega arith) (omega arith) same in
          omega arith
      | inr (inr behind) ↦ absurd (omega arith)
    ]

-- a term is no more than the sum
one_of : (f : ℕ → ℕ) (t a n : ℕ) → a ≤ t → t < a + n → f t ≤ sum_by f (range_with_len a n)
one_of f t a zero low high = absurd (omega arith)
one_of f t a (suc n) low high =
    let x = sum_by-cons f a (range_with_len (a + 1) n) in
    elim (cases_order a t) [
      | inl here ↦ let p = ap f here in omega arith
      | inr (inl before) ↦ let rest = one_of f t (a + 1) n (omega arith) (omega arith) in omega arith
      | inr (inr behind) ↦ absurd (omega arith)
    ]

-- a sum of small terms
all_few : (f : ℕ → ℕ) (m a n : ℕ) → ((i : ℕ) → a ≤ i → i < a + n → f i ≤ m) → sum_by f (range_with_len a n) ≤ n * m
all_few f m a zero few = omega arith
all_few f m a (suc n) few =
    let x = sum_by-cons f a (range_with_len (a + 1) n) in
    let first = few a (omega arith) (omega arith) in
    let rest = all_few f m (a + 1) n (λ i low high. few i (omega arith) (omega arith)) in
    omega arith

-- the pages after the cost of one table became another
pub pages-at : (c1 c2 : List ℕ) (s1 s2 : List (List OpenChange)) (t : ℕ) → 1 ≤ t → t ≤ 500 → ((i : ℕ) → (i ≡ t → ⊥) → open_table_cost c1 s1 i ≡ open_table_cost c2 s2 i)
    → all_table_pages c1 s1 + table_pages (open_table_cost c2 s2 t) ≡ all_table_pages c2 s2 + table_pages (open_table_cost c1 s1 t)
unfolding every_table
pages-at c1 c2 s1 s2 t low high same =
    one_point (λ i. table_pages (open_table_cost c1 s1 i)) (λ i. table_pages (open_table_cost c2 s2 i)) t 1 500 low (omega arith) (λ i other. ap table_pages (same i other))

-- the pages of a table are among the pages
pub table_in : (c : List ℕ) (s : List (List OpenChange)) (t : ℕ) → 1 ≤ t → t ≤ 500 → table_pages (open_table_cost c s t) ≤ all_table_pages c s
unfolding every_table
table_in c s t low high = one_of (λ i. table_pages (open_table_cost c s i)) t 1 500 low (omega arith)

-- a small cost is of few pages
few_pages : (n : ℕ) → n < 2 ^ 62 → table_pages n ≤ 2 ^ 51
few_pages n small = elim (cases_Bool (nat_eq n 0)) [
  | inl is ↦ rw is (omega arith)
  | inr is ↦ elim (cases_Bool (nat_le n 8128)) [
    | inl le ↦ rw (is, le) (omega arith)
    | inr gt ↦ rw (is, gt) (omega arith)
  ]
]

-- a bound in round numbers
below_all : (n : ℕ) → n ≤ 500 * 2 ^ 51 → n ≤ 2 ^ 61
below_all n le = omega arith

-- small costs are of few pages
pub pages-small : (c : List ℕ) (s : List (List OpenChange)) → ((t : ℕ) → t < 501 → open_table_cost c s t < 2 ^ 62) → all_table_pages c s ≤ 2 ^ 61
unfolding every_table
pages-small c s small =
    below_all (all_table_pages c s) (all_few (λ i. table_pages (open_table_cost c s i)) (2 ^ 51) 1 500 (λ i low high. few_pages (open_table_cost c s i) (small i (omega arith))))
