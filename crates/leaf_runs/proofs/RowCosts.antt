-- What rows cost when one is put in or taken out.
--     value_cost      what the row of a key costs, by its value
--     cost_put, cost_without      what the rows cost then
--     cost_at_most      a row costs no more than all of them
--     no_cost, cost_none, cost_some      what a cost of zero says
use Rattle.std.proofs.Common.{◌≡◌, refl, sym, ap, subst, ℕ, ◌+◌, ◌<◌, ◌≤◌, true, cond, not, T, List, [], ◌∷◌, length, Option, Some, None, is_some, arith}
use Rattle.std.proofs.lemmas.List.Sums.{sum_by-cons}
use Rattle.std.specs.declared.cmp.Ordering.{Ordering}
use Rattle.std.specs.declared.cmp.Ordering.TheVariants.{Less, Equal, Greater}
use Rattle.std.specs.Ordering.{is_eq}
use Rattle.std.specs.FinMap.{find, put, is_sorted, slice_cmp-IsAntisymmetric, nat_cmp-IsAntisymmetric}
use Rattle.std.specs.FinMap.Entries.{below_all, by_order}
use Rattle.mdb_bytes.specs.TablePages.{Row, row_cost, rows_cost}
use Rattle.row_page.specs.Entries.{by_bytes}
use Rattle.leaf_runs.specs.Edits.{without}
use Rattle.leaf_runs.proofs.RowLists.{t_left, t_right, below_through, find-none, without-back}
use Rattle.leaf_runs.proofs.LeafLaw.{few_rows}

-- what the row of a key with this value costs, 0 where there is none
abbrev pub value_cost : List ℕ → Option (List ℕ) → ℕ
value_cost key None = 0
value_cost key (Some value) = 8 + length key + length value

cost-cons : (x : Row) (xs : List Row) → rows_cost (x ∷ xs) ≡ row_cost x + rows_cost xs
cost-cons x xs = sum_by-cons row_cost x xs

same_key : (a b : List ℕ) → by_bytes a b ≡ Equal → a ≡ b
same_key a b is = slice_cmp-IsAntisymmetric nat_cmp-IsAntisymmetric a b is

-- what a put costs, and what it saves
pub cost_put : (key value : List ℕ) (rows : List Row) → T (is_sorted by_bytes rows) → rows_cost (put by_bytes key value rows) + value_cost key (find by_bytes key rows) ≡ rows_cost rows + (8 + length key + length value)
cost_put key value [] up = let one = cost-cons (key, value) [] in omega arith
cost_put key value (x ∷ xs) up = by_order_of (by_bytes key x.0) refl (cost_put key value xs (t_right _ _ up)) where
  by_order_of : (o : Ordering) → by_bytes key x.0 ≡ o → rows_cost (put by_bytes key value xs) + value_cost key (find by_bytes key xs) ≡ rows_cost xs + (8 + length key + length value)
      → rows_cost (by_order o ((key, value) ∷ x ∷ xs) ((x.0, value) ∷ xs) (x ∷ put by_bytes key value xs)) + value_cost key (cond (is_eq o) (Some x.1) (find by_bytes key xs)) ≡ rows_cost (x ∷ xs) + (8 + length key + length value)
  by_order_of Less is more =
      let none : value_cost key (find by_bytes key xs) ≡ 0 = ap (value_cost key) (find-none key xs (below_through key x.0 xs is (t_left _ _ up))) in
      let new = cost-cons (key, value) (x ∷ xs) in
      omega arith
  by_order_of Equal is more =
      let len : length key ≡ length x.0 = ap length (same_key key x.0 is) in
      let new = cost-cons (x.0, value) xs in
      let old = cost-cons x xs in
      omega arith
  by_order_of Greater is more =
      let new = cost-cons x (put by_bytes key value xs) in
      let old = cost-cons x xs in
      omega arith

-- what is saved where a row is taken out
pub cost_without : (key : List ℕ) (rows : List Row) → T (is_sorted by_bytes rows) → rows_cost (without key rows) + value_cost key (find by_bytes key rows) ≡ rows_cost rows
cost_without key [] up = refl
cost_without key (x ∷ xs) up = by_order_of (by_bytes key x.0) refl (cost_without key xs (t_right _ _ up)) where
  by_order_of : (o : Ordering) → by_bytes key x.0 ≡ o → rows_cost (without key xs) + value_cost key (find by_bytes key xs) ≡ rows_cost xs
      → rows_cost (cond (not (is_eq o)) (x ∷ without key xs) (without key xs)) + value_cost key (cond (is_eq o) (Some x.1) (find by_bytes key xs)) ≡ rows_cost (x ∷ xs)
  by_order_of Less is more =
      let new = cost-cons x (without key xs) in
      let old = cost-cons x xs in
      omega arith
  by_order_of Greater is more =
      let new = cost-cons x (without key xs) in
      let old = cost-cons x xs in
      omega arith
  by_order_of Equal is more =
      let same : key ≡ x.0 = same_key key x.0 is in
      let len : length key ≡ length x.0 = ap length same in
      let rest : rows_cost (without key xs) ≡ rows_cost xs = ap rows_cost (without-back key xs (subst (λ (k : List ℕ). T (below_all by_bytes k xs)) (sym same) (t_left _ _ up))) in
      let old = cost-cons x xs in
      omega arith

pub cost_at_most : (key : List ℕ) (rows : List Row) → T (is_sorted by_bytes rows) → value_cost key (find by_bytes key rows) ≤ rows_cost rows
cost_at_most key rows up = let all = cost_without key rows up in omega arith

-- rows that cost nothing are none
pub no_cost : (rows : List Row) → rows_cost rows ≡ 0 → rows ≡ []
no_cost [] none = refl
no_cost (x ∷ xs) none = let few = few_rows (x ∷ xs) in absurd (omega arith)

pub some_cost : (rows : List Row) → 0 < rows_cost rows → 0 < length rows
some_cost [] some = absurd (omega arith)
some_cost (x ∷ xs) some = omega arith

-- a key whose row costs nothing has none, and else it has one
pub cost_none : (key : List ℕ) (o : Option (List ℕ)) → value_cost key o ≡ 0 → o ≡ None
cost_none key None none = refl
cost_none key (Some value) none = absurd (omega arith)

pub cost_some : (key : List ℕ) (o : Option (List ℕ)) → (value_cost key o ≡ 0 → ⊥) → is_some o ≡ true
cost_some key None some = absurd (some refl)
cost_some key (Some value) some = refl

-- there are rows where one was put
pub put_some : (key value : List ℕ) (rows : List Row) → 0 < length (put by_bytes key value rows)
put_some key value [] = omega arith
put_some key value (x ∷ xs) = by_order_of (by_bytes key x.0) where
  by_order_of : (o : Ordering) → 0 < length (by_order o ((key, value) ∷ x ∷ xs) ((x.0, value) ∷ xs) (x ∷ put by_bytes key value xs))
  by_order_of Less = omega arith
  by_order_of Equal = omega arith
  by_order_of Greater = omega arith
