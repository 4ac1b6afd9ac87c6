-- Runs of leaves.
--     chain_right, chain_at      a part of a chain is one, and its first leaf stands
--     one_chain, chain_apart      a chain is known by its first page, and has no page twice
--     chain_len      it has at most 65,536 leaves
--     run_rows-append      the rows of two runs
use Rattle.std.proofs.Common.{◌≡◌, refl, sym, ap, subst, ◌∙◌, ℕ, suc, ◌<◌, ◌≤◌, Bool, true, false, ◌||◌, List, [], ◌∷◌, ◌++◌, map, length, Option, Some, None, arith, append_assoc, eqb, eqb-true, length-append}
use Rattle.std.specs.Prelude.{unwrap_or}
use Rattle.std.specs.List.{list_any, IsDistinct, AllByRecursion}
use Rattle.std.proofs.lemmas.List.{length-map}
use Rattle.std.proofs.lemmas.Map.Steps.{length-le_from_distinct_below}
use Rattle.mdb_bytes.specs.TablePages.{Row, RowLeaf}
use Rattle.mdb_bytes.specs.Paged.{PageBytes}
use Rattle.leaf_runs.specs.Runs.{Leaf, run_rows, first_page, leaf_at, leaf_value, IsChain}

pub run_rows-append : (a b : List Leaf) → run_rows (a ++ b) ≡ run_rows a ++ run_rows b
run_rows-append [] b = refl
run_rows-append (x ∷ a) b = ap (λ (rs : List Row). x.rows ++ rs) (run_rows-append a b) ∙ sym (append_assoc x.rows (run_rows a) (run_rows b))

module _ (pages : PageBytes) (table : ℕ) where
  pub chain_right : (a b : List Leaf) → IsChain pages table (a ++ b) → IsChain pages table b
  chain_right [] b c = c
  chain_right (x ∷ a) b c = chain_right a b c.1

  page_of : Option RowLeaf → ℕ
  page_of None = 0
  page_of (Some v) = v.next

  -- a chain that begins at a page is the only one
  pub one_chain : (a b : List Leaf) → IsChain pages table a → IsChain pages table b → first_page a ≡ first_page b → a ≡ b
  one_chain [] [] p q e = refl
  one_chain [] (y ∷ b) p q e = let r = q.0.real in absurd (omega arith)
  one_chain (x ∷ a) [] p q e = let r = p.0.real in absurd (omega arith)
  one_chain (x ∷ a) (y ∷ b) p q e =
      let values : Some (leaf_value table x (first_page a)) ≡ Some (leaf_value table y (first_page b)) =
      sym p.0.there ∙ ap (leaf_at pages) e ∙ q.0.there in
      let value : leaf_value table x (first_page a) ≡ leaf_value table y (first_page b) = ap (λ (o : Option RowLeaf). unwrap_or o (leaf_value table x 0)) values in
      let more : a ≡ b = one_chain a b p.1 q.1 (ap (λ (v : RowLeaf). v.next) value) in
      let rows : x.rows ≡ y.rows = ap (λ (v : RowLeaf). v.rows) value in
      (λ i. record { page = e i; rows = rows i } ∷ more i)

  -- no later leaf of a chain stands on the page of its first one
  pub not_again : (x : Leaf) (a : List Leaf) → IsChain pages table (x ∷ a) → (b : List Leaf) (y : Leaf) (c : List Leaf) → a ≡ b ++ y ∷ c → x.page ≡ y.page → ⊥
  not_again x a p b y c is same =
      let later : IsChain pages table (y ∷ c) = chain_right b (y ∷ c) (subst (IsChain pages table) is p.1) in
      let e : x ∷ a ≡ y ∷ c = one_chain (x ∷ a) (y ∷ c) p later same in
      let n : suc (length a) ≡ suc (length c) = ap length e in
      let m : length a ≡ length (b ++ y ∷ c) = ap length is in
      omega (arith, length-append b (y ∷ c))

  pages_apart : (x : Leaf) (a : List Leaf) → IsChain pages table (x ∷ a) → (b c : List Leaf) → a ≡ b ++ c → AllByRecursion (λ n. eqb x.page n ≡ false) (map (λ (l : Leaf). l.page) c)
  pages_apart x a p b [] is = tt
  pages_apart x a p b (y ∷ c) is = (by_test (eqb x.page y.page) refl, pages_apart x a p (b ++ y ∷ []) c (is ∙ sym (append_assoc b (y ∷ []) c))) where
    by_test : (t : Bool) → eqb x.page y.page ≡ t → t ≡ false
    by_test true e = absurd (not_again x a p b y c is (eqb-true x.page y.page e))
    by_test false e = refl

  pub chain_apart : (a : List Leaf) → IsChain pages table a → IsDistinct eqb (map (λ (l : Leaf). l.page) a)
  unfolding IsDistinct
  chain_apart [] p = tt
  chain_apart (x ∷ a) p = (pages_apart x a p [] a refl, chain_apart a p.1)

  below : (a : List Leaf) → IsChain pages table a → (q : ℕ) → list_any (eqb q) (map (λ (l : Leaf). l.page) a) ≡ true → q < 65536
  below [] p q e = absurd cc
  below (x ∷ a) p q e = by_test (below a p.1 q) (eqb q x.page) refl e where
    by_test : (list_any (eqb q) (map (λ (l : Leaf). l.page) a) ≡ true → q < 65536) → (t : Bool) → eqb q x.page ≡ t → (t || list_any (eqb q) (map (λ (l : Leaf). l.page) a)) ≡ true → q < 65536
    by_test more true is e = let same : q ≡ x.page = eqb-true q x.page is in let s = p.0.small in omega arith
    by_test more false is e = more e

  pub chain_len : (a : List Leaf) → IsChain pages table a → length a ≤ 65536
  chain_len a p = let n = length-le_from_distinct_below (map (λ (l : Leaf). l.page) a) 65536 (chain_apart a p) (below a p) in let m = length-map a (λ (l : Leaf). l.page) in omega arith
