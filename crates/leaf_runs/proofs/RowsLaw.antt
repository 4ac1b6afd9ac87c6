-- The rows on all pages, as one map.
--     row_law      at a place of a table they are what its run has
--     no_other_rows      and no row is of another table
use Rattle.std.proofs.Common.{◌≡◌, refl, sym, ap, subst, ◌∙◌, ℕ, zero, suc, ◌<◌, ◌≤◌, Bool, true, false, cond, T, List, [], ◌∷◌, ◌++◌, map, length, get_or, Option, Some, None, is_some, arith}
use Rattle.std.specs.Prelude.{option_map, unwrap_or, Contains, nat_le}
use Rattle.std.specs.List.{flat_map}
use Rattle.std.proofs.lemmas.List.Concat.{flat_map-cons}
use Rattle.std.proofs.lemmas.Bool.{leb-true}
use Rattle.std.specs.declared.cmp.Ordering.{Ordering}
use Rattle.std.specs.declared.cmp.Ordering.TheVariants.{Less, Equal, Greater}
use Rattle.std.specs.Ordering.{nat_cmp, is_eq, eq_by_cmp, ordering_then}
use Rattle.std.specs.Cmp.{tied_itself, nat_cmp_total}
use Rattle.std.specs.Cmp.Lexicographic.{slice_cmp, nat_list_cmp_total}
use Rattle.std.specs.FinMap.{get, find, is_sorted, entries, entries_sorted, get-entries, get-from_entries, nat_cmp-IsAntisymmetric, slice_cmp-IsAntisymmetric}
use Rattle.mdb_model.specs.Tables.{Place, place_cmp}
use Rattle.mdb_bytes.specs.TablePages.{Row, RowLeaf}
use Rattle.mdb_bytes.specs.PageReadings.{row_leaf_of, leaf_rows, rows_on}
use Rattle.mdb_bytes.specs.Paged.{PageBytes}
use Rattle.mdb_bytes.proofs.Decoding.{and_left, and_right}
use Rattle.mdb_bytes.proofs.NextRow.{find-below, place_total}
use Rattle.row_page.specs.Entries.{by_bytes}
use Rattle.leaf_runs.specs.Runs.{Leaf, run_rows, first_page, leaf_at, leaf_value, LeafStands, IsChain, rows_in_pages}
use Rattle.leaf_runs.proofs.RowLists.{t_left, t_right}
use Rattle.leaf_runs.proofs.LeafLaw.{leaf_page_of}
use Rattle.leaf_runs.proofs.Chains.{run_rows-append}
use Rattle.leaf_runs.proofs.Places.{leaf_there, bytes_of_leaf, some_same}

-- the first of two, where it is there
abbrev pub or_else : {X : Type 0} → Option X → Option X → Option X
or_else (Some x) o = Some x
or_else None o = o

module _ {K X : Type 0} (R : K → K → Ordering) where
  pub find-append : (q : K) (xs ys : List (K × X)) → find R q (xs ++ ys) ≡ or_else (find R q xs) (find R q ys)
  find-append q [] ys = refl
  find-append q (x ∷ xs) ys = by_test (find-append q xs ys) (eq_by_cmp R q x.0) where
    by_test : find R q (xs ++ ys) ≡ or_else (find R q xs) (find R q ys) → (b : Bool) → cond b (Some x.1) (find R q (xs ++ ys)) ≡ or_else (cond b (Some x.1) (find R q xs)) (find R q ys)
    by_test more true = refl
    by_test more false = more

pub equal : (o : Ordering) → is_eq o ≡ true → o ≡ Equal
equal Less e = absurd cc
equal Equal e = refl
equal Greater e = absurd cc

-- the rows of a leaf, looked up by their places
pub leaf_has : (leaf : RowLeaf) (t : ℕ) (k : List ℕ) (rows : List Row) → leaf.table ≡ t → find place_cmp (t, k) (map (λ (row : Row). let e : Place × List ℕ = ((leaf.table, row.0), row.1) in e) rows) ≡ find by_bytes k rows
leaf_has leaf t k [] same = refl
leaf_has leaf t k (row ∷ rows) same =
    let tie : nat_cmp t leaf.table ≡ Equal = ap (nat_cmp t) same ∙ tied_itself nat_cmp_total t in
    (λ i. cond (is_eq (ordering_then (tie i) (slice_cmp nat_cmp k row.0))) (Some row.1) (leaf_has leaf t k rows same i))

pub leaf_lacks : (leaf : RowLeaf) (t : ℕ) (k : List ℕ) (rows : List Row) → (leaf.table ≡ t → ⊥) → find place_cmp (t, k) (map (λ (row : Row). let e : Place × List ℕ = ((leaf.table, row.0), row.1) in e) rows) ≡ None
leaf_lacks leaf t k [] other = refl
leaf_lacks leaf t k (row ∷ rows) other = by_order (leaf_lacks leaf t k rows other) (nat_cmp t leaf.table) refl where
  by_order : find place_cmp (t, k) (map (λ (row : Row). let e : Place × List ℕ = ((leaf.table, row.0), row.1) in e) rows) ≡ None → (o : Ordering) → nat_cmp t leaf.table ≡ o
      → cond (is_eq (ordering_then o (slice_cmp nat_cmp k row.0))) (Some row.1) (find place_cmp (t, k) (map (λ (row : Row). let e : Place × List ℕ = ((leaf.table, row.0), row.1) in e) rows)) ≡ None
  by_order more Less is = more
  by_order more Greater is = more
  by_order more Equal is = absurd (other (sym (nat_cmp-IsAntisymmetric t leaf.table is)))

-- a row on a page is one of the leaf that it spells
pub on_page : (bytes : List ℕ) (t : ℕ) (k v : List ℕ) → find place_cmp (t, k) (rows_on bytes) ≡ Some v → (leaf : RowLeaf) × (row_leaf_of bytes ≡ Some leaf) × (leaf.table ≡ t) × (find by_bytes k leaf.rows ≡ Some v)
on_page bytes t k v is = by_leaf (row_leaf_of bytes) refl is where
  by_table : (leaf : RowLeaf) → row_leaf_of bytes ≡ Some leaf → find place_cmp (t, k) (leaf_rows leaf) ≡ Some v → (b : Bool) → eq_by_cmp nat_cmp leaf.table t ≡ b → (leaf : RowLeaf) × (row_leaf_of bytes ≡ Some leaf) × (leaf.table ≡ t) × (find by_bytes k leaf.rows ≡ Some v)
  by_table leaf there is true e = let same : leaf.table ≡ t = nat_cmp-IsAntisymmetric leaf.table t (equal _ e) in (leaf, there, same, sym (leaf_has leaf t k leaf.rows same) ∙ is)
  by_table leaf there is false e =
      let other : leaf.table ≡ t → ⊥ = λ same. (let tie : nat_cmp leaf.table t ≡ Equal = ap (λ n. nat_cmp n t) same ∙ tied_itself nat_cmp_total t in let yes : eq_by_cmp nat_cmp leaf.table t ≡ true = ap is_eq tie in absurd cc) in
      let none : Some v ≡ None = sym is ∙ leaf_lacks leaf t k leaf.rows other in
      absurd cc

  by_leaf : (o : Option RowLeaf) → row_leaf_of bytes ≡ o → find place_cmp (t, k) (unwrap_or (option_map leaf_rows o) []) ≡ Some v → (leaf : RowLeaf) × (row_leaf_of bytes ≡ Some leaf) × (leaf.table ≡ t) × (find by_bytes k leaf.rows ≡ Some v)
  by_leaf None there is = absurd cc
  by_leaf (Some leaf) there is = by_table leaf there is (eq_by_cmp nat_cmp leaf.table t) refl

page_has : (bytes : List ℕ) (leaf : RowLeaf) (t : ℕ) (k : List ℕ) → row_leaf_of bytes ≡ Some leaf → leaf.table ≡ t → find place_cmp (t, k) (rows_on bytes) ≡ find by_bytes k leaf.rows
page_has bytes leaf t k there same = ap (λ (o : Option RowLeaf). find place_cmp (t, k) (unwrap_or (option_map leaf_rows o) [])) there ∙ leaf_has leaf t k leaf.rows same

-- All pages

abbrev pub page_rows : List (ℕ × List ℕ) → List (Place × List ℕ)
page_rows es = flat_map rows_on (map (λ (e : ℕ × List ℕ). e.1) es)

pub page_rows-cons : (q : Place) (e : ℕ × List ℕ) (es : List (ℕ × List ℕ)) → find place_cmp q (page_rows (e ∷ es)) ≡ or_else (find place_cmp q (rows_on e.1)) (find place_cmp q (page_rows es))
page_rows-cons q e es = ap (find place_cmp q) (flat_map-cons rows_on e.1 (map (λ (e : ℕ × List ℕ). e.1) es)) ∙ find-append place_cmp q (rows_on e.1) (page_rows es)

-- a row of all pages is one of a page
pub from_page : (q : Place) (v : List ℕ) (es : List (ℕ × List ℕ)) → T (is_sorted nat_cmp es) → find place_cmp q (page_rows es) ≡ Some v
    → (n : ℕ) × (bytes : List ℕ) × (find nat_cmp n es ≡ Some bytes) × (find place_cmp q (rows_on bytes) ≡ Some v)
from_page q v [] up is = absurd cc
from_page q v (e ∷ es) up is = by_first (from_page q v es (t_right _ _ up)) (find place_cmp q (rows_on e.1)) refl (sym (page_rows-cons q e es) ∙ is) where
  behind : (n : ℕ) (bytes : List ℕ) → find nat_cmp n es ≡ Some bytes → (b : Bool) → eq_by_cmp nat_cmp n e.0 ≡ b → cond b (Some e.1) (find nat_cmp n es) ≡ Some bytes
  behind n bytes there false same = there
  behind n bytes there true same =
      let equal_n : n ≡ e.0 = nat_cmp-IsAntisymmetric n e.0 (equal _ same) in
      let none : find nat_cmp n es ≡ None = ap (λ m. find nat_cmp m es) equal_n ∙ find-below nat_cmp nat_cmp_total e.0 es (t_left _ _ up) in
      let wrong : Some bytes ≡ None = sym there ∙ none in
      absurd cc

  by_first : (find place_cmp q (page_rows es) ≡ Some v → (n : ℕ) × (bytes : List ℕ) × (find nat_cmp n es ≡ Some bytes) × (find place_cmp q (rows_on bytes) ≡ Some v)) → (o : Option (List ℕ)) → find place_cmp q (rows_on e.1) ≡ o
      → or_else o (find place_cmp q (page_rows es)) ≡ Some v → (n : ℕ) × (bytes : List ℕ) × (find nat_cmp n (e ∷ es) ≡ Some bytes) × (find place_cmp q (rows_on bytes) ≡ Some v)
  by_first more (Some w) here is = (e.0, e.1, ap (λ o. cond (is_eq o) (Some e.1) (find nat_cmp e.0 es)) (tied_itself nat_cmp_total e.0), here ∙ is)
  by_first more None here is = let m = more is in (m.0, m.1, behind m.0 m.1 m.2 (eq_by_cmp nat_cmp m.0 e.0) refl, m.3)

-- and a row of a page is there
to_pages : (q : Place) (n : ℕ) (bytes v : List ℕ) (es : List (ℕ × List ℕ)) → find nat_cmp n es ≡ Some bytes → find place_cmp q (rows_on bytes) ≡ Some v → is_some (find place_cmp q (page_rows es)) ≡ true
to_pages q n bytes v [] there is = absurd cc
to_pages q n bytes v (e ∷ es) there is = ap is_some (page_rows-cons q e es) ∙ by_test (eq_by_cmp nat_cmp n e.0) (λ more. to_pages q n bytes v es more is) there where
  later : (o p : Option (List ℕ)) → is_some p ≡ true → is_some (or_else o p) ≡ true
  later None p s = s
  later (Some x) p s = refl

  by_test : (b : Bool) → (find nat_cmp n es ≡ Some bytes → is_some (find place_cmp q (page_rows es)) ≡ true) → cond b (Some e.1) (find nat_cmp n es) ≡ Some bytes → is_some (or_else (find place_cmp q (rows_on e.1)) (find place_cmp q (page_rows es))) ≡ true
  by_test true more there =
      let same : e.1 ≡ bytes = some_same (Some e.1) e.1 bytes refl there in
      ap (λ (o : Option (List ℕ)). is_some (or_else o (find place_cmp q (page_rows es)))) (ap (λ (b : List ℕ). find place_cmp q (rows_on b)) same ∙ is)
  by_test false more there = later (find place_cmp q (rows_on e.1)) (find place_cmp q (page_rows es)) (more there)

-- Runs

-- a row of a part of a sorted list is the one of the list
pub find_inside : (k v : List ℕ) (xs ys zs : List Row) → T (is_sorted by_bytes (xs ++ (ys ++ zs))) → find by_bytes k ys ≡ Some v → find by_bytes k (xs ++ (ys ++ zs)) ≡ Some v
find_inside k v [] ys zs up is = find-append by_bytes k ys zs ∙ ap (λ (o : Option (List ℕ)). or_else o (find by_bytes k zs)) is
find_inside k v (x ∷ xs) ys zs up is = by_test (find_inside k v xs ys zs (t_right _ _ up) is) (eq_by_cmp by_bytes k x.0) refl where
  by_test : find by_bytes k (xs ++ (ys ++ zs)) ≡ Some v → (b : Bool) → eq_by_cmp by_bytes k x.0 ≡ b → cond b (Some x.1) (find by_bytes k (xs ++ (ys ++ zs))) ≡ Some v
  by_test more false e = more
  by_test more true e =
      let same : k ≡ x.0 = slice_cmp-IsAntisymmetric nat_cmp-IsAntisymmetric k x.0 (equal _ e) in
      let none : find by_bytes k (xs ++ (ys ++ zs)) ≡ None = ap (λ (q : List ℕ). find by_bytes q (xs ++ (ys ++ zs))) same ∙ find-below by_bytes nat_list_cmp_total x.0 (xs ++ (ys ++ zs)) (t_left _ _ up) in
      let wrong : Some v ≡ None = sym more ∙ none in
      absurd cc

-- the leaf of a run on a page
pub leaf_on : (pages : PageBytes) (table : ℕ) (leaves : List Leaf) (n : ℕ) → IsChain pages table leaves → Contains (map (λ (l : Leaf). l.page) leaves) n
    → (front : List Leaf) × (l : Leaf) × (back : List Leaf) × (leaves ≡ front ++ l ∷ back) × (l.page ≡ n) × LeafStands pages table l (first_page back)
leaf_on pages table [] n chain c = let lt = c.1 in absurd (omega arith)
leaf_on pages table (l ∷ ls) n chain c = by_index c.0 c.1 c.2 (leaf_on pages table ls n chain.1) where
  by_index : (i : ℕ) → i < length (map (λ (l : Leaf). l.page) (l ∷ ls)) → get_or (map (λ (l : Leaf). l.page) (l ∷ ls)) i n ≡ n
      → (Contains (map (λ (l : Leaf). l.page) ls) n → (front : List Leaf) × (m : Leaf) × (back : List Leaf) × (ls ≡ front ++ m ∷ back) × (m.page ≡ n) × LeafStands pages table m (first_page back))
      → (front : List Leaf) × (m : Leaf) × (back : List Leaf) × (l ∷ ls ≡ front ++ m ∷ back) × (m.page ≡ n) × LeafStands pages table m (first_page back)
  by_index zero lt is more = ([], l, ls, refl, is, chain.0)
  by_index (suc i) lt is more = let m = more (i, omega arith, is) in (l ∷ m.0, m.1, m.2, ap (λ (t : List Leaf). l ∷ t) m.3, m.4, m.5)

-- a row of a run is one of a leaf
in_leaf : (pages : PageBytes) (table : ℕ) (k v : List ℕ) (leaves : List Leaf) → IsChain pages table leaves → find by_bytes k (run_rows leaves) ≡ Some v
    → (l : Leaf) × (next : ℕ) × LeafStands pages table l next × (find by_bytes k l.rows ≡ Some v)
in_leaf pages table k v [] chain is = absurd cc
in_leaf pages table k v (l ∷ ls) chain is = by_first (in_leaf pages table k v ls chain.1) (find by_bytes k l.rows) refl (sym (find-append by_bytes k l.rows (run_rows ls)) ∙ is) where
  by_first : (find by_bytes k (run_rows ls) ≡ Some v → (l : Leaf) × (next : ℕ) × LeafStands pages table l next × (find by_bytes k l.rows ≡ Some v)) → (o : Option (List ℕ)) → find by_bytes k l.rows ≡ o
      → or_else o (find by_bytes k (run_rows ls)) ≡ Some v → (l : Leaf) × (next : ℕ) × LeafStands pages table l next × (find by_bytes k l.rows ≡ Some v)
  by_first more (Some w) here is = (l, first_page ls, chain.0, here ∙ is)
  by_first more None here is = more is

-- what is known of the runs of all tables, apart from the catalogue
pub record AreChains (pages : PageBytes) (runs : ℕ → List Leaf) : Type 0 where
  pub linked : (table : ℕ) → 1 ≤ table → table ≤ 500 → IsChain pages table (runs table) × T (is_sorted by_bytes (run_rows (runs table)))
  pub named : (number : ℕ) (leaf : RowLeaf) → leaf_at pages number ≡ Some leaf → Contains (map (λ leaf. leaf.page) (runs leaf.table)) number

module _ (pages : PageBytes) (runs : ℕ → List Leaf) (r : AreChains pages runs) where
  rows_are : (q : Place) → get (rows_in_pages pages) q ≡ find place_cmp q (page_rows (entries pages))
  rows_are q = get-from_entries place_total (page_rows (entries pages)) q

  -- a row that is there stands on a leaf of its table
  pub there_on : (t : ℕ) (k v : List ℕ) → find place_cmp (t, k) (page_rows (entries pages)) ≡ Some v
      → (n : ℕ) × (leaf : RowLeaf) × (leaf_at pages n ≡ Some leaf) × (leaf.table ≡ t) × (find by_bytes k leaf.rows ≡ Some v) × ((1 ≤ t) × (t ≤ 500))
  there_on t k v is =
      let p = from_page (t, k) v (entries pages) (entries_sorted pages) is in
      let l = on_page p.1 t k v p.3 in
      let table = (leaf_page_of p.1 l.0 l.1).keeps.table in
      let low = leb-true 1 l.0.table (and_left (nat_le 1 l.0.table) _ table) in
      let high = leb-true l.0.table 500 (and_right (nat_le 1 l.0.table) _ table) in
      (p.0, l.0, leaf_there pages p.0 p.1 l.0 (get-entries pages p.0 ∙ p.2) l.1, l.2, l.3, (subst (λ (n : ℕ). 1 ≤ n) l.2 low, subst (λ (n : ℕ). n ≤ 500) l.2 high))

  pub row_law : (t : ℕ) (k : List ℕ) → 1 ≤ t → t ≤ 500 → get (rows_in_pages pages) (t, k) ≡ find by_bytes k (run_rows (runs t))
  row_law t k low high = rows_are (t, k) ∙ by_row (find place_cmp (t, k) (page_rows (entries pages))) refl where
    chain : IsChain pages t (runs t) × T (is_sorted by_bytes (run_rows (runs t)))
    chain = r.linked t low high

    absent : find place_cmp (t, k) (page_rows (entries pages)) ≡ None → (o : Option (List ℕ)) → find by_bytes k (run_rows (runs t)) ≡ o → None ≡ o
    absent none None is = refl
    absent none (Some v) is =
        let l = in_leaf pages t k v (runs t) chain.0 is in
        let b = bytes_of_leaf pages l.0.page (leaf_value t l.0 l.1) l.2.there in
        let some : is_some (find place_cmp (t, k) (page_rows (entries pages))) ≡ true =
        to_pages (t, k) l.0.page b.0 v (entries pages) (sym (get-entries pages l.0.page) ∙ b.1) (page_has b.0 (leaf_value t l.0 l.1) t k b.2 refl ∙ l.3) in
        let wrong : false ≡ true = sym (ap is_some none) ∙ some in
        absurd cc

    by_row : (o : Option (List ℕ)) → find place_cmp (t, k) (page_rows (entries pages)) ≡ o → o ≡ find by_bytes k (run_rows (runs t))
    by_row None none = absent none (find by_bytes k (run_rows (runs t))) refl
    by_row (Some v) some =
        let p = there_on t k v some in
        let on = leaf_on pages t (runs t) p.0 chain.0 (subst (λ (n : ℕ). Contains (map (λ (l : Leaf). l.page) (runs n)) p.0) p.3 (r.named p.0 p.1 p.2)) in
        let same : p.1 ≡ leaf_value t on.1 (first_page on.2) = some_same (leaf_at pages p.0) p.1 _ p.2 (subst (λ (n : ℕ). leaf_at pages n ≡ Some (leaf_value t on.1 (first_page on.2))) on.4 on.5.there) in
        let here : find by_bytes k on.1.rows ≡ Some v = ap (λ (l : RowLeaf). find by_bytes k l.rows) (sym same) ∙ p.4 in
        let parts : run_rows (runs t) ≡ run_rows on.0 ++ (on.1.rows ++ run_rows on.2) = ap run_rows on.3 ∙ run_rows-append on.0 (on.1 ∷ on.2) in
        sym (ap (find by_bytes k) parts ∙ find_inside k v (run_rows on.0) on.1.rows (run_rows on.2) (subst (λ (rs : List Row). T (is_sorted by_bytes rs)) parts chain.1) here)

  pub no_other_rows : (t : ℕ) (k : List ℕ) → ((1 ≤ t) × (t ≤ 500) → ⊥) → get (rows_in_pages pages) (t, k) ≡ None
  no_other_rows t k other = rows_are (t, k) ∙ by_row (find place_cmp (t, k) (page_rows (entries pages))) refl where
    by_row : (o : Option (List ℕ)) → find place_cmp (t, k) (page_rows (entries pages)) ≡ o → o ≡ None
    by_row None none = refl
    by_row (Some v) some = absurd (other (there_on t k v some).5)
