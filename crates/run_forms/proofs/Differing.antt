-- The places of the rows on all leaves differ.
--     no_twice      a key stands once in rows in order
--     same_leaf      a key stands on one leaf of a run
--     places_differ      no place stands twice on all pages
use Rattle.std.proofs.Common.{◌≡◌, refl, sym, ap, subst, ◌∙◌, ℕ, ◌≤◌, Bool, true, false, not, cond, T, List, [], ◌∷◌, ◌++◌, map, Option, Some, None, is_some}
use Rattle.std.specs.Prelude.{option_map, unwrap_or, Contains}
use Rattle.std.specs.List.{list_any}
use Rattle.std.proofs.lemmas.List.Concat.{flat_map-cons}
use Rattle.std.specs.Ordering.{nat_cmp, is_eq, eq_by_cmp}
use Rattle.std.specs.Cmp.{nat_cmp_total, tied_itself}
use Rattle.std.specs.Cmp.Lexicographic.{nat_list_cmp_total}
use Rattle.std.specs.FinMap.{get, find, is_sorted, nat_cmp-IsAntisymmetric, slice_cmp-IsAntisymmetric}
use Rattle.std.specs.FinMap.Entries.{is_some-find}
use Rattle.mdb_model.specs.Tables.{Place, place_cmp}
use Rattle.mdb_model.specs.Sessions.{same_place}
use Rattle.mdb_bytes.specs.Fields.{all_differ}
use Rattle.mdb_bytes.specs.TablePages.{Row, RowLeaf}
use Rattle.mdb_bytes.specs.PageReadings.{row_leaf_of, leaf_rows, rows_on}
use Rattle.mdb_bytes.specs.Paged.{PageBytes}
use Rattle.mdb_bytes.proofs.Decoding.{and_left, and_right, and_both}
use Rattle.mdb_bytes.proofs.NextRow.{find-below, place_total}
use Rattle.row_page.specs.Entries.{by_bytes}
use Rattle.leaf_runs.specs.Runs.{Leaf, run_rows, first_page, leaf_at, leaf_value, LeafStands, AreRuns}
use Rattle.leaf_runs.proofs.RowLists.{t_left, t_right, sorted_right}
use Rattle.leaf_runs.proofs.LeafLaw.{leaf_page_of}
use Rattle.leaf_runs.proofs.Chains.{run_rows-append}
use Rattle.leaf_runs.proofs.Places.{leaf_there, some_same}
use Rattle.leaf_runs.proofs.RowsLaw.{or_else, find-append, equal, find_inside, leaf_on, on_page, page_rows, from_page}
use Rattle.leaf_runs.proofs.PageBound.{placed, sorted_placed}
use Rattle.leaf_runs.proofs.Gets.{chains_of, table_limits}
use Rattle.run_forms.proofs.Stampless.{found_behind, found_first}

-- what is there is not absent
some_none : {X : Type 0} (o : Option X) (x : X) → o ≡ Some x → o ≡ None → ⊥
some_none o x p q = let wrong : Some x ≡ None = sym p ∙ q in cc

-- a key of rows in order that stands in front stands not behind
pub no_twice : (k v : List ℕ) (xs ys : List Row) → T (is_sorted by_bytes (xs ++ ys)) → find by_bytes k xs ≡ Some v → find by_bytes k ys ≡ None
no_twice k v [] ys up is = absurd cc
no_twice k v (x ∷ xs) ys up is = by_test (no_twice k v xs ys (t_right _ _ up)) (eq_by_cmp by_bytes k x.0) refl is where
  second : (o p : Option (List ℕ)) → or_else o p ≡ None → p ≡ None
  second None p e = e
  second (Some w) p e = absurd cc

  by_test : (find by_bytes k xs ≡ Some v → find by_bytes k ys ≡ None) → (b : Bool) → eq_by_cmp by_bytes k x.0 ≡ b → cond b (Some x.1) (find by_bytes k xs) ≡ Some v → find by_bytes k ys ≡ None
  by_test more false e there = more there
  by_test more true e there =
      let same : k ≡ x.0 = slice_cmp-IsAntisymmetric nat_cmp-IsAntisymmetric k x.0 (equal _ e) in
      let none : find by_bytes k (xs ++ ys) ≡ None = ap (λ (q : List ℕ). find by_bytes q (xs ++ ys)) same ∙ find-below by_bytes nat_list_cmp_total x.0 (xs ++ ys) (t_left _ _ up) in
      second (find by_bytes k xs) (find by_bytes k ys) (sym (find-append by_bytes k xs ys) ∙ none)

-- a key of a leaf in a run stands in the rows of the run
in_run : (k v : List ℕ) (front : List Leaf) (l : Leaf) (back : List Leaf) → T (is_sorted by_bytes (run_rows (front ++ l ∷ back))) → find by_bytes k l.rows ≡ Some v → find by_bytes k (run_rows (front ++ l ∷ back)) ≡ Some v
in_run k v front l back up is =
    let parts : run_rows (front ++ l ∷ back) ≡ run_rows front ++ (l.rows ++ run_rows back) = run_rows-append front (l ∷ back) in
    ap (find by_bytes k) parts ∙ find_inside k v (run_rows front) l.rows (run_rows back) (subst (λ (rs : List Row). T (is_sorted by_bytes rs)) parts up) is

-- of two equal lists the firsts are equal, and so are the others
first_is : (a b : Leaf) (xs ys : List Leaf) → a ∷ xs ≡ b ∷ ys → a ≡ b
first_is a b xs ys e = cc

rest_is : (a b : Leaf) (xs ys : List Leaf) → a ∷ xs ≡ b ∷ ys → xs ≡ ys
rest_is a b xs ys e = cc

-- a key stands on one leaf of a run
pub same_leaf : (k v w : List ℕ) (f1 : List Leaf) (l1 : Leaf) (b1 : List Leaf) (f2 : List Leaf) (l2 : Leaf) (b2 : List Leaf) → f1 ++ l1 ∷ b1 ≡ f2 ++ l2 ∷ b2 → T (is_sorted by_bytes (run_rows (f1 ++ l1 ∷ b1)))
    → find by_bytes k l1.rows ≡ Some v → find by_bytes k l2.rows ≡ Some w → l1 ≡ l2
same_leaf k v w [] l1 b1 [] l2 b2 e up p q = first_is l1 l2 b1 b2 e
same_leaf k v w [] l1 b1 (y ∷ f2) l2 b2 e up p q =
    let rest : b1 ≡ f2 ++ l2 ∷ b2 = rest_is l1 y b1 (f2 ++ l2 ∷ b2) e in
    let up2 : T (is_sorted by_bytes (run_rows (f2 ++ l2 ∷ b2))) = subst (λ (ls : List Leaf). T (is_sorted by_bytes (run_rows ls))) rest (sorted_right l1.rows (run_rows b1) up) in
    absurd (some_none (find by_bytes k (run_rows b1)) w (ap (λ (ls : List Leaf). find by_bytes k (run_rows ls)) rest ∙ in_run k w f2 l2 b2 up2 q) (no_twice k v l1.rows (run_rows b1) up p))
same_leaf k v w (x ∷ f1) l1 b1 [] l2 b2 e up p q =
    let rest : f1 ++ l1 ∷ b1 ≡ b2 = rest_is x l2 (f1 ++ l1 ∷ b1) b2 e in
    let here : x ≡ l2 = first_is x l2 (f1 ++ l1 ∷ b1) b2 e in
    let q2 : find by_bytes k x.rows ≡ Some w = ap (λ (l : Leaf). find by_bytes k l.rows) here ∙ q in
    absurd (some_none (find by_bytes k (run_rows (f1 ++ l1 ∷ b1))) v (in_run k v f1 l1 b1 (sorted_right x.rows (run_rows (f1 ++ l1 ∷ b1)) up) p) (no_twice k w x.rows (run_rows (f1 ++ l1 ∷ b1)) up q2))
same_leaf k v w (x ∷ f1) l1 b1 (y ∷ f2) l2 b2 e up p q =
    same_leaf k v w f1 l1 b1 f2 l2 b2 (rest_is x y (f1 ++ l1 ∷ b1) (f2 ++ l2 ∷ b2) e) (sorted_right x.rows (run_rows (f1 ++ l1 ∷ b1)) up) p q

-- Places

-- the places of some rows
abbrev places : List (Place × List ℕ) → List Place
places es = map (λ e. e.0) es

-- a place that is not found is none of the places, and the other way round
none_there : (q : Place) (es : List (Place × List ℕ)) → find place_cmp q es ≡ None → not (list_any (same_place q) (places es)) ≡ true
none_there q es none = ap (λ (b : Bool). not b) (sym (is_some-find place_cmp q es) ∙ ap is_some none)

not_there : (q : Place) (es : List (Place × List ℕ)) → not (list_any (same_place q) (places es)) ≡ true → find place_cmp q es ≡ None
not_there q es e = by_found (find place_cmp q es) refl where
  by_found : (o : Option (List ℕ)) → find place_cmp q es ≡ o → o ≡ None
  by_found None is = refl
  by_found (Some v) is = let wrong : false ≡ true = sym (ap (λ (b : Bool). not b) (sym (is_some-find place_cmp q es) ∙ ap is_some is)) ∙ e in absurd cc

-- the places of rows in order differ
sorted_differ : (es : List (Place × List ℕ)) → T (is_sorted place_cmp es) → all_differ same_place (places es) ≡ true
sorted_differ [] up = refl
sorted_differ (e ∷ es) up =
    and_both (not (list_any (same_place e.0) (places es))) (all_differ same_place (places es)) (none_there e.0 es (find-below place_cmp place_total e.0 es (t_left _ _ up))) (sorted_differ es (t_right _ _ up))

-- places that differ, after others that have none of them
differ_append : (xs ys : List (Place × List ℕ)) → all_differ same_place (places xs) ≡ true → all_differ same_place (places ys) ≡ true
    → ((q : Place) (v : List ℕ) → find place_cmp q xs ≡ Some v → find place_cmp q ys ≡ None) → all_differ same_place (places (xs ++ ys)) ≡ true
differ_append [] ys p q apart = q
differ_append (x ∷ xs) ys p q apart =
    let lone : find place_cmp x.0 xs ≡ None = not_there x.0 xs (and_left (not (list_any (same_place x.0) (places xs))) _ p) in
    let here : find place_cmp x.0 (x ∷ xs) ≡ Some x.1 = ap (λ o. cond (is_eq o) (Some x.1) (find place_cmp x.0 xs)) (tied_itself place_total x.0) in
    let none : find place_cmp x.0 (xs ++ ys) ≡ None = find-append place_cmp x.0 xs ys ∙ ap (λ (o : Option (List ℕ)). or_else o (find place_cmp x.0 ys)) lone ∙ apart x.0 x.1 here in
    and_both (not (list_any (same_place x.0) (places (xs ++ ys)))) (all_differ same_place (places (xs ++ ys))) (none_there x.0 (xs ++ ys) none)
    (differ_append xs ys (and_right (not (list_any (same_place x.0) (places xs))) _ p) q (λ r v is. later r v is (eq_by_cmp place_cmp r x.0) refl))
  where
    later : (r : Place) (v : List ℕ) → find place_cmp r xs ≡ Some v → (b : Bool) → eq_by_cmp place_cmp r x.0 ≡ b → find place_cmp r ys ≡ None
    later r v is true e = apart r x.1 (ap (λ (b : Bool). cond b (Some x.1) (find place_cmp r xs)) e)
    later r v is false e = apart r v (ap (λ (b : Bool). cond b (Some x.1) (find place_cmp r xs)) e ∙ is)

-- the rows on a page
page_differs : (bytes : List ℕ) → all_differ same_place (places (rows_on bytes)) ≡ true
page_differs bytes = by_leaf (row_leaf_of bytes) refl where
  by_leaf : (o : Option RowLeaf) → row_leaf_of bytes ≡ o → all_differ same_place (places (unwrap_or (option_map leaf_rows o) [])) ≡ true
  by_leaf None is = refl
  by_leaf (Some leaf) is = sorted_differ (map (placed leaf.table) leaf.rows) (sorted_placed leaf.table leaf.rows (leaf_page_of bytes leaf is).keeps.up)

-- equal leaves are on one page
same_page : (n m : ℕ) (a b : Leaf) → a.page ≡ n → b.page ≡ m → a ≡ b → n ≡ m
same_page n m a b at_n at_m same = sym at_n ∙ ap (λ (l : Leaf). l.page) same ∙ at_m

module _ (pages : PageBytes) (r : AreRuns pages) where
  -- a leaf of a run has the rows that its page spells
  same_rows : (n table next : ℕ) (leaf : RowLeaf) (l : Leaf) → leaf_at pages n ≡ Some leaf → l.page ≡ n → LeafStands pages table l next → leaf.rows ≡ l.rows
  same_rows n table next leaf l is at_n stands =
      ap (λ (v : RowLeaf). v.rows) (some_same (leaf_at pages n) leaf (leaf_value table l next) is (subst (λ (k : ℕ). leaf_at pages k ≡ Some (leaf_value table l next)) at_n stands.there))

  -- a row stands on a leaf of its table, which is on the page
  record IsOnRun (n : ℕ) (q : Place) (v : List ℕ) : Type 0 where
    pub front : List Leaf
    pub here : Leaf
    pub back : List Leaf
    pub whole : r.runs q.0 ≡ front ++ here ∷ back
    pub page_is : here.page ≡ n
    pub found : find by_bytes q.1 here.rows ≡ Some v
    pub order : T (is_sorted by_bytes (run_rows (front ++ here ∷ back)))

  -- a row on a page is one of a run
  row_on_run : (n : ℕ) (bytes : List ℕ) (q : Place) (v : List ℕ) → get pages n ≡ Some bytes → find place_cmp q (rows_on bytes) ≡ Some v → IsOnRun n q v
  row_on_run n bytes q v at_n is =
      let x = on_page bytes q.0 q.1 v is in
      let limits = table_limits x.0.table (leaf_page_of bytes x.0 x.1).keeps.table in
      let chain = (chains_of pages r).linked q.0 (subst (λ (t : ℕ). 1 ≤ t) x.2 limits.0) (subst (λ (t : ℕ). t ≤ 500) x.2 limits.1) in
      let at_x : leaf_at pages n ≡ Some x.0 = leaf_there pages n bytes x.0 at_n x.1 in
      let named : Contains (map (λ (l : Leaf). l.page) (r.runs q.0)) n = subst (λ (t : ℕ). Contains (map (λ (l : Leaf). l.page) (r.runs t)) n) x.2 (r.named n x.0 at_x) in
      let on = leaf_on pages q.0 (r.runs q.0) n chain.0 named in
      let rows : x.0.rows ≡ on.1.rows = same_rows n q.0 (first_page on.2) x.0 on.1 at_x on.4 on.5 in record {
        front = on.0;
        here = on.1;
        back = on.2;
        whole = on.3;
        page_is = on.4;
        found = subst (λ (rs : List Row). find by_bytes q.1 rs ≡ Some v) rows x.3;
        order = subst (λ (ls : List Leaf). T (is_sorted by_bytes (run_rows ls))) on.3 chain.1;
      }

  -- a place stands on one page
  one_page : (n m : ℕ) (a b : List ℕ) (q : Place) (v w : List ℕ) → get pages n ≡ Some a → get pages m ≡ Some b → find place_cmp q (rows_on a) ≡ Some v → find place_cmp q (rows_on b) ≡ Some w → n ≡ m
  one_page n m a b q v w at_n at_m p s =
      let x = row_on_run n a q v at_n p in
      let y = row_on_run m b q w at_m s in
      same_page n m x.here y.here x.page_is y.page_is (same_leaf q.1 v w x.front x.here x.back y.front y.here y.back (sym x.whole ∙ y.whole) x.order x.found y.found)

  -- the places of the rows on some pages differ
  pub places_differ : (es : List (ℕ × List ℕ)) → T (is_sorted nat_cmp es) → ((n : ℕ) (b : List ℕ) → find nat_cmp n es ≡ Some b → get pages n ≡ Some b) → all_differ same_place (places (page_rows es)) ≡ true
  places_differ [] up all = refl
  places_differ (e ∷ es) up all =
      let rest = places_differ es (t_right _ _ up) (λ n b there. all n b (found_behind e es up n b there)) in
      ap (λ (xs : List (Place × List ℕ)). all_differ same_place (places xs)) (flat_map-cons rows_on e.1 (map (λ (e : ℕ × List ℕ). e.1) es))
      ∙ differ_append (rows_on e.1) (page_rows es) (page_differs e.1) rest (λ q v p. by_later q v p (find place_cmp q (page_rows es)) refl)
    where
      by_later : (q : Place) (v : List ℕ) → find place_cmp q (rows_on e.1) ≡ Some v → (o : Option (List ℕ)) → find place_cmp q (page_rows es) ≡ o → o ≡ None
      by_later q v p None is = refl
      by_later q v p (Some w) is =
          let f = from_page q w es (t_right _ _ up) is in
          let same : e.0 ≡ f.0 = one_page e.0 f.0 e.1 f.1 q v w (all e.0 e.1 (found_first e es)) (all f.0 f.1 (found_behind e es up f.0 f.1 f.2)) p f.3 in
          absurd (some_none (find nat_cmp f.0 es) f.1 f.2 (ap (λ (n : ℕ). find nat_cmp n es) (sym same) ∙ find-below nat_cmp nat_cmp_total e.0 es (t_left _ _ up)))
