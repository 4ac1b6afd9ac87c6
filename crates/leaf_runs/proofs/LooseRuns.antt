-- Runs of leaves on the way through a change.
--     IsOn      a leaf of these is on the page
--     one_loose_chain, apart      a chain is known by its first page, and has no page twice
--     IsLinked      leaves in order, with the page that the last one names
--     IsSwapped, swap      some leaves of a run were rewritten: a run as before, with these in the place of those
--     beside_itself, beside_on      what one change leaves of other tables, and the next one
--     put_run, put_order      a row put into one leaf of a run is put into the rows of all
--     without_run, without_order      a row taken out
use Rattle.std.proofs.Common.{◌≡◌, refl, sym, ap, subst, ◌∙◌, ℕ, suc, ◌<◌, Bool, true, false, cond, not, T, List, [], ◌∷◌, ◌++◌, map, length, Option, Some, None, arith, append_assoc, eqb, eqb-true, eq-eqb, length-append, inl, inr}
use Rattle.std.specs.Prelude.{◌⊎◌, unwrap_or, option_and_then, Contains}
use Rattle.std.proofs.lemmas.List.Elements.{Contains-append_right}
use Rattle.std.proofs.lemmas.Map.Made.{Contains-tail}
use Rattle.std.specs.Ordering.{eq_by_cmp}
use Rattle.std.specs.Cmp.Lexicographic.{nat_list_cmp_total}
use Rattle.std.specs.FinMap.{get, put, is_sorted}
use Rattle.std.specs.FinMap.Entries.{below_all, is_sorted-put}
use Rattle.mdb_bytes.specs.TablePages.{Row, RowLeaf}
use Rattle.mdb_bytes.specs.PageReadings.{row_leaf_of}
use Rattle.mdb_bytes.specs.Paged.{PageBytes}
use Rattle.row_page.specs.Entries.{by_bytes}
use Rattle.leaf_runs.specs.Edits.{without}
use Rattle.leaf_runs.specs.Runs.{Leaf, run_rows, first_page, leaf_at, leaf_value}
use Rattle.leaf_runs.specs.Loose.{LeafIsAt, IsLooseChain, IsLooseRun, IsFreeOrOf, StaysBesideTable, Rewrites, IsRound}
use Rattle.leaf_runs.proofs.Chains.{run_rows-append}
use Rattle.leaf_runs.proofs.RowLists.{t_left, t_right, t_both, put-front, put-back, without-append, without-front, without-back}

-- Pages

-- a leaf of these is on the page
abbrev pub IsOn : List Leaf → ℕ → Type 0
IsOn [] n = ⊥
IsOn (leaf ∷ leaves) n = (leaf.page ≡ n) ⊎ IsOn leaves n

abbrev pub pages_of : List Leaf → List ℕ
pages_of leaves = map (λ (leaf : Leaf). leaf.page) leaves

module _ (n : ℕ) where
  -- a page of the first leaves, or of the ones after them, is one of both
  pub on_left : (a b : List Leaf) → IsOn a n → IsOn (a ++ b) n
  on_left [] b on = absurd on
  on_left (x ∷ a) b on = elim on [ inl e ↦ inl e | inr more ↦ inr (on_left a b more) ]

  pub on_right : (a b : List Leaf) → IsOn b n → IsOn (a ++ b) n
  on_right [] b on = on
  on_right (x ∷ a) b on = inr (on_right a b on)

  -- a page of both is one of the first leaves or of the ones after them
  pub on_either : (a b : List Leaf) → IsOn (a ++ b) n → IsOn a n ⊎ IsOn b n
  on_either [] b on = inr on
  on_either (x ∷ a) b on = elim on [ inl e ↦ inl (inl e) | inr more ↦ elim (on_either a b more) [ inl in_a ↦ inl (inr in_a) | inr in_b ↦ inr in_b ] ]

  -- whether a leaf is on the page
  pub is_on : (a : List Leaf) → IsOn a n ⊎ (IsOn a n → ⊥)
  is_on [] = inr (λ on. on)
  is_on (x ∷ a) = by_test (is_on a) (eqb x.page n) refl where
    by_test : IsOn a n ⊎ (IsOn a n → ⊥) → (b : Bool) → eqb x.page n ≡ b → IsOn (x ∷ a) n ⊎ (IsOn (x ∷ a) n → ⊥)
    by_test rest true e = inl (inl (eqb-true x.page n e))
    by_test rest false e = elim rest [
      | inl on ↦ inl (inr on)
      | inr out ↦ inr (λ on. elim on [ inl same ↦ absurd (let yes : eqb x.page n ≡ true = eq-eqb x.page n same in let wrong : false ≡ true = sym e ∙ yes in cc) | inr more ↦ out more ])
    ]

  -- the same, said of the list of pages
  pub on_contains : (a : List Leaf) → IsOn a n → Contains (pages_of a) n
  on_contains [] on = absurd on
  on_contains (x ∷ a) on = elim on [
    | inl e ↦ subst (λ (m : ℕ). Contains (x.page ∷ pages_of a) m) e (0, omega arith, refl)
    | inr more ↦ Contains-append_right (x.page ∷ []) (pages_of a) n (on_contains a more)
  ]

  pub contains_on : (a : List Leaf) → Contains (pages_of a) n → IsOn a n
  contains_on [] c = let lt = c.1 in absurd (omega arith)
  contains_on (x ∷ a) c = by_test (contains_on a) (eqb x.page n) refl where
    by_test : (Contains (pages_of a) n → IsOn a n) → (b : Bool) → eqb x.page n ≡ b → IsOn (x ∷ a) n
    by_test more true e = inl (eqb-true x.page n e)
    by_test more false e = inr (more (Contains-tail x.page (pages_of a) n (λ same. absurd (let yes : eqb x.page n ≡ true = eq-eqb x.page n same in let wrong : false ≡ true = sym e ∙ yes in cc)) c))

  -- the leaves before the one on the page, and those after it
  pub cut_at : (a : List Leaf) → IsOn a n → (b : List Leaf) × (y : Leaf) × (c : List Leaf) × (a ≡ b ++ y ∷ c) × (y.page ≡ n)
  cut_at [] on = absurd on
  cut_at (x ∷ a) on = elim on [
    | inl e ↦ ([], x, a, refl, e)
    | inr more ↦ (let r = cut_at a more in (x ∷ r.0, r.1, r.2, ap (λ (ls : List Leaf). x ∷ ls) r.3, r.4))
  ]

-- a page of which no bytes are known spells no leaf
pub no_leaf_at : (pages : PageBytes) (n : ℕ) (leaf : RowLeaf) → get pages n ≡ None → leaf_at pages n ≡ Some leaf → ⊥
no_leaf_at pages n leaf none there = let wrong : Some leaf ≡ None = sym there ∙ ap (option_and_then row_leaf_of) none in cc

-- a page that is as it was spells what it did
pub leaf_at_as : (pages pages2 : PageBytes) (n : ℕ) → get pages2 n ≡ get pages n → leaf_at pages2 n ≡ leaf_at pages n
leaf_at_as pages pages2 n same = ap (option_and_then row_leaf_of) same

-- Chains

-- the page of the first leaf, or this one where there is none
abbrev pub first_or : List Leaf → ℕ → ℕ
first_or [] next = next
first_or (leaf ∷ leaves) next = leaf.page

-- each leaf names the next one, and the last one names this page
abbrev pub IsLinked : PageBytes → (table : ℕ) → List Leaf → (next : ℕ) → Type 0
IsLinked pages table [] next = Unit {0}
IsLinked pages table (leaf ∷ leaves) next = LeafIsAt pages table leaf (first_or leaves next) × IsLinked pages table leaves next

-- the first page of leaves with others after them
pub first_page-append : (a b : List Leaf) → first_page (a ++ b) ≡ first_or a (first_page b)
first_page-append [] b = refl
first_page-append (x ∷ a) b = refl

module _ (pages : PageBytes) (table : ℕ) where
  -- a part of a chain at its end is one
  pub loose_right : (a b : List Leaf) → IsLooseChain pages table (a ++ b) → IsLooseChain pages table b
  loose_right [] b c = c
  loose_right (x ∷ a) b c = loose_right a b c.1

  -- a chain that begins at a page is the only one
  pub one_loose_chain : (a b : List Leaf) → IsLooseChain pages table a → IsLooseChain pages table b → first_page a ≡ first_page b → a ≡ b
  one_loose_chain [] [] p q e = refl
  one_loose_chain [] (y ∷ b) p q e = let r = q.0.real in absurd (omega arith)
  one_loose_chain (x ∷ a) [] p q e = let r = p.0.real in absurd (omega arith)
  one_loose_chain (x ∷ a) (y ∷ b) p q e =
      let values : Some (leaf_value table x (first_page a)) ≡ Some (leaf_value table y (first_page b)) =
      sym p.0.there ∙ ap (leaf_at pages) e ∙ q.0.there in
      let value : leaf_value table x (first_page a) ≡ leaf_value table y (first_page b) = ap (λ (o : Option RowLeaf). unwrap_or o (leaf_value table x 0)) values in
      let more : a ≡ b = one_loose_chain a b p.1 q.1 (ap (λ (v : RowLeaf). v.next) value) in
      let rows : x.rows ≡ y.rows = ap (λ (v : RowLeaf). v.rows) value in
      (λ i. record { page = e i; rows = rows i } ∷ more i)

  -- no page stands twice in a chain
  pub apart : (a b : List Leaf) (n : ℕ) → IsLooseChain pages table (a ++ b) → IsOn a n → IsOn b n → ⊥
  apart a b n chain on_a on_b =
      let p = cut_at n a on_a in
      let q = cut_at n b on_b in
      let here : IsLooseChain pages table (p.1 ∷ (p.2 ++ b)) =
      loose_right p.0 (p.1 ∷ (p.2 ++ b)) (subst (IsLooseChain pages table) (ap (λ (ls : List Leaf). ls ++ b) p.3 ∙ append_assoc p.0 (p.1 ∷ p.2) b) chain) in
      let there : IsLooseChain pages table (q.1 ∷ q.2) = loose_right q.0 (q.1 ∷ q.2) (subst (IsLooseChain pages table) q.3 (loose_right a b chain)) in
      let same : p.1 ∷ (p.2 ++ b) ≡ q.1 ∷ q.2 = one_loose_chain (p.1 ∷ (p.2 ++ b)) (q.1 ∷ q.2) here there (p.4 ∙ sym q.4) in
      let len : suc (length (p.2 ++ b)) ≡ suc (length q.2) = ap length same in
      let len_b : length b ≡ length (q.0 ++ q.1 ∷ q.2) = ap length q.3 in
      omega (arith, length-append p.2 b, length-append q.0 (q.1 ∷ q.2))

  -- a part of a chain links on to the rest
  pub to_linked : (a b : List Leaf) → IsLooseChain pages table (a ++ b) → IsLinked pages table a (first_page b)
  to_linked [] b c = tt
  to_linked (x ∷ a) b c = (subst (LeafIsAt pages table x) (first_page-append a b) c.0, to_linked a b c.1)

  -- and the other way round
  pub from_linked : (a b : List Leaf) → IsLinked pages table a (first_page b) → IsLooseChain pages table b → IsLooseChain pages table (a ++ b)
  from_linked [] b l c = c
  from_linked (x ∷ a) b l c = (subst (LeafIsAt pages table x) (sym (first_page-append a b)) l.0, from_linked a b l.1 c)

  -- leaves that link on to another page, where there are any
  pub linked_as : (a : List Leaf) (next other : ℕ) → (0 < length a → next ≡ other) → IsLinked pages table a next → IsLinked pages table a other
  linked_as [] next other same l = tt
  linked_as (x ∷ a) next other same l = subst (IsLinked pages table (x ∷ a)) (same (omega arith)) l

  -- a page of linked leaves is a leaf of the table
  pub linked_leaf : (a : List Leaf) (next n : ℕ) → IsLinked pages table a next → IsOn a n → (leaf : RowLeaf) × (leaf_at pages n ≡ Some leaf) × (leaf.table ≡ table)
  linked_leaf [] next n l on = absurd on
  linked_leaf (x ∷ a) next n l on = elim on [
    | inl e ↦ (leaf_value table x (first_or a next), ap (leaf_at pages) (sym e) ∙ l.0.there, refl)
    | inr more ↦ linked_leaf a next n l.1 more
  ]

  -- a chain links on to no page
  pub chain_linked : (a : List Leaf) → IsLooseChain pages table a → IsLinked pages table a 0
  chain_linked [] c = tt
  chain_linked (x ∷ a) c = (subst (LeafIsAt pages table x) (first_is a) c.0, chain_linked a c.1) where
    first_is : (ls : List Leaf) → first_page ls ≡ first_or ls 0
    first_is [] = refl
    first_is (l ∷ ls) = refl

  pub linked_chain : (a : List Leaf) → IsLinked pages table a 0 → IsLooseChain pages table a
  linked_chain [] l = tt
  linked_chain (x ∷ a) l = (subst (LeafIsAt pages table x) (first_is a) l.0, linked_chain a l.1) where
    first_is : (ls : List Leaf) → first_or ls 0 ≡ first_page ls
    first_is [] = refl
    first_is (l ∷ ls) = refl

-- leaves stay linked where their pages are as they were
pub linked_stays : (pages pages2 : PageBytes) (table : ℕ) (a : List Leaf) (next : ℕ) → ((n : ℕ) → IsOn a n → get pages2 n ≡ get pages n) → IsLinked pages table a next → IsLinked pages2 table a next
linked_stays pages pages2 table [] next same l = tt
linked_stays pages pages2 table (x ∷ a) next same l = (
  record { there = leaf_at_as pages pages2 x.page (same x.page (inl refl)) ∙ l.0.there; real = l.0.real; small = l.0.small },
  linked_stays pages pages2 table a next (λ n on. same n (inr on)) l.1,
)

-- Leaves of a run rewritten

-- The first leaves were rewritten as the others, which link on to the same page. Their pages are those of the first ones, or
-- did not live; pages that are not needed any more do not live; every other page is as it was.
pub record IsSwapped (pages pages2 : PageBytes) (table : ℕ) (mid mid2 : List Leaf) (next : ℕ) : Type 0 where
  pub linked : IsLinked pages2 table mid2 next
  pub fresh : (n : ℕ) → IsOn mid2 n → IsOn mid n ⊎ (get pages n ≡ None)
  pub gone : (n : ℕ) → IsOn mid n → IsOn mid2 n ⊎ (get pages2 n ≡ None)
  pub others : (n : ℕ) → (IsOn mid n → ⊥) → (IsOn mid2 n → ⊥) → get pages2 n ≡ get pages n

module _ (pages pages2 : PageBytes) (table : ℕ) (front mid mid2 back : List Leaf) (run : IsLooseRun pages table (front ++ (mid ++ back))) (s : IsSwapped pages pages2 table mid mid2 (first_page back)) where
  rest : IsLooseChain pages table (mid ++ back)
  rest = loose_right pages table front (mid ++ back) run.linked

  mid_linked : IsLinked pages table mid (first_page back)
  mid_linked = to_linked pages table mid back rest

  front_linked : IsLinked pages table front (first_page (mid ++ back))
  front_linked = to_linked pages table front (mid ++ back) run.linked

  back_linked : IsLinked pages table back 0
  back_linked = chain_linked pages table back (loose_right pages table mid back rest)

  -- a page of the run that is not of the first leaves stays
  stays : (n : ℕ) (leaf : RowLeaf) → leaf_at pages n ≡ Some leaf → (IsOn mid n → ⊥) → get pages2 n ≡ get pages n
  stays n leaf there out = s.others n out (λ on2. elim (s.fresh n on2) [ inl on ↦ out on | inr none ↦ no_leaf_at pages n leaf none there ])

  -- the pages before them and after them stay
  front_stays : (n : ℕ) → IsOn front n → get pages2 n ≡ get pages n
  front_stays n on =
      let l = linked_leaf pages table front (first_page (mid ++ back)) n front_linked on in
      stays n l.0 l.1 (λ on_mid. apart pages table front (mid ++ back) n run.linked on (on_left n mid back on_mid))

  back_stays : (n : ℕ) → IsOn back n → get pages2 n ≡ get pages n
  back_stays n on = let l = linked_leaf pages table back 0 n back_linked on in stays n l.0 l.1 (λ on_mid. apart pages table mid back n rest on_mid on)

  -- the leaves are a chain now
  linked_now : (0 < length front → first_or mid2 (first_page back) ≡ first_or mid (first_page back)) → IsLooseChain pages2 table (front ++ (mid2 ++ back))
  linked_now begins =
      from_linked pages2 table front (mid2 ++ back)
      (linked_as pages2 table front (first_page (mid ++ back)) (first_page (mid2 ++ back)) (λ some. first_page-append mid back ∙ sym (begins some) ∙ sym (first_page-append mid2 back))
      (linked_stays pages pages2 table front (first_page (mid ++ back)) front_stays front_linked))
      (from_linked pages2 table mid2 back s.linked (linked_chain pages2 table back (linked_stays pages pages2 table back 0 back_stays back_linked)))

  -- a leaf of the table is on one of their pages
  named_now : (n : ℕ) (leaf : RowLeaf) → leaf_at pages2 n ≡ Some leaf → leaf.table ≡ table → IsOn (front ++ (mid2 ++ back)) n
  named_now n leaf there of_table = elim (is_on n mid2) [
    | inl on2 ↦ on_right n front (mid2 ++ back) (on_left n mid2 back on2)
    | inr out2 ↦ elim (is_on n mid) [
      | inl on ↦ elim (s.gone n on) [ inl on2 ↦ absurd (out2 on2) | inr none ↦ absurd (no_leaf_at pages2 n leaf none there) ]
      | inr out ↦ (let before : leaf_at pages n ≡ Some leaf = sym (leaf_at_as pages pages2 n (s.others n out out2)) ∙ there in
          let on_run : IsOn (front ++ (mid ++ back)) n = contains_on n (front ++ (mid ++ back)) (run.named n leaf before of_table) in
          elim (on_either n front (mid ++ back) on_run) [
            | inl on ↦ on_left n front (mid2 ++ back) on
            | inr more ↦ elim (on_either n mid back more) [ inl on ↦ absurd (out on) | inr on ↦ on_right n front (mid2 ++ back) (on_right n mid2 back on) ]
          ])
    ]
  ]

  -- a page of the first leaves was one of the table
  was_of : (n : ℕ) → IsOn mid n → IsFreeOrOf pages table n
  was_of n on = inr (linked_leaf pages table mid (first_page back) n mid_linked on)

  -- pages that are not of the table stay
  others_now : StaysBesideTable pages pages2 table
  others_now n = elim (is_on n mid2) [
    | inl on2 ↦ inr (elim (s.fresh n on2) [ inl on ↦ was_of n on | inr none ↦ inl none ], inr (linked_leaf pages2 table mid2 (first_page back) n s.linked on2))
    | inr out2 ↦ elim (is_on n mid) [
      | inl on ↦ inr (was_of n on, elim (s.gone n on) [ inl on2 ↦ absurd (out2 on2) | inr none ↦ inl none ])
      | inr out ↦ inl (s.others n out out2)
    ]
  ]

  -- the run has these leaves in the place of those
  pub swap : (0 < length front → first_or mid2 (first_page back) ≡ first_or mid (first_page back)) → T (is_sorted by_bytes (run_rows (front ++ (mid2 ++ back)))) → Rewrites pages pages2 table (front ++ (mid2 ++ back))
  swap begins up = record {
    run = record { linked = linked_now begins; in_order = up; named = λ n leaf there of_table. on_contains n (front ++ (mid2 ++ back)) (named_now n leaf there of_table) };
    others = others_now;
  }

-- What a change leaves of other tables

-- where no page changes, those of other tables stay
pub beside_itself : (pages : PageBytes) (table : ℕ) → StaysBesideTable pages pages table
beside_itself pages table n = inl refl

-- a page that is as it was is free or of the table as it was
pub free_or_of_as : (pages pages2 : PageBytes) (table n : ℕ) → get pages2 n ≡ get pages n → IsFreeOrOf pages table n → IsFreeOrOf pages2 table n
free_or_of_as pages pages2 table n same is = elim is [ inl none ↦ inl (same ∙ none) | inr l ↦ inr (l.0, leaf_at_as pages pages2 n same ∙ l.1, l.2) ]

-- what two changes leave, one after the other
pub beside_on : (a b c : PageBytes) (table : ℕ) → StaysBesideTable a b table → StaysBesideTable b c table → StaysBesideTable a c table
beside_on a b c table first second n = elim (first n) [
  | inl same ↦ elim (second n) [ inl same2 ↦ inl (same2 ∙ same) | inr d ↦ inr (free_or_of_as b a table n (sym same) d.0, d.1) ]
  | inr d ↦ elim (second n) [ inl same2 ↦ inr (d.0, free_or_of_as b c table n same2 d.1) | inr d2 ↦ inr (d.0, d2.1) ]
]

-- a run rewritten twice
pub rewrites_on : (a b c : PageBytes) (table : ℕ) (leaves leaves2 : List Leaf) → Rewrites a b table leaves → Rewrites b c table leaves2 → Rewrites a c table leaves2
rewrites_on a b c table leaves leaves2 first second = record { run = second.run; others = beside_on a b c table first.others second.others }

-- Rows in order

-- the rows of three parts of a run
pub parts_rows : (front parts back : List Leaf) → run_rows (front ++ (parts ++ back)) ≡ run_rows front ++ (run_rows parts ++ run_rows back)
parts_rows front parts back = run_rows-append front (parts ++ back) ∙ ap (λ (rs : List Row). run_rows front ++ rs) (run_rows-append parts back)

module _ (front : List Leaf) (here : Leaf) (parts back : List Leaf) (key value : List ℕ) where
  -- a row put into one leaf is put into the rows of all
  pub put_run : IsRound front key back → run_rows parts ≡ put by_bytes key value here.rows → run_rows (front ++ (parts ++ back)) ≡ put by_bytes key value (run_rows (front ++ here ∷ back))
  put_run round rows =
      parts_rows front parts back ∙ ap (λ (rs : List Row). run_rows front ++ (rs ++ run_rows back)) rows
      ∙ ap (λ (rs : List Row). run_rows front ++ rs) (sym (put-back key value here.rows (run_rows back) round.higher))
      ∙ sym (put-front key value (run_rows front) (here.rows ++ run_rows back) round.lower)
      ∙ ap (put by_bytes key value) (sym (run_rows-append front (here ∷ back)))

  -- and they are in order
  pub put_order : IsRound front key back → run_rows parts ≡ put by_bytes key value here.rows → T (is_sorted by_bytes (run_rows (front ++ here ∷ back))) → T (is_sorted by_bytes (run_rows (front ++ (parts ++ back))))
  put_order round rows up =
      subst (λ (rs : List Row). T (is_sorted by_bytes rs)) (sym (put_run round rows)) (is_sorted-put by_bytes nat_list_cmp_total key value (run_rows (front ++ here ∷ back)) up)

-- rows without one are above what all are above
below_without : (k key : List ℕ) (ys zs : List Row) → T (below_all by_bytes k (ys ++ zs)) → T (below_all by_bytes k (without key ys ++ zs))
below_without k key [] zs p = p
below_without k key (y ∷ ys) zs p = by_test (below_without k key ys zs (t_right _ _ p)) (not (eq_by_cmp by_bytes key y.0)) where
  by_test : T (below_all by_bytes k (without key ys ++ zs)) → (b : Bool) → T (below_all by_bytes k (cond b (y ∷ without key ys) (without key ys) ++ zs))
  by_test more true = t_both _ _ (t_left _ _ p) more
  by_test more false = more

-- rows without one are in order
sorted_without : (key : List ℕ) (ys zs : List Row) → T (is_sorted by_bytes (ys ++ zs)) → T (is_sorted by_bytes (without key ys ++ zs))
sorted_without key [] zs p = p
sorted_without key (y ∷ ys) zs p = by_test (sorted_without key ys zs (t_right _ _ p)) (not (eq_by_cmp by_bytes key y.0)) where
  by_test : T (is_sorted by_bytes (without key ys ++ zs)) → (b : Bool) → T (is_sorted by_bytes (cond b (y ∷ without key ys) (without key ys) ++ zs))
  by_test more true = t_both _ _ (below_without y.0 key ys zs (t_left _ _ p)) more
  by_test more false = more

below_inside : (k key : List ℕ) (xs ys zs : List Row) → T (below_all by_bytes k (xs ++ (ys ++ zs))) → T (below_all by_bytes k (xs ++ (without key ys ++ zs)))
below_inside k key [] ys zs p = below_without k key ys zs p
below_inside k key (x ∷ xs) ys zs p = t_both _ _ (t_left _ _ p) (below_inside k key xs ys zs (t_right _ _ p))

sorted_inside : (key : List ℕ) (xs ys zs : List Row) → T (is_sorted by_bytes (xs ++ (ys ++ zs))) → T (is_sorted by_bytes (xs ++ (without key ys ++ zs)))
sorted_inside key [] ys zs p = sorted_without key ys zs p
sorted_inside key (x ∷ xs) ys zs p = t_both _ _ (below_inside x.0 key xs ys zs (t_left _ _ p)) (sorted_inside key xs ys zs (t_right _ _ p))

module _ (front : List Leaf) (here : Leaf) (back : List Leaf) (key : List ℕ) where
  -- the leaf without the row of the key
  abbrev pub taken : Leaf
  taken = record { page = here.page; rows = without key here.rows }

  -- a row taken out of one leaf is taken out of the rows of all
  pub without_run : IsRound front key back → run_rows (front ++ taken ∷ back) ≡ without key (run_rows (front ++ here ∷ back))
  without_run round =
      run_rows-append front (taken ∷ back)
      ∙ (λ i. sym (without-front key (run_rows front) round.lower) i ++ (without key here.rows ++ sym (without-back key (run_rows back) round.higher) i))
      ∙ ap (λ (rs : List Row). without key (run_rows front) ++ rs) (sym (without-append key here.rows (run_rows back)))
      ∙ sym (without-append key (run_rows front) (here.rows ++ run_rows back))
      ∙ ap (without key) (sym (run_rows-append front (here ∷ back)))

  -- and they are in order, wherever the key is
  pub without_order : T (is_sorted by_bytes (run_rows (front ++ here ∷ back))) → T (is_sorted by_bytes (run_rows (front ++ taken ∷ back)))
  without_order up =
      subst (λ (rs : List Row). T (is_sorted by_bytes rs)) (sym (run_rows-append front (taken ∷ back)))
      (sorted_inside key (run_rows front) here.rows (run_rows back) (subst (λ (rs : List Row). T (is_sorted by_bytes rs)) (run_rows-append front (here ∷ back)) up))
