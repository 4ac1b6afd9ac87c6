-- Rows put into a leaf of a run, or taken out.
--     one_swapped, two_swapped, first_swapped      a leaf or two in the place of one; the first one of a table
--     taken_run      a row taken out of a leaf
--     first_placed      the first row of a table
--     cut_off, may_split      a leaf that is split at a key
--     put_first, put_second, full_twice      a row put into one of two leaves
--     placed_whole, placed_split      a row put into a leaf of a run, or into one of the two that it was split into
use Rattle.std.proofs.Common.{◌≡◌, refl, sym, ap, subst, ◌∙◌, ℕ, zero, suc, ◌+◌, ◌<◌, ◌≤◌, Bool, true, false, not, cond, T, List, [], ◌∷◌, ◌++◌, length, take, drop, Option, Some, None, arith, inl, inr}
use Rattle.std.specs.Prelude.{IsTrue, IsSome, is_some, option_and_then}
use Rattle.std.proofs.lemmas.List.{append-nil, take-append-drop}
use Rattle.std.proofs.lemmas.List.Sums.{sum_by-cons, sum_by-append}
use Rattle.std.specs.declared.cmp.Ordering.{Ordering}
use Rattle.std.specs.declared.cmp.Ordering.TheVariants.{Less, Equal, Greater}
use Rattle.std.specs.Ordering.{is_lt, is_eq, is_gt, eq_by_cmp}
use Rattle.std.specs.FinMap.{get, find, put, is_sorted}
use Rattle.std.specs.FinMap.Entries.{by_order}
use Rattle.mdb_model.specs.Script.{is_key, is_value}
use Rattle.mdb_bytes.specs.Parts.{page_room}
use Rattle.mdb_bytes.specs.TablePages.{Row, RowLeaf, row_cost, rows_cost}
use Rattle.mdb_bytes.specs.PageReadings.{catalogue_of}
use Rattle.mdb_bytes.specs.Paged.{PageBytes, is_live}
use Rattle.row_page.specs.Entries.{by_bytes}
use Rattle.leaf_runs.specs.Leaves.{all_below}
use Rattle.leaf_runs.specs.Behind.{not_behind, IsCut}
use Rattle.leaf_runs.specs.Edits.{with_rows, without}
use Rattle.leaf_runs.specs.Runs.{Leaf, run_rows, first_page, leaf_at, leaf_value, catalogue_at, AreRuns}
use Rattle.leaf_runs.specs.Steps.{SetsLeaf, HasLeaf, IsPutOn, StaysBeside, IsNewLeaf, IsSplitOff, IsNamedAt, MaySplit}
use Rattle.leaf_runs.specs.Loose.{LeafIsAt, IsLooseRun, Rewrites, IsRound, PutsRowInLeaf, HasHere, HasSpot}
use Rattle.leaf_runs.specs.Halves.{IsPlaceOn, IsCutOff, AreHalves, IsPutOnOne}
use Rattle.leaf_runs.proofs.RowLists.{t_left, t_right, t_both, from_true, to_true, turned, put-front, put-back}
use Rattle.leaf_runs.proofs.Places.{bytes_of_leaf, leaf_there, some_same}
use Rattle.leaf_runs.proofs.LeafLaw.{leaf_page_of}
use Rattle.leaf_runs.proofs.LeafEdits.{without_none, put_without, key_short, value_short}
use Rattle.leaf_runs.proofs.LooseRuns.{IsSwapped, swap, no_leaf_at, leaf_at_as, loose_right, put_order, without_order}

-- Leaves that are swapped

-- the leaf on a page has become another one
pub one_swapped : (pages pages2 : PageBytes) (table : ℕ) (here here2 : Leaf) (next : ℕ) → here2.page ≡ here.page → LeafIsAt pages2 table here2 next → ((n : ℕ) → (n ≡ here.page → ⊥) → get pages2 n ≡ get pages n)
    → IsSwapped pages pages2 table (here ∷ []) (here2 ∷ []) next
one_swapped pages pages2 table here here2 next same stands others = record {
  linked = (stands, tt);
  fresh = λ n on. inl (elim on [ inl e ↦ inl (sym same ∙ e) | inr none ↦ absurd none ]);
  gone = λ n on. inl (elim on [ inl e ↦ inl (same ∙ e) | inr none ↦ absurd none ]);
  others = λ n out out2. others n (λ e. out (inl (sym e)));
}

-- the leaf on a page has become two, the second one on a page that did not live
pub two_swapped : (pages pages2 : PageBytes) (table : ℕ) (here a b : Leaf) (next : ℕ) → a.page ≡ here.page → get pages b.page ≡ None → LeafIsAt pages2 table a b.page → LeafIsAt pages2 table b next
    → StaysBeside pages pages2 here.page b.page → IsSwapped pages pages2 table (here ∷ []) (a ∷ b ∷ []) next
two_swapped pages pages2 table here a b next same fresh first second others = record {
  linked = (first, (second, tt));
  fresh = λ n on. elim on [
    | inl e ↦ inl (inl (sym same ∙ e))
    | inr more ↦ elim more [ inl e ↦ inr (ap (get pages) (sym e) ∙ fresh) | inr none ↦ absurd none ]
  ];
  gone = λ n on. inl (elim on [ inl e ↦ inl (same ∙ e) | inr none ↦ absurd none ]);
  others = λ n out out2. others n (λ e. out (inl (sym e))) (λ e. out2 (inr (inl (sym e))));
}

-- a leaf on a page that did not live, in the place of none
pub first_swapped : (pages pages2 : PageBytes) (table : ℕ) (a : Leaf) → get pages a.page ≡ None → LeafIsAt pages2 table a 0 → ((n : ℕ) → (n ≡ a.page → ⊥) → get pages2 n ≡ get pages n) → IsSwapped pages pages2 table [] (a ∷ []) 0
first_swapped pages pages2 table a fresh stands others = record {
  linked = (stands, tt);
  fresh = λ n on. elim on [ inl e ↦ inr (ap (get pages) (sym e) ∙ fresh) | inr none ↦ absurd none ];
  gone = λ n on. absurd on;
  others = λ n out out2. others n (λ e. out2 (inl (sym e)));
}

-- where page 0 lives, a page that did not live is another one
pub real_page : (pages : PageBytes) (n : ℕ) → (get pages 0 ≡ None → ⊥) → get pages n ≡ None → 0 < n
real_page pages zero lives none = absurd (lives none)
real_page pages (suc n) lives none = omega arith

-- What leaves and rows cost

-- a row that is put in costs no more than itself
put_cost : (k v : List ℕ) (rows : List Row) → rows_cost (put by_bytes k v rows) ≤ rows_cost rows + (8 + length k + length v)
put_cost k v [] = let one = sum_by-cons row_cost (k, v) [] in omega arith
put_cost k v (x ∷ xs) = by_case (put_cost k v xs) (by_bytes k x.0) where
  by_case : rows_cost (put by_bytes k v xs) ≤ rows_cost xs + (8 + length k + length v) → (o : Ordering)
      → rows_cost (by_order o ((k, v) ∷ x ∷ xs) ((x.0, v) ∷ xs) (x ∷ put by_bytes k v xs)) ≤ rows_cost (x ∷ xs) + (8 + length k + length v)
  by_case more Less = let one = sum_by-cons row_cost (k, v) (x ∷ xs) in omega arith
  by_case more Equal = let one = sum_by-cons row_cost (x.0, v) xs in let two = sum_by-cons row_cost x xs in omega arith
  by_case more Greater = let one = sum_by-cons row_cost x (put by_bytes k v xs) in let two = sum_by-cons row_cost x xs in omega arith

-- rows without one cost no more than all
without_cost : (key : List ℕ) (rows : List Row) → rows_cost (without key rows) ≤ rows_cost rows
without_cost key [] = omega arith
without_cost key (x ∷ xs) = by_test (without_cost key xs) (not (eq_by_cmp by_bytes key x.0)) where
  by_test : rows_cost (without key xs) ≤ rows_cost xs → (b : Bool) → rows_cost (cond b (x ∷ without key xs) (without key xs)) ≤ rows_cost (x ∷ xs)
  by_test more true = let one = sum_by-cons row_cost x (without key xs) in let two = sum_by-cons row_cost x xs in omega arith
  by_test more false = let two = sum_by-cons row_cost x xs in omega arith

-- what a leaf costs where a row has no room on it
full_cost : (key value : List ℕ) (rows : List Row) → IsTrue (is_key key) → IsTrue (is_value value) → page_room < rows_cost (put by_bytes key value (without key rows)) → 6364 < rows_cost rows
full_cost key value rows k v full =
    let one = put_cost key value (without key rows) in
    let two = without_cost key rows in
    let short = key_short key k in
    let short2 = value_short value v in
    omega arith

-- the rows of a leaf go on one page
pub leaf_cost : (pages : PageBytes) (page : ℕ) (leaf : RowLeaf) → leaf_at pages page ≡ Some leaf → rows_cost leaf.rows ≤ page_room
leaf_cost pages page leaf there = let b = bytes_of_leaf pages page leaf there in (leaf_page_of b.0 leaf b.2).keeps.fits

-- and they are in order
leaf_up : (pages : PageBytes) (page : ℕ) (leaf : RowLeaf) → leaf_at pages page ≡ Some leaf → T (is_sorted by_bytes leaf.rows)
leaf_up pages page leaf there = let b = bytes_of_leaf pages page leaf there in (leaf_page_of b.0 leaf b.2).keeps.up

-- Rows apart at a key

-- a key that is in no row is in none of a part
find_left : (key : List ℕ) (xs ys : List Row) → find by_bytes key (xs ++ ys) ≡ None → find by_bytes key xs ≡ None
find_left key [] ys e = refl
find_left key (x ∷ xs) ys e = by_test (find_left key xs ys) (eq_by_cmp by_bytes key x.0) e where
  by_test : (find by_bytes key (xs ++ ys) ≡ None → find by_bytes key xs ≡ None) → (b : Bool) → cond b (Some x.1) (find by_bytes key (xs ++ ys)) ≡ None → cond b (Some x.1) (find by_bytes key xs) ≡ None
  by_test more true e = absurd cc
  by_test more false e = more e

-- rows of which none is after a key and none has it are below it
low_from : (key : List ℕ) (xs : List Row) → not_behind key xs ≡ true → find by_bytes key xs ≡ None → all_below key xs ≡ true
low_from key [] low none = refl
low_from key (x ∷ xs) low none = by_case (low_from key xs) (by_bytes x.0 key) refl where
  as_found : (o : Ordering) → by_bytes key x.0 ≡ o → cond (is_eq o) (Some x.1) (find by_bytes key xs) ≡ None
  as_found o e = sym (ap (λ r. cond (is_eq r) (Some x.1) (find by_bytes key xs)) e) ∙ none

  by_case : (not_behind key xs ≡ true → find by_bytes key xs ≡ None → all_below key xs ≡ true) → (o : Ordering) → by_bytes x.0 key ≡ o → all_below key (x ∷ xs) ≡ true
  by_case more Less e = to_true _ (t_both _ _ (from_true _ (ap is_lt e)) (from_true _ (more (to_true _ (t_right _ _ (from_true _ low))) (as_found Greater (turned x.0 key Less e)))))
  by_case more Equal e = absurd (let wrong : Some x.1 ≡ None = as_found Equal (turned x.0 key Equal e) in cc)
  by_case more Greater e = absurd (subst (λ (o : Ordering). T (not (is_gt o))) e (t_left _ _ (from_true _ low)))

-- rows without the one of a key that none has
without_as : (key : List ℕ) (rows : List Row) → find by_bytes key rows ≡ None → without key rows ≡ rows
without_as key [] none = refl
without_as key (x ∷ xs) none = by_test (without_as key xs) (eq_by_cmp by_bytes key x.0) none where
  by_test : (find by_bytes key xs ≡ None → without key xs ≡ xs) → (b : Bool) → cond b (Some x.1) (find by_bytes key xs) ≡ None → cond (not b) (x ∷ without key xs) (without key xs) ≡ x ∷ xs
  by_test more true e = absurd cc
  by_test more false e = ap (λ (zs : List Row). x ∷ zs) (more e)

module _ (rows : List Row) (key value : List ℕ) (at : ℕ) (cut : IsCut rows key at) (lacks : find by_bytes key rows ≡ None) where
  -- the rows before the place do not have the key
  pub lacks_left : find by_bytes key (take at rows) ≡ None
  lacks_left = find_left key (take at rows) (drop at rows) (ap (find by_bytes key) (take-append-drop at rows) ∙ lacks)

  -- a row put into the rows before the place is put into all
  pub put_left : put by_bytes key value (take at rows) ++ drop at rows ≡ put by_bytes key value rows
  put_left = sym (put-back key value (take at rows) (drop at rows) cut.higher) ∙ ap (put by_bytes key value) (take-append-drop at rows)

  -- and so is one that is put into the rows from it on
  pub put_right : take at rows ++ put by_bytes key value (drop at rows) ≡ put by_bytes key value rows
  put_right = sym (put-front key value (take at rows) (drop at rows) (low_from key (take at rows) cut.lower lacks_left)) ∙ ap (put by_bytes key value) (take-append-drop at rows)

-- Leaves of a run

-- a leaf of the table under its number
pub has_named : (pages : PageBytes) (table page : ℕ) (leaf : RowLeaf) → IsNamedAt pages table page leaf → HasLeaf pages table page
has_named pages table page leaf named = let b = bytes_of_leaf pages page leaf named.0 in (b.0, b.1, (leaf, (b.2, named.1, named.2)))

pub named_of : (pages : PageBytes) (table page : ℕ) → HasLeaf pages table page → (leaf : RowLeaf) × IsNamedAt pages table page leaf
named_of pages table page has = let l = has.2 in let n = l.1 in (l.0, (leaf_there pages page has.0 l.0 has.1 n.0, n.1, n.2))

-- a page that is as it was is the leaf that it was
pub named_as : (pages pages2 : PageBytes) (table page : ℕ) (leaf : RowLeaf) → get pages2 page ≡ get pages page → IsNamedAt pages table page leaf → IsNamedAt pages2 table page leaf
named_as pages pages2 table page leaf same named = (leaf_at_as pages pages2 page same ∙ named.0, named.1, named.2)

module _ (pages : PageBytes) (table page : ℕ) (front : List Leaf) (here : Leaf) (back : List Leaf) (run : IsLooseRun pages table (front ++ here ∷ back)) (page_is : here.page ≡ page) where
  stands : LeafIsAt pages table here (first_page back)
  stands = (loose_right pages table front (here ∷ back) run.linked).0

  there_on : leaf_at pages page ≡ Some (leaf_value table here (first_page back))
  there_on = subst (λ (n : ℕ). leaf_at pages n ≡ Some (leaf_value table here (first_page back))) page_is stands.there

  -- the leaf that the page spells
  pub value_of : (leaf : RowLeaf) → leaf_at pages page ≡ Some leaf → leaf ≡ leaf_value table here (first_page back)
  value_of leaf there = some_same (leaf_at pages page) leaf _ there there_on

  -- the leaf is one of the table under its number
  pub here_named : (leaf : RowLeaf) → leaf_at pages page ≡ Some leaf → IsNamedAt pages table page leaf
  here_named leaf there = let v = value_of leaf there in (there, ap (λ (l : RowLeaf). l.table) v, ap (λ (l : RowLeaf). l.number) v ∙ page_is)

  pub here_leaf : HasLeaf pages table page
  here_leaf = has_named pages table page (leaf_value table here (first_page back)) (there_on, refl, page_is)

  -- the leaf has other rows
  pub one_rewritten : (pages2 : PageBytes) (rows : List Row) → SetsLeaf pages pages2 page (record { table = table; number = here.page; next = first_page back; rows = rows })
      → T (is_sorted by_bytes (run_rows (front ++ record { page = here.page; rows = rows } ∷ back))) → Rewrites pages pages2 table (front ++ record { page = here.page; rows = rows } ∷ back)
  one_rewritten pages2 rows sets up =
      let here2 : Leaf = record { page = here.page; rows = rows } in
      swap pages pages2 table front (here ∷ []) (here2 ∷ []) back run
      (one_swapped pages pages2 table here here2 (first_page back) refl
      (record { there = ap (leaf_at pages2) page_is ∙ sets.there; real = stands.real; small = stands.small })
      (λ n out. sets.others n (λ e. out (e ∙ sym page_is))))
      (λ some. refl) up

  -- a row taken out of the leaf
  pub taken_run : (pages2 : PageBytes) (leaf : RowLeaf) (key : List ℕ) → leaf_at pages page ≡ Some leaf → SetsLeaf pages pages2 page (with_rows leaf leaf.next (without key leaf.rows))
      → Rewrites pages pages2 table (front ++ record { page = here.page; rows = without key here.rows } ∷ back)
  taken_run pages2 leaf key there sets =
      one_rewritten pages2 (without key here.rows) (subst (λ (v : RowLeaf). SetsLeaf pages pages2 page (with_rows v v.next (without key v.rows))) (value_of leaf there) sets)
      (without_order front here back key run.in_order)

  -- a row put into the leaf
  pub placed_whole : (pages2 : PageBytes) (leaf : RowLeaf) (key value : List ℕ) → IsRound front key back → leaf_at pages page ≡ Some leaf → IsPutOn true pages pages2 page leaf key value
      → PutsRowInLeaf pages pages2 table front here back key value None
  placed_whole pages2 leaf key value round there sets =
      let here2 : Leaf = record { page = here.page; rows = put by_bytes key value here.rows } in
      let rows : run_rows (here2 ∷ []) ≡ put by_bytes key value here.rows = append-nil (put by_bytes key value here.rows) in record {
        parts = here2 ∷ [];
        are = (here2, refl, refl);
        rows = rows;
        rewrites = one_rewritten pages2 (put by_bytes key value here.rows) (subst (λ (v : RowLeaf). SetsLeaf pages pages2 page (with_rows v v.next (put by_bytes key value v.rows))) (value_of leaf there) sets)
            (put_order front here (here2 ∷ []) back key value round rows run.in_order);
      }

-- New leaves

-- a leaf without rows
abbrev pub blank_leaf : (table page : ℕ) → RowLeaf
blank_leaf table page = record { table = table; number = page; next = 0; rows = [] }

module _ (pages pages2 : PageBytes) (table page : ℕ) (new : IsNewLeaf pages pages2 table page) where
  -- the new leaf is one of the table without rows
  pub blank_named : IsNamedAt pages2 table page (blank_leaf table page)
  blank_named = (new.set.there, refl, refl)

  pub blank_only : (leaf : RowLeaf) → leaf_at pages2 page ≡ Some leaf → leaf ≡ blank_leaf table page
  blank_only leaf there = some_same (leaf_at pages2 page) leaf (blank_leaf table page) there new.set.there

  -- a leaf that stood before is on another page
  pub new_apart : (other : ℕ) (leaf : RowLeaf) → leaf_at pages other ≡ Some leaf → other ≡ page → ⊥
  new_apart other leaf there same = no_leaf_at pages other leaf (ap (get pages) same ∙ new.fresh) there

  -- and it stands as before
  pub other_named : (other : ℕ) (leaf : RowLeaf) → IsNamedAt pages table other leaf → IsNamedAt pages2 table other leaf
  other_named other leaf named = named_as pages pages2 table other leaf (new.set.others other (new_apart other leaf named.0)) named

  -- the first row of a table, on the new leaf
  pub first_placed : (pages3 : PageBytes) (leaf : RowLeaf) (key value : List ℕ) → (get pages 0 ≡ None → ⊥) → IsLooseRun pages table [] → leaf_at pages2 page ≡ Some leaf → IsPutOn true pages2 pages3 page leaf key value
      → Rewrites pages pages3 table (record { page = page; rows = (key, value) ∷ [] } ∷ [])
  first_placed pages3 leaf key value lives run there put_on =
      let a : Leaf = record { page = page; rows = (key, value) ∷ [] } in
      let sets : SetsLeaf pages2 pages3 page (leaf_value table a 0) =
      subst (λ (v : RowLeaf). SetsLeaf pages2 pages3 page (with_rows v v.next (put by_bytes key value v.rows))) (blank_only leaf there) put_on in
      swap pages pages3 table [] [] (a ∷ []) [] run
      (first_swapped pages pages3 table a new.fresh (record { there = sets.there; real = real_page pages page lives new.fresh; small = new.small }) (λ n out. sets.others n out ∙ new.set.others n out))
      (λ some. absurd (omega arith)) tt

-- A leaf split at a key

module _ (pages pages2 pages3 : PageBytes) (table page other at : ℕ) (leaf : RowLeaf) (key : List ℕ) (new : IsNewLeaf pages pages2 table other) (same : pages3 ≡ pages2) (named : IsNamedAt pages table page leaf)
    (place : IsPlaceOn pages2 page key at) where
  cut_here : IsCut leaf.rows key at
  cut_here = subst (λ (v : RowLeaf). IsCut v.rows key at) (some_same (leaf_at pages2 page) place.0 leaf place.1 (other_named pages pages2 table other new page leaf named).0) place.2

  -- both leaves stand before the split
  pub split_named : IsNamedAt pages3 table page leaf
  split_named = named_as pages2 pages3 table page leaf (ap (λ (p : PageBytes). get p page) same) (other_named pages pages2 table other new page leaf named)

  pub split_blank : IsNamedAt pages3 table other (blank_leaf table other)
  split_blank = named_as pages2 pages3 table other (blank_leaf table other) (ap (λ (p : PageBytes). get p other) same) (blank_named pages pages2 table other new)

  pub split_within : at ≤ length leaf.rows
  split_within = cut_here.within

  -- they may be split
  pub may_split : MaySplit pages3 table page other at
  may_split = (leaf, blank_leaf table other, split_named, split_blank, refl, split_within)

  -- the rows after the key were moved to the new leaf
  pub cut_off : (pages4 : PageBytes) → IsSplitOff pages3 pages4 page other at leaf (blank_leaf table other) → IsCutOff pages pages4 table page leaf key other
  cut_off pages4 s = record {
    at = at;
    cut = cut_here;
    fresh = new.fresh;
    small = new.small;
    first = s.0;
    second = s.1;
    others = λ n out out2. s.2 n out out2 ∙ ap (λ (p : PageBytes). get p n) same ∙ new.set.others n out2;
  }

-- A row put into one of two leaves

module _ (pages pages2 : PageBytes) (table page other : ℕ) (key value : List ℕ) (a b : RowLeaf) (halves : AreHalves pages table page other key a b) (leaf : RowLeaf) (there : leaf_at pages page ≡ Some leaf) where
  -- the leaf that was read is the first one
  first_is : leaf ≡ a
  first_is = some_same (leaf_at pages page) leaf a there halves.first.0

  -- the row is on the first leaf
  pub put_first : IsPutOn true pages pages2 page leaf key value → IsPutOnOne pages pages2 page other a b key value
  put_first put_on =
      let sets : SetsLeaf pages pages2 page (with_rows a a.next (put by_bytes key value a.rows)) =
      subst (λ (v : RowLeaf). SetsLeaf pages pages2 page (with_rows v v.next (put by_bytes key value v.rows))) first_is put_on in record {
        rows = put by_bytes key value a.rows;
        rows2 = b.rows;
        put_on = inl (refl, refl);
        first = sets.there;
        second = leaf_at_as pages pages2 other (sets.others other (λ e. halves.apart (sym e))) ∙ halves.second.0;
        others = λ n out out2. sets.others n out;
      }

  module _ (miss : IsPutOn false pages pages2 page leaf key value) where
    -- where the row has no room there, the first leaf is what it was, since it had no row of the key
    first_stays : SetsLeaf pages pages2 page a
    first_stays =
        subst (λ (rs : List Row). SetsLeaf pages pages2 page (with_rows a a.next rs)) (without_as key a.rows halves.lacks)
        (subst (λ (v : RowLeaf). SetsLeaf pages pages2 page (with_rows v v.next (without key v.rows))) first_is miss.0)

    -- and so is the second one
    pub second_named : IsNamedAt pages2 table other b
    second_named = named_as pages pages2 table other b (first_stays.others other (λ e. halves.apart (sym e))) halves.second

    second_is : (leaf2 : RowLeaf) → leaf_at pages2 other ≡ Some leaf2 → leaf2 ≡ b
    second_is leaf2 there2 = some_same (leaf_at pages2 other) leaf2 b there2 second_named.0

    -- the row is on the second leaf
    pub put_second : (pages3 : PageBytes) (leaf2 : RowLeaf) → leaf_at pages2 other ≡ Some leaf2 → IsPutOn true pages2 pages3 other leaf2 key value → IsPutOnOne pages pages3 page other a b key value
    put_second pages3 leaf2 there2 put_on =
        let sets : SetsLeaf pages2 pages3 other (with_rows b b.next (put by_bytes key value b.rows)) =
        subst (λ (v : RowLeaf). SetsLeaf pages2 pages3 other (with_rows v v.next (put by_bytes key value v.rows))) (second_is leaf2 there2) put_on in record {
          rows = a.rows;
          rows2 = put by_bytes key value b.rows;
          put_on = inr (refl, refl);
          first = leaf_at_as pages2 pages3 page (sets.others page halves.apart) ∙ first_stays.there;
          second = sets.there;
          others = λ n out out2. sets.others n out2 ∙ first_stays.others n out;
        }

    -- a row that has no room on the one leaf has room on the other
    pub full_twice : (pages3 : PageBytes) (leaf2 : RowLeaf) → IsTrue (is_key key) → IsTrue (is_value value) → leaf_at pages2 other ≡ Some leaf2 → IsPutOn false pages2 pages3 other leaf2 key value → ⊥
    full_twice pages3 leaf2 k v there2 miss2 =
        let one : 6364 < rows_cost a.rows = subst (λ (l : RowLeaf). 6364 < rows_cost l.rows) first_is (full_cost key value leaf.rows k v miss.1) in
        let two : 6364 < rows_cost b.rows = subst (λ (l : RowLeaf). 6364 < rows_cost l.rows) (second_is leaf2 there2) (full_cost key value leaf2.rows k v miss2.1) in
        let fits = halves.fits in
        omega arith

-- A row put into a run

module _ (pages pages2 : PageBytes) (table page : ℕ) (front : List Leaf) (here : Leaf) (back : List Leaf) (run : IsLooseRun pages table (front ++ here ∷ back)) (page_is : here.page ≡ page) (key value : List ℕ)
    (leaf : RowLeaf) (there : leaf_at pages page ≡ Some leaf) (sets : SetsLeaf pages pages2 page (with_rows leaf leaf.next (without key leaf.rows))) where
  -- the leaf without the row of the key
  abbrev pub left : RowLeaf
  left = with_rows leaf leaf.next (without key leaf.rows)

  -- it is one of the table under its number
  pub left_named : IsNamedAt pages2 table page left
  left_named = let n = here_named pages table page front here back run page_is leaf there in (sets.there, n.1, n.2)

  module _ (pages3 : PageBytes) (other : ℕ) (cut : IsCutOff pages2 pages3 table page left key other) where
    abbrev pub first_half : RowLeaf
    first_half = with_rows left other (take cut.at left.rows)

    abbrev pub second_half : RowLeaf
    second_half = record { table = table; number = other; next = left.next; rows = drop cut.at left.rows }

    other_apart : page ≡ other → ⊥
    other_apart same = no_leaf_at pages2 page left (ap (get pages2) same ∙ cut.fresh) sets.there

    lacks : find by_bytes key left.rows ≡ None
    lacks = without_none key leaf.rows

    -- what the leaf was split into
    pub are_halves : AreHalves pages3 table page other key first_half second_half
    are_halves = record {
      first = (cut.first, left_named.1, left_named.2);
      second = (cut.second, refl, refl);
      apart = other_apart;
      lacks = lacks_left left.rows key value cut.at cut.cut lacks;
      fits = (let fits = leaf_cost pages2 page left sets.there in
          let sum = sum_by-append row_cost (take cut.at left.rows) (drop cut.at left.rows) in
          let whole : rows_cost (take cut.at left.rows ++ drop cut.at left.rows) ≡ rows_cost left.rows = ap rows_cost (take-append-drop cut.at left.rows) in
          omega arith);
    }

    module _ (pages4 : PageBytes) (placed : IsPutOnOne pages3 pages4 page other first_half second_half key value) (round : IsRound front key back) (lives : get pages 0 ≡ None → ⊥) where
      value_is : leaf ≡ leaf_value table here (first_page back)
      value_is = value_of pages table page front here back run page_is leaf there

      here_stands : LeafIsAt pages table here (first_page back)
      here_stands = stands pages table page front here back run page_is

      -- the two leaves stand on their pages
      first_stands : LeafIsAt pages4 table (record { page = here.page; rows = placed.rows }) other
      first_stands = record {
        there = ap (leaf_at pages4) page_is ∙ placed.first ∙ ap (λ (v : RowLeaf). Some (with_rows v other placed.rows)) value_is;
        real = here_stands.real;
        small = here_stands.small;
      }

      real : 0 < other
      real = real_page pages2 other (λ none. lives (sym (sets.others 0 (λ e. (let r = here_stands.real in let same : here.page ≡ 0 = page_is ∙ sym e in omega arith))) ∙ none)) cut.fresh

      second_stands : LeafIsAt pages4 table (record { page = other; rows = placed.rows2 }) (first_page back)
      second_stands = record {
        there = placed.second ∙ ap (λ (v : RowLeaf). Some (with_rows second_half v.next placed.rows2)) value_is;
        real = real;
        small = cut.small;
      }

      -- the row put into the rows without the one of its key
      put_back_in : put by_bytes key value left.rows ≡ put by_bytes key value here.rows
      put_back_in = put_without key value leaf.rows (leaf_up pages page leaf there) ∙ ap (λ (v : RowLeaf). put by_bytes key value v.rows) value_is

      -- the rows of both are those of the leaf with the row
      rows_are : placed.rows ++ (placed.rows2 ++ []) ≡ put by_bytes key value here.rows
      rows_are = elim placed.put_on [
        | inl e ↦ (λ i. e.0 i ++ (append-nil placed.rows2 ∙ e.1) i) ∙ put_left left.rows key value cut.at cut.cut lacks ∙ put_back_in
        | inr e ↦ (λ i. e.0 i ++ (append-nil placed.rows2 ∙ e.1) i) ∙ put_right left.rows key value cut.at cut.cut lacks ∙ put_back_in
      ]

      -- the row is in one of the two
      pub placed_split : PutsRowInLeaf pages pages4 table front here back key value (Some other)
      placed_split =
          let a : Leaf = record { page = here.page; rows = placed.rows } in
          let b : Leaf = record { page = other; rows = placed.rows2 } in record {
            parts = a ∷ b ∷ [];
            are = (a, b, refl, refl, refl);
            rows = rows_are;
            rewrites = swap pages pages4 table front (here ∷ []) (a ∷ b ∷ []) back run
                (two_swapped pages pages4 table here a b (first_page back) refl (sym (sets.others other (λ e. other_apart (sym e))) ∙ cut.fresh) first_stands second_stands
                (λ n out out2. (let apart : n ≡ page → ⊥ = λ e. out (e ∙ sym page_is) in placed.others n apart out2 ∙ cut.others n apart out2 ∙ sets.others n apart)))
                (λ some. refl) (put_order front here (a ∷ b ∷ []) back key value round rows_are run.in_order);
          }

-- Calls

-- the leaf that a call is made on is one of the table
pub has_here : (pages : PageBytes) (table page : ℕ) → HasHere pages table page → HasLeaf pages table page
has_here pages table page h = here_leaf pages table page h.front h.here h.back h.run h.page_is

pub has_spot : (pages : PageBytes) (table page : ℕ) (key : List ℕ) → HasSpot pages table page key → HasLeaf pages table page
has_spot pages table page key h = here_leaf pages table page h.front h.here h.back h.run h.page_is

-- a page that lives has bytes
pub live_some : (pages : PageBytes) (n : ℕ) → IsTrue (is_live pages n) → get pages n ≡ None → ⊥
live_some pages n lives none = let wrong : false ≡ true = sym (ap is_some none) ∙ lives in cc

-- where page 0 is a catalogue, it lives
pub catalogue_lives : (pages : PageBytes) → IsSome (catalogue_at pages) → IsTrue (is_live pages 0)
catalogue_lives pages some = by_option (get pages 0) some where
  by_option : (o : Option (List ℕ)) → IsSome (option_and_then catalogue_of o) → is_some o ≡ true
  by_option None some = absurd cc
  by_option (Some bytes) some = refl

-- and so it is where all tables are runs
pub runs_live : (pages : PageBytes) → AreRuns pages → IsTrue (is_live pages 0)
runs_live pages r = catalogue_lives pages (subst IsSome (sym r.page_0) refl)

-- what was done, by the answer
pub put_as : (done answer : Bool) (pages pages2 : PageBytes) (page : ℕ) (leaf : RowLeaf) (key value : List ℕ) → done ≡ answer → IsPutOn done pages pages2 page leaf key value → IsPutOn answer pages pages2 page leaf key value
put_as done answer pages pages2 page leaf key value same is = subst (λ (d : Bool). IsPutOn d pages pages2 page leaf key value) same is

-- the second of two leaves stays while the first one is made another
pub second_kept : (pages pages2 : PageBytes) (table first second : ℕ) (key : List ℕ) (a b : RowLeaf) → AreHalves pages table first second key a b → (leaf : RowLeaf) → SetsLeaf pages pages2 first leaf
    → HasLeaf pages2 table second
second_kept pages pages2 table first second key a b halves leaf set = has_named pages2 table second b (named_as pages pages2 table second b (set.others second (λ e. halves.apart (sym e))) halves.second)
