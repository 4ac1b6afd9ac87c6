-- Two neighbours of a run that become one leaf.
--     front_apart, back_apart      a chain has no page twice
--     leaf_cost      a leaf uses no more than its page has
--     loose_stays, front_stays      what stays of a chain where other pages change
--     rewrites_same      nothing was done to a table
--     joined_run      the run in which two leaves became one
--     filled_grown, filled_on      neighbours fill two pages each where a leaf grew
--     try_alone, try_full, try_joined      what a try to join a leaf leaves
--     may_join      two leaves that go on one page may be joined
--     dropped_run      the only leaf of a run is taken away
use Rattle.std.proofs.Common.{◌≡◌, refl, sym, ap, subst, ◌∙◌, ℕ, zero, suc, ◌+◌, ◌<◌, ◌≤◌, Bool, true, false, T, List, [], ◌∷◌, ◌++◌, map, length, Some, None, arith, append_assoc, eqb, eqb-true, eq-eqb, inl, inr, length-append}
use Rattle.std.specs.Prelude.{option_and_then, slice_index_or, Contains, ◌⊎◌}
use Rattle.std.specs.List.{AllByRecursion}
use Rattle.std.specs.FinMap.{get, remove, is_sorted}
use Rattle.std.proofs.lemmas.List.{map-append}
use Rattle.std.proofs.lemmas.List.Sums.{sum_by-append}
use Rattle.mdb_bytes.specs.Parts.{page_room}
use Rattle.mdb_bytes.specs.TablePages.{Row, RowLeaf, row_cost, rows_cost}
use Rattle.mdb_bytes.specs.PageReadings.{row_leaf_of}
use Rattle.mdb_bytes.specs.Forms.{Neighbours}
use Rattle.mdb_bytes.specs.Paged.{PageBytes}
use Rattle.row_page.specs.Entries.{by_bytes}
use Rattle.leaf_runs.specs.Runs.{Leaf, run_rows, first_page, leaf_at, leaf_value, LeavesFillTwo}
use Rattle.leaf_runs.specs.Steps.{HasLeaf, StaysBeside, IsNamedAt, IsJoinedTo, MayJoin}
use Rattle.leaf_runs.specs.declared.settling.Fill.{Fill}
use Rattle.leaf_runs.specs.Tries.{IsFilled}
use Rattle.leaf_runs.specs.Loose.{LeafIsAt, IsLooseChain, IsLooseRun, IsFreeOrOf, StaysBesideTable, Rewrites, IsJoinTry}
use Rattle.leaf_runs.proofs.Chains.{run_rows-append}
use Rattle.leaf_runs.proofs.LooseRuns.{loose_right, one_loose_chain}
use Rattle.leaf_runs.proofs.RowLists.{sorted_left, sorted_right}
use Rattle.leaf_runs.proofs.LeafLaw.{leaf_page_of}
use Rattle.leaf_runs.proofs.PageSteps.{removed_here, removed_there}
use Rattle.leaf_runs.proofs.Places.{bytes_of_leaf, some_same}

-- Chains

module _ (pages : PageBytes) (table : ℕ) where
  -- no later leaf of a chain stands on the page of its first one
  not_later : (x : Leaf) (a : List Leaf) → IsLooseChain pages table (x ∷ a) → (b : List Leaf) (y : Leaf) (c : List Leaf) → a ≡ b ++ y ∷ c → x.page ≡ y.page → ⊥
  not_later x a p b y c is same =
      let later : IsLooseChain pages table (y ∷ c) = loose_right pages table b (y ∷ c) (subst (IsLooseChain pages table) is p.1) in
      let e : x ∷ a ≡ y ∷ c = one_loose_chain pages table (x ∷ a) (y ∷ c) p later same in
      let n : suc (length a) ≡ suc (length c) = ap length e in
      let m : length a ≡ length (b ++ y ∷ c) = ap length is in
      omega (arith, length-append b (y ∷ c))

  -- the leaves before a leaf stand on other pages than it, whatever stands between
  pub front_apart : (front middle : List Leaf) (x : Leaf) (back : List Leaf) → IsLooseChain pages table (front ++ (middle ++ x ∷ back)) → AllByRecursion (λ (l : Leaf). l.page ≡ x.page → ⊥) front
  front_apart [] middle x back c = tt
  front_apart (l ∷ front) middle x back c =
      (not_later l (front ++ (middle ++ x ∷ back)) c (front ++ middle) x back (sym (append_assoc front middle (x ∷ back))), front_apart front middle x back c.1)

  -- those after it
  pub back_apart : (x : Leaf) (a : List Leaf) → IsLooseChain pages table (x ∷ a) → (b c : List Leaf) → a ≡ b ++ c → AllByRecursion (λ (l : Leaf). l.page ≡ x.page → ⊥) c
  back_apart x a p b [] is = tt
  back_apart x a p b (y ∷ c) is = (λ same. not_later x a p b y c is (sym same), back_apart x a p (b ++ y ∷ []) c (is ∙ sym (append_assoc b (y ∷ []) c)))

  -- a leaf that stands is a leaf of its table, under its number
  pub loose_leaf : (leaf : Leaf) (next : ℕ) → LeafIsAt pages table leaf next → HasLeaf pages table leaf.page
  loose_leaf leaf next stands =
      let b = bytes_of_leaf pages leaf.page (leaf_value table leaf next) stands.there in
      (b.0, b.1, (leaf_value table leaf next, (b.2, refl, refl)))

  -- a leaf uses no more than its page has
  pub leaf_cost : (leaf : Leaf) (next : ℕ) → LeafIsAt pages table leaf next → rows_cost leaf.rows ≤ page_room
  leaf_cost leaf next stands =
      let b = bytes_of_leaf pages leaf.page (leaf_value table leaf next) stands.there in
      (leaf_page_of b.0 (leaf_value table leaf next) b.2).keeps.fits

module _ (pages pages2 : PageBytes) (table : ℕ) where
  -- a leaf stays where its page does
  stays_at : (leaf : Leaf) (next : ℕ) → get pages2 leaf.page ≡ get pages leaf.page → LeafIsAt pages table leaf next → LeafIsAt pages2 table leaf next
  stays_at leaf next same stands = record { there = ap (option_and_then row_leaf_of) same ∙ stands.there; real = stands.real; small = stands.small }

  -- where a run begins does not tell which rows its leaves have
  pub first_same : (front a b : List Leaf) → first_page a ≡ first_page b → first_page (front ++ a) ≡ first_page (front ++ b)
  first_same [] a b same = same
  first_same (l ∷ front) a b same = refl

  -- a chain stays where its pages do
  pub loose_stays : (a : List Leaf) → IsLooseChain pages table a → AllByRecursion (λ (l : Leaf). get pages2 l.page ≡ get pages l.page) a → IsLooseChain pages2 table a
  loose_stays [] c same = tt
  loose_stays (l ∷ a) c same = (stays_at l (first_page a) same.0 c.0, loose_stays a c.1 same.1)

  -- and so does its front, before another chain that begins at the same page
  pub front_stays : (front a b : List Leaf) → first_page a ≡ first_page b → IsLooseChain pages table (front ++ a) → AllByRecursion (λ (l : Leaf). get pages2 l.page ≡ get pages l.page) front → IsLooseChain pages2 table b
      → IsLooseChain pages2 table (front ++ b)
  front_stays [] a b same c stay later = later
  front_stays (l ∷ front) a b same c stay later = (
    subst (LeafIsAt pages2 table l) (first_same front a b same) (stays_at l (first_page (front ++ a)) stay.0 c.0),
    front_stays front a b same c.1 stay.1 later,
  )

  -- leaves on other pages than the two that may have changed
  pub apart_stay : (a b : ℕ) → StaysBeside pages pages2 a b → (leaves : List Leaf) → AllByRecursion (λ (l : Leaf). l.page ≡ a → ⊥) leaves → AllByRecursion (λ (l : Leaf). l.page ≡ b → ⊥) leaves
      → AllByRecursion (λ (l : Leaf). get pages2 l.page ≡ get pages l.page) leaves
  apart_stay a b beside [] not_a not_b = tt
  apart_stay a b beside (l ∷ leaves) not_a not_b = (beside l.page not_a.0 not_b.0, apart_stay a b beside leaves not_a.1 not_b.1)

-- Pages of other tables

-- what was not done at all
pub rewrites_same : (pages pages2 : PageBytes) (table : ℕ) (leaves : List Leaf) → pages2 ≡ pages → IsLooseRun pages table leaves → Rewrites pages pages2 table leaves
rewrites_same pages pages2 table leaves same run = record {
  run = subst (λ (p : PageBytes). IsLooseRun p table leaves) (sym same) run;
  others = λ number. inl (ap (λ (p : PageBytes). get p number) same);
}

-- Numbers among the pages of a run

module _ (a b : ℕ) (ys : List ℕ) (n : ℕ) where
  -- a number that is not the second one of two
  not_second : (xs : List ℕ) (k : ℕ) → k < length (xs ++ a ∷ b ∷ ys) → slice_index_or (xs ++ a ∷ b ∷ ys) k n ≡ n → (n ≡ b → ⊥) → Contains (xs ++ a ∷ ys) n
  not_second [] zero lt is apart = (zero, omega arith, is)
  not_second [] (suc zero) lt is apart = absurd (apart (sym is))
  not_second [] (suc (suc k)) lt is apart = (suc k, omega arith, is)
  not_second (x ∷ xs) zero lt is apart = (zero, omega arith, is)
  not_second (x ∷ xs) (suc k) lt is apart = let more = not_second xs k (omega arith) is apart in let within = more.1 in (suc more.0, omega arith, more.2)

  -- the first one of the two
  here_among : (xs : List ℕ) → n ≡ a → Contains (xs ++ a ∷ ys) n
  here_among [] is = (zero, omega arith, sym is)
  here_among (x ∷ xs) is = let more = here_among xs is in let within = more.1 in (suc more.0, omega arith, more.2)

abbrev pages_of : List Leaf → List ℕ
pages_of leaves = map (λ (leaf : Leaf). leaf.page) leaves

-- Joins

-- the leaf that two leaves become
abbrev pub joined_leaf : Leaf → Leaf → Leaf
joined_leaf a b = record { page = a.page; rows = a.rows ++ b.rows }

-- it has the rows of both
pub joined_rows : (front : List Leaf) (a b : Leaf) (rest : List Leaf) → run_rows (front ++ joined_leaf a b ∷ rest) ≡ run_rows (front ++ a ∷ b ∷ rest)
joined_rows front a b rest =
    run_rows-append front (joined_leaf a b ∷ rest) ∙ ap (λ (rs : List Row). run_rows front ++ rs) (append_assoc a.rows b.rows (run_rows rest))
    ∙ sym (run_rows-append front (a ∷ b ∷ rest))

module _ (pages pages2 : PageBytes) (table : ℕ) (front : List Leaf) (a b : Leaf) (rest : List Leaf) (run : IsLooseRun pages table (front ++ a ∷ b ∷ rest))
    (is : IsJoinedTo pages pages2 a.page b.page (leaf_value table a b.page) (leaf_value table b (first_page rest))) where
  -- the two leaves and those after them
  both_stand : LeafIsAt pages table a b.page × (LeafIsAt pages table b (first_page rest) × IsLooseChain pages table rest)
  both_stand = loose_right pages table front (a ∷ b ∷ rest) run.linked

  -- the chain goes on
  joined_chain : IsLooseChain pages2 table (front ++ joined_leaf a b ∷ rest)
  joined_chain =
      let tail : IsLooseChain pages table (a ∷ b ∷ rest) = loose_right pages table front (a ∷ b ∷ rest) run.linked in
      let rest_stays =
      apart_stay pages pages2 table a.page b.page is.2 rest (back_apart pages table a (b ∷ rest) tail (b ∷ []) rest refl) (back_apart pages table b rest tail.1 [] rest refl) in
      let front_same =
      apart_stay pages pages2 table a.page b.page is.2 front (front_apart pages table front [] a (b ∷ rest) run.linked) (front_apart pages table front (a ∷ []) b rest run.linked) in
      let here : LeafIsAt pages2 table (joined_leaf a b) (first_page rest) = record { there = is.0; real = both_stand.0.real; small = both_stand.0.small } in
      front_stays pages pages2 table front (a ∷ b ∷ rest) (joined_leaf a b ∷ rest) refl run.linked front_same (here, loose_stays pages pages2 table rest tail.1.1 rest_stays)

  -- and no leaf of the table stands elsewhere
  joined_named : (number : ℕ) (leaf : RowLeaf) → leaf_at pages2 number ≡ Some leaf → leaf.table ≡ table → Contains (pages_of (front ++ joined_leaf a b ∷ rest)) number
  joined_named number leaf there of_table = subst (λ (ns : List ℕ). Contains ns number) (sym (map-append page front (joined_leaf a b ∷ rest))) (by_first (eqb number a.page) refl) where
    page : Leaf → ℕ
    page leaf = leaf.page

    by_second : (number ≡ a.page → ⊥) → (t : Bool) → eqb number b.page ≡ t → Contains (pages_of front ++ a.page ∷ pages_of rest) number
    by_second not_a true e =
        let gone : leaf_at pages2 number ≡ None = ap (leaf_at pages2) (eqb-true number b.page e) ∙ ap (option_and_then row_leaf_of) is.1 in
        let both : Some leaf ≡ None = sym there ∙ gone in
        absurd cc
    by_second not_a false e =
        let not_b : number ≡ b.page → ⊥ = λ same. (let yes : eqb number b.page ≡ true = eq-eqb number b.page same in absurd cc) in
        let before : leaf_at pages number ≡ Some leaf = ap (option_and_then row_leaf_of) (sym (is.2 number not_a not_b)) ∙ there in
        let among : Contains (pages_of front ++ a.page ∷ b.page ∷ pages_of rest) number =
        subst (λ (ns : List ℕ). Contains ns number) (map-append page front (a ∷ b ∷ rest)) (run.named number leaf before of_table) in
        not_second a.page b.page (pages_of rest) number (pages_of front) among.0 among.1 among.2 not_b

    by_first : (t : Bool) → eqb number a.page ≡ t → Contains (pages_of front ++ a.page ∷ pages_of rest) number
    by_first true e = here_among a.page b.page (pages_of rest) number (pages_of front) (eqb-true number a.page e)
    by_first false e = by_second (λ same. (let yes : eqb number a.page ≡ true = eq-eqb number a.page same in absurd cc)) (eqb number b.page) refl

  -- other tables stay
  joined_beside : StaysBesideTable pages pages2 table
  joined_beside number = by_first (eqb number a.page) refl where
    by_second : (number ≡ a.page → ⊥) → (t : Bool) → eqb number b.page ≡ t → (get pages2 number ≡ get pages number) ⊎ (IsFreeOrOf pages table number × IsFreeOrOf pages2 table number)
    by_second not_a true e =
        let same = eqb-true number b.page e in
        inr (inr (leaf_value table b (first_page rest), ap (leaf_at pages) same ∙ both_stand.1.0.there, refl), inl (ap (get pages2) same ∙ is.1))
    by_second not_a false e = inl (is.2 number not_a (λ same. (let yes : eqb number b.page ≡ true = eq-eqb number b.page same in absurd cc)))

    by_first : (t : Bool) → eqb number a.page ≡ t → (get pages2 number ≡ get pages number) ⊎ (IsFreeOrOf pages table number × IsFreeOrOf pages2 table number)
    by_first true e =
        let same = eqb-true number a.page e in
        inr (inr (leaf_value table a b.page, ap (leaf_at pages) same ∙ both_stand.0.there, refl), inr (leaf_value table (joined_leaf a b) (first_page rest), ap (leaf_at pages2) same ∙ is.0, refl))
    by_first false e = by_second (λ same. (let yes : eqb number a.page ≡ true = eq-eqb number a.page same in absurd cc)) (eqb number b.page) refl

  -- the table stands on one leaf in place of the two
  pub joined_run : Rewrites pages pages2 table (front ++ joined_leaf a b ∷ rest)
  joined_run = record {
    run = record {
      linked = joined_chain;
      in_order = subst (λ (rs : List Row). T (is_sorted by_bytes rs)) (sym (joined_rows front a b rest)) run.in_order;
      named = joined_named;
    };
    others = joined_beside;
  }

-- What neighbours fill

-- what the rows of two leaves cost
pub cost_both : (a b : List Row) → rows_cost (a ++ b) ≡ rows_cost a + rows_cost b
cost_both a b = sum_by-append row_cost a b

-- the first leaf may grow
pub filled_grown : (a b : Leaf) (leaves : List Leaf) → rows_cost a.rows ≤ rows_cost b.rows → Neighbours LeavesFillTwo (a ∷ leaves) → Neighbours LeavesFillTwo (b ∷ leaves)
filled_grown a b [] le filled = tt
filled_grown a b (l ∷ leaves) le filled = let two : page_room < rows_cost a.rows + rows_cost l.rows = filled.0 in (omega arith, filled.1)

-- leaves go on after others where the first of them is no smaller than the last of these
pub filled_on : (front : List Leaf) (a b : Leaf) (leaves : List Leaf) → rows_cost a.rows ≤ rows_cost b.rows → Neighbours LeavesFillTwo (front ++ a ∷ []) → Neighbours LeavesFillTwo (b ∷ leaves) → Neighbours LeavesFillTwo (front ++ b ∷ leaves)
filled_on [] a b leaves le filled behind = behind
filled_on (l ∷ []) a b leaves le filled behind = let two : page_room < rows_cost l.rows + rows_cost a.rows = filled.0 in (omega arith, behind)
filled_on (l ∷ m ∷ front) a b leaves le filled behind = (filled.0, filled_on (m ∷ front) a b leaves le filled.1 behind)

-- Tries

-- what a join of two pages makes of them
abbrev pub JoinsTo : (pages pages2 : PageBytes) → (table first second : ℕ) → Type 0
JoinsTo pages pages2 table first second =
    (leaf next : RowLeaf) → IsNamedAt pages table first leaf → IsNamedAt pages table second next → T (is_sorted by_bytes (leaf.rows ++ next.rows)) → rows_cost leaf.rows + rows_cost next.rows ≤ page_room
    → IsJoinedTo pages pages2 first second leaf next

-- a leaf that stands, by the number of its page
module _ (pages : PageBytes) (table first : ℕ) (here : Leaf) (page_is : here.page ≡ first) (next : ℕ) (stands : LeafIsAt pages table here next) where
  pub here_leaf : HasLeaf pages table first
  here_leaf = subst (HasLeaf pages table) page_is (loose_leaf pages table here next stands)

  -- it is the leaf that a join asks for
  here_named : IsNamedAt pages table first (leaf_value table here next)
  here_named = (subst (λ (n : ℕ). leaf_at pages n ≡ Some (leaf_value table here next)) page_is stands.there, refl, page_is)

  -- what was read of it
  here_filled : (fill : Fill) → IsFilled pages table first fill → (fill.used ≡ rows_cost here.rows) × (fill.next ≡ next)
  here_filled fill is =
      let same : is.0 ≡ leaf_value table here next = some_same (leaf_at pages first) is.0 (leaf_value table here next) is.1.0 here_named.0 in
      (is.2 ∙ ap (λ (v : RowLeaf). rows_cost v.rows) same, is.3 ∙ ap (λ (v : RowLeaf). v.next) same)

module _ (pages : PageBytes) (table first : ℕ) (front : List Leaf) (here : Leaf) (page_is : here.page ≡ first) where
  -- the leaf and those after it
  pub run_stands : (back : List Leaf) → IsLooseRun pages table (front ++ here ∷ back) → LeafIsAt pages table here (first_page back) × IsLooseChain pages table back
  run_stands back run = loose_right pages table front (here ∷ back) run.linked

  pub run_leaf : (back : List Leaf) → IsLooseRun pages table (front ++ here ∷ back) → HasLeaf pages table first
  run_leaf back run = here_leaf pages table first here page_is (first_page back) (run_stands back run).0

  module _ (fill : Fill) (filled : IsFilled pages table first fill) where
    next_is : (back : List Leaf) → IsLooseRun pages table (front ++ here ∷ back) → fill.next ≡ first_page back
    next_is back run = (here_filled pages table first here page_is (first_page back) (run_stands back run).0 fill filled).1

    used_is : (back : List Leaf) → IsLooseRun pages table (front ++ here ∷ back) → fill.used ≡ rows_cost here.rows
    used_is back run = (here_filled pages table first here page_is (first_page back) (run_stands back run).0 fill filled).0

    -- there is no next leaf
    pub try_alone : (back : List Leaf) → IsLooseRun pages table (front ++ here ∷ back) → fill.next ≡ 0 → (pages2 : PageBytes) → pages2 ≡ pages → IsJoinTry pages pages2 table front here back false
    try_alone [] run none pages2 same =
        record { here = here; rest = []; rewrites = rewrites_same pages pages2 table (front ++ here ∷ []) same run; page = refl; grown = omega arith; rows = refl; filled = tt; count = omega arith }
    try_alone (b ∷ back) run none pages2 same = let next = next_is (b ∷ back) run in let real = (run_stands (b ∷ back) run).1.0.real in absurd (omega arith)

    module _ (some : fill.next ≡ 0 → ⊥) where
      -- the next leaf stands, on another page
      pub next_leaf : (back : List Leaf) → IsLooseRun pages table (front ++ here ∷ back) → HasLeaf pages table fill.next
      next_leaf [] run = absurd (some (next_is [] run))
      next_leaf (b ∷ back) run = here_leaf pages table fill.next b (sym (next_is (b ∷ back) run)) (first_page back) (run_stands (b ∷ back) run).1.0

      pub next_apart : (back : List Leaf) → IsLooseRun pages table (front ++ here ∷ back) → fill.next ≡ first → ⊥
      next_apart [] run same = some (next_is [] run)
      next_apart (b ∷ back) run same = not_later pages table here (b ∷ back) (run_stands (b ∷ back) run) [] b back refl (page_is ∙ sym same ∙ next_is (b ∷ back) run)

      module _ (fill2 : Fill) (filled2 : IsFilled pages table fill.next fill2) where
        used_next : (b : Leaf) (back : List Leaf) → IsLooseRun pages table (front ++ here ∷ b ∷ back) → fill2.used ≡ rows_cost b.rows
        used_next b back run =
            (here_filled pages table fill.next b (sym (next_is (b ∷ back) run)) (first_page back) (run_stands (b ∷ back) run).1.0 fill2 filled2).0

        -- both do not go on one page
        pub try_full : (back : List Leaf) → IsLooseRun pages table (front ++ here ∷ back) → Neighbours LeavesFillTwo back → page_room < fill.used + fill2.used → (pages2 : PageBytes) → pages2 ≡ pages
            → IsJoinTry pages pages2 table front here back false
        try_full [] run filling over pages2 same = absurd (some (next_is [] run))
        try_full (b ∷ back) run filling over pages2 same =
            let one = used_is (b ∷ back) run in
            let two = used_next b back run in
            let fills : page_room < rows_cost here.rows + rows_cost b.rows = omega arith in
            record {
              here = here;
              rest = b ∷ back;
              rewrites = rewrites_same pages pages2 table (front ++ here ∷ b ∷ back) same run;
              page = refl;
              grown = omega arith;
              rows = refl;
              filled = (fills, filling);
              count = omega arith;
            }

        module _ (fits : fill.used + fill2.used ≤ page_room) where
          -- their rows ascend
          rows_up : (b : Leaf) (back : List Leaf) → IsLooseRun pages table (front ++ here ∷ b ∷ back) → T (is_sorted by_bytes (here.rows ++ b.rows))
          rows_up b back run =
              let all : T (is_sorted by_bytes (run_rows front ++ (here.rows ++ (b.rows ++ run_rows back)))) =
              subst (λ (rs : List Row). T (is_sorted by_bytes rs)) (run_rows-append front (here ∷ b ∷ back)) run.in_order in
              let behind : T (is_sorted by_bytes (here.rows ++ (b.rows ++ run_rows back))) = sorted_right (run_rows front) (here.rows ++ (b.rows ++ run_rows back)) all in
              sorted_left (here.rows ++ b.rows) (run_rows back) (subst (λ (rs : List Row). T (is_sorted by_bytes rs)) (sym (append_assoc here.rows b.rows (run_rows back))) behind)

          -- and go on one page
          cost_fits : (b : Leaf) (back : List Leaf) → IsLooseRun pages table (front ++ here ∷ b ∷ back) → rows_cost here.rows + rows_cost b.rows ≤ page_room
          cost_fits b back run = let one = used_is (b ∷ back) run in let two = used_next b back run in omega arith

          next_named : (b : Leaf) (back : List Leaf) → IsLooseRun pages table (front ++ here ∷ b ∷ back) → IsNamedAt pages table fill.next (leaf_value table b (first_page back))
          next_named b back run = here_named pages table fill.next b (sym (next_is (b ∷ back) run)) (first_page back) (run_stands (b ∷ back) run).1.0

          first_named : (back : List Leaf) → IsLooseRun pages table (front ++ here ∷ back) → IsNamedAt pages table first (leaf_value table here (first_page back))
          first_named back run = here_named pages table first here page_is (first_page back) (run_stands back run).0

          -- so they may be joined
          pub may_join : (back : List Leaf) → IsLooseRun pages table (front ++ here ∷ back) → MayJoin pages table first fill.next
          may_join [] run = absurd (some (next_is [] run))
          may_join (b ∷ back) run = (leaf_value table here b.page, leaf_value table b (first_page back), first_named (b ∷ back) run, next_named b back run, rows_up b back run, cost_fits b back run)

          -- they were joined
          pub try_joined : (back : List Leaf) → IsLooseRun pages table (front ++ here ∷ back) → Neighbours LeavesFillTwo back → (pages2 : PageBytes) → JoinsTo pages pages2 table first fill.next
              → IsJoinTry pages pages2 table front here back true
          try_joined [] run filling pages2 joins = absurd (some (next_is [] run))
          try_joined (b ∷ back) run filling pages2 joins =
              let leaf : RowLeaf = leaf_value table here b.page in
              let next : RowLeaf = leaf_value table b (first_page back) in
              let to : IsJoinedTo pages pages2 first fill.next leaf next = joins leaf next (first_named (b ∷ back) run) (next_named b back run) (rows_up b back run) (cost_fits b back run) in
              let is : IsJoinedTo pages pages2 here.page b.page leaf next =
              subst (λ (n : ℕ). IsJoinedTo pages pages2 here.page n leaf next) (next_is (b ∷ back) run) (subst (λ (n : ℕ). IsJoinedTo pages pages2 n fill.next leaf next) (sym page_is) to) in
              let cost = cost_both here.rows b.rows in
              let no_less : rows_cost b.rows ≤ rows_cost (here.rows ++ b.rows) = omega arith in
              record {
                here = joined_leaf here b;
                rest = back;
                rewrites = joined_run pages pages2 table front here b back run is;
                page = refl;
                grown = omega arith;
                rows = append_assoc here.rows b.rows (run_rows back);
                filled = filled_grown b (joined_leaf here b) back no_less filling;
                count = omega arith;
              }

-- The only leaf

-- what is among one number is it
only_one : (a n k : ℕ) → k < length (a ∷ []) → slice_index_or (a ∷ []) k n ≡ n → n ≡ a
only_one a n zero lt is = sym is
only_one a n (suc k) lt is = absurd (omega arith)

-- the only leaf of a run is taken away
pub dropped_run : (pages pages2 : PageBytes) (table : ℕ) (here : Leaf) → IsLooseRun pages table (here ∷ []) → pages2 ≡ remove pages here.page → Rewrites pages pages2 table []
dropped_run pages pages2 table here run is = record { run = record { linked = tt; in_order = tt; named = named }; others = others } where
  gone : get pages2 here.page ≡ None
  gone = ap (λ (p : PageBytes). get p here.page) is ∙ removed_here pages here.page

  stays : (number : ℕ) → (number ≡ here.page → ⊥) → get pages2 number ≡ get pages number
  stays number apart = ap (λ (p : PageBytes). get p number) is ∙ removed_there pages here.page number apart

  named : (number : ℕ) (leaf : RowLeaf) → leaf_at pages2 number ≡ Some leaf → leaf.table ≡ table → Contains (pages_of []) number
  named number leaf there of_table = by_test (eqb number here.page) refl where
    by_test : (t : Bool) → eqb number here.page ≡ t → Contains (pages_of []) number
    by_test true e =
        let none : leaf_at pages2 number ≡ None = ap (leaf_at pages2) (eqb-true number here.page e) ∙ ap (option_and_then row_leaf_of) gone in
        let both : Some leaf ≡ None = sym there ∙ none in
        absurd cc
    by_test false e =
        let apart : number ≡ here.page → ⊥ = λ same. (let yes : eqb number here.page ≡ true = eq-eqb number here.page same in absurd cc) in
        let among = run.named number leaf (ap (option_and_then row_leaf_of) (sym (stays number apart)) ∙ there) of_table in
        absurd (apart (only_one here.page number among.0 among.1 among.2))

  others : StaysBesideTable pages pages2 table
  others number = by_test (eqb number here.page) refl where
    by_test : (t : Bool) → eqb number here.page ≡ t → (get pages2 number ≡ get pages number) ⊎ (IsFreeOrOf pages table number × IsFreeOrOf pages2 table number)
    by_test true e =
        let same = eqb-true number here.page e in inr (inr (leaf_value table here 0, ap (leaf_at pages) same ∙ run.linked.0.there, refl), inl (ap (get pages2) same ∙ gone))
    by_test false e = inl (stays number (λ same. (let yes : eqb number here.page ≡ true = eq-eqb number here.page same in absurd cc)))
