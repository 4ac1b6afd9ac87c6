-- Runs on the way through a change of one table.
--     loose_run      a table's leaves, with rows or without
--     beside_both      what two changes leave is what both leave
--     here_run, has_spot, has_here      the run around the leaf of a key
--     put_changed, put_rows, taken_changed, taken_rows      the leaves after a row was put or taken out, and their rows
--     settled_entry      the entry of the leaves that are left once these are settled
--     put_ends, taken_ends      the same where a row was put or taken out
--     new_from_taken, new_kept, new_dropped      the leaves stand, or the only one is taken away
use Rattle.std.proofs.Common.{◌≡◌, refl, sym, ap, subst, ◌∙◌, ℕ, zero, suc, ◌+◌, ◌-◌, ◌*◌, ◌<◌, ◌≤◌, ◌^◌, true, is_some, List, [], ◌∷◌, ◌++◌, map, length, Option, Some, None, arith, inl, inr, length-append}
use Rattle.std.specs.Prelude.{IsTrue, option_and_then, Contains, ◌⊎◌}
use Rattle.std.specs.FinMap.{get, find, put}
use Rattle.mdb_bytes.specs.declared.logical_pages.CatalogueEntry.{CatalogueEntry}
use Rattle.mdb_bytes.specs.TablePages.{Row, rows_cost}
use Rattle.mdb_bytes.specs.PageReadings.{row_leaf_of, catalogue_of}
use Rattle.mdb_bytes.specs.Forms.{Neighbours}
use Rattle.mdb_bytes.specs.Paged.{PageBytes, is_live}
use Rattle.row_page.specs.Entries.{by_bytes}
use Rattle.leaf_runs.specs.Edits.{without}
use Rattle.leaf_runs.specs.Runs.{Leaf, run_rows, first_page, leaf_value, LeavesFillTwo, IsChain, IsTableRun, AreRuns, HasEntry, IsSpot}
use Rattle.leaf_runs.specs.Loose.{IsLooseChain, IsLooseRun, IsFreeOrOf, StaysBesideTable, Rewrites, PartsAre, PutsRowInLeaf, HasHere, HasSpot, IsChangedRun, JoinsLeaves}
use Rattle.leaf_runs.specs.Changed.{FindsSpot, IsWholeRun, IsNewRun, IsSettledRun, IsTakenRun, leaves_added}
use Rattle.leaf_runs.proofs.RowLists.{put-front, put-back, without-append, without-front, without-back}
use Rattle.leaf_runs.proofs.LeafLaw.{leaf_page_of}
use Rattle.leaf_runs.proofs.Chains.{run_rows-append, chain_len}
use Rattle.leaf_runs.proofs.Places.{bytes_of_leaf}
use Rattle.leaf_runs.proofs.Gets.{table_run}
use Rattle.leaf_runs.proofs.PageBound.{rows_cost-append}
use Rattle.leaf_runs.proofs.RowCosts.{value_cost, cost_put, cost_without, cost_at_most, no_cost, some_cost}
use Rattle.leaf_runs.proofs.SettledRuns.{settled_stands, settled_empty}

-- The run of a table

loose_chain : (pages : PageBytes) (table : ℕ) (leaves : List Leaf) → IsChain pages table leaves → IsLooseChain pages table leaves
loose_chain pages table [] chain = tt
loose_chain pages table (l ∷ ls) chain = (record { there = chain.0.there; real = chain.0.real; small = chain.0.small }, loose_chain pages table ls chain.1)

pub loose_run : (pages : PageBytes) (table : ℕ) (entry : CatalogueEntry) (leaves : List Leaf) → IsWholeRun pages table entry leaves → IsLooseRun pages table leaves
loose_run pages table entry leaves whole = record { linked = loose_chain pages table leaves whole.run.linked; in_order = whole.run.in_order; named = whole.named }

pub whole_run : (pages : PageBytes) (r : AreRuns pages) (table : ℕ) (entry : CatalogueEntry) → 1 ≤ table → table ≤ 500 → HasEntry pages table entry → IsWholeRun pages table entry (r.runs table)
whole_run pages r table entry low high e = record {
  run = table_run pages table entry r low high e;
  named = λ number leaf there of. subst (λ (t : ℕ). Contains (map (λ (l : Leaf). l.page) (r.runs t)) number) of (r.named number leaf there);
}

pub whole_on : (pages pages2 : PageBytes) (table : ℕ) (entry : CatalogueEntry) (leaves : List Leaf) → pages2 ≡ pages → IsWholeRun pages table entry leaves → IsWholeRun pages2 table entry leaves
whole_on pages pages2 table entry leaves same whole = subst (λ (p : PageBytes). IsWholeRun p table entry leaves) (sym same) whole

-- page 0 lives
pub catalogue_lives : (pages : PageBytes) → AreRuns pages → IsTrue (is_live pages 0)
catalogue_lives pages r = by_bytes_of (get pages 0) r.page_0 where
  by_bytes_of : (o : Option (List ℕ)) → option_and_then catalogue_of o ≡ Some r.catalogue → is_some o ≡ true
  by_bytes_of None is = absurd cc
  by_bytes_of (Some bytes) is = refl

pub live_on : (pages pages2 : PageBytes) → pages2 ≡ pages → IsTrue (is_live pages 0) → IsTrue (is_live pages2 0)
live_on pages pages2 same live = subst (λ (p : PageBytes). IsTrue (is_live p 0)) (sym same) live

-- a table without a root has no leaf
pub no_leaf : (pages : PageBytes) (table : ℕ) (entry : CatalogueEntry) (leaves : List Leaf) → IsTableRun pages table entry leaves → entry.root ≡ 0 → leaves ≡ []
no_leaf pages table entry leaves run root = by_leaves leaves run.linked (sym run.begins ∙ root) where
  by_leaves : (ls : List Leaf) → IsChain pages table ls → first_page ls ≡ 0 → ls ≡ []
  by_leaves [] chain none = refl
  by_leaves (l ∷ ls) chain none = let real = chain.0.real in absurd (omega arith)

pub empty_run : (pages : PageBytes) (table : ℕ) (entry : CatalogueEntry) (leaves : List Leaf) → IsWholeRun pages table entry leaves → entry.root ≡ 0 → IsLooseRun pages table []
empty_run pages table entry leaves whole root = subst (IsLooseRun pages table) (no_leaf pages table entry leaves whole.run root) (loose_run pages table entry leaves whole)

-- a chain costs no more than its pages have
chain_cost : (pages : PageBytes) (table : ℕ) (leaves : List Leaf) → IsChain pages table leaves → rows_cost (run_rows leaves) ≤ 8128 * length leaves
chain_cost pages table [] chain = omega arith
chain_cost pages table (l ∷ ls) chain =
    let more = chain_cost pages table ls chain.1 in
    let b = bytes_of_leaf pages l.page (leaf_value table l (first_page ls)) chain.0.there in
    let fits = (leaf_page_of b.0 (leaf_value table l (first_page ls)) b.2).keeps.fits in
    let both = rows_cost-append l.rows (run_rows ls) in
    omega arith

pub run_small : (pages : PageBytes) (table : ℕ) (entry : CatalogueEntry) (leaves : List Leaf) → IsTableRun pages table entry leaves → (entry.pages ≤ 65536) × (entry.cost ≤ 8128 * 65536)
run_small pages table entry leaves run =
    let len = chain_len pages table leaves run.linked in
    let cost = chain_cost pages table leaves run.linked in
    let pages_are = run.count in
    let cost_is = run.cost in
    (omega arith, omega arith)

-- Other pages

free_as : (a b : PageBytes) (table number : ℕ) → get b number ≡ get a number → IsFreeOrOf a table number → IsFreeOrOf b table number
free_as a b table number same (inl none) = inl (same ∙ none)
free_as a b table number same (inr (leaf, there, of)) = inr (leaf, ap (option_and_then row_leaf_of) same ∙ there, of)

pub beside_both : (a b c : PageBytes) (table : ℕ) → StaysBesideTable a b table → StaysBesideTable b c table → StaysBesideTable a c table
beside_both a b c table p q number = by_both (p number) (q number) where
  by_both : (get b number ≡ get a number) ⊎ (IsFreeOrOf a table number × IsFreeOrOf b table number) → (get c number ≡ get b number) ⊎ (IsFreeOrOf b table number × IsFreeOrOf c table number)
      → (get c number ≡ get a number) ⊎ (IsFreeOrOf a table number × IsFreeOrOf c table number)
  by_both (inl s) (inl t) = inl (t ∙ s)
  by_both (inl s) (inr t) = inr (free_as b a table number (sym s) t.0, t.1)
  by_both (inr s) (inl t) = inr (s.0, free_as b c table number t s.1)
  by_both (inr s) (inr t) = inr (s.0, t.1)

pub beside_none : (a b : PageBytes) (table : ℕ) → b ≡ a → StaysBesideTable a b table
beside_none a b table same number = inl (ap (λ (p : PageBytes). get p number) same)

-- Leaves in parts

filled_left : (a b : List Leaf) → Neighbours LeavesFillTwo (a ++ b) → Neighbours LeavesFillTwo a
filled_left [] b n = tt
filled_left (x ∷ []) b n = tt
filled_left (x ∷ y ∷ a) b n = (n.0, filled_left (y ∷ a) b n.1)

filled_right : (a b : List Leaf) → Neighbours LeavesFillTwo (a ++ b) → Neighbours LeavesFillTwo b
filled_right [] b n = n
filled_right (x ∷ []) [] n = tt
filled_right (x ∷ []) (y ∷ b) n = n.1
filled_right (x ∷ y ∷ a) b n = filled_right (y ∷ a) b n.1

-- leaves that stand for one begin where it did, and are one more where there is another
parts_first : (front parts back : List Leaf) (here : Leaf) (other : Option ℕ) → PartsAre parts here.page other → first_page (front ++ (parts ++ back)) ≡ first_page (front ++ here ∷ back)
parts_first (x ∷ front) parts back here other are = refl
parts_first [] parts back here None (l, page, is) = ap (λ (ps : List Leaf). first_page (ps ++ back)) is ∙ page
parts_first [] parts back here (Some other) (l, m, page, page2, is) = ap (λ (ps : List Leaf). first_page (ps ++ back)) is ∙ page

parts_count : (front parts back : List Leaf) (here : Leaf) (other : Option ℕ) → PartsAre parts here.page other → length (front ++ (parts ++ back)) ≡ length (front ++ here ∷ back) + leaves_added other
parts_count front parts back here None (l, page, is) =
    let whole : length (front ++ (parts ++ back)) ≡ length (front ++ l ∷ back) = ap (λ (ps : List Leaf). length (front ++ (ps ++ back))) is in
    let a = length-append front (l ∷ back) in
    let b = length-append front (here ∷ back) in
    omega arith
parts_count front parts back here (Some other) (l, m, page, page2, is) =
    let whole : length (front ++ (parts ++ back)) ≡ length (front ++ l ∷ m ∷ back) = ap (λ (ps : List Leaf). length (front ++ (ps ++ back))) is in
    let a = length-append front (l ∷ m ∷ back) in
    let b = length-append front (here ∷ back) in
    omega arith

-- The leaf of a key

module _ (pages : PageBytes) (table : ℕ) (entry : CatalogueEntry) (leaves : List Leaf) (whole : IsWholeRun pages table entry leaves) (key : List ℕ) (before : Option ℕ) (page : ℕ) (spot : IsSpot leaves key before page) where
  pub here_run : IsLooseRun pages table (spot.front ++ spot.here ∷ spot.back)
  here_run = subst (IsLooseRun pages table) spot.whole (loose_run pages table entry leaves whole)

  pub has_spot : HasSpot pages table page key
  has_spot = record { front = spot.front; here = spot.here; back = spot.back; page_is = spot.page_is; run = here_run; round = record { lower = spot.lower; higher = spot.higher } }

  pub has_here : HasHere pages table page
  has_here = record { front = spot.front; here = spot.here; back = spot.back; page_is = spot.page_is; run = here_run }

  filled : Neighbours LeavesFillTwo (spot.front ++ spot.here ∷ spot.back)
  filled = subst (Neighbours LeavesFillTwo) spot.whole whole.run.filled

  filled_behind : Neighbours LeavesFillTwo spot.back
  filled_behind = filled_right (spot.here ∷ []) spot.back (filled_right spot.front (spot.here ∷ spot.back) filled)

  -- the leaves on whose place these parts stand
  changed : (pages1 : PageBytes) (parts : List Leaf) (other : Option ℕ) → IsLooseRun pages1 table (spot.front ++ (parts ++ spot.back)) → PartsAre parts spot.here.page other
      → IsChangedRun pages1 table spot.front parts spot.back before page other
  changed pages1 parts other run are = record {
    run = run;
    before_is = spot.before_is;
    are = subst (λ (n : ℕ). PartsAre parts n other) spot.page_is are;
    filled_front = filled_left spot.front (spot.here ∷ spot.back) filled;
    filled_back = filled_behind;
  }

  changed_first : (parts : List Leaf) (other : Option ℕ) → PartsAre parts spot.here.page other → first_page (spot.front ++ (parts ++ spot.back)) ≡ first_page leaves
  changed_first parts other are = parts_first spot.front parts spot.back spot.here other are ∙ ap first_page (sym spot.whole)

  changed_count : (parts : List Leaf) (other : Option ℕ) → PartsAre parts spot.here.page other → length (spot.front ++ (parts ++ spot.back)) ≡ length leaves + leaves_added other
  changed_count parts other are = parts_count spot.front parts spot.back spot.here other are ∙ ap (λ (ls : List Leaf). length ls + leaves_added other) (sym spot.whole)

  all_parts : run_rows leaves ≡ run_rows spot.front ++ (spot.here.rows ++ run_rows spot.back)
  all_parts = ap run_rows spot.whole ∙ run_rows-append spot.front (spot.here ∷ spot.back)

  put_parts : (value : List ℕ) (parts : List Leaf) → run_rows parts ≡ put by_bytes key value spot.here.rows → run_rows (spot.front ++ (parts ++ spot.back)) ≡ put by_bytes key value (run_rows leaves)
  put_parts value parts are =
      run_rows-append spot.front (parts ++ spot.back)
      ∙ ap (λ (rs : List Row). run_rows spot.front ++ rs) (run_rows-append parts spot.back ∙ ap (λ (rs : List Row). rs ++ run_rows spot.back) are ∙ sym (put-back key value spot.here.rows (run_rows spot.back) spot.higher))
      ∙ sym (put-front key value (run_rows spot.front) (spot.here.rows ++ run_rows spot.back) spot.lower)
      ∙ ap (put by_bytes key value) (sym all_parts)

  taken_parts : run_rows (spot.front ++ record { page = spot.here.page; rows = without key spot.here.rows } ∷ spot.back) ≡ without key (run_rows leaves)
  taken_parts =
      run_rows-append spot.front (record { page = spot.here.page; rows = without key spot.here.rows } ∷ spot.back)
      ∙ (λ i. sym (without-front key (run_rows spot.front) spot.lower) i ++ (without key spot.here.rows ++ sym (without-back key (run_rows spot.back) spot.higher) i))
      ∙ ap (λ (rs : List Row). without key (run_rows spot.front) ++ rs) (sym (without-append key spot.here.rows (run_rows spot.back)))
      ∙ sym (without-append key (run_rows spot.front) (spot.here.rows ++ run_rows spot.back))
      ∙ ap (without key) (sym all_parts)

  -- the entry of the leaves that are left once a change is settled
  settled_entry : (pages1 pages2 : PageBytes) (parts : List Leaf) (other : Option ℕ) (rows : List Row) (entry2 : CatalogueEntry) (joined taken new : ℕ)
      → StaysBesideTable pages pages1 table → PartsAre parts spot.here.page other → run_rows (spot.front ++ (parts ++ spot.back)) ≡ rows → JoinsLeaves pages1 pages2 table (spot.front ++ (parts ++ spot.back)) joined
      → entry2.root ≡ entry.root → (entry.pages ≤ 65536 → entry2.pages ≡ (entry.pages + leaves_added other) - joined) → (entry.cost + new < 2 ^ 64 → entry2.cost ≡ (entry.cost - taken) + new)
      → rows_cost rows + taken ≡ rows_cost (run_rows leaves) + new → taken ≤ rows_cost (run_rows leaves) → new ≤ 1764 → IsTakenRun pages pages2 table rows entry2
  settled_entry pages1 pages2 parts other rows entry2 joined taken new others are is settled root count cost costs most small =
      let small_run = run_small pages table entry leaves whole.run in
      let few = small_run.0 in
      let cheap = small_run.1 in
      let count2 = count few in
      let cost2 = cost (omega arith) in
      let rows_are : run_rows settled.leaves2 ≡ rows = settled.rows ∙ is in
      let cost_is : rows_cost (run_rows settled.leaves2) ≡ rows_cost rows = ap rows_cost rows_are in
      let begins : entry2.root ≡ first_page settled.leaves2 = root ∙ whole.run.begins ∙ sym (changed_first parts other are) ∙ sym settled.begins in
      let old_count = whole.run.count in
      let old_cost = whole.run.cost in
      let all = changed_count parts other are in
      let left = settled.count in record {
        leaves = settled.leaves2;
        settled = record {
          run = settled.rewrites.run;
          some = some_left settled.leaves2 (settled.begins ∙ changed_first parts other are);
          filled = settled.filled;
          begins = begins;
          count = omega arith;
          cost = omega arith;
        };
        rows_are = rows_are;
        others = beside_both pages pages1 pages2 table others settled.rewrites.others;
      }
    where
      real : (ls : List Leaf) → IsChain pages table ls → (front : List Leaf) (here : Leaf) (back : List Leaf) → ls ≡ front ++ here ∷ back → first_page ls ≡ 0 → ⊥
      real [] chain front here back e none = let n : 0 ≡ length (front ++ here ∷ back) = ap length e in omega (arith, length-append front (here ∷ back))
      real (l ∷ ls) chain front here back e none = let r = chain.0.real in omega arith

      some_left : (ls : List Leaf) → first_page ls ≡ first_page leaves → 0 < length ls
      some_left [] none = absurd (real leaves whole.run.linked spot.front spot.here spot.back spot.whole (sym none))
      some_left (l ∷ ls) same = omega arith

  module _ (pages1 : PageBytes) (value : List ℕ) (other : Option ℕ) (placed : PutsRowInLeaf pages pages1 table spot.front spot.here spot.back key value other) where
    pub put_changed : IsChangedRun pages1 table spot.front placed.parts spot.back before page other
    put_changed = changed pages1 placed.parts other placed.rewrites.run placed.are

    pub put_settled : (pages2 : PageBytes) (entry2 : CatalogueEntry) (joined taken new : ℕ) → JoinsLeaves pages1 pages2 table (spot.front ++ (placed.parts ++ spot.back)) joined
        → entry2.root ≡ entry.root → (entry.pages ≤ 65536 → entry2.pages ≡ (entry.pages + leaves_added other) - joined) → (entry.cost + new < 2 ^ 64 → entry2.cost ≡ (entry.cost - taken) + new)
        → rows_cost (put by_bytes key value (run_rows leaves)) + taken ≡ rows_cost (run_rows leaves) + new → taken ≤ rows_cost (run_rows leaves) → new ≤ 1764
        → IsTakenRun pages pages2 table (put by_bytes key value (run_rows leaves)) entry2
    put_settled pages2 entry2 joined taken new settled root count cost costs most small =
        settled_entry pages1 pages2 placed.parts other (put by_bytes key value (run_rows leaves)) entry2 joined taken new placed.rewrites.others placed.are (put_parts value placed.parts placed.rows) settled root count cost costs most small

  module _ (pages1 : PageBytes) (rewrites : Rewrites pages pages1 table (spot.front ++ record { page = spot.here.page; rows = without key spot.here.rows } ∷ spot.back)) where
    -- the leaf without the row
    abbrev pub taken_here : List Leaf
    taken_here = record { page = spot.here.page; rows = without key spot.here.rows } ∷ []

    taken_are : PartsAre taken_here spot.here.page None
    taken_are = (record { page = spot.here.page; rows = without key spot.here.rows }, refl, refl)

    pub taken_changed : IsChangedRun pages1 table spot.front taken_here spot.back before page None
    taken_changed = changed pages1 taken_here None rewrites.run taken_are

    pub taken_settled : (pages2 : PageBytes) (entry2 : CatalogueEntry) (joined taken : ℕ) → JoinsLeaves pages1 pages2 table (spot.front ++ (taken_here ++ spot.back)) joined
        → entry2.root ≡ entry.root → (entry.pages ≤ 65536 → entry2.pages ≡ (entry.pages + 0) - joined) → (entry.cost + 0 < 2 ^ 64 → entry2.cost ≡ (entry.cost - taken) + 0)
        → rows_cost (without key (run_rows leaves)) + taken ≡ rows_cost (run_rows leaves) → IsTakenRun pages pages2 table (without key (run_rows leaves)) entry2
    taken_settled pages2 entry2 joined taken settled root count cost costs =
        settled_entry pages1 pages2 taken_here None (without key (run_rows leaves)) entry2 joined taken 0 rewrites.others taken_are taken_parts settled root count cost (omega arith) (omega arith) (omega arith)

-- a row was put
pub put_ends : (pages pages1 pages2 : PageBytes) (table : ℕ) (entry entry2 : CatalogueEntry) (leaves : List Leaf) (whole : IsWholeRun pages table entry leaves) (key value : List ℕ) (before : Option ℕ) (page cost : ℕ) (found : FindsSpot leaves key before page cost)
    (other : Option ℕ) (placed : PutsRowInLeaf pages pages1 table found.spot.front found.spot.here found.spot.back key value other) (joined new : ℕ) → JoinsLeaves pages1 pages2 table (found.spot.front ++ (placed.parts ++ found.spot.back)) joined
    → entry2.root ≡ entry.root → (entry.pages ≤ 65536 → entry2.pages ≡ (entry.pages + leaves_added other) - joined) → (entry.cost + new < 2 ^ 64 → entry2.cost ≡ (entry.cost - cost) + new) → new ≡ 8 + length key + length value → new ≤ 1764
    → IsTakenRun pages pages2 table (put by_bytes key value (run_rows leaves)) entry2
put_ends pages pages1 pages2 table entry entry2 leaves whole key value before page cost found other placed joined new settled root count costs new_is small =
    let saved = cost_put key value (run_rows leaves) whole.run.in_order in
    let most = cost_at_most key (run_rows leaves) whole.run.in_order in
    let cost_is : cost ≡ value_cost key (find by_bytes key (run_rows leaves)) = found.cost_is in
    put_settled pages table entry leaves whole key before page found.spot pages1 value other placed pages2 entry2 joined cost new settled root count costs (omega arith) (omega arith) small

-- a row was taken out
pub taken_ends : (pages pages1 pages2 : PageBytes) (table : ℕ) (entry entry2 : CatalogueEntry) (leaves : List Leaf) (whole : IsWholeRun pages table entry leaves) (key : List ℕ) (before : Option ℕ) (page cost : ℕ) (found : FindsSpot leaves key before page cost)
    (rewrites : Rewrites pages pages1 table (found.spot.front ++ record { page = found.spot.here.page; rows = without key found.spot.here.rows } ∷ found.spot.back)) (joined : ℕ)
    → JoinsLeaves pages1 pages2 table (found.spot.front ++ record { page = found.spot.here.page; rows = without key found.spot.here.rows } ∷ found.spot.back) joined
    → entry2.root ≡ entry.root → (entry.pages ≤ 65536 → entry2.pages ≡ (entry.pages + 0) - joined) → (entry.cost + 0 < 2 ^ 64 → entry2.cost ≡ (entry.cost - cost) + 0)
    → IsTakenRun pages pages2 table (without key (run_rows leaves)) entry2
taken_ends pages pages1 pages2 table entry entry2 leaves whole key before page cost found rewrites joined settled root count costs =
    let saved = cost_without key (run_rows leaves) whole.run.in_order in
    let cost_is : cost ≡ value_cost key (find by_bytes key (run_rows leaves)) = found.cost_is in
    taken_settled pages table entry leaves whole key before page found.spot pages1 rewrites pages2 entry2 joined cost settled root count costs (omega arith)

pub new_on : (pages pages2 pages3 : PageBytes) (table : ℕ) (rows : List Row) (entry : CatalogueEntry) → pages2 ≡ pages → IsNewRun pages2 pages3 table rows entry → IsNewRun pages pages3 table rows entry
new_on pages pages2 pages3 table rows entry same n = subst (λ (p : PageBytes). IsNewRun p pages3 table rows entry) same n

-- What is left

stands : (pages : PageBytes) (table : ℕ) (entry : CatalogueEntry) (leaves : List Leaf) → IsSettledRun pages table entry leaves → 0 < length (run_rows leaves) → IsWholeRun pages table entry leaves
stands pages table entry leaves s some = record {
  run = record {
    begins = s.begins;
    linked = settled_stands pages table leaves s.run s.filled some;
    in_order = s.run.in_order;
    filled = s.filled;
    count = s.count;
    cost = s.cost;
  };
  named = s.run.named;
}

-- leaves with rows stand
pub new_from_taken : (pages pages2 : PageBytes) (table : ℕ) (rows : List Row) (entry : CatalogueEntry) → IsTakenRun pages pages2 table rows entry → 0 < length rows → IsNewRun pages pages2 table rows entry
new_from_taken pages pages2 table rows entry t some = record {
  leaves = t.leaves;
  whole = stands pages2 table entry t.leaves t.settled (subst (λ (rs : List Row). 0 < length rs) (sym t.rows_are) some);
  rows_are = t.rows_are;
  others = t.others;
}

pub new_kept : (pages : PageBytes) (table : ℕ) (entry : CatalogueEntry) (leaves : List Leaf) → IsSettledRun pages table entry leaves → 0 < entry.cost → IsNewRun pages pages table (run_rows leaves) entry
new_kept pages table entry leaves s some = record {
  leaves = leaves;
  whole = stands pages table entry leaves s (some_cost (run_rows leaves) (subst (λ (n : ℕ). 0 < n) s.cost some));
  rows_are = refl;
  others = beside_none pages pages table refl;
}

-- a run without rows is one leaf
pub only_leaf : (pages : PageBytes) (table : ℕ) (entry : CatalogueEntry) (leaves : List Leaf) → IsSettledRun pages table entry leaves → entry.cost ≡ 0 → (here : Leaf) × (leaves ≡ here ∷ [])
only_leaf pages table entry leaves s none = by_leaves leaves s.some (settled_empty pages table leaves s.run s.filled (no_cost (run_rows leaves) (sym s.cost ∙ none))) where
  by_leaves : (ls : List Leaf) → 0 < length ls → length ls ≤ 1 → (here : Leaf) × (ls ≡ here ∷ [])
  by_leaves [] some few = absurd (omega arith)
  by_leaves (l ∷ []) some few = (l, refl)
  by_leaves (l ∷ m ∷ ls) some few = absurd (omega arith)

-- a run of more leaves has rows
pub many_cost : (pages : PageBytes) (table : ℕ) (entry : CatalogueEntry) (leaves : List Leaf) → IsSettledRun pages table entry leaves → 1 < entry.pages → 0 < entry.cost
many_cost pages table entry leaves s many = by_cost entry.cost refl where
  by_cost : (n : ℕ) → entry.cost ≡ n → 0 < n
  by_cost zero none =
      let only = only_leaf pages table entry leaves s none in
      let one : length leaves ≡ 1 = ap length only.1 in
      let count = s.count in
      absurd (omega arith)
  by_cost (suc n) some = omega arith

pub only_run : (pages : PageBytes) (table : ℕ) (entry : CatalogueEntry) (leaves : List Leaf) (s : IsSettledRun pages table entry leaves) (none : entry.cost ≡ 0) → (here : Leaf) × IsLooseRun pages table (here ∷ []) × (here.page ≡ entry.root)
only_run pages table entry leaves s none =
    let l = only_leaf pages table entry leaves s none in
    (l.0, subst (IsLooseRun pages table) l.1 s.run, sym (s.begins ∙ ap first_page l.1))

pub new_dropped : (pages pages2 : PageBytes) (table : ℕ) (entry entry2 : CatalogueEntry) (leaves : List Leaf) → IsSettledRun pages table entry leaves → entry.cost ≡ 0 → Rewrites pages pages2 table []
    → entry2 ≡ record { root = 0; pages = 0; cost = 0 } → IsNewRun pages pages2 table (run_rows leaves) entry2
new_dropped pages pages2 table entry entry2 leaves s none rewrites is = record {
  leaves = [];
  whole = record {
    run = record {
      begins = ap (λ (e : CatalogueEntry). e.root) is;
      linked = tt;
      in_order = tt;
      filled = tt;
      count = ap (λ (e : CatalogueEntry). e.pages) is;
      cost = ap (λ (e : CatalogueEntry). e.cost) is;
    };
    named = rewrites.run.named;
  };
  rows_are = sym (no_cost (run_rows leaves) (sym s.cost ∙ none));
  others = rewrites.others;
}

pub new_after : (pages pages1 pages2 : PageBytes) (table : ℕ) (rows : List Row) (entry entry2 : CatalogueEntry) (t : IsTakenRun pages pages1 table rows entry) → IsNewRun pages1 pages2 table (run_rows t.leaves) entry2 → IsNewRun pages pages2 table rows entry2
new_after pages pages1 pages2 table rows entry entry2 t n = record {
  leaves = n.leaves;
  whole = n.whole;
  rows_are = n.rows_are ∙ t.rows_are;
  others = beside_both pages pages1 pages2 table t.others n.others;
}

-- the first leaf of a table
pub new_first : (pages pages2 : PageBytes) (table : ℕ) (key value : List ℕ) (entry : CatalogueEntry) (page : ℕ) → Rewrites pages pages2 table (record { page = page; rows = (key, value) ∷ [] } ∷ []) → entry.root ≡ page → entry.pages ≡ 1
    → entry.cost ≡ 8 + length key + length value → IsNewRun pages pages2 table ((key, value) ∷ []) entry
new_first pages pages2 table key value entry page rewrites root count cost = record {
  leaves = record { page = page; rows = (key, value) ∷ [] } ∷ [];
  whole = record {
    run = record {
      begins = root;
      linked = settled_stands pages2 table (record { page = page; rows = (key, value) ∷ [] } ∷ []) rewrites.run tt (omega arith);
      in_order = rewrites.run.in_order;
      filled = tt;
      count = count;
      cost = omega (arith, cost);
    };
    named = rewrites.run.named;
  };
  rows_are = refl;
  others = rewrites.others;
}
