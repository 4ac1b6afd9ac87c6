-- A run settled after a change.
--     settled_stands, settled_empty      a settled run with rows is a chain; one without has one leaf at most
--     IsTried      the leaves from a place on fill two pages each
--     IsHalfTried, half_tried, whole_tried, settled_by      the tries of a change, from right to left
--     other_here, half_here, before_here      the leaf that each of them begins with
use Rattle.std.proofs.Common.{◌≡◌, refl, sym, ap, subst, ◌∙◌, ℕ, ◌+◌, ◌<◌, ◌≤◌, List, [], ◌∷◌, ◌++◌, length, Option, Some, None, arith, append_assoc, inl, inr, length-append}
use Rattle.std.specs.Prelude.{◌⊎◌}
use Rattle.mdb_bytes.specs.Parts.{page_room}
use Rattle.mdb_bytes.specs.TablePages.{Row, rows_cost}
use Rattle.mdb_bytes.specs.Forms.{Neighbours}
use Rattle.mdb_bytes.specs.Paged.{PageBytes}
use Rattle.leaf_runs.specs.Runs.{Leaf, run_rows, first_page, last_page, LeavesFillTwo, LeafStands, IsChain}
use Rattle.leaf_runs.specs.Loose.{LeafIsAt, IsLooseChain, IsLooseRun, Rewrites, HasHere, IsChangedRun, JoinsLeaves}
use Rattle.leaf_runs.specs.Tries.{IsOptionTry, HasOptionHere}
use Rattle.leaf_runs.proofs.Chains.{run_rows-append}
use Rattle.leaf_runs.proofs.LooseRuns.{rewrites_on}
use Rattle.leaf_runs.proofs.JoinedRuns.{leaf_cost, first_same, cost_both, filled_on, rewrites_same}

-- Settled runs

-- rows that cost something are some
some_rows : (rows : List Row) → 0 < rows_cost rows → 0 < length rows
some_rows [] some = absurd (omega arith)
some_rows (row ∷ rows) some = omega arith

module _ (pages : PageBytes) (table : ℕ) where
  -- a leaf with rows stands as one of a chain
  stands : (leaf : Leaf) (next : ℕ) → LeafIsAt pages table leaf next → 0 < length leaf.rows → LeafStands pages table leaf next
  stands leaf next at some = record { there = at.there; real = at.real; small = at.small; has_rows = some }

  -- of two neighbours that fill more than a page, none is without rows
  each_stands : (a : Leaf) (leaves : List Leaf) → 0 < length a.rows → IsLooseChain pages table (a ∷ leaves) → Neighbours LeavesFillTwo (a ∷ leaves) → IsChain pages table (a ∷ leaves)
  each_stands a [] some chain filled = (stands a 0 chain.0 some, tt)
  each_stands a (b ∷ leaves) some chain filled =
      let fills : page_room < rows_cost a.rows + rows_cost b.rows = filled.0 in
      let one = leaf_cost pages table a b.page chain.0 in
      (stands a b.page chain.0 some, each_stands b leaves (some_rows b.rows (omega arith)) chain.1 filled.1)

  -- a settled run that has rows is a chain of leaves with rows
  pub settled_stands : (leaves : List Leaf) → IsLooseRun pages table leaves → Neighbours LeavesFillTwo leaves → 0 < length (run_rows leaves) → IsChain pages table leaves
  settled_stands [] run filled some = tt
  settled_stands (a ∷ []) run filled some = each_stands a [] (omega (arith, length-append a.rows (run_rows []))) run.linked filled
  settled_stands (a ∷ b ∷ leaves) run filled some =
      let fills : page_room < rows_cost a.rows + rows_cost b.rows = filled.0 in
      let two = leaf_cost pages table b (first_page leaves) run.linked.1.0 in
      each_stands a (b ∷ leaves) (some_rows a.rows (omega arith)) run.linked filled

  -- a settled run without rows has one leaf at most
  pub settled_empty : (leaves : List Leaf) → IsLooseRun pages table leaves → Neighbours LeavesFillTwo leaves → run_rows leaves ≡ [] → length leaves ≤ 1
  settled_empty [] run filled none = omega arith
  settled_empty (a ∷ []) run filled none = omega arith
  settled_empty (a ∷ b ∷ leaves) run filled none =
      let fills : page_room < rows_cost a.rows + rows_cost b.rows = filled.0 in
      let all : rows_cost (run_rows (a ∷ b ∷ leaves)) ≡ 0 = ap (λ (rs : List Row). rows_cost rs) none in
      let one = cost_both a.rows (run_rows (b ∷ leaves)) in
      let two = cost_both b.rows (run_rows leaves) in
      absurd (omega arith)

-- Tries

-- The leaves from a place on fill two pages each now, with the same rows from the same page on; this many were joined.
pub record IsTried (pages pages2 : PageBytes) (table : ℕ) (front tail : List Leaf) (joined : ℕ) : Type 0 where
  pub tail2 : List Leaf
  pub rewrites : Rewrites pages pages2 table (front ++ tail2)
  pub rows : run_rows tail2 ≡ run_rows tail
  pub begins : first_page tail2 ≡ first_page tail
  pub filled : Neighbours LeavesFillTwo tail2
  pub count : length tail2 + joined ≡ length tail

-- the leaves after the first one of a change were tried
pub record IsHalfTried (pages pages2 : PageBytes) (table : ℕ) (front parts back : List Leaf) (page joined : ℕ) : Type 0 where
  pub here : Leaf
  pub more : List Leaf
  pub page_is : here.page ≡ page
  pub parts_are : parts ≡ here ∷ more
  pub tried : IsTried pages pages2 table (front ++ here ∷ []) (more ++ back) joined

-- the last leaf of some, or there is none
last_of : (front : List Leaf) → (front ≡ []) ⊎ ((ahead : List Leaf) × (last : Leaf) × (front ≡ ahead ++ last ∷ []) × (last_page front ≡ Some last.page))
last_of [] = inl refl
last_of (leaf ∷ []) = inr ([], leaf, refl, refl)
last_of (leaf ∷ next ∷ leaves) = by_rest (last_of (next ∷ leaves)) where
  by_rest : ((next ∷ leaves) ≡ []) ⊎ ((ahead : List Leaf) × (last : Leaf) × ((next ∷ leaves) ≡ ahead ++ last ∷ []) × (last_page (next ∷ leaves) ≡ Some last.page))
      → ((leaf ∷ next ∷ leaves) ≡ []) ⊎ ((ahead : List Leaf) × (last : Leaf) × ((leaf ∷ next ∷ leaves) ≡ ahead ++ last ∷ []) × (last_page (leaf ∷ next ∷ leaves) ≡ Some last.page))
  by_rest (inl none) = absurd cc
  by_rest (inr l) = inr (leaf ∷ l.0, l.1, ap (λ (ls : List Leaf). leaf ∷ ls) l.2, l.3)

module _ (pages : PageBytes) (table : ℕ) where
  -- the leaf after the first one of a change
  pub other_here : (front parts back : List Leaf) (before : Option ℕ) (page : ℕ) (other : Option ℕ) → IsChangedRun pages table front parts back before page other → HasOptionHere pages table other
  other_here front parts back before page None changed = tt
  other_here front parts back before page (Some other) changed =
      let are = changed.are in record {
        front = front ++ are.0 ∷ [];
        here = are.1;
        back = back;
        page_is = are.3;
        run = subst (IsLooseRun pages table) (ap (λ (ps : List Leaf). front ++ (ps ++ back)) are.4 ∙ sym (append_assoc front (are.0 ∷ []) (are.1 ∷ back))) changed.run;
      }

module _ (pages pages2 : PageBytes) (table : ℕ) where
  -- no leaf was tried
  tried_none : (front back : List Leaf) (joined : ℕ) → IsLooseRun pages table (front ++ back) → Neighbours LeavesFillTwo back → (pages2 ≡ pages) × (joined ≡ 0) → IsTried pages pages2 table front back joined
  tried_none front back joined run filled same = record {
    tail2 = back;
    rewrites = rewrites_same pages pages2 table (front ++ back) same.0 run;
    rows = refl;
    begins = refl;
    filled = filled;
    count = (let none = same.1 in omega arith);
  }

  -- one leaf was
  tried_one : (front : List Leaf) (here : Leaf) (back : List Leaf) (page joined : ℕ) → IsLooseRun pages table (front ++ here ∷ back) → here.page ≡ page → Neighbours LeavesFillTwo back → IsOptionTry pages pages2 table (Some page) joined
      → IsTried pages pages2 table front (here ∷ back) joined
  tried_one front here back page joined run page_is filled try =
      let w = try front here back run page_is filled in
      let j = w.2 in
      record {
        tail2 = j.here ∷ j.rest;
        rewrites = j.rewrites;
        rows = j.rows;
        begins = j.page;
        filled = j.filled;
        count = (let n = w.1 in let m = j.count in omega arith);
      }

  -- the first try, of the other leaf
  pub half_tried : (front parts back : List Leaf) (before : Option ℕ) (page : ℕ) (other : Option ℕ) (joined : ℕ) → IsChangedRun pages table front parts back before page other → IsOptionTry pages pages2 table other joined
      → IsHalfTried pages pages2 table front parts back page joined
  half_tried front parts back before page None joined changed try =
      let are = changed.are in record {
        here = are.0;
        more = [];
        page_is = are.1;
        parts_are = are.2;
        tried =
            tried_none (front ++ are.0 ∷ []) back joined
            (subst (IsLooseRun pages table) (ap (λ (ps : List Leaf). front ++ (ps ++ back)) are.2 ∙ sym (append_assoc front (are.0 ∷ []) back)) changed.run) changed.filled_back try;
      }
  half_tried front parts back before page (Some other) joined changed try =
      let are = changed.are in record {
        here = are.0;
        more = are.1 ∷ [];
        page_is = are.2;
        parts_are = are.4;
        tried =
            tried_one (front ++ are.0 ∷ []) are.1 back other joined
            (subst (IsLooseRun pages table) (ap (λ (ps : List Leaf). front ++ (ps ++ back)) are.4 ∙ sym (append_assoc front (are.0 ∷ []) (are.1 ∷ back))) changed.run) are.3 changed.filled_back try;
      }

  -- the run after the first try
  half_run : (front parts back : List Leaf) (page joined : ℕ) (half : IsHalfTried pages pages2 table front parts back page joined) → IsLooseRun pages2 table (front ++ half.here ∷ half.tried.tail2)
  half_run front parts back page joined half = subst (IsLooseRun pages2 table) (append_assoc front (half.here ∷ []) half.tried.tail2) half.tried.rewrites.run

  -- the leaf of the second try
  pub half_here : (front parts back : List Leaf) (page joined : ℕ) → IsHalfTried pages pages2 table front parts back page joined → HasHere pages2 table page
  half_here front parts back page joined half = record { front = front; here = half.here; back = half.tried.tail2; page_is = half.page_is; run = half_run front parts back page joined half }

  -- the second try
  pub whole_tried : (front parts back : List Leaf) (page joined : ℕ) → IsHalfTried pages pages2 table front parts back page joined → (pages3 : PageBytes) (joined2 : ℕ) → IsOptionTry pages2 pages3 table (Some page) joined2
      → IsTried pages pages3 table front (parts ++ back) (joined + joined2)
  whole_tried front parts back page joined half pages3 joined2 try =
      let t = half.tried in
      let w = try front half.here t.tail2 (half_run front parts back page joined half) half.page_is t.filled in
      let j = w.2 in
      subst (λ (ps : List Leaf). IsTried pages pages3 table front (ps ++ back) (joined + joined2)) (sym half.parts_are) (record {
        tail2 = j.here ∷ j.rest;
        rewrites = rewrites_on pages pages2 pages3 table ((front ++ half.here ∷ []) ++ t.tail2) (front ++ j.here ∷ j.rest) t.rewrites j.rewrites;
        rows = j.rows ∙ ap (λ (rs : List Row). half.here.rows ++ rs) t.rows;
        begins = j.page;
        filled = j.filled;
        count = (let n = w.1 in let m = j.count in let k = t.count in omega arith);
      })

  -- the leaf of the last try
  pub before_here : (front tail : List Leaf) (before : Option ℕ) (joined : ℕ) → before ≡ last_page front → IsTried pages pages2 table front tail joined → HasOptionHere pages2 table before
  before_here front tail before joined before_is tried = by_last (last_of front) where
    by_last : (front ≡ []) ⊎ ((ahead : List Leaf) × (last : Leaf) × (front ≡ ahead ++ last ∷ []) × (last_page front ≡ Some last.page)) → HasOptionHere pages2 table before
    by_last (inl none) = subst (HasOptionHere pages2 table) (sym (before_is ∙ ap last_page none)) tt
    by_last (inr l) = subst (HasOptionHere pages2 table) (sym (before_is ∙ l.3)) (record {
      front = l.0;
      here = l.1;
      back = tried.tail2;
      page_is = refl;
      run = subst (IsLooseRun pages2 table) (ap (λ (ls : List Leaf). ls ++ tried.tail2) l.2 ∙ append_assoc l.0 (l.1 ∷ []) tried.tail2) tried.rewrites.run;
    })

  module _ (pages3 : PageBytes) (tail : List Leaf) (joined joined2 : ℕ) where
    -- there is no leaf before the change
    settled_none : IsTried pages pages2 table [] tail joined → (pages3 ≡ pages2) × (joined2 ≡ 0) → JoinsLeaves pages pages3 table tail (joined + joined2)
    settled_none t same = record {
      leaves2 = t.tail2;
      rewrites = rewrites_on pages pages2 pages3 table t.tail2 t.tail2 t.rewrites (rewrites_same pages2 pages3 table t.tail2 same.0 t.rewrites.run);
      rows = t.rows;
      begins = t.begins;
      filled = t.filled;
      count = (let n = same.1 in let m = t.count in omega arith);
    }

    -- there is one, and it was tried
    settled_last : (ahead : List Leaf) (last : Leaf) → Neighbours LeavesFillTwo (ahead ++ last ∷ []) → IsTried pages pages2 table (ahead ++ last ∷ []) tail joined → IsOptionTry pages2 pages3 table (Some last.page) joined2
        → JoinsLeaves pages pages3 table ((ahead ++ last ∷ []) ++ tail) (joined + joined2)
    settled_last ahead last filled t try =
        let run : IsLooseRun pages2 table (ahead ++ last ∷ t.tail2) = subst (IsLooseRun pages2 table) (append_assoc ahead (last ∷ []) t.tail2) t.rewrites.run in
        let w = try ahead last t.tail2 run refl t.filled in
        let j = w.2 in
        subst (λ (ls : List Leaf). JoinsLeaves pages pages3 table ls (joined + joined2)) (sym (append_assoc ahead (last ∷ []) tail)) (record {
          leaves2 = ahead ++ j.here ∷ j.rest;
          rewrites = rewrites_on pages pages2 pages3 table ((ahead ++ last ∷ []) ++ t.tail2) (ahead ++ j.here ∷ j.rest) t.rewrites j.rewrites;
          rows = run_rows-append ahead (j.here ∷ j.rest) ∙ ap (λ (rs : List Row). run_rows ahead ++ rs) (j.rows ∙ ap (λ (rs : List Row). last.rows ++ rs) t.rows) ∙ sym (run_rows-append ahead (last ∷ tail));
          begins = first_same pages pages2 table ahead (j.here ∷ j.rest) (last ∷ tail) j.page;
          filled = filled_on ahead last j.here j.rest j.grown filled j.filled;
          count = (let n = w.1 in let m = j.count in let k = t.count in omega (arith, length-append ahead (j.here ∷ j.rest), length-append ahead (last ∷ tail)));
        })

    -- the last try, of the leaf before the change
    pub settled_by : (front : List Leaf) (before : Option ℕ) → Neighbours LeavesFillTwo front → before ≡ last_page front → IsTried pages pages2 table front tail joined → IsOptionTry pages2 pages3 table before joined2
        → JoinsLeaves pages pages3 table (front ++ tail) (joined + joined2)
    settled_by front before filled before_is tried try = by_last (last_of front) where
      by_last : (front ≡ []) ⊎ ((ahead : List Leaf) × (last : Leaf) × (front ≡ ahead ++ last ∷ []) × (last_page front ≡ Some last.page)) → JoinsLeaves pages pages3 table (front ++ tail) (joined + joined2)
      by_last (inl none) =
          subst (λ (ls : List Leaf). JoinsLeaves pages pages3 table (ls ++ tail) (joined + joined2)) (sym none)
          (settled_none (subst (λ (ls : List Leaf). IsTried pages pages2 table ls tail joined) none tried)
          (subst (λ (o : Option ℕ). IsOptionTry pages2 pages3 table o joined2) (before_is ∙ ap last_page none) try))
      by_last (inr l) =
          subst (λ (ls : List Leaf). JoinsLeaves pages pages3 table (ls ++ tail) (joined + joined2)) (sym l.2)
          (settled_last l.0 l.1 (subst (λ (ls : List Leaf). Neighbours LeavesFillTwo ls) l.2 filled) (subst (λ (ls : List Leaf). IsTried pages pages2 table ls tail joined) l.2 tried)
          (subst (λ (o : Option ℕ). IsOptionTry pages2 pages3 table o joined2) (before_is ∙ l.3) try))
