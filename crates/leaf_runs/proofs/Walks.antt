-- A walk along a run towards a key.
--     IsWalk      how far the walk has come
--     walk_begins, walk_on, walk_ends      it begins at the first leaf, goes on to the next one, and ends where the key is
use Rattle.std.proofs.Common.{◌≡◌, refl, sym, ap, subst, ◌∙◌, ℕ, ◌+◌, ◌<◌, ◌≤◌, Bool, true, false, T, List, [], ◌∷◌, ◌++◌, length, Option, Some, None, arith, append_assoc, inl, inr, length-append}
use Rattle.std.specs.Prelude.{min}
use Rattle.std.specs.FinMap.{is_sorted}
use Rattle.std.specs.FinMap.Entries.{below_all}
use Rattle.mdb_bytes.specs.declared.logical_pages.CatalogueEntry.{CatalogueEntry}
use Rattle.mdb_bytes.specs.TablePages.{Row, RowLeaf}
use Rattle.mdb_bytes.specs.Paged.{PageBytes}
use Rattle.row_page.specs.Entries.{by_bytes}
use Rattle.leaf_runs.specs.declared.leaf.Sight.{Sight}
use Rattle.leaf_runs.specs.Leaves.{all_below}
use Rattle.leaf_runs.specs.Sights.{BelongsHere}
use Rattle.leaf_runs.specs.Runs.{Leaf, run_rows, first_page, last_page, leaf_at, leaf_value, LeafStands, IsChain, IsTableRun, HasRunLeaf, IsSeen, IsSpot}
use Rattle.leaf_runs.proofs.RowLists.{sorted_right, above_rest, all_left}
use Rattle.leaf_runs.proofs.Chains.{run_rows-append, chain_right, chain_len}
use Rattle.leaf_runs.proofs.Places.{run_leaf_there, some_same}

-- the last page of leaves is that of the last one
pub last_page-append : (front : List Leaf) (leaf : Leaf) → last_page (front ++ leaf ∷ []) ≡ Some leaf.page
last_page-append [] leaf = refl
last_page-append (x ∷ []) leaf = refl
last_page-append (x ∷ y ∷ front) leaf = last_page-append (y ∷ front) leaf

-- the walk has passed the front leaves, whose keys are below the key, and stands at a leaf
pub record IsWalk (leaves : List Leaf) (key : List ℕ) (before : Option ℕ) (page count : ℕ) : Type 0 where
  pub front : List Leaf
  pub here : Leaf
  pub back : List Leaf
  pub whole : leaves ≡ front ++ here ∷ back
  pub before_is : before ≡ last_page front
  pub page_is : here.page ≡ page
  pub lower : all_below key (run_rows front) ≡ true
  pub passed : length front ≡ count

module _ (pages : PageBytes) (table : ℕ) (entry : CatalogueEntry) (leaves : List Leaf) (key : List ℕ) (run : IsTableRun pages table entry leaves) where
  pub walk_begins : 0 < length leaves → IsWalk leaves key None entry.root 0
  walk_begins some = by_leaves leaves refl some where
    by_leaves : (ls : List Leaf) → leaves ≡ ls → 0 < length ls → IsWalk leaves key None entry.root 0
    by_leaves [] is some = absurd (omega arith)
    by_leaves (l ∷ ls) is some = record { front = []; here = l; back = ls; whole = is; before_is = refl; page_is = sym (run.begins ∙ ap first_page is); lower = refl; passed = refl }

  module _ (before : Option ℕ) (page count : ℕ) (walk : IsWalk leaves key before page count) where
    stands : LeafStands pages table walk.here (first_page walk.back) × IsChain pages table walk.back
    stands = chain_right pages table walk.front (walk.here ∷ walk.back) (subst (IsChain pages table) walk.whole run.linked)

    -- the leaf where the walk stands passes the test
    pub walk_leaf : HasRunLeaf pages table page
    walk_leaf = subst (HasRunLeaf pages table) walk.page_is (run_leaf_there pages table (first_page walk.back) walk.here stands.0)

    pub walk_within : count < length leaves
    walk_within = let n = ap length walk.whole in let m = walk.passed in omega (arith, length-append walk.front (walk.here ∷ walk.back))

    value_is : (leaf : RowLeaf) → leaf_at pages page ≡ Some leaf → leaf ≡ leaf_value table walk.here (first_page walk.back)
    value_is leaf is = some_same (leaf_at pages page) leaf _ is (subst (λ (n : ℕ). leaf_at pages n ≡ Some (leaf_value table walk.here (first_page walk.back))) walk.page_is stands.0.there)

    rows_up : T (is_sorted by_bytes (walk.here.rows ++ run_rows walk.back))
    rows_up =
        sorted_right (run_rows walk.front) (walk.here.rows ++ run_rows walk.back)
        (subst (λ (rs : List Row). T (is_sorted by_bytes rs)) (ap run_rows walk.whole ∙ run_rows-append walk.front (walk.here ∷ walk.back)) run.in_order)

    -- the walk ends where the key stands
    pub walk_ends : (sight : Sight) → IsSeen pages page key sight → sight.is_here ≡ true → IsSpot leaves key before page
    walk_ends sight seen here = by_cause (subst (λ (b : Bool). BelongsHere b seen.0 key) here seen.2.0) where
      same : seen.0 ≡ leaf_value table walk.here (first_page walk.back)
      same = value_is seen.0 seen.1

      spot : T (below_all by_bytes key (run_rows walk.back)) → IsSpot leaves key before page
      spot higher = record { front = walk.front; here = walk.here; back = walk.back; whole = walk.whole; before_is = walk.before_is; page_is = walk.page_is; lower = walk.lower; higher = higher }

      last : (back : List Leaf) → IsChain pages table back → first_page back ≡ 0 → T (below_all by_bytes key (run_rows back))
      last [] chain none = tt
      last (l ∷ ls) chain none = let real = chain.0.real in absurd (omega arith)

      by_cause : BelongsHere true seen.0 key → IsSpot leaves key before page
      by_cause (inl none) = spot (last walk.back stands.1 (sym (ap (λ (v : RowLeaf). v.next) same) ∙ none))
      by_cause (inr some) = spot (above_rest key walk.here.rows (run_rows walk.back) rows_up (ap (λ (v : RowLeaf). all_below key v.rows) (sym same) ∙ some))

    -- or goes on to the next leaf
    pub walk_on : (sight : Sight) → IsSeen pages page key sight → sight.is_here ≡ false → IsWalk leaves key (Some page) sight.next (count + 1)
    walk_on sight seen here = by_back walk.back refl stands.1 where
      same : seen.0 ≡ leaf_value table walk.here (first_page walk.back)
      same = value_is seen.0 seen.1

      behind : BelongsHere false seen.0 key
      behind = subst (λ (b : Bool). BelongsHere b seen.0 key) here seen.2.0

      by_back : (back : List Leaf) → walk.back ≡ back → IsChain pages table back → IsWalk leaves key (Some page) sight.next (count + 1)
      by_back [] is chain = absurd (behind.0 (ap (λ (v : RowLeaf). v.next) same ∙ ap first_page is))
      by_back (l ∷ ls) is chain = record {
        front = walk.front ++ walk.here ∷ [];
        here = l;
        back = ls;
        whole = walk.whole ∙ ap (λ (b : List Leaf). walk.front ++ walk.here ∷ b) is ∙ sym (append_assoc walk.front (walk.here ∷ []) (l ∷ ls));
        before_is = ap Some (sym walk.page_is) ∙ sym (last_page-append walk.front walk.here);
        page_is = sym (seen.2.1 ∙ ap (λ (v : RowLeaf). v.next) same ∙ ap first_page is);
        lower = subst (λ (rs : List Row). all_below key rs ≡ true) (sym (run_rows-append walk.front (walk.here ∷ [])))
            (all_left key (run_rows walk.front) (walk.here.rows ++ []) walk.lower (all_left key walk.here.rows [] (ap (λ (v : RowLeaf). all_below key v.rows) (sym same) ∙ behind.1) refl));
        passed = (let n = walk.passed in omega (arith, length-append walk.front (walk.here ∷ [])));
      }

  -- the walk does not come to the end of what the catalogue says
  pub walk_over : (before : Option ℕ) (page count : ℕ) → IsWalk leaves key before page count → min entry.pages 65536 ≤ count → ⊥
  walk_over before page count walk over =
      let inside = walk_within before page count walk in
      let most = chain_len pages table leaves run.linked in
      let all = run.count in
      omega arith
