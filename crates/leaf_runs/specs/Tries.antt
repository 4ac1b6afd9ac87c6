-- What is read of a leaf before a join, and what a join of a leaf does where there may be none.
--     IsFilled      the used bytes of a leaf, and the next page
--     IsOptionTry      a leaf was joined with the next one where both go on one page, if there is
--         such a leaf
--     HasOptionHere      there is such a leaf in a run
use Rattle.std.specs.Prelude.{◌≡◌, ℕ, List, ◌∷◌, ◌++◌, Bool, Option, Some, None}
use Rattle.mdb_bytes.specs.TablePages.{RowLeaf, rows_cost}
use Rattle.mdb_bytes.specs.Forms.{Neighbours}
use Rattle.mdb_bytes.specs.Paged.{PageBytes}
use Rattle.leaf_runs.specs.declared.settling.Fill.{Fill}
use Rattle.leaf_runs.specs.Runs.{Leaf, LeavesFillTwo}
use Rattle.leaf_runs.specs.Steps.{IsNamedAt}
use Rattle.leaf_runs.specs.Loose.{IsLooseRun, HasHere, IsJoinTry, one_if}

-- the page is a leaf of the table that uses this number of bytes, and names this page as the next
-- one
abbrev pub IsFilled : PageBytes → (table page : ℕ) → Fill → Type 0
IsFilled pages table page fill =
    (leaf : RowLeaf) × IsNamedAt pages table page leaf × (fill.used ≡ rows_cost leaf.rows)
    × (fill.next ≡ leaf.next)

-- the leaf on the page was tried, and the joins were counted; without a page nothing was done
abbrev pub IsOptionTry : (pages pages2 : PageBytes) → (table : ℕ) → (page : Option ℕ) → (joined : ℕ)
    → Type 0
IsOptionTry pages pages2 table None joined = (pages2 ≡ pages) × (joined ≡ 0)
IsOptionTry pages pages2 table (Some page) joined =
    (front : List Leaf) (here : Leaf) (back : List Leaf)
    → IsLooseRun pages table (front ++ here ∷ back) → here.page ≡ page
    → Neighbours LeavesFillTwo back
    → (met : Bool) × (joined ≡ one_if met) × IsJoinTry pages pages2 table front here back met

-- the page is a leaf of a run, or there is no page
abbrev pub HasOptionHere : PageBytes → (table : ℕ) → Option ℕ → Type 0
HasOptionHere pages table None = Unit {0}
HasOptionHere pages table (Some page) = HasHere pages table page
