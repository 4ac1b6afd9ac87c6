-- The pages of a frozen map, in the order in which they are copied.
--     is_after      whether a page comes after another, or is any page
--     pages_left      the pages that are still to be copied
--     AllStamped      each page was written by some savepoint
--     IsFirstOf      the number of the first of some pages, or that there are none
use Rattle.std.specs.Prelude.{All, ◌<◌, ◌≡◌, ℕ, List, [], ◌∷◌, Bool, true, nat_lt, Option, Some, None, filter}
use Rattle.std.specs.FinMap.{entries}
use Rattle.mdb_model.specs.Pages.{Page, PageMap, written_after}

-- whether a page comes after this one, or after none
abbrev pub is_after : Option ℕ → (page : ℕ) → Bool
is_after None page = true
is_after (Some last) page = nat_lt last page

-- the pages after this one that were written after a savepoint, by ascending number
abbrev pub pages_left : (base : ℕ) (last : Option ℕ) → PageMap → List (ℕ × Page)
pages_left base last pages = filter (λ e. is_after last e.0) (entries (written_after base pages))

-- each page was written by some savepoint
abbrev pub AllStamped : PageMap → Type 0
AllStamped pages = All (λ e. 0 < e.1.stamp) (entries pages)

-- it is the number of the first of these pages, or there are none
abbrev pub IsFirstOf : Option ℕ → List (ℕ × Page) → Type 0
IsFirstOf None pages = pages ≡ []
IsFirstOf (Some number) pages =
    (page : Page) × (rest : List (ℕ × Page)) × (pages ≡ (number, page) ∷ rest)
