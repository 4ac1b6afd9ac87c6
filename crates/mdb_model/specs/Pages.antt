-- Logical pages as plain data.
--     Page, PageMap      the bytes of a page with the number of the savepoint that wrote it last;
--         the pages by number
--     written_after      the pages that were written after a savepoint
--     over      a map with some pages replaced and others gone
--     SameBytes      two maps have the same pages, stamps aside
--     committed      the rows of a map with each open change set back
--     PageReading      what the bytes of a page map mean, which the crate with the grammar of pages
--         says
use Rattle.std.specs.Prelude.{◌≡◌, ℕ, List, [], ◌∷◌, ◌++◌, nat_lt, Option, Some, None, filter, option_map, option_and_then}
use Rattle.std.specs.Ordering.{nat_cmp}
use Rattle.std.specs.FinMap.{FinMap, get, insert, remove, entries, from_entries, from_sorted}
use Rattle.std.specs.FinSet.{FinSet, contains}
use Rattle.mdb_model.specs.Tables.{Place, place_cmp, Tables}

pub record Page : Type 0 where
  pub stamp : ℕ
  pub bytes : List ℕ

abbrev pub PageMap : Type 0
PageMap = FinMap nat_cmp Page

-- the pages with a stamp above a savepoint's number
abbrev pub written_after : ℕ → PageMap → PageMap
written_after savepoint pages =
    from_sorted (filter (λ e. nat_lt savepoint e.1.stamp) (entries pages))

-- the pages of a map whose numbers are in `live`, but those of `changed` in the place of theirs
abbrev pub over : PageMap → PageMap → FinSet nat_cmp → PageMap
over pages changed live =
    from_entries (entries changed ++ filter (λ e. contains live e.0) (entries pages))

-- the same bytes under the same numbers
abbrev pub SameBytes : PageMap → PageMap → Type 0
SameBytes a b =
    (number : ℕ) → option_map (λ page. page.bytes) (get a number)
    ≡ option_map (λ page. page.bytes) (get b number)

pub record PageReading : Type 1 where
  -- the rows as they stand, or none where a key stands twice
  pub standing : PageMap → Option Tables
  -- the row before, or none, of each key that an open transaction changed; none where a key stands
  -- twice
  pub before_images : PageMap → Option (FinMap place_cmp (Option (List ℕ)))
  -- how many pages hold before images
  pub undo_pages : PageMap → ℕ
  -- each page is in its grammar and where it is named, trees are in order, and undo files are whole
  pub IsWellFormed : PageMap → Type 0

-- the rows with these rows set back
abbrev pub set_back : List (Place × Option (List ℕ)) → Tables → Tables
set_back [] tables = tables
set_back ((place, None) ∷ images) tables = set_back images (remove tables place)
set_back ((place, Some value) ∷ images) tables = set_back images (insert tables place value)

-- the committed rows: those that stand, with the before images set back
abbrev pub committed : PageReading → PageMap → Option Tables
committed reading pages =
    option_and_then (λ rows. option_map (λ images. set_back (entries images) rows)
    (reading.before_images pages)) (reading.standing pages)
