-- A savepoint inside a commit, as the rows of its map show it.
--     AllApart, places_of      no place stands twice; the places of changes
--     IsFirstPart      tables with a first part of the next commit set
--     MapHasRows      a map has these rows, and no before images
use Rattle.std.specs.Prelude.{◌≡◌, ◌≢◌, List, [], ◌∷◌, ◌++◌, map, Some, ◌≤◌, max}
use Rattle.std.specs.List.{AllByRecursion}
use Rattle.mdb_model.specs.declared.change.Change.{Change}
use Rattle.mdb_model.specs.declared.change.Commit.{Commit}
use Rattle.mdb_model.specs.Pages.{committed}
use Rattle.mdb_model.specs.Space.{cost_at}
use Rattle.mdb_model.specs.Tables.{Place, Tables, place_of, with_changes}
use Rattle.mdb_bytes.specs.KeptMaps.{KeptMap}
use Rattle.mdb_bytes.specs.Forms.{reading}
use Rattle.mdb_bytes.specs.PageReadings.{all_images}

-- no place stands twice
abbrev pub AllApart : List Place → Type 0
AllApart [] = Unit {0}
AllApart (p ∷ ps) = AllByRecursion (λ q. p ≢ q) ps × AllApart ps

abbrev pub places_of : List Change → List Place
places_of changes = map place_of changes

-- the tables with a first part of the next commit set: with none of it, with some changes, or with
-- all
abbrev pub IsFirstPart : (before : Tables) → (next : List Commit) → (now : Tables) → Type 0
IsFirstPart before [] now = now ≡ before
IsFirstPart before (commit ∷ commits) now =
    (set : List Change) × (rest : List Change) × (commit.changes ≡ set ++ rest)
    × AllApart (places_of commit.changes) × (now ≡ with_changes set before)

-- the map has these rows, and no before images
pub record MapHasRows (kept : KeptMap) (rows : Tables) : Type 0 where
  pub standing : reading.standing kept.pages ≡ Some rows
  pub committed_rows : committed reading kept.pages ≡ Some rows
  pub no_undo_pages : reading.undo_pages kept.pages ≡ 0
  pub no_images : all_images kept.pages ≡ []

-- at each place the larger cost of two is at most the larger of two others
abbrev pub NoMoreCost : (a b c d : Tables) → Type 0
NoMoreCost a b c d = (p : Place) → max (cost_at a p) (cost_at b p) ≤ max (cost_at c p) (cost_at d p)
