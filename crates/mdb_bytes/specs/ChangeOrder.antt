-- Changes in the order of their places.
--     place_at      the place of a change that was read
--     ascends      whether places ascend, from one on
--     IsChangeRun      bytes are so many changes that ascend
use Rattle.std.specs.Prelude.{◌≡◌, ℕ, List, [], ◌∷◌, Bool, true, ◌&&◌, length, Option, Some, None, option_map, IsTrue}
use Rattle.std.specs.Ordering.{is_lt}
use Rattle.mdb_model.specs.declared.change.Change.{Change}
use Rattle.mdb_model.specs.Tables.{Place, place_cmp, place_of}
use Rattle.mdb_bytes.specs.declared.changes.LoggedPlace.{LoggedPlace}
use Rattle.mdb_bytes.specs.LoggedChanges.{HasChanges}

abbrev pub place_at : LoggedPlace → Place
place_at place = (place.table.0, place.key.now)

abbrev pub last_place : Option LoggedPlace → Option Place
last_place last = option_map place_at last

-- whether a place may stand after the last one, if there is one
abbrev pub place_follows : Option Place → Place → Bool
place_follows None place = true
place_follows (Some last) place = is_lt (place_cmp last place)

abbrev pub ascends : Option Place → List Change → Bool
ascends last [] = true
ascends last (change ∷ changes) =
    place_follows last (place_of change) && ascends (Some (place_of change)) changes

unfoldable pub IsChangeRun : Option Place → ℕ → List ℕ → Type 0
IsChangeRun last n bytes =
    (changes : List Change) × (length changes ≡ n) × IsTrue (ascends last changes)
    × HasChanges bytes changes
