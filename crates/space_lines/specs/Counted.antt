-- What the space rule knows, against the world that sessions work on.
--     AreaIsCounted      the stage at which the space rule is asked
--     IsCounted      it knows what the world needs, and there is room for it
use Rattle.std.specs.Prelude.{◌≡◌, ℕ, ◌+◌, ◌<◌, ◌≤◌, true, false, length, IsTrue}
use Rattle.mdb_model.specs.History.{tables_of}
use Rattle.mdb_model.specs.Space.{need, has_room, kept_for_snapshots, kept_for_backup}
use Rattle.mdb_model.specs.Stages.{rows_in_memory}
use Rattle.mdb_model.specs.Steps.{has_changes}
use Rattle.mdb_model.specs.Worlds.{World}
use Rattle.space_rule.specs.KnownCosts.{KnownCosts}
use Rattle.known_needs.specs.KnownNeeds.{IsKnownOf}
use Rattle.session_room.specs.SessionRoom.{ChangesAreApart}

-- the rows stand on pages, so an area may be full
abbrev pub AreaIsCounted : Type 0
AreaIsCounted = rows_in_memory ≡ false

-- the space rule knows what the world needs, and there is room for it
pub record IsCounted (known : KnownCosts) (w : World) : Type 0 where
  pub known_of : IsKnownOf known w
  -- there is a cost for each table, and there are changes for each session
  pub tables : 500 < length known.committed
  pub numbers : 64 < length known.sessions
  -- no two sessions have changed the same place
  pub apart : ChangesAreApart w
  -- the committed rows have room as they are
  pub rows_fit : has_room (tables_of w.history) (tables_of w.history) 0
      (kept_for_snapshots w + kept_for_backup w) w.blocks ≡ true
  -- while a session has changes there is room for those of all, and for a savepoint
  pub changes_fit : (session : ℕ) → IsTrue (has_changes w session) → need w + 160 ≤ w.blocks
