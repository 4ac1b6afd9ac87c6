-- What the space rule knows of a world.
--     length_before      the length of the value that a change replaces
--     length_seen      the length of the value that a session sees there
--     opened_one, opened      a change, and the last changes of a session, with the lengths before
--         and now
--     nothing_known      what is known at first
--     IsKnownOf      the blocks, the committed costs and the open changes are those of the world
use Rattle.std.specs.Prelude.{◌≡◌, ℕ, ◌+◌, ◌<◌, ◌≤◌, List, [], length, map, replicate}
use Rattle.std.specs.Prelude.{slice_index, Option, None, option_map, IsSome}
use Rattle.std.specs.FinMap.{get}
use Rattle.mdb_model.specs.declared.change.Change.{Change}
use Rattle.mdb_model.specs.History.{tables_of}
use Rattle.mdb_model.specs.Sessions.{net_changes, visible}
use Rattle.mdb_model.specs.Space.{table_cost, kept_for_snapshots, kept_for_backup}
use Rattle.mdb_model.specs.Tables.{Tables, place_of}
use Rattle.mdb_model.specs.Worlds.{World, transaction}
use Rattle.space_rule.specs.declared.open_change.OpenChange.{OpenChange}
use Rattle.space_rule.specs.KnownCosts.{KnownCosts, changes_at, opened_change}

-- the length of the value at the place of a change, in the rows before it
abbrev pub length_before : Tables → Change → Option ℕ
length_before tables change =
    option_map (λ value. length value) (get tables (place_of change))

-- the length of the value that a session sees at the place of a change
abbrev pub length_seen : World → (session : ℕ) → Change → Option ℕ
length_seen w session change = length_before (visible w session) change

-- a change with the lengths before and now
abbrev pub opened_one : Tables → Change → OpenChange
opened_one tables change = opened_change change (length_before tables change)

-- the last change of each key, by table and key, with the lengths before and now
abbrev pub opened : Tables → List Change → List OpenChange
opened tables changes = map (opened_one tables) (net_changes changes)

-- what is known at first of an area of this many blocks
abbrev pub nothing_known : (blocks : ℕ) → KnownCosts
nothing_known blocks = record {
  blocks = blocks;
  kept = 0;
  committed = replicate 501 0;
  sessions = replicate 65 [];
  prepared = None;
}

-- what is known is of this world
pub record IsKnownOf (known : KnownCosts) (w : World) : Type 0 where
  pub blocks : known.blocks ≡ w.blocks
  pub kept : known.kept ≡ kept_for_snapshots w + kept_for_backup w
  pub committed : (table : ℕ) → 1 ≤ table → table ≤ 500
      → slice_index known.committed table
      ≡ table_cost (tables_of w.history) (tables_of w.history) table
  pub sessions : (session : ℕ) → changes_at known.sessions session
      ≡ opened (tables_of w.history) (transaction w session).changes
  pub numbers : (session : ℕ) → IsSome (get w.sessions session) → session < length known.sessions
