-- What the space rule knows, and the need that follows from it.
--     KnownCosts      the blocks, the committed costs of the tables, the changes that are not
--         committed
--     open_table_cost, all_table_pages, undo_of, logical_size, need_of      the sums of the space
--         rule, from scratch
--     noted, ended, prepared_for, loaded, with_area      what is known after each call
use Rattle.std.specs.Prelude.{ℕ, ◌+◌, ◌-◌, ◌*◌, [], ◌∷◌, ◌==◌, if◌then◌else◌}
use Rattle.std.specs.Prelude.{List, length, Bool, true, false, Option, Some, None, unwrap_or}
use Rattle.std.specs.Prelude.{sum_by, slice_index, slice_index_or, slice_set}
use Rattle.std.specs.declared.cmp.Ordering.{Ordering}
use Rattle.std.specs.declared.cmp.Ordering.TheVariants.{Less, Equal, Greater}
use Rattle.mdb_model.specs.declared.change.Change.{Change}
use Rattle.mdb_model.specs.declared.change.Change.TheVariants.{Put, Del}
use Rattle.mdb_model.specs.Space.{ceil_div, table_pages, converter_pages, every_table}
use Rattle.mdb_model.specs.Tables.{Place, place_cmp}
use Rattle.space_rule.specs.declared.open_change.OpenChange.{OpenChange}

-- what is known: the committed cost of each table at its number; at each session's number its
-- changes, one for each key, by table and key; and the place for whose change memory was taken
pub record KnownCosts : Type 0 where
  pub blocks : ℕ
  pub kept : ℕ
  pub committed : List ℕ
  pub sessions : List (List OpenChange)
  pub prepared : Option Place

abbrev pub open_place : OpenChange → Place
open_place x = (x.table.0, x.key)

-- what a row costs whose key and value have these lengths, and 0 where there is no row
abbrev pub cost_of_lengths : ℕ → Option ℕ → ℕ
cost_of_lengths key None = 0
cost_of_lengths key (Some len) = 8 + key + len

abbrev pub cost_before : OpenChange → ℕ
cost_before x = cost_of_lengths (length x.key) x.before

abbrev pub cost_now : OpenChange → ℕ
cost_now x = cost_of_lengths (length x.key) x.now

-- what the larger of the two costs is more than the cost before
abbrev pub growth : OpenChange → ℕ
growth x = cost_now x - cost_before x

-- the cost of the image of the row before the change
abbrev pub undo_cost : OpenChange → ℕ
undo_cost x = 16 + length x.key + unwrap_or x.before 0

-- the growth of a table by a change
abbrev pub growth_on : ℕ → OpenChange → ℕ
growth_on table x = if x.table.0 == table then growth x else 0

-- the growth of a table by the changes of all sessions
abbrev pub growth_of : ℕ → List (List OpenChange) → ℕ
growth_of table sessions = sum_by (λ changes. sum_by (growth_on table) changes) sessions

-- the cost of a table, at each key the larger of the committed and the open one
abbrev pub open_table_cost : List ℕ → List (List OpenChange) → ℕ → ℕ
open_table_cost committed sessions table = slice_index committed table + growth_of table sessions

-- the pages of all tables
abbrev pub all_table_pages : List ℕ → List (List OpenChange) → ℕ
all_table_pages committed sessions =
    sum_by (λ table. table_pages (open_table_cost committed sessions table)) every_table

-- the undo pages for before images of n bytes; without changes there are none
abbrev pub undo_pages_for : ℕ → ℕ
undo_pages_for bytes = if bytes == 0 then 0 else 1 + ceil_div (2 * bytes) 8128

-- the undo pages of a session, and of all
abbrev pub session_undo : List OpenChange → ℕ
session_undo changes = undo_pages_for (sum_by undo_cost changes)

abbrev pub undo_of : List (List OpenChange) → ℕ
undo_of sessions = sum_by session_undo sessions

-- the logical pages
abbrev pub logical_size : KnownCosts → ℕ
logical_size known = all_table_pages known.committed known.sessions + undo_of known.sessions + 2

-- the blocks
abbrev pub need_of : KnownCosts → ℕ
need_of known = 2 + logical_size known + 2 * converter_pages known.blocks + known.kept

-- the changes of a session
abbrev pub changes_at : List (List OpenChange) → ℕ → List OpenChange
changes_at sessions session = slice_index_or sessions session []

-- a change beside the first of others, by how that one stands to it
abbrev pub open_by : Ordering → OpenChange → OpenChange → List OpenChange → List OpenChange
    → List OpenChange
open_by Less x y ys more = y ∷ more
open_by Equal x y ys more = record y { now = x.now } ∷ ys
open_by Greater x y ys more = x ∷ y ∷ ys

-- the changes with one more: an earlier one of its key keeps what was before and gets what is now
abbrev pub with_open : OpenChange → List OpenChange → List OpenChange
with_open x [] = x ∷ []
with_open x (y ∷ ys) = open_by (place_cmp (open_place y) (open_place x)) x y ys (with_open x ys)

-- a change of a row whose value had this length before
abbrev pub opened_change : Change → Option ℕ → OpenChange
opened_change (Put table key value) before =
    record { table = table; key = key; before = before; now = Some (length value) }
opened_change (Del table key) before = record
    { table = table; key = key; before = before; now = None }

-- a session has one more change
abbrev pub with_noted : List (List OpenChange) → (session : ℕ) → Change → (before : Option ℕ)
    → List (List OpenChange)
with_noted sessions session change before =
    slice_set sessions session (with_open (opened_change change before)
    (changes_at sessions session))

abbrev pub noted : KnownCosts → (session : ℕ) → Change → (before : Option ℕ) → KnownCosts
noted known session change before =
    record known { sessions = with_noted known.sessions session change before; prepared = None }

-- a committed change puts the cost that its row has now in place of the cost before
abbrev pub with_settled_cost : OpenChange → List ℕ → List ℕ
with_settled_cost x committed =
    slice_set committed x.table.0 ((slice_index committed x.table.0 + cost_now x) - cost_before x)

-- committed changes, the last one first
abbrev pub with_settled : List OpenChange → List ℕ → List ℕ
with_settled [] committed = committed
with_settled (x ∷ xs) committed = with_settled_cost x (with_settled xs committed)

-- the committed costs after a transaction with these changes
abbrev pub costs_after : (is_commit : Bool) → List OpenChange → List ℕ → List ℕ
costs_after true changes committed = with_settled changes committed
costs_after false changes committed = committed

-- a session's transaction was committed, or rolled back
abbrev pub ended : KnownCosts → (session : ℕ) → (is_commit : Bool) → KnownCosts
ended known session is_commit = record known {
  committed = costs_after is_commit (changes_at known.sessions session) known.committed;
  sessions = slice_set known.sessions session [];
  prepared = None;
}

-- the committed cost of a table
abbrev pub loaded : KnownCosts → (table bytes : ℕ) → KnownCosts
loaded known table bytes = record known { committed = slice_set known.committed table bytes }

-- another area
abbrev pub with_area : KnownCosts → (blocks kept : ℕ) → KnownCosts
with_area known blocks kept = record known { blocks = blocks; kept = kept }

-- memory was taken for a change of the place
abbrev pub prepared_for : KnownCosts → Option Place → KnownCosts
prepared_for known place = record known { prepared = place }
