-- What is kept of the changes of a transaction.
--     seen_row      the value of a row to a transaction that changed it last so, or not at all
--     seen_length      the length of that value
--     keyed_change      a change under its place
--     AreNet      the last change of each key, within the limits of a group
--     AreNetByPlace, net_code      the last change of each key, within the limits of a group; how
--         these are stored
use Rattle.std.specs.Prelude.{◌≡◌, ℕ, ◌≤◌, List, length, map, Option, Some, None, option_map, IsTrue}
use Rattle.std.specs.List.{list_all}
use Rattle.std.specs.Coded.{Coded, coded×, coded_ℕ, coded_list}
use Rattle.std.specs.FinMap as fin
use Rattle.std.specs.Map.{values_of}
use Rattle.mdb_model.specs.declared.change.Change.{Change}
use Rattle.mdb_model.specs.declared.change.Change.TheVariants.{Put, Del}
use Rattle.mdb_model.specs.contracts.change.Change.{the_row}
use Rattle.mdb_model.specs.Tables.{Place, place_cmp, place_of}
use Rattle.mdb_model.specs.Sessions.{group_bytes}
use Rattle.mdb_bytes.specs.Fields.{rises}
use Rattle.mdb_bytes.specs.Groups.{change_fits, longest_group}

-- the transaction's own change first, and else the committed row
abbrev pub seen_row : Option Change → Option (List ℕ) → Option (List ℕ)
seen_row (Some (Put table key value)) committed = Some value
seen_row (Some (Del table key)) committed = None
seen_row None committed = committed

-- the length of that value
abbrev pub seen_length : Option Change → Option (List ℕ) → Option ℕ
seen_length change committed = option_map (λ value. length value) (seen_row change committed)

abbrev pub place_code : Coded Place
place_code = coded× coded_ℕ (coded_list coded_ℕ)

-- a change under its place
abbrev pub keyed_change : Change → Place × Change
keyed_change change = (place_of change, change)

-- one change of each key, by table and key, each within its limits, and all of them in one group
pub record AreNet (changes : List Change) : Type 0 where
  pub ascend : IsTrue (rises place_cmp (map place_of changes))
  pub each_fits : IsTrue (list_all change_fits changes)
  pub fit : group_bytes changes ≤ longest_group

-- net changes, each under its own place
pub record AreNetByPlace (entries : List (Place × Change)) : Type 0 where
  pub own : entries ≡ map keyed_change (values_of entries)
  pub net : AreNet (values_of entries)

abbrev pub net_code : Coded (fin.FinMap place_cmp Change)
net_code = fin.code place_code the_row.coded
