-- The running sums of the space rule.
--     lists      the changes of each session
--     IsInOrder      the changes of a session stand by table and key, and are of tables that there
--         are
--     AreSums      the running sums are those from scratch, and small enough to be counted on
--     HasChangeRoom      each session has room for one more change
use Rattle.std.specs.Prelude.{◌≡◌, ℕ, ◌+◌, ◌^◌, ◌<◌, ◌≤◌}
use Rattle.std.specs.Prelude.{List, length, map, Vec, vec_len, vec_capacity, IsTrue, sum_by}
use Rattle.std.specs.Prelude.{slice_index, slice_index_or}
use Rattle.std.specs.declared.alloc.Global.{Global}
use Rattle.mdb_model.specs.Tables.{place_cmp}
use Rattle.mdb_bytes.specs.Fields.{rises}
use Rattle.space_rule.specs.declared.open_change.OpenChange.{OpenChange}
use Rattle.space_rule.specs.KnownCosts.{open_place, changes_at, growth_of, all_table_pages, undo_of, undo_cost}

-- the changes of each session
abbrev pub lists : List (Vec OpenChange Global) → List (List OpenChange)
lists sessions = map (λ changes. changes.items) sessions

pub record IsInOrder (changes : List OpenChange) : Type 0 where
  pub ascend : IsTrue (rises place_cmp (map open_place changes))
  pub tables : (i : ℕ) (d : OpenChange) → i < length changes
      → (1 ≤ (slice_index_or changes i d).table.0) × ((slice_index_or changes i d).table.0 ≤ 500)

pub record AreSums (committed grown : List ℕ) (sessions : List (List OpenChange))
    (undo_bytes : List ℕ) (pages undo : ℕ) : Type 0 where
  pub many_tables : (length committed ≡ 501) × (length grown ≡ 501)
  pub many_sessions : (length sessions ≡ 65) × (length undo_bytes ≡ 65)
  pub costs_small : (table : ℕ) → table < 501
      → slice_index committed table + slice_index grown table < 2 ^ 62
  pub grown_is : (table : ℕ) → table < 501 → slice_index grown table ≡ growth_of table sessions
  pub bytes_small : (session : ℕ) → session < 65 → slice_index undo_bytes session < 2 ^ 62
  pub bytes_are : (session : ℕ) → session < 65
      → slice_index undo_bytes session ≡ sum_by undo_cost (changes_at sessions session)
  pub pages_is : pages ≡ all_table_pages committed sessions
  pub undo_is : undo ≡ undo_of sessions
  pub undo_small : undo ≤ 2 ^ 32
  pub pages_small : pages ≤ 2 ^ 61
  pub in_order : (session : ℕ) → session < 65 → IsInOrder (changes_at sessions session)

-- each session has room for one more change
abbrev pub HasChangeRoom : List (Vec OpenChange Global) → Type 0
HasChangeRoom sessions =
    (session : ℕ) (d : Vec OpenChange Global) → session < 65
    → vec_len (slice_index_or sessions session d) < vec_capacity (slice_index_or sessions session d)
