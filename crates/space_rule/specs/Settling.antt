-- The sums of the space rule without the last change of a session, once it ended.
use Rattle.std.specs.Prelude.{◌≡◌, ℕ, ◌+◌, ◌-◌, List, Bool, slice_index, slice_set, if◌then◌else◌}
use Rattle.space_rule.specs.declared.open_change.OpenChange.{OpenChange}
use Rattle.space_rule.specs.declared.space.calls.Settled.{Settled}
use Rattle.space_rule.specs.KnownCosts.{cost_before, cost_now, growth as growth_by, undo_cost, all_table_pages}
use Rattle.space_rule.specs.KnownCosts.{undo_of}

-- the sums where the changes of the session are these and one more, which ended
pub record IsChangeSettled (committed grown : List ℕ) (sessions : List (List OpenChange))
    (undo_bytes : List ℕ) (session : ℕ) (is_commit : Bool) (xs : List OpenChange) (x : OpenChange)
    (s : Settled) : Type 0 where
  pub index : s.index ≡ x.table.0
  pub cost : s.committed
      ≡ (if is_commit then (slice_index committed x.table.0 + cost_now x) - cost_before x
      else slice_index committed x.table.0)
  pub growth : s.weight.grown ≡ slice_index grown x.table.0 - growth_by x
  pub bytes : s.weight.bytes ≡ slice_index undo_bytes session - undo_cost x
  pub pages : s.pages
      ≡ all_table_pages (slice_set committed x.table.0 s.committed) (slice_set sessions session xs)
  pub undo : s.undo ≡ undo_of (slice_set sessions session xs)
