use Rattle.std.proofs.Common.{◌≡◌, ℕ, ◌≤◌, ◌<◌}
use Rattle.std.specs.Prelude.{slice_index}
use Rattle.mdb_model.specs.Space.{table_cost}
use Rattle.page_store.specs.Steps.{KeepsStore}
use Rattle.store_rows.specs.StoredRows.{stored_rows, HasRows}
use Rattle.space_rule.specs.Spaces.{known_costs}
use Rattle.open_database.specs.Costs.{IsLoaded}
use Rattle.open_database.proofs.sizes.load_costs.Given as goal

abbrev pub invariant-loop-number : goal.invariant-loop-number
invariant-loop-number g l = record {
  kept : IsLoaded (known_costs l.fn.space) (known_costs l.space);
  told : HasRows g.H.Host.tells l.fn.store (g.H.Host.disk l.fn.host).seen → (table : ℕ) → 1 ≤ table → table < l.number → slice_index (known_costs l.space).committed table
      ≡ table_cost (stored_rows l.fn.store (g.H.Host.disk l.fn.host).seen) (stored_rows l.fn.store (g.H.Host.disk l.fn.host).seen) table;
  same : HasRows g.H.Host.tells l.fn.store (g.H.Host.disk l.fn.host).seen
      → HasRows g.H.Host.tells l.store (g.H.Host.disk l.host).seen × (stored_rows l.store (g.H.Host.disk l.host).seen ≡ stored_rows l.fn.store (g.H.Host.disk l.fn.host).seen);
  later : g.H.Host.faults l.fn.host ≤ g.H.Host.faults l.host;
  keeps : KeepsStore g.H.Host.tells l.fn.store l.store (g.H.Host.disk l.fn.host) (g.H.Host.disk l.host);
  say_faults : g.H.Host.say_faults l.host ≡ g.H.Host.say_faults l.fn.host;
}
