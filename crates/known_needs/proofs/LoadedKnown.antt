-- What is known where the committed costs are loaded.
--     loaded_known      it is of a database without sessions
use Rattle.std.proofs.Common.{◌≡◌, sym, ap, ◌∙◌, ℕ, ◌+◌, ◌≤◌, List, [], map, None, is_some, arith}
use Rattle.std.specs.Prelude.{option_map, slice_index, sum_by, unwrap_or}
use Rattle.std.specs.Ordering.{nat_cmp}
use Rattle.std.specs.FinMap.{FinMap, empty, get, values, get-empty}
use Rattle.std.proofs.lemmas.Bool.{false≢true}
use Rattle.mdb_model.specs.History.{tables_of}
use Rattle.mdb_model.specs.Space.{table_cost, kept_for_snapshots, kept_for_backup, converter_pages}
use Rattle.mdb_model.specs.Worlds.{World, Transaction, Snapshot, no_transaction}
use Rattle.mdb_model.proofs.Computing.{entries-empty}
use Rattle.space_rule.specs.KnownCosts.{KnownCosts, changes_at}
use Rattle.known_needs.specs.KnownNeeds.{IsKnownOf, opened}
use Rattle.known_needs.proofs.LastChanges.{opened_none}

-- what is known after the costs were loaded is known of a database without sessions
pub loaded_known : (known : KnownCosts) (w : World) → known.blocks ≡ w.blocks → known.kept ≡ 0 → w.snapshots ≡ empty → w.backup_task ≡ None → w.sessions ≡ empty
    → ((table : ℕ) → 1 ≤ table → table ≤ 500 → slice_index known.committed table ≡ table_cost (tables_of w.history) (tables_of w.history) table)
    → ((session : ℕ) → changes_at known.sessions session ≡ [])
    → IsKnownOf known w
loaded_known known w blocks kept no_snapshots no_task no_sessions committed none =
    let for_snapshots : kept_for_snapshots w ≡ 0 =
    ap (λ (m : FinMap nat_cmp Snapshot). sum_by (λ s. s.size + converter_pages w.blocks) (values m)) no_snapshots
    ∙ ap (λ (es : List (ℕ × Snapshot)). sum_by (λ s. s.size + converter_pages w.blocks) (map (λ e. e.1) es)) (entries-empty {X = Snapshot} nat_cmp) in
    let for_task : kept_for_backup w ≡ 0 = ap (λ o. unwrap_or (option_map (λ task. task.size + converter_pages w.blocks) o) 0) no_task in
    let nobody : (session : ℕ) → get w.sessions session ≡ None = λ session. ap (λ (m : FinMap nat_cmp Transaction). get m session) no_sessions ∙ get-empty {X = Transaction} nat_cmp session in
    record {
      blocks = blocks;
      kept = omega (arith, kept, for_snapshots, for_task);
      committed = committed;
      sessions = λ session. none session
          ∙ sym (ap (λ o. opened (tables_of w.history) (unwrap_or o no_transaction).changes) (nobody session) ∙ opened_none (tables_of w.history));
      numbers = λ session there. absurd (false≢true (ap is_some (sym (nobody session)) ∙ there));
    }
