-- What is kept for snapshots and backups: nothing yet.
--     kept_none      no snapshot and no backup, so nothing
use Rattle.std.proofs.Common.{◌≡◌, ap, ◌∙◌, ℕ, ◌+◌, map, Option, None, arith}
use Rattle.std.specs.Prelude.{sum_by, option_map, unwrap_or}
use Rattle.std.specs.FinMap.{FinMap, empty, values}
use Rattle.std.specs.Ordering.{nat_cmp}
use Rattle.mdb_model.proofs.Computing.{entries-empty}
use Rattle.mdb_model.specs.Space.{kept_for_snapshots, kept_for_backup, converter_pages}
use Rattle.mdb_model.specs.Worlds.{World, Snapshot, BackupTask}

no_snapshots : (blocks : ℕ) → sum_by (λ (snapshot : Snapshot). snapshot.size + converter_pages blocks) (values (empty {X = Snapshot} {R = nat_cmp})) ≡ 0
no_snapshots blocks = ap (λ es. sum_by (λ (snapshot : Snapshot). snapshot.size + converter_pages blocks) (map (λ e. e.1) es)) (entries-empty {X = Snapshot} nat_cmp)

pub kept_none : (w : World) → w.snapshots ≡ empty → w.backup_task ≡ None → kept_for_snapshots w + kept_for_backup w ≡ 0
kept_none w bare idle =
    let a : kept_for_snapshots w ≡ 0 = ap (λ (m : FinMap nat_cmp Snapshot). sum_by (λ (snapshot : Snapshot). snapshot.size + converter_pages w.blocks) (values m)) bare ∙ no_snapshots w.blocks in
    let b : kept_for_backup w ≡ 0 = ap (λ (o : Option BackupTask). unwrap_or (option_map (λ task. task.size + converter_pages w.blocks) o) 0) idle in
    omega (arith, a, b)
