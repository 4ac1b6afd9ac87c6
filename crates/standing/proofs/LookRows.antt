-- Worked rows of what an image shows: backups that are pending, and what no image stands for.
use Rattle.std.proofs.Common.{◌≡◌, refl, ℕ, List, [], ◌∷◌, ◌++◌, codes, Some, replicate, arith}
use Rattle.mdb_model.specs.declared.change.Change.TheVariants.{Put}
use Rattle.mdb_model.specs.declared.change.Commit.{Commit}
use Rattle.mdb_model.specs.declared.name.Name.{Name}
use Rattle.mdb_model.specs.Backups.{Backup, LogGroups}
use Rattle.mdb_model.specs.Images.{Image}
use Rattle.mdb_bytes.specs.declared.log_info.LogInfo.{LogInfo}
use Rattle.mdb_bytes.specs.Fields.{spelled, decoded, number_at, read_run}
use Rattle.mdb_bytes.specs.Firsts.{first_restart, first_log_info}
use Rattle.mdb_bytes.specs.Groups.{group_fields}
use Rattle.mdb_bytes.specs.LogReading.{group_of}
use Rattle.mdb_bytes.specs.WholeBackups.{backup_bytes}
use Rattle.mdb_model.specs.Worlds.{World}
use Rattle.mdb_bytes.specs.declared.restart_record.AreaState.TheVariants.{Normal, RestoreOpen}
use Rattle.standing.specs.WholeStanding.{AreaIsLost, IsInForm, redo_from}
use Rattle.standing.specs.Looks.{Look, header_of, log_after, saved_in_force, base_in_force}

abbrev name : Name
name = record { birth = 7; generation = 1 }

abbrev one_commit : Commit
one_commit = record { changes = Put (record { 0 = 1 }) (codes "k") (codes "v") ∷ [] }

-- a log backup of two commits, up to position 84
abbrev two_commits : Backup
two_commits = LogGroups name 1 2 (one_commit ∷ one_commit ∷ []) 512

abbrev medium_3 : List ℕ
medium_3 = backup_bytes 84 two_commits

abbrev pending_info : LogInfo
pending_info = record (first_log_info 7 4) { pending_medium = 3; pending_commit = 2; pending_position = 84 }

pending_has_ended : saved_in_force (Some (first_restart 7 (512 ∷ []))) (Some pending_info) (λ medium. Some medium_3) ≡ record { commit = 2; position = 84 }
unfolding spelled decoded number_at read_run header_of
pending_has_ended = refl

-- at another position it is another backup
pending_has_not_ended : saved_in_force (Some (first_restart 7 (512 ∷ []))) (Some (record pending_info { pending_position = 85 })) (λ medium. Some medium_3) ≡ record { commit = 0; position = 0 }
unfolding spelled decoded number_at read_run header_of
pending_has_not_ended = refl

-- a log backup is no data backup
no_data_backup : base_in_force (record (first_restart 7 (512 ∷ [])) { pending_medium = 3; base = 9 }) (λ medium. Some medium_3) ≡ Some 9
unfolding spelled decoded number_at read_run header_of
no_data_backup = refl

-- a log info of an earlier generation tells nothing
earlier_info : saved_in_force (Some (record (first_restart 7 (512 ∷ [])) { name = record { birth = 7; generation = 2 }; commit = 5; position = 210 })) (Some (first_log_info 7 4)) (λ medium. Some [])
    ≡ record { commit = 5; position = 210 }
earlier_info = refl

-- two groups at the front of the ring of a log volume of four pages
abbrev with_log : List ℕ → Image
with_log ring device = Some (replicate 16384 0 ++ ring)

abbrev group_numbered : ℕ → List ℕ
group_numbered number = spelled (group_fields (record { name = name; number = number; changes = one_commit.changes }))

two_groups : log_after (with_log (group_numbered 1 ++ (group_numbered 2 ++ replicate 16300 0))) (first_log_info 7 4) name (record { commit = 0; position = 0 }) ≡ Some (one_commit ∷ one_commit ∷ [])
unfolding spelled decoded number_at read_run group_of
two_groups = refl

-- Groups are numbered from 1 and have their changes in order: a reader of a medium refuses any other bytes.
no_group_0 : (to blocks : ℕ) (commits : List Commit) → IsInForm (LogGroups name 0 to commits blocks) → ⊥
no_group_0 to blocks commits form = omega (arith, form.0)

-- changes of falling keys stand in no group
not_in_form : IsInForm (LogGroups name 1 1 (record {
  changes = Put (record { 0 = 1 }) (codes "l") (codes "v") ∷ Put (record { 0 = 1 }) (codes "k") (codes "v") ∷ [];
} ∷ []) 512) → ⊥
not_in_form form = let never = form.2.0 in absurd cc

-- no record has the birth or the generation 0, so a recover could not write one for such a name
no_birth_0 : (l : Look) (info : LogInfo) (w : World) → w.name.birth ≡ 0 → AreaIsLost l info w → ⊥
no_birth_0 l info w none area = omega (arith, area.has_birth, none)

no_generation_0 : (l : Look) (info : LogInfo) (w : World) → w.name.generation ≡ 0 → AreaIsLost l info w → ⊥
no_generation_0 l info w none area = omega (arith, area.has_generation, none)

-- the position in the record of an open restore is not where the log is read from
while_restoring : redo_from RestoreOpen 10 84 ≡ 84
while_restoring = refl

in_order : redo_from Normal 10 84 ≡ 10
in_order = refl
