-- Worked refusals in the stated order, computed: of states, tasks, media, chains and areas.
use Rattle.std.proofs.Common.{◌≡◌, refl, false, [], ◌∷◌, None, Some}
use Rattle.std.specs.FinMap.{insert, empty}
use Rattle.mdb_model.specs.declared.name.Name.{Name}
use Rattle.mdb_model.specs.declared.name.State.TheVariants.{Admin, Online}
use Rattle.mdb_model.specs.declared.fault.Device.TheVariants.{Data}
use Rattle.mdb_model.specs.declared.fault.Rule.TheVariants.{NoSlot}
use Rattle.mdb_model.specs.declared.script.PageKind.TheVariants.{Complete}
use Rattle.mdb_model.specs.declared.script.BackupKind.TheVariants.{OfPages, OfLog}
use Rattle.mdb_model.specs.declared.script.Command.TheVariants.{DbOnline, DbAdmin, TurnSavepoint, TurnBackup, TaskSavepoint, BackupStart, MediumPut, MediumDelete, Recover, SnapshotDrop}
use Rattle.mdb_model.specs.declared.script.Refusal.TheVariants.{WrongState, NoMedium, MediumUsed, MediumFull, MediumEmpty, NeedData, AreaSmall, NoSnapshot, TaskBusy, NoTask, RestoreOpen, Damaged}
use Rattle.mdb_model.specs.Pages.{Page, PageMap, PageReading}
use Rattle.mdb_model.specs.Backups.{CompletePages}
use Rattle.mdb_model.specs.Worlds.{World, BackupTask, Restoring, Lost, created}
use Rattle.mdb_model.specs.Steps.{Facts}
use Rattle.mdb_model.specs.Refusals.{refusal_with, medium_full}
use Rattle.mdb_model.proofs.Computing.{maps, entries-insert_page, len-pages}

module _ (reading : PageReading) (facts : Facts) where
  abbrev in_admin : World
  in_admin = record (created 7 512 16384) { state = Admin }

  abbrev online : World
  online = record (created 7 512 16384) { state = Online }

  turn_in_admin : refusal_with reading in_admin facts false TurnSavepoint ≡ Some (WrongState Admin)
  turn_in_admin = refl

  turn_without_task : refusal_with reading online facts false TurnBackup ≡ Some NoTask
  turn_without_task = refl

  second_task : refusal_with reading (record online { savepoint_task = Some 3 }) facts false TaskSavepoint ≡ Some TaskBusy
  second_task = refl

  backup_beside_savepoint : refusal_with reading (record online { savepoint_task = Some 3 }) facts false (BackupStart 9 (OfPages Complete)) ≡ Some TaskBusy
  backup_beside_savepoint = refl

  absent_medium : refusal_with reading in_admin facts false (BackupStart 9 (OfPages Complete)) ≡ Some NoMedium
  absent_medium = simp maps refl

  -- with one blank medium of two pages
  abbrev with_medium : World → World
  with_medium w = record w { media = insert empty 1 (record { pages = 2; holds = None }) }

  medium_again : refusal_with reading (with_medium in_admin) facts false (MediumPut 1 2) ≡ Some MediumUsed
  medium_again = simp maps refl

  blank_medium : refusal_with reading (with_medium in_admin) facts false (Recover (record { items = 1 ∷ [] }) false None) ≡ Some MediumEmpty
  blank_medium = simp maps refl

  log_without_data : refusal_with reading (with_medium online) facts false (BackupStart 1 OfLog) ≡ Some NeedData
  log_without_data = simp maps refl

  lost_area : refusal_with reading (record (created 7 512 16384) { area = Lost }) facts false DbOnline ≡ Some (Damaged (record { device = Data 1; page = 0; rule = NoSlot }))
  lost_area = refl

  open_restore : refusal_with reading (record (created 7 512 16384) { area = Restoring }) facts false DbAdmin ≡ Some RestoreOpen
  open_restore = refl

  absent_snapshot : refusal_with reading in_admin facts false (SnapshotDrop 3) ≡ Some NoSnapshot
  absent_snapshot = simp maps refl

-- Two pages and a header are three.
two_pages : (page : Page) (facts : Facts) → facts.pages ≡ insert (insert empty 0 page) 1 page
    → medium_full (record (created 7 512 16384) { state = Admin; media = insert empty 1 (record { pages = 2; holds = None }) }) facts (BackupStart 1 (OfPages Complete)) ≡ Some (MediumFull 3)
two_pages page facts is = simp (maps, is, len-pages, entries-insert_page) refl

-- A medium that is being written is not deleted.
busy_medium : (reading : PageReading) (facts : Facts) (task : BackupTask) → task.medium ≡ 1
    → refusal_with reading (record (created 7 512 16384) { state = Online; media = insert empty 1 (record { pages = 3; holds = None }); backup_task = Some task }) facts false (MediumDelete 1) ≡ Some MediumUsed
busy_medium reading facts task is = simp (maps, is) refl

-- A backup of 1,024 blocks does not go into 512.
small_area : (reading : PageReading) (facts : Facts) (pages : PageMap) (name : Name) → facts.record_past_end ≡ false → facts.header_past_end ≡ false
    → refusal_with reading (record (created 8 512 16384) { media = insert empty 1 (record { pages = 200; holds = Some (CompletePages name 5 3 pages 1024) }) }) facts false (Recover (record { items = 1 ∷ [] }) false None) ≡ Some (AreaSmall 512 1024)
small_area reading facts pages name near near_too = simp (maps, near, near_too) refl
