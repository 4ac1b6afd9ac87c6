-- A database that was opened by its records.
--     not_opened      what a failed start leaves
--     at_rest      where no device was called
--     served_opened      what was opened serves the world in service
use Rattle.std.proofs.Common.{◌≡◌, refl, sym, ap, subst, ◌∙◌, ℕ, ◌-◌, min, false, Err, None}
use Rattle.std.specs.FinMap.{empty}
use Rattle.mdb_model.specs.declared.fault.OpenFault.{OpenFault}
use Rattle.mdb_model.specs.declared.fault.OpenFault.TheVariants.{Memory, Failed, Damaged}
use Rattle.mdb_model.specs.History.{tables_of}
use Rattle.mdb_model.specs.Worlds.{World, Lock, off}
use Rattle.mdb_host.specs.Disk.{Disk, Agree}
use Rattle.mdb_host.proofs.Moments.{stays}
use Rattle.mdb_bytes.specs.declared.restart_record.RestartRecord.{RestartRecord}
use Rattle.kept_worlds.specs.InService.{AtEachMoment}
use Rattle.record_locks.specs.Holders.{bars}
use Rattle.redo_ring.specs.declared.open.LogStart.{LogStart}
use Rattle.session_rows.specs.Serving.{HasKeys}
use Rattle.space_lines.specs.Counted.{IsCounted}
use Rattle.space_rule.specs.Spaces.{known_costs}
use Rattle.transactions.specs.Ongoing.{changes_of}
use Rattle.transactions.proofs.Machine.{stands-none}
use Rattle.live_area.specs.declared.area.LiveArea.{LiveArea}
use Rattle.live_area.specs.Awaiting.{IsFound, OpenLeaves}
use Rattle.live_area.specs.Serving.{ServesWorld}
use Rattle.live_area.proofs.Found.{reads_each}
use Rattle.open_database.specs.declared.database.Database.{Database}
use Rattle.open_database.specs.Opened.{OpenDoes, opened_world}
use Rattle.open_database.specs.Outside.{StandsFor}
use Rattle.open_database.specs.Serving.{Serves}

-- what a failed start leaves
pub not_opened : (d e : Disk) (w : World) (serves : LiveArea → Type 0) (gives : Database → Type 0) (fault : OpenFault) → OpenLeaves d e w serves (Err fault) → OpenDoes d e w gives (Err fault)
not_opened d e w serves gives Memory each = each
not_opened d e w serves gives Failed each = each
not_opened d e w serves gives (Damaged damage) each = absurd each

-- where no device was called
pub at_rest : (r : RestartRecord) (start : LogStart) (d : Disk) (w : World) → IsFound r start d w → AtEachMoment d d (λ image. StandsFor image w)
at_rest r start d w found = reads_each r start d d w found (stays d Agree (λ image device. refl))

-- The world

module _ (w : World) (is_off : off w ≡ w) where
  pub no_sessions : w.sessions ≡ empty
  no_sessions = ap (λ (v : World). v.sessions) (sym is_off)

  pub no_savepoint : w.savepoint_task ≡ None
  no_savepoint = ap (λ (v : World). v.savepoint_task) (sym is_off)

  pub no_backup : w.backup_task ≡ None
  no_backup = ap (λ (v : World). v.backup_task) (sym is_off)

  -- what was opened serves the world in service
  pub served_opened : (tells : Type 0) (database : Database) (d : Disk)
      → ServesWorld tells database.area.in_force.slots database.area.in_force.record database.area.store database.area.ring d w
      → HasKeys (tables_of w.history) → w.ring ≡ database.area.ring.size → database.transactions.most ≡ min 1048576 (database.area.ring.size - 1)
      → ((session : ℕ) (lock : Lock) → bars database.transactions.locks session lock ≡ false) → ((session : ℕ) → changes_of database.transactions session ≡ empty)
      → IsCounted (known_costs database.space) (opened_world database.access w)
      → Serves tells database d (opened_world database.access w)
  served_opened tells database d serves keys size most free none counted = record {
    area = subst (λ (v : World). ServesWorld tells database.area.in_force.slots database.area.in_force.record database.area.store database.area.ring d v) (sym is_off) serves;
    state = refl;
    alone = λ admin. no_sessions;
    no_savepoint = no_savepoint;
    no_backup = no_backup;
    keys = keys;
    matches = stands-none database.transactions (opened_world database.access w) free none no_sessions;
    most = most ∙ ap (λ (n : ℕ). min 1048576 (n - 1)) (sym size);
    counted = counted;
  }
