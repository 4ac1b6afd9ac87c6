-- A savepoint of a database that serves a world.
--     sound_after      the area is sound after it
--     saves_each, saves_all      what it leaves
use Rattle.std.proofs.Common.{◌≡◌, refl, sym, ap, subst, ◌∙◌, ℕ, ◌-◌, ◌^◌, ◌<◌, min, true, List, [], ◌∷◌, ◌++◌, arith}
use Rattle.mdb_model.specs.declared.change.Commit.{Commit}
use Rattle.mdb_model.specs.declared.fault.Device.TheVariants.{Log}
use Rattle.mdb_model.specs.History.{tables_of}
use Rattle.mdb_model.specs.Images.{size_of}
use Rattle.mdb_model.specs.Space.{has_room}
use Rattle.mdb_model.specs.Tables.{Tables}
use Rattle.mdb_model.specs.Worlds.{World}
use Rattle.mdb_host.specs.Disk.{Disk}
use Rattle.mdb_bytes.specs.declared.restart_record.RestartRecord.{RestartRecord}
use Rattle.gate_slots.specs.declared.slots.Slots.{Slots}
use Rattle.converter.specs.Maps.{IsSoundMaps, block_of}
use Rattle.page_store.specs.LogicalPages.{store_pages}
use Rattle.page_store.specs.Stamps.{AreStamped}
use Rattle.page_store.specs.Store.{Store}
use Rattle.page_store.specs.WholeSavepoint.{CanSave, IsSameArea, Saves, next_record}
use Rattle.redo_ring.specs.declared.ring.Ring.{Ring}
use Rattle.store_rows.specs.StoredRows.{stored_rows, HasRows}
use Rattle.standing.specs.WholeStanding.{StandsWhole}
use Rattle.kept_worlds.specs.InService.{IsInService, AtEachMoment, EndsAt, LeadsTo}
use Rattle.kept_worlds.proofs.Saving.{each_stands, service_saved}
use Rattle.page_ground.proofs.Savepoints.{in_area, rows_saved}
use Rattle.live_area.specs.Serving.{IsSoundArea, saved_by, ServesWorld}

-- the ring after a savepoint
abbrev pub from_end : Ring → Ring
from_end ring = record ring { redo_position = ring.end_position }

pub sound_after : (tells : Type 0) (slots slots2 : Slots) (r next : RestartRecord) (s t : Store) (ring : Ring) (d e : Disk) → IsSoundArea tells slots r s ring d → CanSave tells slots2 next t e → (tells → e.seen Log ≡ d.seen Log) → IsSoundArea tells slots2 next t (from_end ring) e
sound_after tells slots slots2 r next s t ring d e sound can same = record {
  can_save = can;
  order = record { size = sound.order.size; saved = sound.order.saved; redo = omega arith; low = sound.order.low; count = sound.order.count };
  there = λ told. ap size_of (same told) ∙ sound.there told;
}

no_more : (xs : List Commit) → xs ++ [] ≡ xs
no_more [] = refl
no_more (x ∷ xs) = ap (λ (l : List Commit). x ∷ l) (no_more xs)

module _ (tells : Type 0) (slots slots2 : Slots) (r next : RestartRecord) (s t : Store) (ring : Ring) (d e : Disk) (commit position : ℕ) (w : World)
    (serves : ServesWorld tells slots r s ring d w) (sound : IsSoundMaps s.maps) (fits : has_room (tables_of w.history) (tables_of w.history) 0 0 w.blocks ≡ true)
    (low_end : ring.end_position < 2 ^ 62) (low_last : ring.last_commit < 2 ^ 62)
    (commit_is : commit ≡ min ring.last_commit (2 ^ 62 - 1)) (position_is : position ≡ min ring.end_position (2 ^ 62 - 1)) (saves : Saves s slots r commit position d e) where
  ends : EndsAt r serves.log position commit
  ends = record { position = omega (arith, position_is, low_end, serves.ends.position); commit = omega (arith, commit_is, low_last, serves.ends.commit) }

  service : IsInService tells slots r serves.info (saved_by ring) (serves.log ++ []) s d
  service = subst (λ xs. IsInService tells slots r serves.info (saved_by ring) xs s d) (sym (no_more serves.log)) serves.service

  lead : LeadsTo w [] (stored_rows s d.seen)
  lead = record { aimed = serves.all_set; fits = subst (λ (x : Tables). has_room x x 0 0 w.blocks ≡ true) (sym serves.all_set) fits; to_redo = tt }

  pub saves_each : AtEachMoment d e (λ image. StandsWhole image w)
  saves_each = each_stands tells slots r serves.info (saved_by ring) serves.log [] s d e commit position service sound serves.rows ends saves w serves.stand serves.plain lead

  module _ (can : CanSave tells slots2 next t e) (is : next ≡ next_record r s.next commit position (block_of t.maps.saved 0)) (same : IsSameArea s t) (stamped : AreStamped t)
      (sound2 : IsSoundMaps t.maps) (pages : store_pages t e.seen ≡ store_pages s d.seen) where
    kept : HasRows tells t e.seen × (stored_rows t e.seen ≡ stored_rows s d.seen)
    kept = rows_saved tells s t d.seen e.seen serves.rows pages (can.standing serves.service.told).known

    pub saves_all : ServesWorld tells slots2 next t (from_end ring) e w
    saves_all = record {
      stand = λ image left. saves_each.each e.now image saves_each.keeps.later (omega arith) left;
      plain = serves.plain;
      info = serves.info;
      log = [];
      service = service_saved tells slots r serves.info (saved_by ring) serves.log [] s d e commit position service sound serves.rows ends saves w serves.stand serves.plain lead t slots2 next can is same stamped (in_area t sound2 can.placed.own);
      rows = kept.0;
      all_set = kept.1 ∙ serves.all_set;
      ends = record {
        position = omega (arith, ap (λ (x : RestartRecord). x.position) is, position_is, low_end);
        commit = omega (arith, ap (λ (x : RestartRecord). x.commit) is, commit_is, low_last);
      };
      name = serves.name ∙ sym (ap (λ (x : RestartRecord). x.name) is);
      size = serves.size;
      redo = omega (arith, ap (λ (x : RestartRecord). x.position) is, position_is, low_end);
    }
