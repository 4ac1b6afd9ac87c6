-- What an area that serves a world says of it.
--     ring_served, blocks_served, small_served, name_served      its size and its name
--     last_served, saved_served, unsaved_served      the numbers of its log
--     fresh_rows      right after a savepoint the pages of the record are its rows
use Rattle.std.proofs.Common.{◌≡◌, refl, sym, ap, subst, ◌∙◌, ℕ, ◌-◌, ◌≤◌, List, [], ◌∷◌, length, Option, Some, None, sum, arith}
use Rattle.std.specs.Prelude.{option_map, unwrap_or}
use Rattle.std.specs.FinMap.{empty}
use Rattle.std.proofs.lemmas.Option.{same_Some}
use Rattle.mdb_model.specs.declared.change.Commit.{Commit}
use Rattle.mdb_model.specs.History.{last, tables_of}
use Rattle.mdb_model.specs.Images.{Image}
use Rattle.mdb_model.specs.Sessions.{unsaved}
use Rattle.mdb_model.specs.Tables.{with_commits}
use Rattle.mdb_model.specs.Worlds.{World}
use Rattle.mdb_host.specs.Disk.{Disk}
use Rattle.mdb_bytes.specs.declared.log_info.LogInfo.{LogInfo}
use Rattle.mdb_bytes.specs.declared.restart_record.RestartRecord.{RestartRecord}
use Rattle.mdb_bytes.specs.Forms.{reading}
use Rattle.mdb_bytes.specs.KeptMaps.{KeptMap}
use Rattle.mdb_bytes.specs.LogReading.{log_bytes}
use Rattle.mdb_bytes.specs.Rings.{ring_size}
use Rattle.gate_slots.specs.declared.slots.Slots.{Slots}
use Rattle.page_store.specs.Store.{Store, block_count}
use Rattle.redo_ring.specs.declared.ring.Ring.{Ring}
use Rattle.redo_ring.proofs.Log.{bytes_cons}
use Rattle.standing.specs.Looks.{LogPoint, look}
use Rattle.standing.specs.WholeStanding.{StandsWhole, AreaIsLive, pages_in}
use Rattle.kept_worlds.specs.InService.{IsShown}
use Rattle.live_area.specs.Serving.{saved_by, ServesWorld}
use Rattle.live_area.proofs.StoodFor.{area_now, no_images_before, rows_as_they_stand}

-- a log without bytes has no commits
no_commits : (log : List Commit) → log_bytes log ≡ 0 → log ≡ []
no_commits [] none = refl
no_commits (c ∷ cs) none = absurd (omega (arith, none, bytes_cons c cs))

module _ (tells : Type 0) (slots : Slots) (r : RestartRecord) (s : Store) (ring : Ring) (d : Disk) (w : World) (serves : ServesWorld tells slots r s ring d w) where
  -- by any image that a crash now may leave
  module _ (image : Image) (left : d.may_leave d.now image) where
    stands : StandsWhole image w
    stands = serves.stand image left

    shown : IsShown r serves.info (saved_by ring) serves.log (look image)
    shown = serves.service.shown image left

    abbrev here : AreaIsLive (look image) w
    here = area_now image w stands

    same_record : here.rec ≡ r
    same_record = same_Some here.rec r (sym here.in_force ∙ shown.restart)

    same_info : stands.info ≡ serves.info
    same_info = same_Some stands.info serves.info (sym stands.in_force ∙ shown.log_info)

    same_log : here.rows.log ≡ serves.log
    same_log = same_Some here.rows.log serves.log (sym here.rows.in_log ∙ shown.redo)

    pub ring_served : w.ring ≡ ring.size
    ring_served = stands.log_size.ring ∙ ap (λ (info : LogInfo). ring_size info.pages) same_info ∙ sym serves.size

    pub blocks_served : w.blocks ≡ block_count s
    blocks_served = here.sizes.blocks ∙ ap (λ (r : RestartRecord). sum r.volumes.items) same_record ∙ sym serves.service.blocks

    pub small_served : w.blocks ≤ 65536
    small_served = omega (arith, here.sizes.blocks, here.sizes.limits.most)

    pub name_served : w.name ≡ ring.name
    name_served = sym here.name ∙ ap (λ (r : RestartRecord). r.name) same_record ∙ sym serves.name

    pub last_served : last w.history ≡ ring.last_commit
    last_served = omega (arith, here.rows.number, ap (λ (r : RestartRecord). r.commit) same_record, ap length same_log, serves.ends.commit)

    pub saved_served : w.saved ≡ ring.saved_commit
    saved_served = sym stands.log.saved ∙ ap (λ (point : LogPoint). point.commit) shown.saved_upto

    pub unsaved_served : unsaved w ≡ ring.end_position - ring.saved_position
    unsaved_served =
        omega (arith, here.rows.same_end, ap (λ (r : RestartRecord). r.position) same_record, ap log_bytes same_log, ap (λ (point : LogPoint). point.position) shown.saved_upto, serves.ends.position)

    pub fresh_rows : ring.redo_position ≡ ring.end_position → (reading.standing (pages_in image) ≡ Some (tables_of w.history)) × (reading.before_images (pages_in image) ≡ Some empty)
    fresh_rows fresh = (
      ap reading.standing pages_are ∙ rows_as_they_stand image w stands ∙ ap Some rows_are,
      ap reading.before_images pages_are ∙ no_images_before image w stands,
    )
      where
        pages_are : pages_in image ≡ here.kept.pages
        pages_are = ap (λ (o : Option KeptMap). unwrap_or (option_map (λ kept. kept.pages) o) empty) here.there

        none : serves.log ≡ []
        none = no_commits serves.log (omega (arith, fresh, serves.redo, serves.ends.position))

        rows_are : here.rows.start ≡ tables_of w.history
        rows_are = sym (ap (λ log. with_commits log here.rows.start) (same_log ∙ none)) ∙ here.rows.tables
