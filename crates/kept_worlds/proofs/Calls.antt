-- Calls on pages leave what images show.
--     looks_stay, service_stays      the law
use Rattle.std.proofs.Common.{◌≡◌, refl, sym, ap, subst, ◌∙◌, ℕ, ◌+◌, ◌<◌, List, [], drop, Option, Some, arith, sum}
use Rattle.std.specs.Prelude.{option_and_then}
use Rattle.std.specs.List.{AllByRecursion}
use Rattle.std.proofs.lemmas.List.{get_or-drop}
use Rattle.mdb_model.specs.declared.change.Commit.{Commit}
use Rattle.mdb_model.specs.Images.{Image}
use Rattle.mdb_host.specs.Disk.{Disk, Goes}
use Rattle.mdb_bytes.specs.declared.converter_pages.ConverterEntry.{ConverterEntry}
use Rattle.mdb_bytes.specs.declared.log_info.LogInfo.{LogInfo}
use Rattle.mdb_bytes.specs.declared.restart_record.RestartRecord.{RestartRecord}
use Rattle.mdb_bytes.specs.declared.restart_record.SnapshotEntry.{SnapshotEntry}
use Rattle.mdb_bytes.specs.Firsts.{no_entry}
use Rattle.mdb_bytes.specs.KeptMaps.{KeptMap}
use Rattle.gate_slots.specs.declared.slots.Slots.{Slots}
use Rattle.volume_disk.specs.Blocks.{Writes}
use Rattle.converter.specs.Maps.{block_of}
use Rattle.savepoint.specs.Stands.{HasSavepoint, KeepsSlots}
use Rattle.savepoint.proofs.StandsSteps.{slots_stay}
use Rattle.page_store.specs.SavingStays.{stays}
use Rattle.page_store.specs.Store.{Store}
use Rattle.page_store.specs.Steps.{KeepsMaps, MayWrite, KeepsStore}
use Rattle.page_store.specs.WholeSavepoint.{IsInArea, saved_page}
use Rattle.standing.specs.Looks.{LogPoint, look, record_in, record_of, snapshot_maps, map_under, IsUnused, IsUnusedBy}
use Rattle.standing.proofs.LookLaws.{look_unused}
use Rattle.shown_maps.specs.ShownMaps.{shown_map}
use Rattle.shown_maps.proofs.UsedEntries.{used_all, taken_all}
use Rattle.shown_maps.proofs.Shown.{in_force_shown}
use Rattle.kept_worlds.specs.InService.{IsShown, IsInService}

-- the map of the last savepoint uses no block of a set that it does not have
pub unused_saved : (conv n : ℕ) (m : List ConverterEntry) (pages : ℕ → List ℕ) (set : ℕ → Type 0)
    → IsInArea conv n m → ((q : ℕ) → 0 < block_of m q → set (block_of m q) → ⊥)
    → IsUnusedBy set n (shown_map conv m pages)
unused_saved conv n m pages set area spared = (
  taken_all (λ block. (block < n) × (set block → ⊥)) conv m
      (λ q lt less. (area.below q, spared q (area.own q lt))),
  used_all (λ e. (e.1.block < n) × (set e.1.block → ⊥)) 0 (drop conv m)
      (λ i lt some.
      let at : block_of (drop conv m) i ≡ block_of m (conv + i) =
      ap (λ (e : ConverterEntry). e.block) (get_or-drop conv m i no_entry) in (
        omega (arith, at, area.below (conv + i)),
        λ is.
            spared (conv + i) (omega (arith, at, some)) (subst set at is),
      )),
)

-- a record without snapshots has no maps of them
pub no_maps : (image : Image) (r : RestartRecord) (P : SnapshotEntry × Option KeptMap → Type 0)
    → record_in image ≡ Some r → r.snapshots.items ≡ []
    → AllByRecursion P (look image).snapshots
no_maps image r P is bare =
    let none : snapshot_maps image (record_in image) ≡ [] =
    ap (snapshot_maps image) is
    ∙ ap (map_all) bare in
    subst (AllByRecursion P) (sym none) tt
  where
    map_all : List SnapshotEntry → List (SnapshotEntry × Option KeptMap)
    map_all entries = Rattle.std.specs.Prelude.map (λ e. (e, map_under image r e.root)) entries

module _ (tells : Type 0) (slots : Slots) (r : RestartRecord) (info : LogInfo) (saved : LogPoint)
    (log : List Commit) (s t : Store) (d e : Disk)
    (service : IsInService tells slots r info saved log s d)
    (keeps : KeepsStore tells s t d e) where
  abbrev maps : KeepsMaps s t
  maps = keeps.maps

  goes : Goes d e (Writes s.sizes (MayWrite s))
  goes = keeps.goes service.told

  look_same : (before image : Image) → d.may_leave d.now before
      → Writes s.sizes (MayWrite s) before image → look image ≡ look before
  look_same before image left writes =
      let stands = (service.can_save.standing service.told).stands before left in
      let slots_kept : KeepsSlots before image =
      slots_stay s.sizes (MayWrite s) before image (λ k may. may.high) writes service.can_save.big in
      let was : record_in before ≡ Some r = ap (option_and_then record_of) stands.force in
      let is : record_in image ≡ Some r =
      ap (option_and_then record_of) (slots_kept.force ∙ stands.force) in
      let on_record : HasSavepoint r.volumes.items r s.maps.saved s.maps.conv (saved_page s d.seen)
      before =
      subst (λ (z : List ℕ). HasSavepoint z r s.maps.saved s.maps.conv (saved_page s d.seen) before)
      service.sizes stands in
      let shown = in_force_shown r s.maps.saved s.maps.conv (saved_page s d.seen) before service.conv
      service.area on_record in
      let unused : IsUnused (look before) r (MayWrite s) = record {
        rec = λ some. (
          shown_map s.maps.conv s.maps.saved (saved_page s d.seen),
          shown.1,
          unused_saved s.maps.conv (sum r.volumes.items) s.maps.saved (saved_page s d.seen)
              (MayWrite s) service.area (λ q some may. may.unsaved q refl),
        );
        snapshots = no_maps before r _ was service.bare;
      } in
      look_unused before image r (MayWrite s)
      (subst (λ (z : List ℕ). Writes z (MayWrite s) before image) service.sizes writes) was is unused

  pub looks_stay : Goes d e (λ before image. look image ≡ look before)
  looks_stay = record {
    keeps = goes.keeps;
    since = λ at image from upto left.
        let x = goes.since at image from upto left in
        (x.0, x.1, look_same x.0 image x.1 x.2);
    quiet = goes.quiet;
  }

  pub service_stays : IsInService tells slots r info saved log t e
  service_stays = record {
    told = service.told;
    can_save = stays tells slots r s t d e keeps service.can_save;
    stamped = (keeps.stamps service.stamped).0;
    sizes = maps.sizes ∙ service.sizes;
    conv = maps.conv ∙ service.conv;
    blocks = maps.area ∙ service.blocks;
    area = subst (λ (x : ℕ × List ConverterEntry). IsInArea x.0 (sum r.volumes.items) x.1)
        (λ i. (sym maps.conv i, sym maps.saved i)) service.area;
    bare = service.bare;
    tells_saved = service.tells_saved;
    shown = λ image left.
        let x = looks_stay.since e.now image looks_stay.keeps.later (omega arith) left in
        subst (IsShown r info saved log) (sym x.2) (service.shown x.0 x.1);
  }
