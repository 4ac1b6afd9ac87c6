-- A whole savepoint leaves the world that images stand for.
--     world_stays      the law
use Rattle.std.proofs.Common.{◌≡◌, ◌⊎◌, inl, inr, refl, sym, ap, subst, ◌∙◌, ℕ, ◌+◌, ◌<◌, ◌≤◌, List, [], ◌∷◌, ◌++◌, get_or, drop, length, Option, Some, arith, sum, length-drop}
use Rattle.std.specs.Prelude.{option_and_then}
use Rattle.std.specs.List.{AllByRecursion}
use Rattle.std.proofs.lemmas.List.{get_or-drop}
use Rattle.mdb_model.specs.declared.change.Commit.{Commit}
use Rattle.mdb_model.specs.Images.{Image}
use Rattle.mdb_model.specs.Worlds.{World}
use Rattle.mdb_host.specs.Disk.{Agree}
use Rattle.mdb_bytes.specs.declared.converter_pages.ConverterEntry.{ConverterEntry}
use Rattle.mdb_bytes.specs.declared.restart_record.RestartRecord.{RestartRecord}
use Rattle.mdb_bytes.specs.declared.restart_record.SnapshotEntry.{SnapshotEntry}
use Rattle.mdb_bytes.specs.KeptMaps.{KeptMap, Placed}
use Rattle.mdb_bytes.proofs.KeptMapLaws.{all_of}
use Rattle.mdb_bytes.specs.Firsts.{no_entry}
use Rattle.gate_slots.specs.declared.body.SlotBody.TheVariants.{Restart}
use Rattle.gate_slots.specs.declared.slots.Slots.{Slots}
use Rattle.gate_slots.specs.Slots.{IsReady}
use Rattle.gate_slots.specs.Steps.{Switches, SlotsTorn}
use Rattle.volume_disk.specs.Blocks.{Writes}
use Rattle.converter.specs.Maps.{block_of}
use Rattle.savepoint.specs.Stands.{HoldsMap, HasSavepoint, IsMapPlaced, KeepsSlots}
use Rattle.savepoint.proofs.StandsSteps.{slots_stay, holds_moved}
use Rattle.page_store.specs.Store.{Store}
use Rattle.page_store.specs.WholeSavepoint.{IsBeside, IsInArea, WritesThenSwitches, HasNextMap as IsNextMap, next_record, saved_page, present_page}
use Rattle.standing.specs.Standing.{data_slots}
use Rattle.standing.specs.Looks.{Look, look, record_in, record_of, log_info_in, map_of_record, open_medium, IsUnused, IsUnusedBy}
use Rattle.standing.specs.WholeStanding.{LookStands, StandsWhole}
use Rattle.standing.specs.Switching.{IsNext, KeepsSaved, IsNewMap, IsSlotBlock}
use Rattle.standing.proofs.LookLaws.{look_unused}
use Rattle.standing.proofs.SlotBlocks.{slots_write}
use Rattle.standing.proofs.SwitchStands.{switch_stands}
use Rattle.shown_maps.specs.ShownMaps.{shown_map}
use Rattle.shown_maps.specs.Saving.{TakesSavepoint}
use Rattle.shown_maps.proofs.UsedEntries.{used_all, taken_all}
use Rattle.shown_maps.proofs.Shown.{under_root, in_force_shown}

module _ (s : Store) (seen : Image) (slots : Slots) (was : RestartRecord) (commit position : ℕ) (map : List ConverterEntry) (done rest : List Commit) (w : World)
    (before after : Image) (world : StandsWhole before w)
    (takes : TakesSavepoint s seen slots was (next_record was s.next commit position (block_of map 0)) map done rest w before)
    (passes : WritesThenSwitches s slots (next_record was s.next commit position (block_of map 0)) before after)
    (either : HasSavepoint s.sizes was s.maps.saved s.maps.conv (saved_page s seen) after ⊎ IsNextMap s seen was commit position map after) where
  abbrev next : RestartRecord
  next = next_record was s.next commit position (block_of map 0)

  abbrev sizes : List ℕ
  sizes = was.volumes.items

  abbrev pages : ℕ → List ℕ
  pages = present_page s seen

  mid : Image
  mid = passes.mid

  stands : HasSavepoint sizes was s.maps.saved s.maps.conv (saved_page s seen) before
  stands = subst (λ (z : List ℕ). HasSavepoint z was s.maps.saved s.maps.conv (saved_page s seen) before) takes.sizes takes.stands

  writes : Writes sizes (IsBeside s) before mid
  unfolding mid
  writes = subst (λ (z : List ℕ). Writes z (IsBeside s) before passes.mid) takes.sizes passes.written

  kept : KeepsSlots before mid
  kept = slots_stay sizes (IsBeside s) before mid (λ b is. is.high) writes takes.big

  was_before : record_in before ≡ Some was
  was_before = ap (option_and_then record_of) stands.force

  was_mid : record_in mid ≡ Some was
  was_mid = ap (option_and_then record_of) (kept.force ∙ stands.force)

  -- a set of blocks that the map of the last savepoint does not have
  unused_saved : (set : ℕ → Type 0) → ((q : ℕ) → 0 < block_of s.maps.saved q → set (block_of s.maps.saved q) → ⊥)
      → IsUnusedBy set (sum sizes) (shown_map s.maps.conv s.maps.saved (saved_page s seen))
  unused_saved set spared = (
    taken_all (λ block. (block < sum sizes) × (set block → ⊥)) s.maps.conv s.maps.saved (λ q lt less. (takes.area.below q, spared q (takes.area.own q lt))),
    used_all (λ e. (e.1.block < sum sizes) × (set e.1.block → ⊥)) 0 (drop s.maps.conv s.maps.saved)
        (λ i lt some.
        let at : block_of (drop s.maps.conv s.maps.saved) i ≡ block_of s.maps.saved (s.maps.conv + i) = ap (λ (e : ConverterEntry). e.block) (get_or-drop s.maps.conv s.maps.saved i no_entry) in
        (omega (arith, at, takes.area.below (s.maps.conv + i)), λ is. spared (s.maps.conv + i) (omega (arith, at, some)) (subst set at is))),
  )

  -- a part of the set that no snapshot has
  unused_by : (set : ℕ → Type 0) → ((b : ℕ) → set b → IsBeside s b ⊎ (b < 2)) → (entries : List (SnapshotEntry × Option KeptMap))
      → AllByRecursion (λ e. (kept : KeptMap) × (e.1 ≡ Some kept) × IsUnusedBy (λ b. IsBeside s b ⊎ (b < 2)) (sum sizes) kept) entries
      → AllByRecursion (λ e. (kept : KeptMap) × (e.1 ≡ Some kept) × IsUnusedBy set (sum sizes) kept) entries
  unused_by set part entries all =
      all_of _ _ (λ e u. (
        u.0,
        u.1,
        (
          all_of _ _ (λ (block : ℕ) b. (b.0, λ is. b.1 (part block is))) u.0.converter u.2.0,
          all_of _ _ (λ (p : Placed) b. (b.0, λ is. b.1 (part p.1.block is))) u.0.places u.2.1,
        ),
      )) entries all

  abbrev shown_before : ((look before).restart ≡ Some was) × ((look before).kept ≡ Some (shown_map s.maps.conv s.maps.saved (saved_page s seen)))
  shown_before = in_force_shown was s.maps.saved s.maps.conv (saved_page s seen) before takes.conv takes.area stands

  beside_unused : IsUnused (look before) was (IsBeside s)
  beside_unused = record {
    rec = λ some. (shown_map s.maps.conv s.maps.saved (saved_page s seen), shown_before.1, unused_saved (IsBeside s) (λ q some is. is.unsaved q refl));
    snapshots = unused_by (IsBeside s) (λ b is. inl is) (look before).snapshots takes.snapshots;
  }

  -- up to the switch the image shows the same
  same : look mid ≡ look before
  same = look_unused before mid was (IsBeside s) writes was_before was_mid beside_unused

  world_mid : StandsWhole mid w
  world_mid = subst (λ l. LookStands l w) (sym same) world

  agreed : Agree mid after → StandsWhole after w
  agreed agree = subst (λ (image : Image). StandsWhole image w) (λ i device. sym (agree device) i) world_mid

  module _ (switch : Switches slots (Restart next) mid after) where
    slot_writes : Writes sizes IsSlotBlock mid after
    slot_writes = slots_write mid after (subst (λ p. SlotsTorn p mid after) takes.place switch.torn) sizes takes.big

    -- the gate is not switched yet
    still_was : HasSavepoint s.sizes was s.maps.saved s.maps.conv (saved_page s seen) after → StandsWhole after w
    still_was old =
        let there : record_in after ≡ Some was = ap (option_and_then record_of) old.force in
        let slots_unused : IsUnused (look mid) was IsSlotBlock = record {
          rec = λ some. (
            shown_map s.maps.conv s.maps.saved (saved_page s seen),
            ap (λ (l : Look). l.kept) same ∙ shown_before.1,
            unused_saved IsSlotBlock (λ q some is. omega (arith, is, takes.area.high q some)),
          );
          snapshots = subst (λ (l : Look). AllByRecursion (λ e. (kept : KeptMap) × (e.1 ≡ Some kept) × IsUnusedBy IsSlotBlock (sum sizes) kept) l.snapshots) (sym same) (unused_by IsSlotBlock (λ b is. inr is) (look before).snapshots takes.snapshots);
        } in
        subst (λ l. LookStands l w) (sym (look_unused mid after was IsSlotBlock slot_writes was_mid there slots_unused)) world_mid

    -- the next record is in force
    is_next : IsNextMap s seen was commit position map after → StandsWhole after w
    is_next new =
        let holds : HoldsMap sizes map s.maps.conv pages after = subst (λ (z : List ℕ). HoldsMap z map s.maps.conv pages after) takes.sizes new.stands.map in
        let placed = subst (λ (z : List ℕ). IsMapPlaced z map s.maps.conv) takes.sizes new.placed in
        let holds_mid : HoldsMap sizes map s.maps.conv pages mid =
        holds_moved sizes map s.maps.conv pages after mid placed (λ c high below q is. sym (slot_writes.outside c below (λ low. omega (arith, low, high)))) holds in
        let area : IsInArea s.maps.conv (sum sizes) map = record {
          long = omega (arith, new.area.long, takes.blocks);
          own = new.area.own;
          high = new.area.high;
          below = λ q. placed.below q;
          apart = new.area.apart;
        } in
        let there : map_of_record mid next ≡ Some (shown_map s.maps.conv map pages) = under_root was map s.maps.conv pages mid takes.conv area holds_mid next refl refl in
        switch_stands slots was next mid after w (shown_map s.maps.conv map pages) done rest world_mid takes.live takes.place
        (kept.ready slots (Restart was) takes.place takes.ready) switch
        (subst (λ (l : Look). IsNext l.media was next) (sym same) takes.next_one)
        (subst (λ (l : Look). KeepsSaved l.media l.log_info was next) (sym same) takes.saved)
        (ap (λ (l : Look). l.redo_log) same ∙ takes.log) takes.mark there
        (subst (λ (l : Look). IsNewMap l next (shown_map s.maps.conv map pages) rest w) (sym same) takes.new_map)

  pub world_stays : StandsWhole after w
  unfolding mid
  world_stays = elim passes.behind [
    | inl agree ↦ agreed agree
    | inr switch ↦ elim either [ inl old ↦ still_was switch old | inr new ↦ is_next switch new ]
  ]
