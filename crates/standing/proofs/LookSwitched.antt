-- What an image shows after a switch of the restart record's slots.
--     look_switched      the look is as before, or the one with the next record in force
use Rattle.std.proofs.Common.{◌&&◌, ◌≡◌, ◌⊎◌, inl, inr, sym, ap, ◌∙◌, subst, ℕ, ◌+◌, ◌%◌, ◌≤◌, get_or, Some, None, ◌==◌}
use Rattle.std.specs.Prelude.{option_and_then, if◌then◌else◌}
use Rattle.mdb_model.specs.declared.fault.Device.TheVariants.{Log, Medium}
use Rattle.mdb_model.specs.declared.name.Name.{Name}
use Rattle.mdb_model.specs.Images.{Image, byte_at}
use Rattle.mdb_model.specs.Script.{is_medium}
use Rattle.mdb_bytes.specs.declared.log_info.LogInfo.{LogInfo}
use Rattle.mdb_bytes.specs.declared.restart_record.RestartRecord.{RestartRecord}
use Rattle.mdb_bytes.specs.Groups.{open_gate}
use Rattle.mdb_bytes.specs.LogReading.{log_from}
use Rattle.mdb_bytes.specs.Rings.{ring_size, ring_byte}
use Rattle.mdb_bytes.specs.SlotRecords.{slot_len}
use Rattle.gate_slots.specs.declared.body.SlotBody.TheVariants.{Restart}
use Rattle.gate_slots.specs.declared.slots.Slots.{Slots}
use Rattle.gate_slots.specs.Slots.{in_force, IsReady}
use Rattle.gate_slots.specs.Steps.{Switches, SlotsTorn}
use Rattle.gate_slots.proofs.Forces.{ready_force}
use Rattle.volume_disk.specs.Blocks.{Writes}
use Rattle.standing.specs.Standing.{data_slots}
use Rattle.standing.specs.Looks.{LogPoint, look, record_in, record_of, log_info_in, open_medium, map_of_record, snapshot_maps, log_after, name_in_force, saved_in_force, redo_point, IsUnused}
use Rattle.standing.proofs.LookLaws.{log_info_same, of_record, of_snapshots, look_unused}
use Rattle.standing.specs.Switching.{shown_with, IsSlotBlock}
use Rattle.standing.proofs.SlotBlocks.{slots_write}

-- The next record is in force

module _ (old new : Image) (next : RestartRecord) (set : ℕ → Type 0) (change : Writes next.volumes.items set old new) where
  pub look_next : record_in new ≡ Some next → IsUnused (shown_with old next) next set → look new ≡ shown_with old next
  look_next is unused =
      let log : new Log ≡ old Log = change.others Log (λ i less e. absurd cc) in
      let media : (medium : ℕ) → new (Medium medium) ≡ old (Medium medium) = λ medium. change.others (Medium medium) (λ i less e. absurd cc) in
      let info : log_info_in new ≡ log_info_in old = log_info_same old new log in
      let opened : open_medium new ≡ open_medium old =
      λ i medium. if is_medium medium && byte_at (media medium i) slot_len == open_gate then media medium i else None in
      let kept : option_and_then (map_of_record new) (record_in new) ≡ map_of_record old next =
      ap (option_and_then (map_of_record new)) is ∙ of_record old new next set change unused.rec in
      let snapshots : snapshot_maps new (record_in new) ≡ snapshot_maps old (Some next) =
      ap (snapshot_maps new) is ∙ of_snapshots old new next set change unused.snapshots in
      let ring : (size : ℕ) → ring_byte size new ≡ ring_byte size old = λ size i position. byte_at (log i) (16384 + position % size) in
      let shown : (info : LogInfo) (name : Name) (point : LogPoint) → log_after new info name point ≡ log_after old info name point =
      λ info name point i. log_from (ring (ring_size info.pages) i) name (ring_size info.pages) point.position point.commit in
      λ i. record {
        sizes = λ device. change.same_sizes device i;
        restart = is i;
        log_info = info i;
        media = opened i;
        kept = kept i;
        snapshots = snapshots i;
        saved_log = option_and_then (λ found. shown found (name_in_force (is i) found) (saved_in_force (is i) (info i) (opened i)) i) (info i);
        redo_log = option_and_then (λ found. option_and_then (λ rec. shown found rec.name (redo_point rec) i) (is i)) (info i);
      }

-- A switch

pub look_switched : (slots : Slots) (r next : RestartRecord) (old new : Image) → slots.place ≡ data_slots → IsReady slots (Restart r) old → Switches slots (Restart next) old new
    → 2 ≤ get_or r.volumes.items 0 0 → next.volumes ≡ r.volumes
    → IsUnused (look old) r IsSlotBlock → IsUnused (shown_with old next) next IsSlotBlock
    → (look new ≡ look old) ⊎ (look new ≡ shown_with old next)
look_switched slots r next old new at ready switch two volumes unused unused_next =
    let torn : SlotsTorn data_slots old new = subst (λ p. SlotsTorn p old new) at switch.torn in
    let writes = slots_write old new torn r.volumes.items two in
    let writes_next : Writes next.volumes.items IsSlotBlock old new = subst (λ v. Writes v.items IsSlotBlock old new) (sym volumes) writes in
    let was : record_in old ≡ Some r = ap (option_and_then record_of) (subst (λ p. in_force old p ≡ Some (Restart r)) at (ready_force slots (Restart r) old ready)) in
    elim (switch.force (Restart r) ready) [
      | inl same ↦ inl (look_unused old new r IsSlotBlock writes was (ap (option_and_then record_of) (subst (λ p. in_force new p ≡ Some (Restart r)) at same)) unused)
      | inr other ↦ inr (look_next old new next IsSlotBlock writes_next (ap (option_and_then record_of) (subst (λ p. in_force new p ≡ Some (Restart next)) at other)) unused_next)
    ]
