-- What an image shows after a group was appended to the ring.
--     look_appended      the look is as before, or has one commit more in both logs
use Rattle.std.proofs.Common.{◌&&◌, ◌≡◌, ◌≢◌, ◌⊎◌, inl, inr, refl, sym, ap, ◌∙◌, subst, ℕ, zero, suc, ◌+◌, ◌<◌, ◌≤◌, cond, List, [], ◌∷◌, ◌++◌, get_or, length, map, Option, Some, None, ◌==◌, sum, arith, length-append}
use Rattle.std.specs.Prelude.{option_and_then, if◌then◌else◌}
use Rattle.std.proofs.lemmas.List.Sums.{sum_by-cons}
use Rattle.mdb_model.specs.declared.change.Commit.{Commit}
use Rattle.mdb_model.specs.declared.fault.Device.{Device}
use Rattle.mdb_model.specs.declared.fault.Device.TheVariants.{Data, Log, Medium}
use Rattle.mdb_model.specs.declared.name.Name.{Name}
use Rattle.mdb_model.specs.Images.{Image, size_of, byte_at}
use Rattle.mdb_model.specs.Script.{is_medium}
use Rattle.mdb_model.specs.Sessions.{group_bytes}
use Rattle.mdb_bytes.specs.declared.log_info.LogInfo.{LogInfo}
use Rattle.mdb_bytes.specs.declared.restart_record.RestartRecord.{RestartRecord}
use Rattle.mdb_bytes.specs.Groups.{Group, open_gate}
use Rattle.mdb_bytes.specs.KeptMaps.{kept_map}
use Rattle.mdb_bytes.specs.LogReading.{IsLog, log_bytes, bytes_from}
use Rattle.mdb_bytes.specs.Rings.{ring_size, ring_byte}
use Rattle.mdb_bytes.specs.SlotRecords.{slot_len}
use Rattle.mdb_bytes.proofs.GroupLaw.{group_is_long}
use Rattle.mdb_bytes.proofs.LogLaw.{first_is_gate}
use Rattle.gate_slots.specs.declared.place.Slot.{Slot}
use Rattle.gate_slots.specs.declared.place.Slot.TheVariants.{First, Second}
use Rattle.gate_slots.specs.Slots.{slot_start, gate_in, body_in, decoded_body, slot_in, greater}
use Rattle.gate_slots.proofs.Places.{start_high, body_same}
use Rattle.volume_disk.specs.Blocks.{place, block_at}
use Rattle.volume_disk.proofs.Pages.{page_agrees}
use Rattle.redo_ring.specs.Ring.{IsDue, Appends, Appended}
use Rattle.standing.specs.Standing.{log_slots}
use Rattle.standing.specs.Looks.{LogPoint, look, record_in, log_info_in, log_info_of, open_medium, map_of_record, snapshot_maps, log_after, saved_in_force, redo_point, saved_after, redo_after}
use Rattle.standing.proofs.LookLaws.{log_shown}
use Rattle.standing.specs.Appending.{appended}
use Rattle.redo_ring.proofs.LaterBeginnings.{later_log}
use Rattle.standing.proofs.SwitchStands.{few}

-- The gate behind a log

-- it is closed
pub gate_behind : (ring : ℕ → ℕ) (name : Name) (p n : ℕ) (cs : List Commit) → IsLog ring name p n cs → ring (p + log_bytes cs) ≢ open_gate
gate_behind ring name p n [] log =
    let at : p ≡ p + 0 = omega arith in
    subst (λ (q : ℕ). ring q ≢ open_gate) at log
gate_behind ring name p n (c ∷ cs) log =
    let whole : log_bytes (c ∷ cs) ≡ group_bytes c.changes + log_bytes cs = sum_by-cons (λ (c : Commit). group_bytes c.changes) c cs in
    let at : p + group_bytes c.changes + log_bytes cs ≡ p + log_bytes (c ∷ cs) = omega (arith, whole) in
    subst (λ (q : ℕ). ring q ≢ open_gate) at (gate_behind ring name (p + group_bytes c.changes) (n + 1) cs log.1)

bytes_from-first : (ring : ℕ → ℕ) (p n : ℕ) → 0 < n → get_or (bytes_from ring p n) 0 0 ≡ ring p
bytes_from-first ring p zero lt = absurd (omega (arith, lt))
bytes_from-first ring p (suc n) lt = refl

-- and open where one commit more stands there
pub gate_opened : (ring : ℕ → ℕ) (name : Name) (p n : ℕ) (cs : List Commit) (c : Commit) → IsLog ring name p n (cs ++ c ∷ []) → ring (p + log_bytes cs) ≡ open_gate
gate_opened ring name p n cs c log =
    let last = later_log ring name p n cs (c ∷ []) log in
    let g : Group = record { name = name; number = n + length cs + 1; changes = c.changes } in
    sym (bytes_from-first ring (p + log_bytes cs) (group_bytes c.changes) (omega (arith, group_is_long c.changes))) ∙ ap (λ bs. get_or bs 0 0) last.0.1 ∙ first_is_gate g

-- one commit more, by its bytes and its number
pub short_more : (size : ℕ) (name : Name) (end last : ℕ) (c : Commit) (ring : ℕ → ℕ) (p after : ℕ) (cs : List Commit) → IsDue size name end last (group_bytes c.changes) ring p after cs
    → length (cs ++ c ∷ []) < size
short_more size name end last c ring p after cs due = omega (arith, due.room, due.ends, few cs, group_is_long c.changes, length-append cs (c ∷ []))

-- What an append leaves as it was

module _ (old new : Image) (size : ℕ) (name : Name) (end last : ℕ) (c : Commit) (step : Appends size name end last c.changes old new) where
  data_same : (v : ℕ) → new (Data v) ≡ old (Data v)
  data_same v = step.others (Data v) (λ e. cc)

  medium_same : (m : ℕ) → new (Medium m) ≡ old (Medium m)
  medium_same m = step.others (Medium m) (λ e. cc)

  sizes_same : (d : Device) → size_of (new d) ≡ size_of (old d)
  sizes_same Log = step.same_size
  sizes_same (Data v) = ap size_of (data_same v)
  sizes_same (Medium m) = ap size_of (medium_same m)

  record_same : record_in new ≡ record_in old
  unfolding body_in
  record_same = ap (λ (device : Option (List ℕ)). record_in (λ d. device)) (data_same 1)

  slot_same : (slot : Slot) → slot_in new log_slots slot ≡ slot_in old log_slots slot
  slot_same slot =
      let high : slot_start log_slots slot + 8192 ≤ 16384 = omega (arith, start_high log_slots slot) in
      let gate : gate_in new log_slots slot ≡ gate_in old log_slots slot = step.front (slot_start log_slots slot + slot_len) (omega (arith, high)) in
      let body : body_in new log_slots slot ≡ body_in old log_slots slot = body_same log_slots slot old new step.same_size (λ k low less. step.front k (omega (arith, high, less))) in
      λ i. cond (gate i == open_gate) (decoded_body Log (body i)) None

  info_same : log_info_in new ≡ log_info_in old
  info_same = λ i. option_and_then log_info_of (greater (slot_same First i) (slot_same Second i))

  media_same : open_medium new ≡ open_medium old
  media_same = λ i medium. if is_medium medium && byte_at (medium_same medium i) slot_len == open_gate then medium_same medium i else None

  blocks_same : (sizes : List ℕ) → block_at sizes new ≡ block_at sizes old
  blocks_same sizes = λ i b. page_agrees old new (Data (place 1 sizes b).0) (place 1 sizes b).1 (data_same (place 1 sizes b).0) i

  map_same : (r : RestartRecord) → map_of_record new r ≡ map_of_record old r
  map_same r = λ i. if r.root == 0 then None else kept_map (blocks_same r.volumes.items i) (sum r.volumes.items) r.root

  snapshots_same : (r : RestartRecord) → snapshot_maps new (Some r) ≡ snapshot_maps old (Some r)
  snapshots_same r = λ i. map (λ e. (e, kept_map (blocks_same r.volumes.items i) (sum r.volumes.items) e.root)) r.snapshots.items

-- The look

module _ (old new : Image) (info : LogInfo) (r : RestartRecord) (end last : ℕ) (c : Commit) (saved redo : List Commit)
    (step : Appends (ring_size info.pages) r.name end last c.changes old new)
    (info_is : log_info_in old ≡ Some info) (record_is : record_in old ≡ Some r) where
  abbrev size : ℕ
  size = ring_size info.pages

  abbrev from : LogPoint
  from = saved_in_force (Some r) (Some info) (open_medium old)

  module _ (saved_due : IsDue size r.name end last (group_bytes c.changes) (ring_byte size old) from.position from.commit saved)
      (redo_due : IsDue size r.name end last (group_bytes c.changes) (ring_byte size old) r.position r.commit redo) where
    -- the logs that the old image shows
    saved_was : (look old).saved_log ≡ Some saved
    saved_was = (λ i. saved_after old (info_is i) (record_is i)) ∙ log_shown old info r.name from saved saved_due.log (omega (arith, short_more size r.name end last c (ring_byte size old) from.position from.commit saved saved_due, length-append saved (c ∷ [])))

    redo_was : (look old).redo_log ≡ Some redo
    redo_was = (λ i. redo_after old (info_is i) (record_is i)) ∙ log_shown old info r.name (redo_point r) redo redo_due.log (omega (arith, short_more size r.name end last c (ring_byte size old) r.position r.commit redo redo_due, length-append redo (c ∷ [])))

    -- what the new one shows, from the logs that stand in it
    shows : (saved2 redo2 : List Commit) → IsLog (ring_byte size new) r.name from.position from.commit saved2 → length saved2 < size
        → IsLog (ring_byte size new) r.name r.position r.commit redo2 → length redo2 < size
        → look new ≡ record (look old) { saved_log = Some saved2; redo_log = Some redo2 }
    shows saved2 redo2 saved_log saved_short redo_log redo_short =
        let restart : record_in new ≡ record_in old = record_same old new size r.name end last c step in
        let infos : log_info_in new ≡ log_info_in old = info_same old new size r.name end last c step in
        let media : open_medium new ≡ open_medium old = media_same old new size r.name end last c step in
        let kept : option_and_then (map_of_record new) (record_in new) ≡ option_and_then (map_of_record old) (record_in old) =
        ap (option_and_then (map_of_record new)) (restart ∙ record_is) ∙ map_same old new size r.name end last c step r ∙ sym (ap (option_and_then (map_of_record old)) record_is) in
        let snapshots : snapshot_maps new (record_in new) ≡ snapshot_maps old (record_in old) =
        ap (snapshot_maps new) (restart ∙ record_is) ∙ snapshots_same old new size r.name end last c step r ∙ sym (ap (snapshot_maps old) record_is) in
        let saved_is : saved_after new (log_info_in new) (record_in new) ≡ Some saved2 =
        (λ i. saved_after new ((infos ∙ info_is) i) ((restart ∙ record_is) i)) ∙ ap (λ m. log_after new info r.name (saved_in_force (Some r) (Some info) m)) media ∙ log_shown new info r.name from saved2 saved_log saved_short in
        let redo_is : redo_after new (log_info_in new) (record_in new) ≡ Some redo2 =
        (λ i. redo_after new ((infos ∙ info_is) i) ((restart ∙ record_is) i)) ∙ log_shown new info r.name (redo_point r) redo2 redo_log redo_short in
        λ i. record {
          sizes = λ device. sizes_same old new size r.name end last c step device i;
          restart = restart i;
          log_info = infos i;
          media = media i;
          kept = kept i;
          snapshots = snapshots i;
          saved_log = saved_is i;
          redo_log = redo_is i;
        }

    less : (cs : List Commit) → length (cs ++ c ∷ []) < size → length cs < size
    less cs lt = omega (arith, lt, length-append cs (c ∷ []))

    saved_more : length (saved ++ c ∷ []) < size
    saved_more = short_more size r.name end last c (ring_byte size old) from.position from.commit saved saved_due

    redo_more : length (redo ++ c ∷ []) < size
    redo_more = short_more size r.name end last c (ring_byte size old) r.position r.commit redo redo_due

    -- the two logs end at one gate
    shut : (p after : ℕ) (cs : List Commit) → IsLog (ring_byte size new) r.name p after cs → p + log_bytes cs ≡ end → ring_byte size new end ≢ open_gate
    shut p after cs log ends = subst (λ (q : ℕ). ring_byte size new q ≢ open_gate) ends (gate_behind (ring_byte size new) r.name p after cs log)

    opened : (p after : ℕ) (cs : List Commit) → IsLog (ring_byte size new) r.name p after (cs ++ c ∷ []) → p + log_bytes cs ≡ end → ring_byte size new end ≡ open_gate
    opened p after cs log ends = subst (λ (q : ℕ). ring_byte size new q ≡ open_gate) ends (gate_opened (ring_byte size new) r.name p after cs c log)

    as_before : look old ≡ record (look old) { saved_log = Some saved; redo_log = Some redo }
    as_before = λ i. record (look old) { saved_log = saved_was i; redo_log = redo_was i }

    pub look_appended : (look new ≡ look old) ⊎ (look new ≡ appended (look old) saved redo c)
    look_appended = elim (step.log from.position from.commit saved saved_due) [
      | inl saved_log ↦ elim (step.log r.position r.commit redo redo_due) [
        | inl redo_log ↦ inl (shows saved redo saved_log (less saved saved_more) redo_log (less redo redo_more) ∙ sym as_before)
        | inr redo_log ↦ absurd (shut from.position from.commit saved saved_log saved_due.ends (opened r.position r.commit redo redo_log redo_due.ends))
      ]
      | inr saved_log ↦ elim (step.log r.position r.commit redo redo_due) [
        | inl redo_log ↦ absurd (shut r.position r.commit redo redo_log redo_due.ends (opened from.position from.commit saved saved_log saved_due.ends))
        | inr redo_log ↦ inr (shows (saved ++ c ∷ []) (redo ++ c ∷ []) saved_log saved_more redo_log redo_more)
      ]
    ]

-- after the call the commit is there
module _ (old new : Image) (info : LogInfo) (r : RestartRecord) (end last : ℕ) (c : Commit) (saved redo : List Commit)
    (step : Appended (ring_size info.pages) r.name end last c.changes old new)
    (info_is : log_info_in old ≡ Some info) (record_is : record_in old ≡ Some r)
    (saved_due : IsDue (ring_size info.pages) r.name end last (group_bytes c.changes) (ring_byte (ring_size info.pages) old) (saved_in_force (Some r) (Some info) (open_medium old)).position
    (saved_in_force (Some r) (Some info) (open_medium old)).commit saved)
    (redo_due : IsDue (ring_size info.pages) r.name end last (group_bytes c.changes) (ring_byte (ring_size info.pages) old) r.position r.commit redo) where
  pub look_has_it : look new ≡ appended (look old) saved redo c
  look_has_it =
      let from : LogPoint = saved_in_force (Some r) (Some info) (open_medium old) in
      shows old new info r end last c saved redo step.appends info_is record_is saved_due redo_due (saved ++ c ∷ []) (redo ++ c ∷ [])
      (step.more from.position from.commit saved saved_due) (saved_more old new info r end last c saved redo step.appends info_is record_is saved_due redo_due)
      (step.more r.position r.commit redo redo_due) (redo_more old new info r end last c saved redo step.appends info_is record_is saved_due redo_due)
