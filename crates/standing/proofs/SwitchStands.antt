-- An image after a switch of the restart record's slots stands for the world that it stood for.
--     redo_behind      the log behind a later mark
--     switch_stands      the law
use Rattle.std.proofs.Common.{◌≡◌, ◌⊎◌, inl, inr, refl, sym, ap, ◌∙◌, subst, ℕ, ◌+◌, ◌<◌, ◌≤◌, min, List, [], ◌∷◌, ◌++◌, length, get_or, map, Option, Some, None, arith, sum}
use Rattle.std.specs.Prelude.{option_and_then}
use Rattle.std.specs.List.{AllZip, AllByRecursion}
use Rattle.std.specs.FinMap.{entries}
use Rattle.std.proofs.lemmas.List.Sums.{sum_by-cons, sum_by-append}
use Rattle.std.proofs.lemmas.Option.{same_Some}
use Rattle.mdb_model.specs.declared.change.Commit.{Commit}
use Rattle.mdb_model.specs.declared.name.Name.{Name}
use Rattle.mdb_model.specs.History.{commits_above}
use Rattle.mdb_model.specs.Images.{Image}
use Rattle.mdb_model.specs.Sessions.{group_bytes}
use Rattle.mdb_model.specs.Worlds.{World, Live, Snapshot}
use Rattle.mdb_bytes.specs.declared.log_info.LogInfo.{LogInfo}
use Rattle.mdb_bytes.specs.declared.restart_record.RestartRecord.{RestartRecord}
use Rattle.mdb_bytes.specs.declared.restart_record.SnapshotEntry.{SnapshotEntry}
use Rattle.mdb_bytes.specs.KeptMaps.{KeptMap}
use Rattle.mdb_bytes.specs.LogReading.{IsLog, log_bytes}
use Rattle.mdb_bytes.specs.Rings.{ring_size, ring_byte}
use Rattle.mdb_bytes.proofs.GroupLaw.{group_is_long}
use Rattle.mdb_bytes.proofs.KeptMapLaws.{all_of}
use Rattle.gate_slots.specs.declared.body.SlotBody.TheVariants.{Restart}
use Rattle.gate_slots.specs.declared.slots.Slots.{Slots}
use Rattle.gate_slots.specs.Slots.{in_force, IsReady}
use Rattle.gate_slots.specs.Steps.{Switches}
use Rattle.gate_slots.proofs.Forces.{ready_force}
use Rattle.volume_disk.specs.Blocks.{block_at}
use Rattle.mdb_bytes.specs.KeptMaps.{kept_map}
use Rattle.redo_ring.proofs.LaterBeginnings.{later_log}
use Rattle.standing.specs.Standing.{data_slots}
use Rattle.standing.specs.Looks.{LogPoint, look, record_in, record_of, log_info_in, open_medium, map_of_record, snapshot_maps, log_after, redo_point, saved_after, redo_after, saved_point, IsUnusedBy, IsUnused}
use Rattle.standing.specs.WholeStanding.{LookStands, StandsWhole, AreaStands, AreaIsLive, MapIsInOrder, IsSnapshot, needed_from}
use Rattle.standing.proofs.LookLaws.{log_is, log_shown}
use Rattle.standing.specs.Switching.{shown_with, switched, IsSlotBlock, IsNext, KeepsSaved, IsNewMap, IsMark}
use Rattle.standing.proofs.LookSwitched.{look_switched}
use Rattle.standing.proofs.SavepointStands.{needed_in_service, savepoint_stands}

-- The log behind a mark

-- each commit has a byte or more
pub few : (commits : List Commit) → length commits ≤ log_bytes commits
few [] = omega arith
few (commit ∷ commits) =
    let whole : log_bytes (commit ∷ commits) ≡ group_bytes commit.changes + log_bytes commits = sum_by-cons (λ (c : Commit). group_bytes c.changes) commit commits in
    omega (arith, whole, group_is_long commit.changes, few commits)

-- the log behind a later mark
pub redo_behind : (image : Image) (info : LogInfo) (r next : RestartRecord) (done rest : List Commit) → log_after image info r.name (redo_point r) ≡ Some (done ++ rest) → next.name ≡ r.name → IsMark r next done
    → length rest < ring_size info.pages → log_after image info next.name (redo_point next) ≡ Some rest
redo_behind image info r next done rest shown name mark short =
    let behind = later_log (ring_byte (ring_size info.pages) image) r.name r.position r.commit done rest (log_is image info r.name (redo_point r) (done ++ rest) shown) in
    log_shown image info next.name (redo_point next) rest
    (subst (λ (x : Name × ℕ × ℕ). IsLog (ring_byte (ring_size info.pages) image) x.0 x.1 x.2 rest) (λ i. (sym name i, sym mark.position i, sym mark.commit i)) behind) short

-- An image with the next record in force shows the look that was switched

saved_after_same : (old : Image) (r next : RestartRecord) (info : Option LogInfo) → next.name ≡ r.name → KeepsSaved (open_medium old) info r next → saved_after old info (Some next) ≡ saved_after old info (Some r)
saved_after_same old r next None name keeps = refl
saved_after_same old r next (Some info) name keeps = λ i. log_after old info (name i) (keeps i)

shown_is_switched : (old : Image) (r next : RestartRecord) (new : KeptMap) (log : List Commit) → record_in old ≡ Some r → IsNext (open_medium old) r next → KeepsSaved (open_medium old) (log_info_in old) r next
    → map_of_record old next ≡ Some new → redo_after old (log_info_in old) (Some next) ≡ Some log → shown_with old next ≡ switched (look old) next new log
shown_is_switched old r next new log was n keeps there behind =
    let snapshots : snapshot_maps old (Some next) ≡ snapshot_maps old (record_in old) =
    (λ i. map (λ e. (e, kept_map (block_at (n.volumes i).items old) (sum (n.volumes i).items) e.root)) (n.snapshots i).items) ∙ sym (ap (snapshot_maps old) was) in
    let saved : saved_after old (log_info_in old) (Some next) ≡ saved_after old (log_info_in old) (record_in old) =
    saved_after_same old r next (log_info_in old) n.name keeps ∙ sym (ap (saved_after old (log_info_in old)) was) in
    λ i. record (look old) { restart = Some next; kept = there i; snapshots = snapshots i; saved_log = saved i; redo_log = behind i }

-- No map that the image keeps uses the blocks of the slots

unused_by : (kept : KeptMap) (blocks area : ℕ) → blocks ≡ area → MapIsInOrder kept blocks → IsUnusedBy IsSlotBlock area kept
unused_by kept blocks area same order = (
  all_of (λ block. (2 ≤ block) × (block < blocks)) (λ block. (block < area) × (IsSlotBlock block → ⊥)) (λ block b. (omega (arith, b.1, same), λ low. omega (arith, b.0, low))) kept.converter order.blocks_apart.converter,
  all_of (λ e. (2 ≤ e.1.block) × (e.1.block < blocks)) (λ e. (e.1.block < area) × (IsSlotBlock e.1.block → ⊥)) (λ e b. (omega (arith, b.1, same), λ low. omega (arith, b.0, low))) kept.places order.blocks_apart.placed,
)

abbrev KeptUnused : ℕ → SnapshotEntry × Option KeptMap → Type 0
KeptUnused area e = (kept : KeptMap) × (e.1 ≡ Some kept) × IsUnusedBy IsSlotBlock area kept

snapshots_unused : (blocks area : ℕ) → blocks ≡ area → (ws : List (ℕ × Snapshot)) (ls : List (SnapshotEntry × Option KeptMap)) → AllZip (IsSnapshot blocks) ws ls → AllByRecursion (KeptUnused area) ls
snapshots_unused blocks area same [] [] all = tt
snapshots_unused blocks area same [] (y ∷ ys) all = absurd all
snapshots_unused blocks area same (x ∷ xs) [] all = absurd all
snapshots_unused blocks area same (x ∷ xs) (y ∷ ys) all = ((all.0.kept, all.0.there, unused_by all.0.kept blocks area same all.0.in_order), snapshots_unused blocks area same xs ys all.1)

-- The law

module _ (slots : Slots) (r next : RestartRecord) (old new_image : Image) (w : World) (new : KeptMap) (done rest : List Commit)
    (s : StandsWhole old w) (live : w.area ≡ Live) (at : slots.place ≡ data_slots) (ready : IsReady slots (Restart r) old) (switch : Switches slots (Restart next) old new_image)
    (n : IsNext (open_medium old) r next) (keeps : KeepsSaved (open_medium old) (log_info_in old) r next) (before : (look old).redo_log ≡ Some (done ++ rest)) (mark : IsMark r next done)
    (there : map_of_record old next ≡ Some new) (m : IsNewMap (look old) next new rest w) where
  was : record_in old ≡ Some r
  was = ap (option_and_then record_of) (subst (λ p. in_force old p ≡ Some (Restart r)) at (ready_force slots (Restart r) old ready))

  area : AreaIsLive (look old) w
  area = subst (λ a. AreaStands a (look old) s.info w) live s.area

  same_record : area.rec ≡ r
  same_record = same_Some area.rec r (sym area.in_force ∙ was)

  blocks_are : w.blocks ≡ sum r.volumes.items
  blocks_are = area.sizes.blocks ∙ ap (λ x. sum x.volumes.items) same_record

  blocks_next : w.blocks ≡ sum next.volumes.items
  blocks_next = blocks_are ∙ sym (ap (λ v. sum v.items) n.volumes)

  two : 2 ≤ get_or r.volumes.items 0 0
  two =
      let first = area.sizes.limits.each 0 (omega (arith, area.sizes.limits.some)) in
      let e : get_or area.rec.volumes.items 0 0 ≡ get_or r.volumes.items 0 0 = ap (λ x. get_or x.volumes.items 0 0) same_record in
      omega (arith, first, e)

  abbrev point : LogPoint
  point = saved_point (look old)

  -- the whole log is there to be redone
  log_is_whole : log_after old s.info r.name (redo_point r) ≡ Some (done ++ rest)
  log_is_whole = sym ((λ i. redo_after old (s.in_force i) (was i))) ∙ before

  whole : (log : List Commit) → log ≡ done ++ rest → r.position + log_bytes log < r.position + ring_size s.info.pages
  whole log is =
      let same : area.rows.log ≡ log = same_Some area.rows.log log (sym area.rows.in_log ∙ before ∙ ap Some (sym is)) in
      let ends : r.position + log_bytes log ≡ point.position + log_bytes (commits_above w.history w.saved) =
      sym (λ i. (same_record i).position + log_bytes (same i)) ∙ area.rows.same_end in
      let needed : needed_from (look old) ≡ min r.position point.position =
      needed_in_service (look old).restart r point.position was (ap (λ x. x.state) (sym same_record) ∙ area.normal) in
      omega (arith, s.log.fits, needed, ends, s.log_size.ring)

  short : length rest < ring_size s.info.pages
  short =
      let bytes : log_bytes (done ++ rest) ≡ log_bytes done + log_bytes rest = sum_by-append (λ (c : Commit). group_bytes c.changes) done rest in
      omega (arith, whole (done ++ rest) refl, bytes, few rest)

  behind : redo_after old (log_info_in old) (Some next) ≡ Some rest
  behind = ap (λ o. redo_after old o (Some next)) s.in_force ∙ redo_behind old s.info r next done rest log_is_whole n.name mark short

  unused : IsUnused (look old) r IsSlotBlock
  unused = record {
    rec = λ some_root. (area.kept, area.there, unused_by area.kept w.blocks (sum r.volumes.items) blocks_are area.in_order);
    snapshots = snapshots_unused w.blocks (sum r.volumes.items) blocks_are (entries w.snapshots) (look old).snapshots area.snapshots;
  }

  shows : shown_with old next ≡ switched (look old) next new rest
  shows = shown_is_switched old r next new rest was n keeps there behind

  unused_next : IsUnused (shown_with old next) next IsSlotBlock
  unused_next = subst (λ l. IsUnused l next IsSlotBlock) (sym shows) (record {
    rec = λ some_root. (new, refl, unused_by new w.blocks (sum next.volumes.items) blocks_next m.in_order);
    snapshots = snapshots_unused w.blocks (sum next.volumes.items) blocks_next (entries w.snapshots) (look old).snapshots area.snapshots;
  })

  pub switch_shows : (look new_image ≡ look old) ⊎ (look new_image ≡ switched (look old) next new rest)
  switch_shows = elim (look_switched slots r next old new_image at ready switch two n.volumes unused unused_next) [
    | inl same ↦ inl same
    | inr other ↦ inr (other ∙ shows)
  ]

  pub switch_stands : StandsWhole new_image w
  switch_stands = elim switch_shows [
    | inl same ↦ subst (λ l. LookStands l w) (sym same) s
    | inr other ↦ subst (λ l. LookStands l w) (sym other) (savepoint_stands (look old) w r next new rest s live was n keeps m)
  ]
