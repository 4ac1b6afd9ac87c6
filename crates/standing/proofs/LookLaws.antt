-- What images show.
--     log_is, log_shown      the commits that a look has are those that stand in the log
--     look_but      so may the devices that a database does not have
--     look_unused, stands_unused      blocks that no kept map uses may hold anything
use Rattle.std.proofs.Common.{◌≡◌, ◌≢◌, refl, sym, ap, ◌∙◌, subst, ℕ, ◌+◌, ◌%◌, ◌<◌, true, false, cond, ◌&&◌, List, [], ◌∷◌, map, length, Option, Some, None, ◌==◌, sum}
use Rattle.std.specs.Prelude.{option_and_then}
use Rattle.std.specs.List.{AllByRecursion}
use Rattle.mdb_model.specs.declared.change.Commit.{Commit}
use Rattle.mdb_model.specs.declared.fault.Device.TheVariants.{Log, Medium}
use Rattle.mdb_model.specs.declared.name.Name.{Name}
use Rattle.mdb_model.specs.Images.{Image, byte_at}
use Rattle.mdb_model.specs.Script.{is_medium}
use Rattle.mdb_model.specs.Worlds.{World}
use Rattle.mdb_host.specs.Disk.{SameSizes}
use Rattle.mdb_bytes.specs.declared.log_info.LogInfo.{LogInfo}
use Rattle.mdb_bytes.specs.declared.restart_record.RestartRecord.{RestartRecord}
use Rattle.mdb_bytes.specs.declared.restart_record.SnapshotEntry.{SnapshotEntry}
use Rattle.mdb_bytes.specs.Groups.{open_gate}
use Rattle.mdb_bytes.specs.KeptMaps.{KeptMap}
use Rattle.mdb_bytes.specs.LogReading.{IsLog, log_from}
use Rattle.mdb_bytes.specs.Rings.{ring_byte, ring_size}
use Rattle.mdb_bytes.specs.SlotRecords.{slot_len}
use Rattle.mdb_bytes.proofs.KeptMapLaws.{map_same, all_of, SameOn, kept_map_same}
use Rattle.mdb_bytes.proofs.LogLaw.{log_from-is_log, is_log-log_from}
use Rattle.gate_slots.specs.Slots.{body_in}
use Rattle.volume_disk.specs.Blocks.{block_at, Writes}
use Rattle.standing.specs.Looks.{LogPoint, look, record_in, log_info_in, open_medium, map_under, map_of_record, snapshot_maps, log_after, name_in_force, saved_in_force, redo_point, IsUnusedBy, IsUnused}
use Rattle.standing.specs.WholeStanding.{StandsWhole}
use Rattle.standing.proofs.WholeLaw.{same_look}

-- The log

-- the commits that are shown stand in the log
pub log_is : (image : Image) (info : LogInfo) (name : Name) (point : LogPoint) (commits : List Commit) → log_after image info name point ≡ Some commits
    → IsLog (ring_byte (ring_size info.pages) image) name point.position point.commit commits
log_is image info name point commits = log_from-is_log (ring_byte (ring_size info.pages) image) name (ring_size info.pages) point.position point.commit commits

-- and those that stand there are shown
pub log_shown : (image : Image) (info : LogInfo) (name : Name) (point : LogPoint) (commits : List Commit)
    → IsLog (ring_byte (ring_size info.pages) image) name point.position point.commit commits → length commits < ring_size info.pages → log_after image info name point ≡ Some commits
log_shown image info name point commits = is_log-log_from (ring_byte (ring_size info.pages) image) name (ring_size info.pages) point.position point.commit commits

-- the log info in force is read from the log volume alone
pub log_info_same : (old new : Image) → new Log ≡ old Log → log_info_in new ≡ log_info_in old
unfolding body_in
log_info_same old new log = ap (λ (device : Option (List ℕ)). log_info_in (λ d. device)) log

-- Blocks

-- the two have devices of the same sizes, and the same on those of a database, but for blocks of a set
pub record AreSameBut (r : RestartRecord) (set : ℕ → Type 0) (old new : Image) : Type 0 where
  pub same_sizes : SameSizes old new
  pub log : new Log ≡ old Log
  pub media : (medium : ℕ) → is_medium medium ≡ true → new (Medium medium) ≡ old (Medium medium)
  pub outside : (b : ℕ) → b < sum r.volumes.items → (set b → ⊥) → block_at r.volumes.items new b ≡ block_at r.volumes.items old b

-- what a medium shows
medium_shown : (old new : Image) → ((medium : ℕ) → is_medium medium ≡ true → new (Medium medium) ≡ old (Medium medium)) → (medium : ℕ) → open_medium new medium ≡ open_medium old medium
medium_shown old new media medium =
    elim (is_medium medium) as (λ b. is_medium medium ≡ b → cond (b && byte_at (new (Medium medium)) slot_len == open_gate) (new (Medium medium)) None ≡ cond (b && byte_at (old (Medium medium)) slot_len == open_gate) (old (Medium medium)) None) [
      | true ↦ λ e. (let same = media medium e in λ i. cond (byte_at (same i) slot_len == open_gate) (same i) None)
      | false ↦ λ e. refl
    ] refl

module _ (old new : Image) (r : RestartRecord) (set : ℕ → Type 0) (change : AreSameBut r set old new) where
  abbrev blocks : ℕ
  blocks = sum r.volumes.items

  -- the blocks that such a map uses read the same
  same_on : (kept : KeptMap) → IsUnusedBy set blocks kept → SameOn (block_at r.volumes.items old) (block_at r.volumes.items new) blocks kept
  same_on kept unused =
      (all_of _ _ (λ b u. change.outside b u.0 u.1) kept.converter unused.0, all_of _ _ (λ e u. change.outside e.1.block u.0 u.1) kept.places unused.1)

  under_record : (root : ℕ) → (kept : KeptMap) × (map_under old r root ≡ Some kept) × IsUnusedBy set blocks kept → map_under new r root ≡ map_under old r root
  under_record root unused = kept_map_same (block_at r.volumes.items old) (block_at r.volumes.items new) blocks root unused.0 unused.1 (same_on unused.0 unused.2)

  pub of_record_but : (r.root ≢ 0 → (kept : KeptMap) × (map_of_record old r ≡ Some kept) × IsUnusedBy set blocks kept) → map_of_record new r ≡ map_of_record old r
  of_record_but unused =
      elim (r.root == 0) as (λ b. (r.root == 0) ≡ b → cond b None (map_under new r r.root) ≡ cond b None (map_under old r r.root)) [
        | true ↦ λ e. refl
        | false ↦ λ e.
            let some_root : r.root ≢ 0 = λ z. (let t : (0 == 0) ≡ false = subst (λ n. (n == 0) ≡ false) z e in absurd cc) in
            let u = unused some_root in
            let there : map_under old r r.root ≡ Some u.0 = subst (λ b. cond b None (map_under old r r.root) ≡ Some u.0) e u.1 in
            under_record r.root (u.0, there, u.2)
      ] refl

  all_mapped : {A B : Type 0} (P : B → Type 0) (h : A → B) (xs : List A) → AllByRecursion P (map h xs) → AllByRecursion (λ x. P (h x)) xs
  all_mapped P h [] all = tt
  all_mapped P h (x ∷ xs) all = (all.0, all_mapped P h xs all.1)

  pub of_snapshots_but : AllByRecursion (λ e. (kept : KeptMap) × (e.1 ≡ Some kept) × IsUnusedBy set blocks kept) (snapshot_maps old (Some r))
      → snapshot_maps new (Some r) ≡ snapshot_maps old (Some r)
  of_snapshots_but unused =
      let P : SnapshotEntry × Option KeptMap → Type 0 = λ e. (kept : KeptMap) × (e.1 ≡ Some kept) × IsUnusedBy set blocks kept in
      let before : SnapshotEntry → SnapshotEntry × Option KeptMap = λ e. (e, map_under old r e.root) in
      let after : SnapshotEntry → SnapshotEntry × Option KeptMap = λ e. (e, map_under new r e.root) in
      let each : AllByRecursion (λ e. P (before e)) r.snapshots.items = all_mapped P before r.snapshots.items unused in
      map_same before after r.snapshots.items
      (all_of (λ e. P (before e)) (λ e. after e ≡ before e) (λ e u i. (e, under_record e.root u i)) r.snapshots.items each)

  -- an image shows the same where blocks that no kept map uses hold something else
  pub look_but : record_in old ≡ Some r → record_in new ≡ Some r → IsUnused (look old) r set → look new ≡ look old
  look_but was is unused =
      let restart : record_in new ≡ record_in old = is ∙ sym was in
      let info : log_info_in new ≡ log_info_in old = log_info_same old new change.log in
      let opened : open_medium new ≡ open_medium old =
      λ i medium. medium_shown old new change.media medium i in
      let on_record : r.root ≢ 0 → (kept : KeptMap) × (map_of_record old r ≡ Some kept) × IsUnusedBy set blocks kept =
      λ some_root. (let u = unused.rec some_root in (u.0, sym (ap (option_and_then (map_of_record old)) was) ∙ u.1, u.2)) in
      let kept : option_and_then (map_of_record new) (record_in new) ≡ option_and_then (map_of_record old) (record_in old) =
      ap (option_and_then (map_of_record new)) is ∙ of_record_but on_record ∙ sym (ap (option_and_then (map_of_record old)) was) in
      let on_snapshots : AllByRecursion (λ e. (kept : KeptMap) × (e.1 ≡ Some kept) × IsUnusedBy set blocks kept) (snapshot_maps old (Some r)) =
      subst (λ o. AllByRecursion (λ e. (kept : KeptMap) × (e.1 ≡ Some kept) × IsUnusedBy set blocks kept) (snapshot_maps old o)) was unused.snapshots in
      let snapshots : snapshot_maps new (record_in new) ≡ snapshot_maps old (record_in old) =
      ap (snapshot_maps new) is ∙ of_snapshots_but on_snapshots ∙ sym (ap (snapshot_maps old) was) in
      let ring : (size : ℕ) → ring_byte size new ≡ ring_byte size old = λ size i position. byte_at (change.log i) (16384 + position % size) in
      let shown : (info : LogInfo) (name : Name) (point : LogPoint) → log_after new info name point ≡ log_after old info name point =
      λ info name point i. log_from (ring (ring_size info.pages) i) name (ring_size info.pages) point.position point.commit in
      λ i. record {
        sizes = λ device. change.same_sizes device i;
        restart = restart i;
        log_info = info i;
        media = opened i;
        kept = kept i;
        snapshots = snapshots i;
        saved_log = option_and_then (λ found. shown found (name_in_force (restart i) found) (saved_in_force (restart i) (info i) (opened i)) i) (info i);
        redo_log = option_and_then (λ found. option_and_then (λ rec. shown found rec.name (redo_point rec) i) (restart i)) (info i);
      }

-- Where blocks are written

writes_but : (old new : Image) (r : RestartRecord) (set : ℕ → Type 0) → Writes r.volumes.items set old new → AreSameBut r set old new
writes_but old new r set change = record {
  same_sizes = change.same_sizes;
  log = change.others Log (λ i less e. absurd cc);
  media = λ medium named. change.others (Medium medium) (λ i less e. absurd cc);
  outside = change.outside;
}

module _ (old new : Image) (r : RestartRecord) (set : ℕ → Type 0) (change : Writes r.volumes.items set old new) where
  pub of_record : (r.root ≢ 0 → (kept : KeptMap) × (map_of_record old r ≡ Some kept) × IsUnusedBy set (sum r.volumes.items) kept) → map_of_record new r ≡ map_of_record old r
  of_record = of_record_but old new r set (writes_but old new r set change)

  pub of_snapshots : AllByRecursion (λ e. (kept : KeptMap) × (e.1 ≡ Some kept) × IsUnusedBy set (sum r.volumes.items) kept) (snapshot_maps old (Some r))
      → snapshot_maps new (Some r) ≡ snapshot_maps old (Some r)
  of_snapshots = of_snapshots_but old new r set (writes_but old new r set change)

  pub look_unused : record_in old ≡ Some r → record_in new ≡ Some r → IsUnused (look old) r set → look new ≡ look old
  look_unused = look_but old new r set (writes_but old new r set change)

  -- so it stands for the same worlds
  pub stands_unused : (w : World) → record_in old ≡ Some r → record_in new ≡ Some r → IsUnused (look old) r set → StandsWhole old w → StandsWhole new w
  stands_unused w was is unused = same_look old new w (sym (look_unused was is unused))
