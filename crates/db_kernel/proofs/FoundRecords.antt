-- The records that were found, of devices that are synced.
--     named_same      each image has on the devices of a database what a read gives
--     is_found      so what was found is that of the world
--     area_there, all_durable      the data volumes are there, and a crash leaves their blocks
--     is_start      where the log begins is in order
--     some_volume, still_each, ring_there      what reading the records finds
use Rattle.std.proofs.Common.{◌≡◌, refl, sym, ap, subst, ◌∙◌, ℕ, ◌+◌, ◌-◌, ◌*◌, ◌<◌, ◌≤◌, Bool, true, false, cond, List, [], ◌∷◌, length, get_or, sum, Option, Some, None, arith}
use Rattle.std.specs.Prelude.{IfSome, option_and_then}
use Rattle.mdb_model.specs.declared.fault.Device.{Device}
use Rattle.mdb_model.specs.declared.fault.Device.TheVariants.{Data, Log, Medium}
use Rattle.mdb_model.specs.Images.{Image, size_of}
use Rattle.mdb_model.specs.Worlds.{World}
use Rattle.mdb_host.specs.Disk.{Disk, Goes, Agree}
use Rattle.mdb_host.proofs.Moments.{same_image}
use Rattle.mdb_host.specs.Places.{device_at, IsNamed}
use Rattle.mdb_bytes.specs.declared.log_info.LogInfo.{LogInfo}
use Rattle.mdb_bytes.specs.declared.restart_record.RestartRecord.{RestartRecord}
use Rattle.mdb_bytes.specs.Rings.{HasRing, ring_size}
use Rattle.gate_slots.specs.declared.body.SlotBody.TheVariants.{Restart}
use Rattle.gate_slots.specs.Slots.{in_force}
use Rattle.volume_disk.specs.Blocks.{IsArea, IsDurable, place, block_at}
use Rattle.volume_disk.proofs.Pages.{page_agrees}
use Rattle.volume_disk.proofs.Places.{place_is}
use Rattle.redo_ring.specs.declared.open.LogStart.{LogStart}
use Rattle.redo_ring.specs.Opening.{IsStart}
use Rattle.creation.specs.Devices.{device_count, SyncedUpTo}
use Rattle.creation.proofs.Fresh.{volume_is, medium_is}
use Rattle.standing.specs.Looks.{LogPoint, look, record_in, log_info_in, record_of, log_info_of, log_backup_ended, point_of_info, redo_point, saved_point, saved_in_force, open_medium}
use Rattle.standing.specs.Standing.{data_slots}
use Rattle.standing.specs.WholeStanding.{StandsWhole}
use Rattle.live_area.specs.Awaiting.{IsFound, start_of}
use Rattle.db_kernel.specs.declared.opening.Found.{Found}
use Rattle.db_kernel.specs.Damages.{log_start_of, is_earlier}
use Rattle.db_kernel.specs.Reading.{FindsRecords, IsLowStart, VolumeFits}

-- a crash leaves of the devices of a database what a read gives
pub named_same : (d : Disk) → SyncedUpTo device_count d → (image : Image) → d.may_leave d.now image → (device : Device) → IsNamed device → image device ≡ d.seen device
named_same d synced image left Log named = synced 8 (omega arith) image left
named_same d synced image left (Data n) (low, high) =
    subst (λ (e : Device). image e ≡ d.seen e) (volume_is (n - 1) (omega (arith, low, high)) ∙ ap Data (omega (arith, low))) (synced (n - 1) (omega (arith, low, high)) image left)
named_same d synced image left (Medium n) (low, high) =
    subst (λ (e : Device). image e ≡ d.seen e) (medium_is n low) (synced (n + 8) (omega (arith, high)) image left)

-- Where the log begins

-- where no backup is pending the log info tells what it says
not_ended : (info : LogInfo) (media : ℕ → Option (List ℕ)) → info.pending_medium ≡ 0 → log_backup_ended info media ≡ false
not_ended info media none = ap (λ (medium : ℕ). log_backup_ended (record info { pending_medium = medium }) media) none

same_start : (restart : RestartRecord) (info : LogInfo) (earlier : Bool) → (record {
  name = restart.name;
  pages = info.pages;
  position = restart.position;
  commit = restart.commit;
  saved_position = cond earlier restart.position info.saved_position;
  saved_commit = cond earlier restart.commit info.saved_commit;
}) ≡ start_of restart info (cond earlier (redo_point restart) (record { commit = info.saved_commit; position = info.saved_position }))
same_start restart info true = refl
same_start restart info false = refl

begins : (seen : Image) (w : World) (restart : RestartRecord) (info : LogInfo) → StandsWhole seen w → record_in seen ≡ Some restart → log_info_in seen ≡ Some info → log_start_of restart info ≡ start_of restart info (saved_point (look seen))
begins seen w restart info stands restart_in info_in =
    let pending : info.pending_medium ≡ 0 = subst (λ (o : Option LogInfo). IfSome o (λ i. i.pending_medium ≡ 0)) info_in (stands.stage.backups refl).log_pending in
    let told : point_of_info info (open_medium seen) ≡ record { commit = info.saved_commit; position = info.saved_position } =
    ap (λ (b : Bool). cond b (record { commit = info.pending_commit; position = info.pending_position }) (record { commit = info.saved_commit; position = info.saved_position })) (not_ended info (open_medium seen) pending) in
    let point : saved_point (look seen) ≡ cond (is_earlier restart info) (redo_point restart) (record { commit = info.saved_commit; position = info.saved_position }) =
    (λ i. saved_in_force (restart_in i) (info_in i) (open_medium seen)) ∙ ap (λ (p : LogPoint). cond (is_earlier restart info) (redo_point restart) p) told in
    same_start restart info (is_earlier restart info) ∙ ap (λ (p : LogPoint). start_of restart info p) (sym point)

pub is_found : (d : Disk) (w : World) (found : Found) → FindsRecords found d.seen → StandsWhole d.seen w → ((image : Image) → d.may_leave d.now image → look image ≡ look d.seen) → IsFound found.in_force.record found.start d w
is_found d w found finds stands looks =
    let has : in_force d.seen data_slots ≡ Some (Restart found.in_force.record) = finds.has_restart ∙ ap (λ (r : RestartRecord). Some (Restart r)) (sym finds.is) in
    let info_in : log_info_in d.seen ≡ Some finds.info = ap (option_and_then log_info_of) finds.has_info in
    record {
      info = finds.info;
      stands = stands;
      synced = looks;
      restart = has;
      log_info = info_in;
      begins = finds.start ∙ ap (λ (r : RestartRecord). log_start_of r finds.info) (sym finds.is) ∙ begins d.seen w found.in_force.record finds.info stands (ap (option_and_then record_of) has) info_in;
    }

pub is_start : (start : LogStart) → IsLowStart start → IsStart start
is_start start low = record {
  size = record { pages = start.pages - 2; is = omega arith; least = omega (arith, low.pages.0); most = omega (arith, low.pages.1) };
  low = omega (arith, low.position);
  count = omega (arith, low.commit);
  saved_low = omega (arith, low.saved_position);
  saved_count = omega (arith, low.saved_commit);
}

-- The data volumes

pub area_there : (restart : RestartRecord) (seen : Image) → ((volume : ℕ) → volume < length restart.volumes.items → VolumeFits restart volume seen) → IsArea restart.volumes.items seen
area_there restart seen fits i inside = (get_or restart.volumes.items i 0 * 8192, (fits i inside).size, omega arith)

pub all_durable : (sizes : List ℕ) → length sizes ≤ 8 → (d : Disk) → SyncedUpTo device_count d → IsDurable sizes d
all_durable sizes few d synced image left block inside =
    let at = place_is 1 sizes block inside in
    page_agrees d.seen image (Data (place 1 sizes block).0) (place 1 sizes block).1
    (subst (λ (v : ℕ). image (Data v) ≡ d.seen (Data v)) (sym at.volume) (named_same d synced image left (Data (1 + at.i)) (omega arith, omega (arith, at.there, few))))

-- volumes with a block are some
pub some_volume : (sizes : List ℕ) → 0 < sum sizes → 0 < length sizes
some_volume [] some = absurd (omega (arith, some))
some_volume (n ∷ sizes) some = omega arith

-- Calls that read

-- what holds of each image that a crash might leave before them holds of each after
pub still_each : (d e : Disk) (P : Image → Type 0) → Goes d e Agree → ((image : Image) → d.may_leave d.now image → P image) → (image : Image) → e.may_leave e.now image → P image
still_each d e P goes each image left =
    let x = goes.since e.now image goes.keeps.later (omega arith) left in
    subst P (same_image x.0 image x.2) (each x.0 x.1)

-- the ring is there that the log info says
pub ring_there : (old new : Image) → Agree old new → (pages : ℕ) → 4 ≤ pages → (start_pages : ℕ) → start_pages ≡ pages → size_of (old Log) ≡ Some (pages * 8192) → HasRing (ring_size start_pages) new
ring_there old new agree pages least start_pages same size = ap size_of (agree Log) ∙ size ∙ ap Some (omega (arith, least, same))
