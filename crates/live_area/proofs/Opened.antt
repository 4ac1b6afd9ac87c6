-- A restart is done, or failed.
--     not_opened      what a failed one leaves
--     low_end, low_last      the end of the log is low
--     then_opens      its end behind its beginning
use Rattle.std.proofs.Common.{◌≡◌, ◌⊎◌, inl, inr, ◌^◌, ◌<◌, Err, arith}
use Rattle.mdb_model.specs.declared.fault.OpenFault.{OpenFault}
use Rattle.mdb_model.specs.declared.fault.OpenFault.TheVariants.{Memory, Failed, Damaged}
use Rattle.mdb_model.specs.Worlds.{World}
use Rattle.mdb_host.specs.Disk.{Disk, Goes, Agree}
use Rattle.mdb_bytes.specs.declared.restart_record.RestartRecord.{RestartRecord}
use Rattle.redo_ring.specs.declared.open.LogStart.{LogStart}
use Rattle.redo_ring.specs.declared.ring.Ring.{Ring}
use Rattle.redo_ring.specs.Opening.{IsStart, IsRingOpened}
use Rattle.standing.specs.WholeStanding.{StandsWhole}
use Rattle.kept_worlds.specs.InService.{AtEachMoment}
use Rattle.page_ground.specs.AimLaws.{at_both}
use Rattle.live_area.specs.declared.area.LiveArea.{LiveArea}
use Rattle.live_area.specs.Awaiting.{IsFound, OpenLeaves}
use Rattle.live_area.proofs.Found.{reads_each}

pub not_opened : (d f : Disk) (w : World) (serves : LiveArea → Type 0) (fault : OpenFault) → (fault ≡ Memory) ⊎ (fault ≡ Failed) → AtEachMoment d f (λ image. StandsWhole image w) → OpenLeaves d f w serves (Err fault)
not_opened d f w serves Memory is each = each
not_opened d f w serves Failed is each = each
not_opened d f w serves (Damaged damage) (inl e) each = absurd (cc e)
not_opened d f w serves (Damaged damage) (inr e) each = absurd (cc e)

pub low_end : (start : LogStart) (ring : Ring) → IsStart start → IsRingOpened start ring → start.position < 2 ^ 61 → ring.end_position < 2 ^ 62
low_end start ring is opened low = omega (arith, opened.room, opened.size, is.size.most, low)

pub low_last : (start : LogStart) (ring : Ring) → IsStart start → IsRingOpened start ring → start.position < 2 ^ 61 → start.commit < 2 ^ 61 → ring.last_commit < 2 ^ 62
low_last start ring is opened low few = omega (arith, opened.room, opened.grown, opened.size, is.size.most, few)

pub then_opens : (r : RestartRecord) (start : LogStart) (d e f : Disk) (w : World) → IsFound r start d w → Goes d e Agree → AtEachMoment e f (λ image. StandsWhole image w) → AtEachMoment d f (λ image. StandsWhole image w)
then_opens r start d e f w found goes = at_both d e f (λ image. StandsWhole image w) (reads_each r start d e w found goes)
