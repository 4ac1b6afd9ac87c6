use Rattle.std.proofs.Common.{sym, subst, ℕ, ◌<◌, length, arith}
use Rattle.std.specs.Prelude.{IfErr}
use Rattle.mdb_model.specs.Images.{Image}
use Rattle.mdb_model.specs.declared.fault.Device.TheVariants.{Data}
use Rattle.mdb_host.specs.Disk.{Synced}
use Rattle.mdb_host.proofs.Moments.{same_image}
use Rattle.gate_slots.specs.declared.body.SlotBody.TheVariants.{Restart}
use Rattle.gate_slots.specs.Slots.{IsReady}
use Rattle.redo_ring.proofs.Places.{agree_on}
use Rattle.db_kernel.specs.Damages.{RefusesInFront}
use Rattle.creation.specs.Devices.{device_count, SyncedUpTo}
use Rattle.db_kernel.specs.declared.opening.Found.{Found}
use Rattle.db_kernel.specs.Reading.{FindsRecords, VolumeFits}
use Rattle.creation.proofs.Syncing.{all_stay}
use Rattle.db_kernel.proofs.Results.{ok_map, ok_all}
use Rattle.db_kernel.proofs.opening.find_records.Goals as goal

pub returns-clause-found : goal.returns-clause-found
returns-clause-found g c =
    ok_map c.read_records.result (λ (found : Found). g.H.Host.tells → FindsRecords found (g.H.Host.disk c.sync_devices.new.host).seen) (λ (found : Found). g.H.Host.tells → FindsRecords found (g.H.Host.disk c.args.host.now).seen)
    (λ found is told. subst (λ (i : Image). FindsRecords found i) (sym (same_image (g.H.Host.disk c.args.host.now).seen (g.H.Host.disk c.sync_devices.new.host).seen (c.sync_devices.ensures.seen told))) (is told))
    c.read_records.ensures.found

pub returns-clause-synced : goal.returns-clause-synced
returns-clause-synced g c =
    ok_all c.read_records.result (λ (found : Found). g.H.Host.tells → SyncedUpTo device_count (g.H.Host.disk c.read_records.new.host))
    (λ found told. all_stay (g.H.Host.disk c.sync_devices.new.host) (g.H.Host.disk c.read_records.new.host) device_count (c.read_records.ensures.calm told) (c.read_records.ensures.seen told) (c.in-Ok.ensures.synced told))

pub returns-clause-refuses : goal.returns-clause-refuses
returns-clause-refuses g c told =
    let same = same_image (g.H.Host.disk c.args.host.now).seen (g.H.Host.disk c.sync_devices.new.host).seen (c.sync_devices.ensures.seen told) in
    subst (λ (i : Image). IfErr c.read_records.result (RefusesInFront i)) (sym same) (c.read_records.ensures.refuses told)

pub returns-clause-calm : goal.returns-clause-calm
returns-clause-calm g c told =
    agree_on (g.H.Host.disk c.args.host.now) (g.H.Host.disk c.sync_devices.new.host) (g.H.Host.disk c.read_records.new.host) (c.sync_devices.ensures.calm told) (c.read_records.ensures.calm told)

pub returns-clause-past_end : goal.returns-clause-past_end
returns-clause-past_end g c is told =
    all_stay (g.H.Host.disk c.sync_devices.new.host) (g.H.Host.disk c.read_records.new.host) device_count (c.read_records.ensures.calm told) (c.read_records.ensures.seen told) (c.in-Ok.ensures.synced told)

pub returns-clause-area : goal.returns-clause-area
returns-clause-area g c =
    let d0 = (g.H.Host.disk c.args.host.now).seen in
    let d1 = (g.H.Host.disk c.sync_devices.new.host).seen in
    ok_map c.read_records.result
    (λ (found : Found). g.H.Host.tells → (volume : ℕ) → volume < length found.in_force.record.volumes.items → VolumeFits found.in_force.record volume d1)
    (λ (found : Found). g.H.Host.tells → (volume : ℕ) → volume < length found.in_force.record.volumes.items → VolumeFits found.in_force.record volume d0)
    (λ found is told volume inside. subst (λ (i : Image). VolumeFits found.in_force.record volume i) (sym (same_image d0 d1 (c.sync_devices.ensures.seen told))) (is told volume inside))
    c.read_records.ensures.area

pub returns-clause-ready : goal.returns-clause-ready
returns-clause-ready g c =
    let d1 = g.H.Host.disk c.sync_devices.new.host in
    let d2 = g.H.Host.disk c.read_records.new.host in
    ok_map c.read_records.result
    (λ (found : Found). g.H.Host.tells → Synced d1 (Data 1) → (image : Image) → d2.may_leave d2.now image → IsReady found.in_force.slots (Restart found.in_force.record) image)
    (λ (found : Found). g.H.Host.tells → (image : Image) → d2.may_leave d2.now image → IsReady found.in_force.slots (Restart found.in_force.record) image)
    (λ found is told. is told (c.in-Ok.ensures.synced told 0 (omega arith)))
    c.read_records.ensures.ready
