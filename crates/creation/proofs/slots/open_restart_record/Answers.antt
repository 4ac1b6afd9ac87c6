use Rattle.std.proofs.Common.{sym, ap, subst}
use Rattle.mdb_bytes.specs.declared.restart_record.RestartRecord.{RestartRecord}
use Rattle.mdb_bytes.specs.Parts.{KeepsLimits}
use Rattle.mdb_bytes.specs.SlotRecords.{restart_format}
use Rattle.gate_slots.specs.declared.body.SlotBody.TheVariants.{Restart}
use Rattle.creation.proofs.FirstRecords.{restart_keeps}
use Rattle.creation.proofs.Opening.{stands_of}
use Rattle.creation.proofs.slots.open_restart_record.Goals as goal

pub first-requires-clause-keeps : goal.first-requires-clause-keeps
first-requires-clause-keeps g c =
    subst (λ (r : RestartRecord). KeepsLimits restart_format r) (sym c.restart.ensures) (restart_keeps c.args.birth c.args.volumes.now.items c.requires.birth.0 c.requires.birth.1 c.requires.volumes)

pub returns-clause-stands : goal.returns-clause-stands
returns-clause-stands g c told log_pages limits was image left =
    let d0 = g.H.Host.disk c.args.host.now in
    let b = c.in_ok-first.ensures.there told image left in
    stands_of (record { birth = c.args.birth; volumes = c.args.volumes.now.items; log_pages = log_pages }) d0.seen b.0 image c.in_ok-first.field-0 (Restart c.restart.result) c.in_ok-first.ensures.slots.0 (ap Restart c.restart.ensures) limits
    (was d0.seen (g.met.H.Host.seen_left c.args.host.now told)) (was b.0 b.1) b.2
