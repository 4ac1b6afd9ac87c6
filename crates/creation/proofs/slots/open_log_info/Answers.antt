use Rattle.std.proofs.Common.{ap}
use Rattle.gate_slots.specs.declared.body.SlotBody.TheVariants.{Log as LogBody}
use Rattle.creation.proofs.Opening.{logged_of}
use Rattle.creation.proofs.slots.open_log_info.Goals as goal

pub returns-clause-logged : goal.returns-clause-logged
returns-clause-logged g c told volumes are was image left =
    let d0 = g.H.Host.disk c.args.host.now in
    let b = c.in_ok-first.ensures.there told image left in
    logged_of (record { birth = c.args.birth; volumes = volumes; log_pages = c.args.log_pages }) d0.seen b.0 image c.in_ok-first.field-0 (LogBody c.log_info.result) c.in_ok-first.ensures.slots.0 (ap LogBody c.log_info.ensures) are
    (was d0.seen (g.met.H.Host.seen_left c.args.host.now told)) (was b.0 b.1) b.2
