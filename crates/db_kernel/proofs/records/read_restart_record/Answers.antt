use Rattle.std.proofs.Common.{subst}
use Rattle.gate_slots.specs.declared.body.SlotBody.{SlotBody}
use Rattle.gate_slots.specs.Slots.{IsReady}
use Rattle.db_kernel.proofs.records.read_restart_record.Goals as goal

pub returns-in-Ok-default-Restart-clause-ready : goal.returns-in-Ok-default-Restart-clause-ready
returns-in-Ok-default-Restart-clause-ready g c told synced image left =
    subst (λ (body : SlotBody). IsReady c.in-Ok-default-Restart.slots body image) c.in-Ok-default-Restart.field-0-1-is (c.in-Ok-default-Restart.ensures.synced told synced image left)
