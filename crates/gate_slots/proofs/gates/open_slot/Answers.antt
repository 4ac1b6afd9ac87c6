use Rattle.std.proofs.Common.{subst, ℕ, [], ◌∷◌}
use Rattle.mdb_host.specs.Disk.{Has}
use Rattle.mdb_host.proofs.Moments.{on_ok}
use Rattle.gate_slots.proofs.Phases.{opened_gate}
use Rattle.gate_slots.proofs.gates.open_slot.Goals as goal

pub returns-clause-kept : goal.returns-clause-kept
returns-clause-kept g c = on_ok c.write_kept.result _ _ (λ kept told image left. opened_gate c.args.place c.args.slot image (subst (λ (k : ℕ). Has image c.args.place.device k (79 ∷ [])) c.gate.ensures (kept told image left))) c.write_kept.ensures.kept
