use Rattle.std.proofs.Common.{sym, subst, Bool, ℕ, [], ◌∷◌}
use Rattle.mdb_host.specs.Disk.{Goes, Arrives, Torn, Has}
use Rattle.mdb_host.proofs.Moments.{widen, on_ok}
use Rattle.gate_slots.specs.Steps.{Closes, Empties}
use Rattle.gate_slots.proofs.Phases.{closing, shut_arrives}
use Rattle.gate_slots.proofs.gates.close_gate.Goals as goal

pub returns-then-is_open-clause-goes : goal.returns-then-is_open-clause-goes
returns-then-is_open-clause-goes g c told =
    let old = g.H.Host.disk c.args.host.now in
    let new = g.H.Host.disk c.write_kept.new.host in
    subst (λ (o : Bool). Goes old new (Closes c.args.place c.args.slot o)) (sym c.if-is_open.true)
    (widen old new _ _ (subst (λ (k : ℕ). Goes old new (Torn c.args.place.device k 1)) c.gate.ensures (c.write_kept.ensures.goes told)) (λ a b left torn. closing c.args.place c.args.slot a b torn))

pub returns-then-is_open-clause-shut : goal.returns-then-is_open-clause-shut
returns-then-is_open-clause-shut g c = on_ok c.write_kept.result _ _ (λ kept told.
    let old = g.H.Host.disk c.args.host.now in
    let new = g.H.Host.disk c.write_kept.new.host in
    subst (λ (o : Bool). Arrives old new (Empties c.args.place c.args.slot o)) (sym c.if-is_open.true)
    (shut_arrives c.args.place c.args.slot old new (subst (λ (k : ℕ). Goes old new (Torn c.args.place.device k 1)) c.gate.ensures (c.write_kept.ensures.goes told)) (λ image left. subst (λ (k : ℕ). Has image c.args.place.device k (0 ∷ [])) c.gate.ensures (kept told image left)))) c.write_kept.ensures.kept
