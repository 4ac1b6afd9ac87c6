use Rattle.std.proofs.Common.{◌∙◌, ◌*◌, ℕ, List, ap, length, arith}
use Rattle.mdb_host.proofs.Moments.{on_ok}
use Rattle.gate_slots.specs.Slots.{decoded_body}
use Rattle.gate_slots.proofs.Places.{torn_slots, body_has}
use Rattle.gate_slots.proofs.Phases.{within_image}
use Rattle.gate_slots.proofs.gates.write_body.Goals as goal

pub returns-clause-seen : goal.returns-clause-seen
returns-clause-seen g c told =
    torn_slots c.args.place c.args.slot c.start.result (length c.encode.new.into) (g.H.Host.disk c.args.host.now).seen (g.H.Host.disk c.write_kept.new.host).seen
    (omega (arith, c.start.ensures)) (omega (arith, c.start.ensures)) (c.write_kept.ensures.seen told)

pub returns-clause-kept : goal.returns-clause-kept
returns-clause-kept g c = on_ok c.write_kept.result _ _ (λ kept told image left.
    let device = c.args.place.device in
    let old = (g.H.Host.disk c.args.host.now).seen in
    let sizes = g.met.H.Host.sizes c.write_kept.new.host image told left device ∙ (c.write_kept.ensures.seen told).size in
    let within = within_image old image device (8192 * c.args.place.page) 16384 (c.requires.within told) sizes in
    ap (λ (bytes : List ℕ). decoded_body device bytes) (body_has image c.args.place c.args.slot c.start.result c.encode.new.into within c.start.ensures (omega arith) (kept told image left))
    ∙ c.encode.ensures device c.requires.kind) c.write_kept.ensures.kept
