use Rattle.std.proofs.Common.{◌*◌}
use Rattle.mdb_host.proofs.Moments.{widen, on_ok, torn_twice}
use Rattle.gate_slots.proofs.Phases.{closes_replaces, written, replaces, replaced_arrives}
use Rattle.gate_slots.proofs.gates.replace.Goals as goal

pub returns-in_err-close_gate-clause-goes : goal.returns-in_err-close_gate-clause-goes
returns-in_err-close_gate-clause-goes g c told =
    widen _ _ _ _ (c.close_gate.ensures.goes told) (λ a b left step. closes_replaces c.args.place c.args.slot c.args.is_open c.args.body.now a b step)

pub returns-in_err-write_body-clause-goes : goal.returns-in_err-write_body-clause-goes
returns-in_err-write_body-clause-goes g c told =
    written c.args.place c.args.slot c.args.is_open c.args.body.now _ _ _ (c.close_gate.ensures.goes told) (c.in_ok-close_gate.ensures.shut told) (c.write_body.ensures.goes told)

pub returns-in_err-write_body-clause-seen : goal.returns-in_err-write_body-clause-seen
returns-in_err-write_body-clause-seen g c told =
    torn_twice c.args.place.device (8192 * c.args.place.page) 16384 (g.H.Host.disk c.args.host.now).seen (g.H.Host.disk c.close_gate.new.host).seen (g.H.Host.disk c.write_body.new.host).seen
    (c.close_gate.ensures.seen told) (c.write_body.ensures.seen told)

pub returns-clause-goes : goal.returns-clause-goes
returns-clause-goes g c told =
    replaces c.args.place c.args.slot c.args.is_open c.args.body.now _ _ _ (c.close_gate.ensures.goes told) (c.in_ok-close_gate.ensures.shut told) (c.write_body.ensures.goes told) _
    (c.in_ok-write_body.ensures.kept told) (c.open_slot.ensures.goes told)

pub returns-clause-seen : goal.returns-clause-seen
returns-clause-seen g c told =
    let old = (g.H.Host.disk c.args.host.now).seen in
    let first = (g.H.Host.disk c.close_gate.new.host).seen in
    let second = (g.H.Host.disk c.write_body.new.host).seen in
    let last = (g.H.Host.disk c.open_slot.new.host).seen in
    torn_twice c.args.place.device (8192 * c.args.place.page) 16384 old second last
    (torn_twice c.args.place.device (8192 * c.args.place.page) 16384 old first second (c.close_gate.ensures.seen told) (c.write_body.ensures.seen told)) (c.open_slot.ensures.seen told)

pub returns-clause-there : goal.returns-clause-there
returns-clause-there g c = on_ok c.open_slot.result _ _ (λ opened told.
    replaced_arrives c.args.place c.args.slot c.args.is_open c.args.body.now _ _ _ (c.close_gate.ensures.goes told) (c.in_ok-close_gate.ensures.shut told) (c.write_body.ensures.goes told) _
    (c.in_ok-write_body.ensures.kept told) (c.open_slot.ensures.goes told) (opened told)) c.open_slot.ensures.kept
