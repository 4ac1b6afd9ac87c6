use Rattle.std.proofs.Common.{refl}
use Rattle.std.specs.Prelude.{◌==◌}
use Rattle.mdb_host.proofs.Moments.{widen}
use Rattle.mdb_bytes.specs.Groups.{open_gate}
use Rattle.gate_slots.specs.declared.place.Slot.TheVariants.{First}
use Rattle.gate_slots.specs.Slots.{gate_in}
use Rattle.gate_slots.proofs.Forces.{begins_calm, first_goes, first_arrives, slots_after}
use Rattle.gate_slots.proofs.slots.Slots.first.Goals as goal

pub returns-in_err-is_open-clause-any_moment : goal.returns-in_err-is_open-clause-any_moment
returns-in_err-is_open-clause-any_moment g c told =
    let seen = (g.H.Host.disk c.args.host.now).seen in
    widen _ _ _ _ (c.read_gates.ensures.reads.calm told) (λ a b left same. begins_calm seen c.args.place c.args.body.now a b (gate_in seen c.args.place First == open_gate) refl same)

pub returns-in_err-replace-clause-any_moment : goal.returns-in_err-replace-clause-any_moment
returns-in_err-replace-clause-any_moment g c told =
    first_goes (g.H.Host.disk c.args.host.now).seen c.args.place c.args.body.now c.in_ok-is_open.is_open (c.in_ok-is_open.ensures.first told) _ _ _ (c.read_gates.ensures.reads.calm told) (c.replace.ensures.goes told)

pub returns-in_err-replace-clause-seen : goal.returns-in_err-replace-clause-seen
returns-in_err-replace-clause-seen g c told =
    slots_after c.args.place (g.H.Host.disk c.args.host.now).seen (g.H.Host.disk c.read_gates.new.host).seen (g.H.Host.disk c.replace.new.host).seen (c.read_gates.ensures.reads.seen told) (c.replace.ensures.seen told)

pub returns-clause-any_moment : goal.returns-clause-any_moment
returns-clause-any_moment g c told =
    first_goes (g.H.Host.disk c.args.host.now).seen c.args.place c.args.body.now c.in_ok-is_open.is_open (c.in_ok-is_open.ensures.first told) _ _ _ (c.read_gates.ensures.reads.calm told) (c.replace.ensures.goes told)

pub returns-clause-there : goal.returns-clause-there
returns-clause-there g c told =
    first_arrives (g.H.Host.disk c.args.host.now).seen c.args.place c.args.body.now c.in_ok-is_open.is_open (c.in_ok-is_open.ensures.first told) (g.H.Host.disk c.args.host.now) (g.H.Host.disk c.read_gates.new.host) (g.H.Host.disk c.replace.new.host) (c.read_gates.ensures.reads.calm told)
    c.in_ok-is_open.other_open (c.in_ok-is_open.ensures.second told) c.requires.number (c.in_ok-replace.ensures.there told)

pub returns-clause-seen : goal.returns-clause-seen
returns-clause-seen g c told =
    slots_after c.args.place (g.H.Host.disk c.args.host.now).seen (g.H.Host.disk c.read_gates.new.host).seen (g.H.Host.disk c.replace.new.host).seen (c.read_gates.ensures.reads.seen told) (c.replace.ensures.seen told)
