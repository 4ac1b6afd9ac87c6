use Rattle.gate_slots.proofs.Chosen.{chosen_ready, chosen_force, chosen_found}
use Rattle.gate_slots.proofs.Kept.{read_synced}
use Rattle.gate_slots.proofs.slots.Slots.read.Goals as goal

pub returns-clause-ready : goal.returns-clause-ready
returns-clause-ready g c told =
    chosen_ready (g.H.Host.disk c.args.host.now).seen c.args.place c.in-Ok.first c.in-Ok.second (c.in-Ok.ensures.first told) (c.in-Ok.ensures.second told) c.in-Some.found.0 c.in-Some.found.1 c.in-Some.ensures

pub returns-clause-synced : goal.returns-clause-synced
returns-clause-synced g c told synced image left =
    read_synced c.args.place c.in-Some.found.0 c.in-Some.found.1 (g.H.Host.disk c.args.host.now) (g.H.Host.disk c.read_slots.new.host) c.in-Some.ensures.place (c.read_slots.ensures.reads.calm told) synced
    (chosen_ready (g.H.Host.disk c.args.host.now).seen c.args.place c.in-Ok.first c.in-Ok.second (c.in-Ok.ensures.first told) (c.in-Ok.ensures.second told) c.in-Some.found.0 c.in-Some.found.1 c.in-Some.ensures)
    image left

pub returns-clause-force : goal.returns-clause-force
returns-clause-force g c told =
    chosen_force (g.H.Host.disk c.args.host.now).seen c.args.place c.in-Ok.first c.in-Ok.second (c.in-Ok.ensures.first told) (c.in-Ok.ensures.second told) c.in-Some.found.0 c.in-Some.found.1 c.in-Some.ensures

pub returns-clause-found : goal.returns-clause-found
returns-clause-found g c =
    chosen_found c.args.place c.in-Ok.first c.in-Ok.second c.in-Some.found.0 c.in-Some.found.1 c.in-Some.ensures c.in-Ok.ensures.kept.0 c.in-Ok.ensures.kept.1
