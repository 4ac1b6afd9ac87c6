use Rattle.gate_slots.proofs.Forces.{switch_goes, switch_arrives}
use Rattle.gate_slots.proofs.slots.Slots.switch.Goals as goal

pub returns-in_err-replace-clause-any_moment : goal.returns-in_err-replace-clause-any_moment
returns-in_err-replace-clause-any_moment g c told =
    switch_goes c.args.self.now c.args.body.now c.requires.number c.other-slot.result c.other-slot.ensures _ _ (c.replace.ensures.goes told)

pub returns-clause-any_moment : goal.returns-clause-any_moment
returns-clause-any_moment g c told =
    switch_goes c.args.self.now c.args.body.now c.requires.number c.other-slot.result c.other-slot.ensures _ _ (c.replace.ensures.goes told)

pub returns-clause-there : goal.returns-clause-there
returns-clause-there g c told =
    switch_arrives c.args.self.now c.args.body.now c.requires.number c.other-slot.result c.other-slot.ensures (g.H.Host.disk c.args.host.now) (g.H.Host.disk c.replace.new.host) c.number-self.result c.number-self.ensures (c.in_ok-replace.ensures.there told)
