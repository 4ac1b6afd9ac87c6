use Rattle.std.proofs.Common.{◌∙◌, ap, subst, rules}
use Rattle.mdb_bytes.specs.declared.restart_record.RestartRecord.{RestartRecord}
use Rattle.mdb_host.specs.Disk.{Goes, Arrives}
use Rattle.gate_slots.specs.declared.body.SlotBody.TheVariants.{Restart}
use Rattle.gate_slots.specs.declared.slots.Slots.{Slots}
use Rattle.gate_slots.specs.Steps.{Switches, HasSwitched}
use Rattle.savepoint.proofs.StandsSteps.{either_stands, new_stands}
use Rattle.savepoint.proofs.states.ConverterWritten.switch.Goals as goal

pub returns-in-Ok-clause-switches : goal.returns-in-Ok-clause-switches
returns-in-Ok-clause-switches g c = record {
  any_moment = λ told. subst (λ (r : RestartRecord). Goes (g.H.Host.disk c.args.host.now) (g.H.Host.disk c.switch.new.host) (Switches c.args.slots.now (Restart r))) c.copy_record.ensures (c.switch.ensures.any_moment told);
  there = λ told. subst (λ (r : RestartRecord). Arrives (g.H.Host.disk c.args.host.now) (g.H.Host.disk c.switch.new.host) (HasSwitched c.args.slots.now c.switch.new.self (Restart r))) c.copy_record.ensures (c.in-Ok.ensures.there told);
  seen = c.switch.ensures.seen;
  crash = λ told sizes was old new conv before after entry root.
      either_stands _ _ sizes c.args.slots.now c.requires.may.place was c.args.rec.now old new conv before after entry (c.requires.may.root ∙ root)
      (subst (λ (r : RestartRecord). Goes (g.H.Host.disk c.args.host.now) (g.H.Host.disk c.switch.new.host) (Switches c.args.slots.now (Restart r))) c.copy_record.ensures (c.switch.ensures.any_moment told));
  put = λ told sizes was old new conv before after entry root.
      new_stands (g.H.Host.disk c.args.host.now) (g.H.Host.disk c.switch.new.host) sizes c.args.slots.now c.requires.may.place was c.args.rec.now old new conv before after entry (c.requires.may.root ∙ root)
      (subst (λ (r : RestartRecord). Goes (g.H.Host.disk c.args.host.now) (g.H.Host.disk c.switch.new.host) (Switches c.args.slots.now (Restart r))) c.copy_record.ensures (c.switch.ensures.any_moment told))
      c.switch.new.self (ap (λ (s : Slots). s.place) c.in-Ok.ensures.ok)
      (subst (λ (r : RestartRecord). Arrives (g.H.Host.disk c.args.host.now) (g.H.Host.disk c.switch.new.host) (HasSwitched c.args.slots.now c.switch.new.self (Restart r))) c.copy_record.ensures (c.in-Ok.ensures.there told));
  number = search rules;
  same = tt;
}

pub returns-in-Err-clause-switches : goal.returns-in-Err-clause-switches
returns-in-Err-clause-switches g c = record {
  any_moment = λ told. subst (λ (r : RestartRecord). Goes (g.H.Host.disk c.args.host.now) (g.H.Host.disk c.switch.new.host) (Switches c.args.slots.now (Restart r))) c.copy_record.ensures (c.switch.ensures.any_moment told);
  there = tt;
  seen = c.switch.ensures.seen;
  crash = λ told sizes was old new conv before after entry root.
      either_stands _ _ sizes c.args.slots.now c.requires.may.place was c.args.rec.now old new conv before after entry (c.requires.may.root ∙ root)
      (subst (λ (r : RestartRecord). Goes (g.H.Host.disk c.args.host.now) (g.H.Host.disk c.switch.new.host) (Switches c.args.slots.now (Restart r))) c.copy_record.ensures (c.switch.ensures.any_moment told));
  put = tt;
  number = tt;
  same = search rules;
}
