use Rattle.std.proofs.Common.{◌/◌, ◌∙◌, length, inr, sym, arith}
use Rattle.std.proofs.lemmas.List.{take_all}
use Rattle.mdb_host.specs.Memory.{image_of}
use Rattle.mdb_host.proofs.Kept.{part_seen, part_said, part_says}
use Rattle.mdb_host.proofs.memory.MemHostHost.say.Goals as goal

pub invariant_of-self : goal.invariant_of-self
invariant_of-self c = record {
  seen = c.args.self.now.seen ∙ part_seen (image_of c.args.self.now.start.slots.items) c.args.self.now.calls.items c.keep_front.new.calls.items c.args.self.now.output.items c.keep_front.new.output.items _ c.keep_front.ensures;
  whole = c.args.self.now.whole;
  said = part_said (image_of c.args.self.now.start.slots.items) c.args.self.now.calls.items c.keep_front.new.calls.items c.args.self.now.output.items c.keep_front.new.output.items _ c.args.self.now.said c.keep_front.ensures;
}

pub returns-then-is_due-clause-says : goal.returns-then-is_due-clause-says
returns-then-is_due-clause-says c =
    part_says (image_of c.args.self.now.start.slots.items) c.args.self.now.calls.items c.keep_front.new.calls.items c.args.self.now.output.items c.keep_front.new.output.items _ c.args.text.now (length c.args.text.now / 2) (omega arith) (grind arith) c.keep_front.ensures

pub invariant_of-self-in-Ok : goal.invariant_of-self-in-Ok
invariant_of-self-in-Ok c = record {
  seen = c.args.self.now.seen ∙ part_seen (image_of c.args.self.now.start.slots.items) c.args.self.now.calls.items c.keep_text.new.calls.items c.args.self.now.output.items c.keep_text.new.output.items c.args.text.now (inr c.in-Ok.ensures.kept);
  whole = c.args.self.now.whole;
  said = part_said (image_of c.args.self.now.start.slots.items) c.args.self.now.calls.items c.keep_text.new.calls.items c.args.self.now.output.items c.keep_text.new.output.items c.args.text.now c.args.self.now.said (inr c.in-Ok.ensures.kept);
}

pub returns-clause-says : goal.returns-clause-says
returns-clause-says c =
    part_says (image_of c.args.self.now.start.slots.items) c.args.self.now.calls.items c.keep_text.new.calls.items c.args.self.now.output.items c.keep_text.new.output.items c.args.text.now c.args.text.now (length c.args.text.now) (omega arith) (sym (take_all (length c.args.text.now) c.args.text.now (omega arith))) (inr c.in-Ok.ensures.kept)
