use Rattle.std.proofs.Common.{◌∙◌, sym, ap}
use Rattle.mdb_host.specs.Memory.{image_of, put}
use Rattle.mdb_host.specs.declared.call.Call.TheVariants.{Wrote}
use Rattle.mdb_host.proofs.Kept.{kept_said, wrote_calls, wrote_seen, tore_calls, tore_seen, tore_said}
use Rattle.mdb_host.proofs.memory.MemHostHost.write.Goals as goal

pub invariant_of-self : goal.invariant_of-self
invariant_of-self c = record {
  seen = c.args.self.now.seen ∙ sym (tore_seen (image_of c.args.self.now.start.slots.items) c.args.self.now.calls.items c.keep_tear.new.calls.items c.args.device c.args.at c.args.from.now c.keep_tear.ensures);
  whole = c.args.self.now.whole;
  said = c.args.self.now.said ∙ sym (tore_said (image_of c.args.self.now.start.slots.items) c.args.self.now.calls.items c.keep_tear.new.calls.items c.args.device c.args.at c.args.from.now c.keep_tear.ensures);
}

pub returns-then-is_due-clause-calls : goal.returns-then-is_due-clause-calls
returns-then-is_due-clause-calls c = tore_calls (image_of c.args.self.now.start.slots.items) c.args.self.now.calls.items c.keep_tear.new.calls.items c.args.device c.args.at c.args.from.now c.keep_tear.ensures

pub invariant_of-self-2 : goal.invariant_of-self-2
invariant_of-self-2 c = record {
  seen = c.write.ensures ∙ ap (put c.args.device c.args.at c.args.from.now) c.args.self.now.seen ∙ sym (wrote_seen (image_of c.args.self.now.start.slots.items) c.args.self.now.calls.items c.keep.new.calls.items c.args.device c.args.at c.args.from.now c.in-Ok.range c.in-Ok.ensures c.in-Ok-keep.ensures.kept);
  whole = c.args.self.now.whole;
  said = c.args.self.now.said ∙ kept_said (image_of c.args.self.now.start.slots.items) c.args.self.now.calls.items c.keep.new.calls.items (Wrote c.in-Ok.range) c.in-Ok-keep.ensures.kept;
}

pub returns-clause-calls : goal.returns-clause-calls
returns-clause-calls c = wrote_calls (image_of c.args.self.now.start.slots.items) c.args.self.now.calls.items c.keep.new.calls.items c.args.device c.args.at c.args.from.now c.in-Ok.range c.in-Ok.ensures c.in-Ok-keep.ensures.kept
