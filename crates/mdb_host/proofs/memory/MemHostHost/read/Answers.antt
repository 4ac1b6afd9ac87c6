use Rattle.std.proofs.Common.{◌∙◌, inr, refl, ap}
use Rattle.mdb_host.specs.Disk.{Agree}
use Rattle.mdb_model.specs.Images.{size_of}
use Rattle.mdb_host.specs.Memory.{image_of}
use Rattle.mdb_host.proofs.Kept.{idle_seen, idle_said, idle_calls}
use Rattle.mdb_host.proofs.memory.MemHostHost.read.Goals as goal

pub invariant_of-self : goal.invariant_of-self
invariant_of-self c = record {
  seen = c.args.self.now.seen ∙ idle_seen (image_of c.args.self.now.start.slots.items) c.args.self.now.calls.items c.keep_idle.new.calls.items c.keep_idle.ensures;
  whole = c.args.self.now.whole;
  said = c.args.self.now.said ∙ idle_said (image_of c.args.self.now.start.slots.items) c.args.self.now.calls.items c.keep_idle.new.calls.items c.keep_idle.ensures;
}

pub returns-then-is_due-clause-calls : goal.returns-then-is_due-clause-calls
returns-then-is_due-clause-calls c = idle_calls (image_of c.args.self.now.start.slots.items) c.args.self.now.calls.items c.keep_idle.new.calls.items Agree (λ image e. refl) c.keep_idle.ensures

pub invariant_of-self-in-Ok : goal.invariant_of-self-in-Ok
invariant_of-self-in-Ok c = record {
  seen = c.args.self.now.seen ∙ idle_seen (image_of c.args.self.now.start.slots.items) c.args.self.now.calls.items c.keep.new.calls.items (inr c.in-Ok.ensures.kept);
  whole = c.args.self.now.whole;
  said = c.args.self.now.said ∙ idle_said (image_of c.args.self.now.start.slots.items) c.args.self.now.calls.items c.keep.new.calls.items (inr c.in-Ok.ensures.kept);
}

pub read-requires : goal.read-requires
read-requires c = let within = c.requires.within in (within.0, ap size_of (λ i. c.args.self.now.seen i c.args.device) ∙ within.1, within.2)

pub returns-clause-calls : goal.returns-clause-calls
returns-clause-calls c = idle_calls (image_of c.args.self.now.start.slots.items) c.args.self.now.calls.items c.keep.new.calls.items Agree (λ image e. refl) (inr c.in-Ok.ensures.kept)
