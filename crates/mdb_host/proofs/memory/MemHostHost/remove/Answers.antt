use Rattle.std.proofs.Common.{None, ◌∙◌, ap}
use Rattle.mdb_host.specs.Disk.{Removes}
use Rattle.mdb_host.specs.Memory.{image_of, with_device}
use Rattle.mdb_host.specs.declared.call.Call.TheVariants.{Removed as RemovedCall}
use Rattle.mdb_host.proofs.Kept.{idle_seen, idle_said, idle_calls, kept_seen, kept_said, removed_calls, removed_none}
use Rattle.mdb_host.proofs.memory.MemHostHost.remove.Goals as goal

pub invariant_of-self : goal.invariant_of-self
invariant_of-self c = record {
  seen = c.args.self.now.seen ∙ idle_seen (image_of c.args.self.now.start.slots.items) c.args.self.now.calls.items c.keep_idle.new.calls.items c.keep_idle.ensures;
  whole = c.args.self.now.whole;
  said = c.args.self.now.said ∙ idle_said (image_of c.args.self.now.start.slots.items) c.args.self.now.calls.items c.keep_idle.new.calls.items c.keep_idle.ensures;
}

pub returns-then-is_due-clause-calls : goal.returns-then-is_due-clause-calls
returns-then-is_due-clause-calls c = idle_calls (image_of c.args.self.now.start.slots.items) c.args.self.now.calls.items c.keep_idle.new.calls.items (Removes c.args.device) (removed_none c.args.device) c.keep_idle.ensures

pub invariant_of-self-2 : goal.invariant_of-self-2
invariant_of-self-2 c = record {
  seen = c.set.ensures ∙ ap (with_device c.args.device None) c.args.self.now.seen ∙ kept_seen (image_of c.args.self.now.start.slots.items) c.args.self.now.calls.items c.keep.new.calls.items (RemovedCall c.args.device) c.in-Ok.ensures.kept;
  whole = c.args.self.now.whole;
  said = c.args.self.now.said ∙ kept_said (image_of c.args.self.now.start.slots.items) c.args.self.now.calls.items c.keep.new.calls.items (RemovedCall c.args.device) c.in-Ok.ensures.kept;
}

pub returns-clause-calls : goal.returns-clause-calls
returns-clause-calls c = removed_calls (image_of c.args.self.now.start.slots.items) c.args.self.now.calls.items c.keep.new.calls.items c.args.device c.in-Ok.ensures.kept
