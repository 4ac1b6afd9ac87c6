use Rattle.std.proofs.Common.{◌*◌, Some, ◌∙◌, ap}
use Rattle.mdb_host.specs.Disk.{Creates}
use Rattle.mdb_host.specs.Memory.{image_of, with_device, zeros}
use Rattle.mdb_host.specs.declared.call.Call.TheVariants.{Made as MadeCall}
use Rattle.mdb_host.proofs.Kept.{idle_seen, idle_said, idle_calls, kept_seen, kept_said, made_calls, made_none}
use Rattle.mdb_host.proofs.memory.MemHostHost.make.Goals as goal

pub invariant_of-self : goal.invariant_of-self
invariant_of-self c = record {
  seen = c.args.self.now.seen ∙ idle_seen (image_of c.args.self.now.start.slots.items) c.args.self.now.calls.items c.keep_idle.new.calls.items c.keep_idle.ensures;
  whole = c.args.self.now.whole;
  said = c.args.self.now.said ∙ idle_said (image_of c.args.self.now.start.slots.items) c.args.self.now.calls.items c.keep_idle.new.calls.items c.keep_idle.ensures;
}

pub returns-then-is_due-clause-calls : goal.returns-then-is_due-clause-calls
returns-then-is_due-clause-calls c = idle_calls (image_of c.args.self.now.start.slots.items) c.args.self.now.calls.items c.keep_idle.new.calls.items (Creates c.args.device (8192 * c.args.pages)) (made_none c.args.device (8192 * c.args.pages)) c.keep_idle.ensures

pub invariant_of-self-2 : goal.invariant_of-self-2
invariant_of-self-2 c = record {
  seen = c.set.ensures ∙ ap (λ bytes. with_device c.args.device (Some bytes) (image_of c.args.self.now.held.slots.items)) c.in-Ok.ensures ∙ ap (with_device c.args.device (Some (zeros c.args.pages))) c.args.self.now.seen ∙ kept_seen (image_of c.args.self.now.start.slots.items) c.args.self.now.calls.items c.keep.new.calls.items (MadeCall c.args.device c.args.pages) c.in-Ok-keep.ensures.kept;
  whole = c.args.self.now.whole;
  said = c.args.self.now.said ∙ kept_said (image_of c.args.self.now.start.slots.items) c.args.self.now.calls.items c.keep.new.calls.items (MadeCall c.args.device c.args.pages) c.in-Ok-keep.ensures.kept;
}

pub returns-clause-calls : goal.returns-clause-calls
returns-clause-calls c = made_calls (image_of c.args.self.now.start.slots.items) c.args.self.now.calls.items c.keep.new.calls.items c.args.device c.args.pages c.in-Ok-keep.ensures.kept
