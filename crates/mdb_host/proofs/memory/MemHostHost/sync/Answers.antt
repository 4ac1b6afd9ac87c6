use Rattle.std.proofs.Common.{◌∙◌, refl}
use Rattle.mdb_host.specs.Disk.{Agree}
use Rattle.mdb_host.specs.Memory.{image_of}
use Rattle.mdb_host.specs.declared.call.Call.TheVariants.{Synced}
use Rattle.mdb_host.proofs.Kept.{idle_seen, idle_said, idle_calls, kept_seen, kept_said, synced_calls, synced_left}
use Rattle.mdb_host.proofs.memory.MemHostHost.sync.Goals as goal

pub invariant_of-self : goal.invariant_of-self
invariant_of-self c = record {
  seen = c.args.self.now.seen ∙ idle_seen (image_of c.args.self.now.start.slots.items) c.args.self.now.calls.items c.keep_idle.new.calls.items c.keep_idle.ensures;
  whole = c.args.self.now.whole;
  said = c.args.self.now.said ∙ idle_said (image_of c.args.self.now.start.slots.items) c.args.self.now.calls.items c.keep_idle.new.calls.items c.keep_idle.ensures;
}

pub returns-then-is_due-clause-calls : goal.returns-then-is_due-clause-calls
returns-then-is_due-clause-calls c = idle_calls (image_of c.args.self.now.start.slots.items) c.args.self.now.calls.items c.keep_idle.new.calls.items Agree (λ image e. refl) c.keep_idle.ensures

pub invariant_of-self-in-Ok : goal.invariant_of-self-in-Ok
invariant_of-self-in-Ok c = record {
  seen = c.args.self.now.seen ∙ kept_seen (image_of c.args.self.now.start.slots.items) c.args.self.now.calls.items c.keep.new.calls.items (Synced c.args.device) c.in-Ok.ensures.kept;
  whole = c.args.self.now.whole;
  said = c.args.self.now.said ∙ kept_said (image_of c.args.self.now.start.slots.items) c.args.self.now.calls.items c.keep.new.calls.items (Synced c.args.device) c.in-Ok.ensures.kept;
}

pub returns-clause-calls : goal.returns-clause-calls
returns-clause-calls c = synced_calls (image_of c.args.self.now.start.slots.items) c.args.self.now.calls.items c.keep.new.calls.items c.args.device c.in-Ok.ensures.kept

pub returns-clause-synced : goal.returns-clause-synced
returns-clause-synced c = synced_left (image_of c.args.self.now.start.slots.items) c.args.self.now.calls.items c.keep.new.calls.items c.args.device c.in-Ok.ensures.kept
