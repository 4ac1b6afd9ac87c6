use Rattle.std.proofs.Common.{◌≡◌, ◌+◌, ◌≤◌, length}
use Rattle.mdb_host.specs.Memory.{image_of, picked}
use Rattle.mdb_host.proofs.replay.replay.Given as goal

abbrev pub invariant-loop-call : goal.invariant-loop-call
invariant-loop-call l = record {
  image : picked l.pick l.ranges l.left (image_of l.devices.slots.items) ≡ picked l.pick 0 l.fn.calls (image_of l.initial.devices.slots.items);
  count : l.ranges + length l.left ≤ length l.fn.calls;
}

abbrev pub decreases-loop-call : goal.decreases-loop-call
decreases-loop-call l = length l.left
