use Rattle.std.proofs.Common.{◌+◌, ◌*◌}
use Rattle.converter.specs.Maps.{FreesLeaving, LeavesIn}
use Rattle.converter.proofs.kept.give_left.Given as goal

abbrev pub invariant-loop-leaf : goal.invariant-loop-leaf
invariant-loop-leaf l = FreesLeaving (LeavesIn l.present l.saved.entries.items l.frozen l.marks) 0 (l.conv + 600 * l.leaf) l.fn.free l.free
