use Rattle.converter.specs.Maps.{FreesLeaving, LeavesIn}
use Rattle.converter.proofs.kept.give_run.Given as goal

abbrev pub invariant-loop-k : goal.invariant-loop-k
invariant-loop-k l = FreesLeaving (LeavesIn l.present l.saved l.frozen l.marks) l.at l.k l.fn.free l.free
