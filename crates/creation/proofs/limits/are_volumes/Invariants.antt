use Rattle.std.proofs.Common.{◌≡◌, ℕ, ◌≤◌, ◌<◌, sum, take, get_or}
use Rattle.creation.proofs.limits.are_volumes.Given as goal

abbrev pub invariant-loop-i : goal.invariant-loop-i
invariant-loop-i l = record {
  blocks : l.blocks ≡ sum (take l.i l.fn.volumes);
  small : l.blocks ≤ 65536;
  each : (i : ℕ) → i < l.i → 64 ≤ get_or l.fn.volumes i 0;
}
