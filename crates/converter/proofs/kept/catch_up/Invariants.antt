use Rattle.std.proofs.Common.{◌≡◌, ℕ, ◌<◌, length, get_or, true, false}
use Rattle.converter.specs.Maps.{entry_at, IsTracked}
use Rattle.converter.proofs.kept.catch_up.Given as goal

abbrev pub invariant-loop-leaf : goal.invariant-loop-leaf
invariant-loop-leaf l = record {
  long : length l.kept.entries.items ≡ length l.present;
  flags : length l.kept.behind ≡ 110;
  tracked : IsTracked l.conv l.present l.kept.entries.items l.kept.behind;
  own : (q : ℕ) → q < l.conv → entry_at l.kept.entries.items q ≡ entry_at l.present q;
  down : (i : ℕ) → i < l.leaf → get_or l.kept.behind i true ≡ false;
}
