use Rattle.std.proofs.Common.{◌≡◌, ◌<◌, ℕ, length}
use Rattle.converter.specs.Maps.{entry_at}
use Rattle.page_store.specs.Pins.{MarksAlso}
use Rattle.page_store.proofs.pins.keep_map.Given as goal

abbrev pub invariant-loop-place : goal.invariant-loop-place
invariant-loop-place l = record {
  marks : MarksAlso l.converter.saved l.place l.fn.marks l.marks;
  long : length l.room ≡ length l.fn.room;
  kept : (q : ℕ) → q < l.place → entry_at l.room q ≡ entry_at l.converter.saved q;
}
