use Rattle.page_store.specs.Pins.{UnmarksThese}
use Rattle.page_store.proofs.pins.unmark_map.Given as goal

abbrev pub invariant-loop-entry : goal.invariant-loop-entry
invariant-loop-entry l = UnmarksThese l.map l.entry-index l.fn.marks l.marks
