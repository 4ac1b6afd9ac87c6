use Rattle.page_store.specs.Pins.{GivesThese}
use Rattle.page_store.proofs.pins.give_map.Given as goal

abbrev pub invariant-loop-entry : goal.invariant-loop-entry
invariant-loop-entry l = GivesThese l.map l.entry-index l.converter l.marks l.fn.free l.free
