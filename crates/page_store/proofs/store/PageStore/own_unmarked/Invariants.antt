use Rattle.std.proofs.Common.{◌≡◌, ◌≤◌}
use Rattle.page_store.specs.Store.{own_unmarked}
use Rattle.page_store.proofs.store.PageStore.own_unmarked.Given as goal

abbrev pub invariant-loop-place : goal.invariant-loop-place
invariant-loop-place l = record {
  counted : l.count ≡ own_unmarked l.self l.place;
  few : l.count ≤ l.place;
}
