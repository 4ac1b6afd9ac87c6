use Rattle.std.proofs.Common.{◌≤◌, ◌<◌, ℕ}
use Rattle.page_store.specs.Store.{Lives}
use Rattle.page_store.proofs.store.PageStore.dead_between.Given as goal

abbrev pub invariant-loop-page : goal.invariant-loop-page
invariant-loop-page l = (k : ℕ) → l.fn.from ≤ k → k < l.page → Lives l.self k
