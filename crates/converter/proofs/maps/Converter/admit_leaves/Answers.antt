use Rattle.std.proofs.Common.{◌⊎◌, ℕ, List, length, get_or, subst, arith}
use Rattle.converter.specs.Maps.{IsUsed}
use Rattle.converter.specs.Loads.{IsOff, row_of}
use Rattle.converter.proofs.Loaded.{refused}
use Rattle.converter.proofs.maps.Converter.admit_leaves.Goals as goal

pub returns-then-not-admit-clause-refused : goal.returns-then-not-admit-clause-refused
returns-then-not-admit-clause-refused c fails = (
  c.loop-k.k,
  omega arith,
  refused c.args.self.now c.loop-k.self 1 c.loop-k.k (row_of c.args.root.now) c.loop-k.invariant.taken
      (subst (λ (l : List ℕ). IsOff (length c.loop-k.self.owner) (get_or l c.loop-k.k 0) ⊎ IsUsed c.loop-k.self (get_or l c.loop-k.k 0)) c.as_slice.ensures.value (c.if-not-admit.ensures.refused fails).0),
)
