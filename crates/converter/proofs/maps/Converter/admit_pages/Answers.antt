use Rattle.std.proofs.Common.{arith}
use Rattle.converter.specs.Maps.{entry_at}
use Rattle.converter.proofs.Loaded.{refused}
use Rattle.converter.proofs.maps.Converter.admit_pages.Goals as goal

pub returns-then-not-admit-clause-refused : goal.returns-then-not-admit-clause-refused
returns-then-not-admit-clause-refused c fails = (
  c.loop-k.k,
  c.loop-k-test.true,
  omega (arith, c.if-entries-k-ne0.true),
  refused c.args.self.now c.loop-k.self _ c.loop-k.k (entry_at c.args.entries.now) c.loop-k.invariant (c.if-not-admit.ensures.refused fails).0,
)
