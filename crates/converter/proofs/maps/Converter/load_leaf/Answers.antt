use Rattle.std.proofs.Common.{arith}
use Rattle.converter.proofs.Loaded.{stamp_small}
use Rattle.converter.proofs.maps.Converter.load_leaf.Goals as goal

pub admit_pages-requires-clause-stamps : goal.admit_pages-requires-clause-stamps
admit_pages-requires-clause-stamps g c k lt = stamp_small c.in-Some.value _ c.in-Some.ensures.spells k (omega (arith, lt))
