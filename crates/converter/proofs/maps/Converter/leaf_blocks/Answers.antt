use Rattle.std.proofs.Common.{arith}
use Rattle.converter.proofs.maps.Converter.leaf_blocks.Goals as goal

pub push-requires : goal.push-requires
push-requires c = omega (arith, c.leaves-i-end.ensures.sound.leaves, c.leaves-i-end.ensures.sound.bound)
