use Rattle.std.proofs.Common.{◌+◌, ◌*◌, arith}
use Rattle.converter.proofs.Left.{given_map}
use Rattle.converter.proofs.kept.give_left.Goals as goal

pub returns : goal.returns
returns c = given_map _ _ _ _ (c.args.conv + 600 * c.loop-leaf.leaf) c.args.free.now c.loop-leaf.free (omega arith) c.loop-leaf.invariant
