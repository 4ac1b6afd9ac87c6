use Rattle.std.proofs.Common.{arith}
use Rattle.converter.proofs.Left.{leaf_still}
use Rattle.converter.proofs.Runs.{other_default}
use Rattle.converter.proofs.kept.give_leaf.Goals as goal

pub returns-else-saved-leaf : goal.returns-else-saved-leaf
returns-else-saved-leaf c =
    leaf_still _ _ _ _ c.args.at c.args.free.now (c.requires.tracked (other_default c.args.saved.now.behind c.args.leaf (omega arith) c.if-saved-leaf.false))
