use Rattle.free_blocks.proofs.Bits.{mark_cleared}
use Rattle.free_blocks.proofs.marks.Marks.unmark.Goals as goal

pub returns : goal.returns
returns c = mark_cleared c.self.inside.bits.items c.args.block c.index_mut.result.now c.args.kind c.args.self.now c.self.view_is c.requires.below c.requires.kind c.index_mut.ensures.value
