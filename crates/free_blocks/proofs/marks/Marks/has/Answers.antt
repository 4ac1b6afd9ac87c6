use Rattle.free_blocks.proofs.Bits.{mark_shown}
use Rattle.free_blocks.proofs.marks.Marks.has.Goals as goal

pub returns : goal.returns
returns c = mark_shown c.self.inside.bits.items c.args.block c.index.result.now c.args.kind c.args.self.now c.self.view_is c.requires.below c.requires.kind c.index.ensures
