use Rattle.free_blocks.proofs.Packed.{bound_is}
use Rattle.free_blocks.proofs.free.FreeBlocks.count.Goals as goal

pub returns-clause-bound : goal.returns-clause-bound
returns-clause-bound c = bound_is c.self.inside.words.items c.self.inside.blocks c.self.inside.low c.self.inside.count c.args.self.now c.self.invariant c.self.view_is
