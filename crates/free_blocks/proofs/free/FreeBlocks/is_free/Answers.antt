use Rattle.std.proofs.Common.{arith}
use Rattle.free_blocks.proofs.Packed.{is_below, has_word, tested}
use Rattle.free_blocks.proofs.free.FreeBlocks.is_free.Goals as goal

pub index-requires : goal.index-requires
index-requires c =
    let there = has_word c.self.inside.words.items c.self.inside.blocks c.self.inside.low c.self.inside.count c.args.block c.self.invariant
    (is_below c.self.inside.words.items c.self.inside.blocks c.args.block c.args.self.now c.self.view_is c.requires) in
    omega (arith, there, c.self.inside.words.ok)

pub returns : goal.returns
returns c =
    let below = is_below c.self.inside.words.items c.self.inside.blocks c.args.block c.args.self.now c.self.view_is c.requires in
    tested c.self.inside.words.items c.self.inside.blocks c.args.block c.index.result.now c.args.self.now c.self.view_is below
    (has_word c.self.inside.words.items c.self.inside.blocks c.self.inside.low c.self.inside.count c.args.block c.self.invariant below) c.index.ensures
