use Rattle.std.proofs.Common.{◌<◌, ◌^◌, arith}
use Rattle.free_blocks.proofs.Bits.{any_mark}
use Rattle.free_blocks.proofs.marks.Marks.marked.Goals as goal

pub returns : goal.returns
returns c =
    let small : c.index.result.now < 2 ^ 16 = omega arith in
    any_mark c.self.inside.bits.items c.args.block c.index.result.now c.args.self.now c.self.view_is c.requires c.index.ensures small
