use Rattle.std.proofs.Common.{arith}
use Rattle.free_blocks.proofs.Packed.{is_below, has_word, count_more, given, given_flags}
use Rattle.free_blocks.proofs.free.FreeBlocks.give.Goals as goal

pub index_mut-requires : goal.index_mut-requires
index_mut-requires c =
    let there = has_word c.self.inside.words.items c.self.inside.blocks c.self.inside.low c.self.inside.count c.args.block c.self.invariant
    (is_below c.self.inside.words.items c.self.inside.blocks c.args.block c.args.self.now c.self.view_is c.requires.below) in
    omega (arith, there, c.self.inside.words.ok)

pub overflow_add-self : goal.overflow_add-self
overflow_add-self c =
    let small = count_more c.self.inside.words.items c.self.inside.blocks c.self.inside.low c.self.inside.count c.args.block c.args.self.now c.self.invariant c.self.view_is c.requires.below c.requires.taken in
    record { fits = omega (arith, small) }

pub invariant_of-self : goal.invariant_of-self
invariant_of-self c = given c.self.inside.words.items c.self.inside.blocks c.self.inside.low c.self.inside.count c.args.block c.index_mut.result.now c.min-self-inside.result c.args.self.now
    c.self.invariant c.self.view_is c.requires.below c.requires.taken c.index_mut.ensures.value c.min-self-inside.ensures

pub returns : goal.returns
returns c = given_flags c.self.inside.words.items c.self.inside.blocks c.self.inside.low c.self.inside.count c.args.block c.index_mut.result.now c.args.self.now
    c.self.invariant c.self.view_is c.requires.below c.index_mut.ensures.value
