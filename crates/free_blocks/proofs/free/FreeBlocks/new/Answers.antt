use Rattle.std.proofs.Common.{◌≡◌, ap, ◌∙◌, List, ℕ, replicate}
use Rattle.free_blocks.specs.Free.{flags_of}
use Rattle.free_blocks.proofs.Words.{flags_none}
use Rattle.free_blocks.proofs.Packed.{packed_none}
use Rattle.free_blocks.proofs.free.FreeBlocks.new.Goals as goal

pub invariant_of-result : goal.invariant_of-result
invariant_of-result c = packed_none c.in-Ok.words.items c.div_ceil.result c.args.blocks (c.in-Ok.ensures.items_if_clones_equal (λ y is. is)) c.div_ceil.ensures c.requires

pub returns : goal.returns
returns c =
    let e : c.in-Ok.words.items ≡ replicate c.div_ceil.result 0 = c.in-Ok.ensures.items_if_clones_equal (λ y is. is) in
    ap (λ (l : List ℕ). flags_of l c.args.blocks) e ∙ flags_none c.div_ceil.result c.args.blocks
