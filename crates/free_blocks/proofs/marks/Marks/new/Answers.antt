use Rattle.std.proofs.Common.{List, ℕ, ap, ◌∙◌}
use Rattle.free_blocks.specs.Marked.{marks_of}
use Rattle.free_blocks.proofs.Bits.{marks_none}
use Rattle.free_blocks.proofs.marks.Marks.new.Goals as goal

pub returns : goal.returns
returns c = ap (λ (l : List ℕ). marks_of l) (c.in-Ok.ensures.items_if_clones_equal (λ y is. is)) ∙ marks_none c.args.blocks
