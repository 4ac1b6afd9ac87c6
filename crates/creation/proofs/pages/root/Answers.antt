use Rattle.std.proofs.Common.{◌∙◌, sym, ap, ◌+◌, ℕ, List, ◌++◌, [], ◌∷◌, length, arith}
use Rattle.std.proofs.lemmas.List.FromFn.{length-range_with_len}
use Rattle.creation.proofs.Ranges.{range_more}
use Rattle.creation.proofs.pages.root.Goals as goal

pub push-requires : goal.push-requires
push-requires c = omega (arith, c.loop-i-test.true, c.leaves-i-end.ensures, c.requires, ap length c.loop-i.invariant.leaves, length-range_with_len 4 c.loop-i.i)

pub loop-i-preserved : goal.loop-i-preserved
loop-i-preserved c = record { leaves = c.push.ensures.items ∙ ap (λ (xs : List ℕ). xs ++ (4 + c.loop-i.i) ∷ []) c.loop-i.invariant.leaves ∙ sym (range_more 4 c.loop-i.i) }
