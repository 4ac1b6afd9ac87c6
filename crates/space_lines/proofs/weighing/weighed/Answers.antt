use Rattle.std.proofs.Common.{ap, arith}
use Rattle.space_rule.specs.KnownCosts.{KnownCosts}
use Rattle.space_lines.proofs.Bounds.{small_need}
use Rattle.space_lines.proofs.weighing.weighed.Goals as goal

pub overflow_add-want : goal.overflow_add-want
overflow_add-want c =
    let same = ap (λ (k : KnownCosts). k.blocks) c.in_ok-prepare.ensures.ok in
    let need = small_need c.prepare.new.self c.args.session.0 c.args.change.now c.args.before c.requires.session c.requires.limits c.requires.before (omega (arith, same, c.requires.blocks, c.ranges.blocks.fits)) in
    omega (arith, need, c.would_need.ensures, c.requires.reserve)
