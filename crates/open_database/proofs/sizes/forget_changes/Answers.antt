use Rattle.std.proofs.Common.{◌≡◌, ◌+◌, ◌-◌, subst, ℕ, arith}
use Rattle.space_rule.specs.Spaces.{known_costs}
use Rattle.open_database.specs.Costs.{IsForgotten}
use Rattle.open_database.proofs.Loading.{forgot_none, forgot_more}
use Rattle.open_database.proofs.sizes.forget_changes.Goals as goal

pub loop-number-init : goal.loop-number-init
loop-number-init c = forgot_none (known_costs c.args.space.now)

pub loop-number-preserved : goal.loop-number-preserved
loop-number-preserved c =
    let same : c.loop-number.number ≡ (c.loop-number.number + 1) - 1 = omega arith in
    subst (λ (n : ℕ). IsForgotten (known_costs c.args.space.now) (known_costs c.ended.new.self) n) same
    (forgot_more (known_costs c.args.space.now) (known_costs c.loop-number.space) (known_costs c.ended.new.self) (c.loop-number.number - 1) c.loop-number.number (omega arith) c.loop-number.invariant c.ended.ensures)

pub returns : goal.returns
returns c =
    let last : c.loop-number.number - 1 ≡ 64 = omega arith in
    subst (λ (n : ℕ). IsForgotten (known_costs c.args.space.now) (known_costs c.loop-number.space) n) last c.loop-number.invariant
