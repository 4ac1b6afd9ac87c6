use Rattle.std.proofs.Common.{◌≡◌, ◌+◌, ◌/◌, length, refl, rules, arith}
use Rattle.converter.proofs.Followed.{empty_on}
use Rattle.converter.proofs.maps.Converter.new.Goals as goal

pub invariant_of-result : goal.invariant_of-result
invariant_of-result c =
    let long : length c.in-Ok.owner.items ≡ c.args.blocks = search rules in
    empty_on _ _ _ _ (1 + (c.args.blocks + 599) / 600 + c.args.blocks) (omega (arith, long)) (omega (arith, long)) (omega (arith, long)) (omega (arith, long))
    c.in_ok-present.ensures c.in_ok-saved.ensures.entries c.in_ok-frozen.ensures.entries refl refl c.in_ok-saved.ensures.behind c.in_ok-frozen.ensures.behind
