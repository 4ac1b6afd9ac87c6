use Rattle.std.proofs.Common.{ℕ, ◌<◌, ◌≤◌, ◌%◌, ◌^◌, arith, lit<}
use Rattle.std.proofs.Math.Nat.{pow-le-pow_right, one-le-pow}
use Rattle.mdb_host.proofs.replay.digit_of.Goals as goal

fits : (k : ℕ) → k ≤ 31 → 4 ^ k < 18446744073709551616
fits k le =
    let most : 4 ^ k ≤ 4 ^ 31 = pow-le-pow_right {n = 4} (lit< tt) {i = k} {j = 31} le in
    let small : 4 ^ 31 < 18446744073709551616 = lit< tt in
    omega (arith, most, small)

pub pow-requires : goal.pow-requires
pow-requires c = fits (c.args.ranges % 32) (omega arith)

pub nonzero_div-result : goal.nonzero_div-result
nonzero_div-result c = omega (arith, c.pow.ensures, one-le-pow (c.args.ranges % 32) 4 (lit< tt))
