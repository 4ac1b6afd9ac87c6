use Rattle.std.proofs.Common.{◌^◌, get_or, refl, arith}
use Rattle.dbm_script.proofs.Spelled.{number_large}
use Rattle.dbm_script.proofs.numbers.number.Goals as goal

pub returns-in_default : goal.returns-in_default
returns-in_default c = λ n small e.
    let text = c.args.text.now in
    number_large text c.loop-digit.digit-index (get_or text c.loop-digit.digit-index 0) c.loop-digit.number (2 ^ 64) n (omega arith) refl
    c.loop-digit.invariant.value c.in_default.ensures small e
