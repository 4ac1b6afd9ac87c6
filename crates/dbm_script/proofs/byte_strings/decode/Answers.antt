use Rattle.std.proofs.Common.{◌+◌, ◌*◌, List, ℕ, true, drop, refl, arith, sym, ap, ◌∙◌}
use Rattle.mdb_model.specs.Script.{hex_bytes}
use Rattle.dbm_script.specs.Spelling.{bytes_spelled}
use Rattle.dbm_script.proofs.Spelled.{joined, hex-length, hex_more, hex_all}
use Rattle.dbm_script.proofs.byte_strings.decode.Goals as goal

pub push-requires : goal.push-requires
push-requires c =
    let two = hex-length c.args.digits.now (bytes_spelled true c.args.digits.now) c.requires.spelled.0 in
    (omega arith, omega (arith, c.requires.spelled.1))

pub loop-i-preserved : goal.loop-i-preserved
loop-i-preserved c =
    let high = c.digit_value in
    let low = c.digit_value-in-loop-i in
    record {
      count = omega (arith, c.push.ensures.len);
      joined =
          hex_more c.args.digits.now c.loop-i.into.items c.loop-i.i (16 * high.result + low.result) (omega arith) c.loop-i.invariant.joined
          (high.result, low.result, high.ensures.value, low.ensures.value, refl)
          ∙ ap (λ (t : List ℕ). joined t (hex_bytes (drop (2 * (c.loop-i.i + 1)) c.args.digits.now))) (sym c.push.ensures.items);
    }

pub returns : goal.returns
returns c =
    hex_all c.args.digits.now (bytes_spelled true c.args.digits.now) c.loop-i.into.items c.loop-i.i
    c.requires.spelled.0 c.loop-i-test.false c.loop-i.invariant.joined
