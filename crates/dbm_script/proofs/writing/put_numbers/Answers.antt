use Rattle.std.proofs.Common.{List, ℕ, [], ◌∷◌, ◌++◌, take, get_or, decimal, sym, ap, ◌∙◌, arith}
use Rattle.dbm_script.specs.Printing.{numbers_then}
use Rattle.dbm_script.proofs.Printed.{then-more, three}
use Rattle.dbm_script.proofs.writing.put_numbers.Goals as goal

pub loop-number-preserved : goal.loop-number-preserved
loop-number-preserved c =
    let numbers = c.args.numbers.now in
    let i = c.loop-number.number-index in
    record {
      text =
          three c.args.into.now.items (numbers_then (take i numbers) []) (32 ∷ []) (decimal (get_or numbers i 0)) c.loop-number.into.items c.push.new.self.items c.put_decimal.new.into.items
          c.loop-number.invariant.text c.push.ensures.items c.put_decimal.ensures.text
          ∙ ap (λ (t : List ℕ). c.args.into.now.items ++ t) (sym (then-more numbers i c.loop-number-test.true));
      len = omega (arith, c.loop-number.invariant.len, c.push.ensures.len, c.put_decimal.ensures.len);
    }
