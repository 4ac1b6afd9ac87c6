use Rattle.std.proofs.Common.{List, ℕ, [], ◌∷◌, ◌++◌, sym, ap, ◌∙◌}
use Rattle.dbm_script.specs.Printing.{numbers_then}
use Rattle.dbm_script.proofs.Printed.{then-rest, three}
use Rattle.dbm_script.proofs.writing.finish.Goals as goal

pub returns : goal.returns
returns c =
    let text = c.args.text.now in
    let numbers = c.args.numbers.now in
    three c.args.into.now.items text (numbers_then numbers []) (10 ∷ []) c.put.new.into.items c.put_numbers.new.into.items c.push.new.self.items
    c.put.ensures c.put_numbers.ensures.text c.push.ensures.items
    ∙ ap (λ (t : List ℕ). c.args.into.now.items ++ (text ++ t)) (sym (then-rest numbers (10 ∷ [])))
