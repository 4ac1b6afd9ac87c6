use Rattle.std.proofs.Common.{◌+◌, ◌<◌, ◌/◌, ℕ, List, length, ap, sym, ◌∙◌, arith}
use Rattle.row_page.specs.Entries.{entries_of, by_bytes}
use Rattle.row_page.proofs.Order.{less_upto, greater_from, same_key}
use Rattle.row_page.proofs.page.find.Goals as goal

pub loop-low-preserved-in-Less : goal.loop-low-preserved-in-Less
loop-low-preserved-in-Less c =
    let i = c.loop-low.invariant in
    let es = entries_of c.args.page.now in
    let m = (c.loop-low.low + c.loop-low.high) / 2 in record {
      ordered = omega (arith, i.ordered);
      short = i.short;
      within = i.within;
      below = λ page.
          let lt : m < length es = omega (arith, i.within page) in
          less_upto es m c.args.key.now page.entries.ascend lt (ap (λ (t : List ℕ). by_bytes t c.args.key.now) (sym (c.key_of.ensures page lt)) ∙ sym c.in-Less.ensures);
      above = i.above;
    }

pub loop-low-preserved : goal.loop-low-preserved
loop-low-preserved c =
    let i = c.loop-low.invariant in
    let es = entries_of c.args.page.now in
    let m = (c.loop-low.low + c.loop-low.high) / 2 in record {
      ordered = omega (arith, i.ordered);
      short = omega (arith, i.short);
      within = λ page. omega (arith, i.within page);
      below = i.below;
      above = λ page.
          let lt : m < length es = omega (arith, i.within page) in
          greater_from es m c.args.key.now page.entries.ascend lt (ap (λ (t : List ℕ). by_bytes t c.args.key.now) (sym (c.key_of.ensures page lt)) ∙ sym c.in-Greater.ensures);
    }

pub returns-in-Equal : goal.returns-in-Equal
returns-in-Equal c = λ page.
    let lt : (c.loop-low.low + c.loop-low.high) / 2 < length (entries_of c.args.page.now) = omega (arith, c.loop-low.invariant.within page) in
    record { within = lt; same = sym (c.key_of.ensures page lt) ∙ same_key _ _ (sym c.in-Equal.ensures) }
