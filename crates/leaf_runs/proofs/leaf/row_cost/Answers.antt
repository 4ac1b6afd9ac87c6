use Rattle.std.proofs.Common.{◌≡◌, ℕ, ◌+◌, List, length, ap, sym, ◌∙◌, arith}
use Rattle.leaf_runs.proofs.LeafLaw.{leaf_page_of}
use Rattle.leaf_runs.proofs.LeafReads.{count_is, leaf_is, found_value, key_found, no_value}
use Rattle.leaf_runs.proofs.RowCosts.{value_cost}
use Rattle.leaf_runs.proofs.leaf.row_cost.Goals as goal

pub returns-in_default : goal.returns-in_default
returns-in_default c = λ leaf there. sym (ap (value_cost c.args.key.now) (no_value c.args.page.now leaf (leaf_page_of _ _ there) c.args.key.now _ (c.in_default.ensures leaf there)))

pub returns : goal.returns
returns c = λ leaf there.
    let p = leaf_page_of c.args.page.now leaf there in
    let is = c.in-Ok.ensures leaf there in
    let v = found_value c.args.page.now leaf p c.args.key.now c.in-Ok.at is in
    let n = count_is _ _ p in
    let inside = is.in_range in
    let read = c.value_of-value.ensures p.page (leaf_is _ _ p) (omega arith) in
    let short = v.1 in
    let same = ap length read in
    let key_short = key_found c.args.page.now leaf p c.args.key.now c.in-Ok.at is in
    let sum : c.saturating_add-2.result ≡ 8 + length c.args.key.now + length c.value_of-value.result.now = omega (arith, c.saturating_add.ensures, c.saturating_add-2.ensures) in
    sum ∙ ap (λ (t : List ℕ). 8 + length c.args.key.now + length t) read ∙ sym (ap (value_cost c.args.key.now) v.0)
