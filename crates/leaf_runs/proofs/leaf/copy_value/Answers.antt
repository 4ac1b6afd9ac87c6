use Rattle.std.proofs.Common.{length, ap, arith}
use Rattle.std.proofs.lemmas.Grind.{common_steps}
use Rattle.leaf_runs.proofs.LeafLaw.{leaf_page_of}
use Rattle.leaf_runs.proofs.LeafReads.{count_is, leaf_is, found_value, no_value, row_by}
use Rattle.leaf_runs.proofs.leaf.copy_value.Goals as goal

pub returns-in_default : goal.returns-in_default
returns-in_default c = λ leaf there. no_value c.args.page.now leaf (leaf_page_of _ _ there) c.args.key.now _ (c.in_default.ensures leaf there)

pub returns : goal.returns
returns c = λ leaf there.
    let p = leaf_page_of c.args.page.now leaf there in
    let is = c.in-Ok.ensures leaf there in
    let v = found_value c.args.page.now leaf p c.args.key.now c.in-Ok.at is in
    let n = count_is _ _ p in
    let inside = is.in_range in
    let read = c.value_of.ensures p.page (leaf_is _ _ p) (omega arith) in
    let empty = ap length c.clear.ensures in
    let same = ap length read in
    let short = v.1 in
    let ok = c.try_extend_from_slice.ensures.variant.1 (omega arith) in
    row_by c.is_ok.result _ _ _ (grind (arith, common_steps, ok)) v.0 (grind (arith, common_steps, ok, read))
