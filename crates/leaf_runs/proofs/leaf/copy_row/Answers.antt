use Rattle.std.proofs.Common.{◌<◌, length, ap, arith}
use Rattle.std.proofs.lemmas.Grind.{common_steps}
use Rattle.row_page.specs.Entries.{entries_of}
use Rattle.leaf_runs.proofs.LeafLaw.{leaf_page_of}
use Rattle.leaf_runs.proofs.LeafReads.{count_is, leaf_is, row_short, row_copied}
use Rattle.leaf_runs.proofs.leaf.copy_row.Goals as goal

pub returns : goal.returns
returns c = λ leaf there inside.
    let p = leaf_page_of c.args.page.now leaf there in
    let n = count_is _ _ p in
    let within : c.args.at < length (entries_of c.args.page.now) = omega arith in
    let key_read = c.key_of.ensures p.page within in
    let value_read = c.value_of.ensures p.page (leaf_is _ _ p) within in
    let short = row_short _ _ p c.args.at inside in
    let key_short = short.0 in
    let value_short = short.1 in
    let no_key = ap length c.clear.ensures in
    let same_key = ap length key_read in
    let key_ok = c.try_extend_from_slice.ensures.variant.1 (omega arith) in
    let no_value = ap length c.clear-2.ensures in
    let same_value = ap length value_read in
    let value_ok = c.try_extend_from_slice-2.ensures.variant.1 (omega arith) in
    row_copied c.args.page.now leaf p c.args.at _ _ inside (grind (arith, common_steps, key_ok, key_read)) (grind (arith, common_steps, value_ok, value_read))
