use Rattle.std.proofs.Common.{◌≡◌, ◌<◌, ◌-◌, ℕ, length, ap, sym, ◌∙◌, arith}
use Rattle.std.specs.Ordering.{is_lt}
use Rattle.row_page.specs.Entries.{entries_of, key_at}
use Rattle.leaf_runs.proofs.LeafLaw.{leaf_page_of}
use Rattle.leaf_runs.proofs.LeafReads.{count_is, ends_at}
use Rattle.leaf_runs.proofs.leaf.ends_below.Goals as goal

pub returns : goal.returns
returns c = λ leaf there some.
    let p = leaf_page_of c.args.page.now leaf there in
    let n = count_is _ _ p in
    let count = c.count_of.ensures.count p.page in
    let place : c.saturating_sub.result ≡ length (entries_of c.args.page.now) - 1 = omega (arith, c.saturating_sub.ensures, count) in
    let inside : c.saturating_sub.result < length (entries_of c.args.page.now) = omega (arith, place, n) in
    c.is_lt.ensures ∙ ap is_lt c.cmp.ensures
    ∙ sym (ends_at c.args.page.now leaf p c.args.key.now c.key_of-last.result.now some (c.key_of-last.ensures p.page inside ∙ ap (λ (k : ℕ). key_at (entries_of c.args.page.now) k) place))
