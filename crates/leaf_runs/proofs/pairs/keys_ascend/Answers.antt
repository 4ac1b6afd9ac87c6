use Rattle.std.proofs.Common.{◌≡◌, ◌-◌, ◌<◌, ℕ, length, ap, ◌∙◌, arith, inl, inr}
use Rattle.std.specs.Ordering.{is_lt}
use Rattle.row_page.specs.Entries.{entries_of, key_at}
use Rattle.leaf_runs.proofs.LeafLaw.{leaf_page_of}
use Rattle.leaf_runs.proofs.LeafReads.{count_is}
use Rattle.leaf_runs.proofs.LeafEdits.{ascend_by, ascend_none}
use Rattle.leaf_runs.proofs.pairs.keys_ascend.Goals as goal

pub overflow_sub-count_of : goal.overflow_sub-count_of
overflow_sub-count_of c =
    let p = (leaf_page_of c.args.a.now c.requires.a.0 c.requires.a.1).page in
    omega (arith, c.if-count_of-eq0.false, c.count_of.ensures.count p, c.count_of-3.ensures.count p)

pub returns-then-count_of-eq0 : goal.returns-then-count_of-eq0
returns-then-count_of-eq0 c = λ leaf next there there2.
    let n = count_is _ _ (leaf_page_of c.args.a.now leaf there) in
    let e : length leaf.rows ≡ 0 = omega (arith, c.if-count_of-eq0.true, c.count_of.ensures.count (leaf_page_of c.args.a.now leaf there).page) in
    ascend_none c.args.a.now c.args.b.now leaf next there there2 (inl e)

pub returns-then-count_of-eq0-2 : goal.returns-then-count_of-eq0-2
returns-then-count_of-eq0-2 c = λ leaf next there there2.
    let n = count_is _ _ (leaf_page_of c.args.b.now next there2) in
    let e : length next.rows ≡ 0 = omega (arith, c.if-count_of-eq0-2.true, c.count_of-2.ensures.count (leaf_page_of c.args.b.now next there2).page) in
    ascend_none c.args.a.now c.args.b.now leaf next there there2 (inr e)

pub returns : goal.returns
returns c = λ leaf next there there2.
    let p = leaf_page_of c.args.a.now leaf there in
    let q = leaf_page_of c.args.b.now next there2 in
    let n = count_is _ _ p in
    let m = count_is _ _ q in
    let count = c.count_of.ensures.count p.page in
    let count2 = c.count_of-2.ensures.count q.page in
    let again = c.count_of-3.ensures.count p.page in
    let some : 0 < length leaf.rows = omega (arith, c.if-count_of-eq0.false, count) in
    let some2 : 0 < length next.rows = omega (arith, c.if-count_of-eq0-2.false, count2) in
    let last : c.count_of-3.result - 1 < length (entries_of c.args.a.now) = omega (arith, n, again, some) in
    c.is_lt.ensures ∙ ap is_lt c.cmp.ensures
    ∙ ascend_by c.args.a.now c.args.b.now c.key_of-last.result.now c.key_of.result.now leaf next there there2 some some2
    (c.key_of-last.ensures p.page last ∙ ap (λ (k : ℕ). key_at (entries_of c.args.a.now) (k - 1)) again) (c.key_of.ensures q.page (omega (arith, m, some2)))
