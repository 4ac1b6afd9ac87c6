use Rattle.std.proofs.Common.{◌≡◌, ℕ, ap, sym, ◌∙◌, arith, refl}
use Rattle.mdb_bytes.proofs.Booleans.{passed}
use Rattle.row_page.specs.Entries.{Head, page_head_of, is_leaf}
use Rattle.leaf_runs.proofs.LeafLaw.{leaf_page_of}
use Rattle.leaf_runs.proofs.LeafReads.{leaf_is}
use Rattle.leaf_runs.proofs.LeafEdits.{named_page, number_small, split_first, split_second, too_far, not_blank}
use Rattle.leaf_runs.proofs.pairs.SplitAtPairEdit.edit.Goals as goal

pub split-requires-clause-from : goal.split-requires-clause-from
split-requires-clause-from c = (named_page _ _ _ (passed c.is_leaf_of.ensures c.if-not-is_leaf_of.false)).1.page

pub split-requires-clause-to : goal.split-requires-clause-to
split-requires-clause-to c = (named_page _ _ _ (passed c.is_leaf_of-2.ensures c.if-not-is_leaf_of-2.false)).1.page

pub split-requires-clause-empty : goal.split-requires-clause-empty
split-requires-clause-empty c =
    let p = (named_page _ _ _ (passed c.is_leaf_of-2.ensures c.if-not-is_leaf_of-2.false)).1.page in
    omega (arith, c.count_of-2.ensures.count p, c.if-count_of-ne0.false)

pub split-requires-clause-within : goal.split-requires-clause-within
split-requires-clause-within c =
    let p = (named_page _ _ _ (passed c.is_leaf_of.ensures c.if-not-is_leaf_of.false)).1.page in
    omega (arith, c.count_of.ensures.count p, c.if-self-count_of.false)

pub split-requires-clause-kinds : goal.split-requires-clause-kinds
split-requires-clause-kinds c =
    leaf_is _ _ (named_page _ _ _ (passed c.is_leaf_of-2.ensures c.if-not-is_leaf_of-2.false)).1
    ∙ sym (leaf_is _ _ (named_page _ _ _ (passed c.is_leaf_of.ensures c.if-not-is_leaf_of.false)).1)

pub set_next-requires-clause-leaf : goal.set_next-requires-clause-leaf
set_next-requires-clause-leaf c = ap is_leaf c.split.ensures.second.head ∙ leaf_is _ _ (named_page _ _ _ (passed c.is_leaf_of-2.ensures c.if-not-is_leaf_of-2.false)).1

pub set_next-requires-2-clause-leaf : goal.set_next-requires-2-clause-leaf
set_next-requires-2-clause-leaf c = ap is_leaf c.split.ensures.first.head ∙ leaf_is _ _ (named_page _ _ _ (passed c.is_leaf_of.ensures c.if-not-is_leaf_of.false)).1

pub returns : goal.returns
returns c = λ leaf blank na nb none le.
    let p = leaf_page_of c.args.a.now leaf na.0 in
    let next : c.next_of.result ≡ leaf.next = c.next_of.ensures ∙ ap (λ (h : Head). h.next) (c.split.ensures.first.head ∙ p.head) in (
      refl,
      split_first c.args.a.now c.split.new.from c.set_next-2.new.page leaf c.args.self.now.at c.args.self.now.to na.0 (number_small c.args.b.now blank c.args.self.now.to nb.0 nb.2) c.split.ensures.first
          c.set_next-2.ensures.page c.set_next-2.ensures.head c.set_next-2.ensures.entries,
      split_second c.args.a.now c.args.b.now c.split.new.to c.set_next.new.page leaf blank c.args.self.now.at na.0 nb.0 c.split.ensures.second
          c.set_next.ensures.page (c.set_next.ensures.head ∙ ap (λ (n : ℕ). record (page_head_of c.split.new.to) { next = n }) next) c.set_next.ensures.entries,
    )

pub returns-then-self-count_of : goal.returns-then-self-count_of
returns-then-self-count_of c = λ leaf blank na nb none le. absurd (too_far c.args.a.now leaf c.args.self.now.at c.count_of.result na.0 (c.count_of.ensures.count (leaf_page_of c.args.a.now leaf na.0).page) (omega (arith, c.if-self-count_of.true)) le)

pub returns-then-count_of-ne0 : goal.returns-then-count_of-ne0
returns-then-count_of-ne0 c = λ leaf blank na nb none le. absurd (not_blank c.args.b.now blank c.count_of-2.result nb.0 (c.count_of-2.ensures.count (leaf_page_of c.args.b.now blank nb.0).page) c.if-count_of-ne0.true none)
