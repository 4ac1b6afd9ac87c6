use Rattle.std.proofs.Common.{◌≡◌, ℕ, ap, sym, ◌∙◌, arith, refl}
use Rattle.mdb_bytes.proofs.Booleans.{passed}
use Rattle.row_page.specs.Entries.{page_head_of, is_leaf}
use Rattle.leaf_runs.proofs.LeafLaw.{leaf_page_of}
use Rattle.leaf_runs.proofs.LeafReads.{leaf_is, next_is}
use Rattle.leaf_runs.proofs.LeafEdits.{named_page, joined_by, below_each, too_full}
use Rattle.leaf_runs.proofs.RowLists.{from_true}
use Rattle.leaf_runs.proofs.pairs.JoinNextPairEdit.edit.Goals as goal

pub merge-requires-clause-into : goal.merge-requires-clause-into
merge-requires-clause-into c = (named_page _ _ _ (passed c.is_leaf_of.ensures c.if-not-is_leaf_of.false)).1.page

pub merge-requires-clause-from : goal.merge-requires-clause-from
merge-requires-clause-from c = (named_page _ _ _ (passed c.is_leaf_of-2.ensures c.if-not-is_leaf_of-2.false)).1.page

pub merge-requires-clause-kinds : goal.merge-requires-clause-kinds
merge-requires-clause-kinds c =
    leaf_is _ _ (named_page _ _ _ (passed c.is_leaf_of-2.ensures c.if-not-is_leaf_of-2.false)).1
    ∙ sym (leaf_is _ _ (named_page _ _ _ (passed c.is_leaf_of.ensures c.if-not-is_leaf_of.false)).1)

pub set_next-requires-clause-leaf : goal.set_next-requires-clause-leaf
set_next-requires-clause-leaf c = ap is_leaf c.merge.ensures.first.head ∙ leaf_is _ _ (named_page _ _ _ (passed c.is_leaf_of.ensures c.if-not-is_leaf_of.false)).1

pub merge-requires-clause-below : goal.merge-requires-clause-below
merge-requires-clause-below c =
    let l = passed c.is_leaf_of.ensures c.if-not-is_leaf_of.false in
    let m = passed c.is_leaf_of-2.ensures c.if-not-is_leaf_of-2.false in
    let a = l.1 in
    let b = m.1 in
    below_each c.args.a.now c.args.b.now l.0 m.0 a.0 b.0 (from_true _ (sym (c.keys_ascend.ensures l.0 m.0 a.0 b.0) ∙ c.if-not-keys_ascend.false))

pub merge-requires-clause-room : goal.merge-requires-clause-room
merge-requires-clause-room c =
    let a = (named_page _ _ _ (passed c.is_leaf_of.ensures c.if-not-is_leaf_of.false)).1.page in
    let b = (named_page _ _ _ (passed c.is_leaf_of-2.ensures c.if-not-is_leaf_of-2.false)).1.page in
    omega (arith, c.used_of.ensures.used a, c.used_of-2.ensures.used b, c.if-used_of-gt-PAGE_ROOM.false)

pub returns-then-used_of-gt-PAGE_ROOM : goal.returns-then-used_of-gt-PAGE_ROOM
returns-then-used_of-gt-PAGE_ROOM c = λ leaf next na nb up fits.
    absurd (too_full c.args.a.now c.args.b.now leaf next c.used_of.result c.used_of-2.result na.0 nb.0 (c.used_of.ensures.used (leaf_page_of c.args.a.now leaf na.0).page) (c.used_of-2.ensures.used (leaf_page_of c.args.b.now next nb.0).page) (omega (arith, c.if-used_of-gt-PAGE_ROOM.true)) fits)

pub returns : goal.returns
returns c = λ leaf next na nb up fits.
    let after : c.next_of-next.result ≡ next.next = next_is c.args.b.now next (leaf_page_of c.args.b.now next nb.0) c.next_of-next.result c.next_of-next.ensures in (
      refl,
      joined_by c.args.a.now c.args.b.now c.merge.new.into c.set_next.new.page leaf next na.0 nb.0 up c.merge.ensures.first c.set_next.ensures.page
          (c.set_next.ensures.head ∙ ap (λ (n : ℕ). record (page_head_of c.merge.new.into) { next = n }) after) c.set_next.ensures.entries,
    )
