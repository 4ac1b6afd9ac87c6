use Rattle.std.proofs.Common.{refl, arith}
use Rattle.leaf_runs.proofs.Causes.{cause_through}
use Rattle.leaf_runs.proofs.PlacedRows.{blank_leaf, named_of, split_named, split_blank, split_within, may_split, cut_off}
use Rattle.leaf_runs.proofs.placing.split_for.Goals as goal

pub returns-in_err-split_leaf-clause-cause : goal.returns-in_err-split_leaf-clause-cause
returns-in_err-split_leaf-clause-cause g c =
    let h = c.in_err-split_leaf.ensures.cause in
    cause_through (g.P.Pages.faults c.args.pages.now) (g.P.Pages.faults c.place_on_leaf.new.pages) (g.P.Pages.faults c.split_leaf.new.pages) c.in_err-split_leaf.field-0.0 c.from_residual-in_err-split_leaf.result
    c.from_residual-in_err-split_leaf.ensures.1 (omega (arith, c.new_leaf.ensures.cause.later, c.place_on_leaf.ensures.cause.later)) h.later h.failed
    (λ k.
    let p0 = g.P.Pages.pages c.args.pages.now in
    let n = named_of p0 c.args.table.0 c.args.page k.1 in
    let known = c.in_ok-other.ensures.known k.0 in
    let same = c.in_ok-at.ensures.same known in
    h.whole (
      same.0,
      may_split p0 (g.P.Pages.pages c.new_leaf.new.pages) (g.P.Pages.pages c.place_on_leaf.new.pages) c.args.table.0 c.args.page c.in_ok-other.other c.in_ok-at.at n.0 c.args.key.now
          (c.in_ok-other.ensures.made k.0) same.1 n.1 (c.in_ok-at.ensures.place known),
    ))

pub returns-in_err-split_leaf-clause-follows : goal.returns-in_err-split_leaf-clause-follows
returns-in_err-split_leaf-clause-follows g c =
    g.P.Pages.follows_on _ _ _ (g.P.Pages.follows_on _ _ _ c.new_leaf.ensures.follows c.place_on_leaf.ensures.follows) c.split_leaf.ensures.follows

pub returns-clause-cut : goal.returns-clause-cut
returns-clause-cut g c = λ known leaf named.
    let p0 = g.P.Pages.pages c.args.pages.now in
    let p1 = g.P.Pages.pages c.new_leaf.new.pages in
    let p2 = g.P.Pages.pages c.place_on_leaf.new.pages in
    let table = c.args.table.0 in
    let page = c.args.page in
    let other = c.in_ok-other.other in
    let at = c.in_ok-at.at in
    let key = c.args.key.now in
    let new = c.in_ok-other.ensures.made known in
    let known1 = c.in_ok-other.ensures.known known in
    let same = c.in_ok-at.ensures.same known1 in
    let place = c.in_ok-at.ensures.place known1 in
    cut_off p0 p1 p2 table page other at leaf key new same.1 named place (g.P.Pages.pages c.split_leaf.new.pages)
    (c.in_ok-split_leaf.ensures.split same.0 leaf (blank_leaf table other) (split_named p0 p1 p2 table page other at leaf key new same.1 named place)
    (split_blank p0 p1 p2 table page other at leaf key new same.1 named place) refl (split_within p0 p1 p2 table page other at leaf key new same.1 named place))

pub returns-clause-follows : goal.returns-clause-follows
returns-clause-follows g c =
    g.P.Pages.follows_on _ _ _ (g.P.Pages.follows_on _ _ _ c.new_leaf.ensures.follows c.place_on_leaf.ensures.follows) c.split_leaf.ensures.follows
