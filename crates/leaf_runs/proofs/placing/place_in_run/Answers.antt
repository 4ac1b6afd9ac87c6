use Rattle.std.proofs.Common.{true, false, arith}
use Rattle.leaf_runs.proofs.Causes.{cause_through}
use Rattle.leaf_runs.proofs.PlacedRows.{has_spot, here_leaf, has_named, live_some, put_as, placed_whole, left_named, are_halves, placed_split}
use Rattle.leaf_runs.proofs.placing.place_in_run.Goals as goal

pub returns-in_err-put_on_leaf-clause-cause : goal.returns-in_err-put_on_leaf-clause-cause
returns-in_err-put_on_leaf-clause-cause g c =
    let h = c.in_err-put_on_leaf.ensures.cause in
    cause_through (g.P.Pages.faults c.args.pages.now) (g.P.Pages.faults c.args.pages.now) (g.P.Pages.faults c.put_on_leaf.new.pages) c.in_err-put_on_leaf.field-0.0 c.from_residual.result
    c.from_residual.ensures.1 (omega arith) h.later h.failed (λ k. h.whole (k.0, has_spot (g.P.Pages.pages c.args.pages.now) c.args.table.0 c.args.page c.args.key.now k.1))

pub returns-then-branch-clause-placed : goal.returns-then-branch-clause-placed
returns-then-branch-clause-placed g c = λ known lives front here back run same round.
    let p0 = g.P.Pages.pages c.args.pages.now in
    let p1 = g.P.Pages.pages c.put_on_leaf.new.pages in
    let p = c.in_ok-put_on_leaf.ensures.put known (here_leaf p0 c.args.table.0 c.args.page front here back run same) in
    placed_whole p0 c.args.table.0 c.args.page front here back run same p1 p.0 c.args.key.now c.args.value.now round p.1
    (put_as c.in_ok-put_on_leaf.field-0 true p0 p1 c.args.page p.0 c.args.key.now c.args.value.now c.if-branch.true p.2)

pub returns-in_err-other-clause-cause : goal.returns-in_err-other-clause-cause
returns-in_err-other-clause-cause g c =
    let h = c.in_err-other.ensures.cause in
    cause_through (g.P.Pages.faults c.args.pages.now) (g.P.Pages.faults c.put_on_leaf.new.pages) (g.P.Pages.faults c.split_for.new.pages) c.in_err-other.field-0.0 c.from_residual-in_err-other.result
    c.from_residual-in_err-other.ensures.1 c.put_on_leaf.ensures.cause.later h.later h.failed
    (λ k.
    let p0 = g.P.Pages.pages c.args.pages.now in
    let p1 = g.P.Pages.pages c.put_on_leaf.new.pages in
    let s = k.1 in
    let p = c.in_ok-put_on_leaf.ensures.put k.0 (has_spot p0 c.args.table.0 c.args.page c.args.key.now s) in
    let miss = put_as c.in_ok-put_on_leaf.field-0 false p0 p1 c.args.page p.0 c.args.key.now c.args.value.now c.if-branch.false p.2 in
    h.whole (
      c.in_ok-put_on_leaf.ensures.known k.0,
      has_named p1 c.args.table.0 c.args.page _ (left_named p0 p1 c.args.table.0 c.args.page s.front s.here s.back s.run s.page_is c.args.key.now c.args.value.now p.0 p.1 miss.0),
    ))

pub returns-in_err-put_on_either-clause-cause : goal.returns-in_err-put_on_either-clause-cause
returns-in_err-put_on_either-clause-cause g c =
    let h = c.in_err-put_on_either.ensures.cause in
    cause_through (g.P.Pages.faults c.args.pages.now) (g.P.Pages.faults c.split_for.new.pages) (g.P.Pages.faults c.put_on_either.new.pages) c.in_err-put_on_either.field-0.0 c.from_residual-in_err-put_on_either.result
    c.from_residual-in_err-put_on_either.ensures.1 (omega (arith, c.put_on_leaf.ensures.cause.later, c.split_for.ensures.cause.later)) h.later h.failed
    (λ k.
    let p0 = g.P.Pages.pages c.args.pages.now in
    let p1 = g.P.Pages.pages c.put_on_leaf.new.pages in
    let p2 = g.P.Pages.pages c.split_for.new.pages in
    let table = c.args.table.0 in
    let page = c.args.page in
    let key = c.args.key.now in
    let value = c.args.value.now in
    let s = k.1 in
    let p = c.in_ok-put_on_leaf.ensures.put k.0 (has_spot p0 c.args.table.0 c.args.page c.args.key.now s) in
    let miss = put_as c.in_ok-put_on_leaf.field-0 false p0 p1 page p.0 key value c.if-branch.false p.2 in
    let known1 = c.in_ok-put_on_leaf.ensures.known k.0 in
    let cut = c.in_ok-other.ensures.cut known1 _ (left_named p0 p1 table page s.front s.here s.back s.run s.page_is key value p.0 p.1 miss.0) in
    h.whole (c.in_ok-other.ensures.known known1, (_, _, are_halves p0 p1 table page s.front s.here s.back s.run s.page_is key value p.0 p.1 miss.0 p2 c.in_ok-other.other cut)))

pub returns-in_err-put_on_either-clause-follows : goal.returns-in_err-put_on_either-clause-follows
returns-in_err-put_on_either-clause-follows g c =
    g.P.Pages.follows_on _ _ _ (g.P.Pages.follows_on _ _ _ c.put_on_leaf.ensures.follows c.split_for.ensures.follows) c.put_on_either.ensures.follows

pub returns-clause-placed : goal.returns-clause-placed
returns-clause-placed g c = λ known lives front here back run same round.
    let p0 = g.P.Pages.pages c.args.pages.now in
    let p1 = g.P.Pages.pages c.put_on_leaf.new.pages in
    let p2 = g.P.Pages.pages c.split_for.new.pages in
    let p3 = g.P.Pages.pages c.put_on_either.new.pages in
    let table = c.args.table.0 in
    let page = c.args.page in
    let other = c.in_ok-other.other in
    let key = c.args.key.now in
    let value = c.args.value.now in
    let p = c.in_ok-put_on_leaf.ensures.put known (here_leaf p0 c.args.table.0 c.args.page front here back run same) in
    let miss = put_as c.in_ok-put_on_leaf.field-0 false p0 p1 page p.0 key value c.if-branch.false p.2 in
    let known1 = c.in_ok-put_on_leaf.ensures.known known in
    let cut = c.in_ok-other.ensures.cut known1 _ (left_named p0 p1 table page front here back run same key value p.0 p.1 miss.0) in
    let known2 = c.in_ok-other.ensures.known known1 in
    let placed = c.in_ok-put_on_either.ensures.put known2 _ _ (are_halves p0 p1 table page front here back run same key value p.0 p.1 miss.0 p2 other cut) in
    placed_split p0 p1 table page front here back run same key value p.0 p.1 miss.0 p2 other cut p3 placed round (live_some p0 0 lives)

pub returns-clause-follows : goal.returns-clause-follows
returns-clause-follows g c =
    g.P.Pages.follows_on _ _ _ (g.P.Pages.follows_on _ _ _ c.put_on_leaf.ensures.follows c.split_for.ensures.follows) c.put_on_either.ensures.follows
