use Rattle.std.proofs.Common.{arith}
use Rattle.leaf_runs.specs.Loose.{IsRound, PutsRowInLeaf}
use Rattle.leaf_runs.proofs.Causes.{cause_through}
use Rattle.leaf_runs.proofs.RowCosts.{put_some}
use Rattle.leaf_runs.proofs.NewRuns.{live_on, whole_on, here_run, has_spot, put_changed, put_ends, new_from_taken, new_on}
use Rattle.leaf_runs.proofs.changing.put_in_leaves.Goals as goal

pub returns-in_err-other-clause-cause : goal.returns-in_err-other-clause-cause
returns-in_err-other-clause-cause g c =
    let h = c.in_err-other.ensures.cause in
    cause_through (g.P.Pages.faults c.args.pages.now) (g.P.Pages.faults c.find_row.new.pages) (g.P.Pages.faults c.place_in_run.new.pages) c.in_err-other.field-0.0 c.from_residual-in_err-other.result
    c.from_residual-in_err-other.ensures.1 c.find_row.ensures.cause.later h.later h.failed
    (λ k.
    let m = g.P.Pages.pages c.args.pages.now in
    let m1 = g.P.Pages.pages c.find_row.new.pages in
    let live = k.1 in
    let leaves = k.2 in
    let one = c.in_ok-found.ensures.same k.0 in
    let found = c.in_ok-found.ensures.found k.0 leaves.0 leaves.1.run leaves.2 in
    let whole = whole_on m m1 c.args.table.0 c.args.entry leaves.0 one.1 leaves.1 in
    h.whole (one.0, has_spot m1 c.args.table.0 c.args.entry leaves.0 whole c.args.key.now c.in_ok-found.found.spot.before c.in_ok-found.found.spot.page found.spot))

pub returns-in_err-joined-clause-cause : goal.returns-in_err-joined-clause-cause
returns-in_err-joined-clause-cause g c =
    let h = c.in_err-joined.ensures.cause in
    cause_through (g.P.Pages.faults c.args.pages.now) (g.P.Pages.faults c.place_in_run.new.pages) (g.P.Pages.faults c.settle.new.pages) c.in_err-joined.field-0.0 c.from_residual-in_err-joined.result
    c.from_residual-in_err-joined.ensures.1 (omega (arith, c.find_row.ensures.cause.later, c.place_in_run.ensures.cause.later)) h.later h.failed
    (λ k.
    let m = g.P.Pages.pages c.args.pages.now in
    let m1 = g.P.Pages.pages c.find_row.new.pages in
    let m2 = g.P.Pages.pages c.place_in_run.new.pages in
    let live = k.1 in
    let leaves = k.2 in
    let one = c.in_ok-found.ensures.same k.0 in
    let found = c.in_ok-found.ensures.found k.0 leaves.0 leaves.1.run leaves.2 in
    let spot = found.spot in
    let whole = whole_on m m1 c.args.table.0 c.args.entry leaves.0 one.1 leaves.1 in
    let run = here_run m1 c.args.table.0 c.args.entry leaves.0 whole c.args.key.now c.in_ok-found.found.spot.before c.in_ok-found.found.spot.page spot in
    let known1 = one.0 in
    let live1 = live_on m m1 one.1 live in
    let page_is = spot.page_is in
    let round : IsRound spot.front c.args.key.now spot.back = record { lower = spot.lower; higher = spot.higher } in
    let placed : PutsRowInLeaf m1 m2 c.args.table.0 spot.front spot.here spot.back c.args.key.now c.args.value.now c.in_ok-other.other = search (c.in_ok-other.ensures.placed) in
    h.whole (
      c.in_ok-other.ensures.known one.0,
      (
        spot.front,
        placed.parts,
        spot.back,
        put_changed m1 c.args.table.0 c.args.entry leaves.0 whole c.args.key.now c.in_ok-found.found.spot.before c.in_ok-found.found.spot.page spot m2 c.args.value.now c.in_ok-other.other placed,
      ),
    ))

pub returns-in_err-joined-clause-follows : goal.returns-in_err-joined-clause-follows
returns-in_err-joined-clause-follows g c =
    g.P.Pages.follows_on _ _ _ (g.P.Pages.follows_on _ _ _ c.find_row.ensures.follows c.place_in_run.ensures.follows) c.settle.ensures.follows

pub returns-clause-made : goal.returns-clause-made
returns-clause-made g c = λ known live leaves whole_old some.
    let m = g.P.Pages.pages c.args.pages.now in
    let m1 = g.P.Pages.pages c.find_row.new.pages in
    let m2 = g.P.Pages.pages c.place_in_run.new.pages in
    let m3 = g.P.Pages.pages c.settle.new.pages in
    let one = c.in_ok-found.ensures.same known in
    let found = c.in_ok-found.ensures.found known leaves whole_old.run some in
    let spot = found.spot in
    let whole = whole_on m m1 c.args.table.0 c.args.entry leaves one.1 whole_old in
    let run = here_run m1 c.args.table.0 c.args.entry leaves whole c.args.key.now c.in_ok-found.found.spot.before c.in_ok-found.found.spot.page spot in
    let known1 = one.0 in
    let live1 = live_on m m1 one.1 live in
    let page_is = spot.page_is in
    let round : IsRound spot.front c.args.key.now spot.back = record { lower = spot.lower; higher = spot.higher } in
    let placed : PutsRowInLeaf m1 m2 c.args.table.0 spot.front spot.here spot.back c.args.key.now c.args.value.now c.in_ok-other.other = search (c.in_ok-other.ensures.placed) in
    let changed = put_changed m1 c.args.table.0 c.args.entry leaves whole c.args.key.now c.in_ok-found.found.spot.before c.in_ok-found.found.spot.page spot m2 c.args.value.now c.in_ok-other.other placed in
    let settled = c.in_ok-joined.ensures.settled (c.in_ok-other.ensures.known one.0) spot.front placed.parts spot.back changed in
    let taken =
    put_ends m1 m2 m3 c.args.table.0 c.args.entry c.recount.result leaves whole c.args.key.now c.args.value.now c.in_ok-found.found.spot.before c.in_ok-found.found.spot.page c.in_ok-found.found.cost found c.in_ok-other.other placed
    c.in_ok-joined.joined c.cost_of.result settled c.recount.ensures.root c.recount.ensures.pages c.recount.ensures.cost c.cost_of.ensures.cost c.cost_of.ensures.small in
    new_on m m1 m3 c.args.table.0 _ c.recount.result one.1 (new_from_taken m1 m3 c.args.table.0 _ c.recount.result taken (put_some c.args.key.now c.args.value.now _))

pub returns-clause-follows : goal.returns-clause-follows
returns-clause-follows g c = g.P.Pages.follows_on _ _ _ (g.P.Pages.follows_on _ _ _ c.find_row.ensures.follows c.place_in_run.ensures.follows) c.settle.ensures.follows
