use Rattle.std.proofs.Common.{◌≡◌, ◌+◌, ◌-◌, ◌↔◌, false, true, Some, None, sym, ap, subst, ◌∙◌, arith}
use Rattle.mdb_model.specs.Tables.{place_of}
use Rattle.mdb_bytes.specs.LoggedChanges.{change_of}
use Rattle.mdb_bytes.specs.ChangeOrder.{last_place, place_follows, IsChangeRun}
use Rattle.mdb_bytes.proofs.Booleans.{empty_test}
use Rattle.mdb_bytes.proofs.RunLaw.{run_on, run_breaks, run_lacks, run_ends}
use Rattle.mdb_bytes.proofs.order.are_changes.Goals as goal

pub returns-in_default : goal.returns-in_default
returns-in_default c = run_lacks (last_place c.loop.last) c.args.count c.loop.counter c.loop.rest.now c.loop-test.true c.in_default.ensures.first c.loop.invariant

pub returns-then-not-may_follow : goal.returns-then-not-may_follow
returns-then-not-may_follow c =
    let down : place_follows (last_place c.loop.last) (place_of (change_of c.in-Some.change)) ≡ false =
    ap (place_follows (last_place c.loop.last)) (sym c.place-place.ensures) ∙ sym c.may_follow.ensures ∙ c.if-not-may_follow.true in
    run_breaks (last_place c.loop.last) c.args.count c.loop.counter (change_of c.in-Some.change) c.loop.rest.now c.in-Some.behind.now c.loop-test.true
    c.in-Some.ensures.first down c.loop.invariant

pub loop-preserved : goal.loop-preserved
loop-preserved c =
    let up : place_follows (last_place c.loop.last) (place_of (change_of c.in-Some.change)) ≡ true =
    ap (place_follows (last_place c.loop.last)) (sym c.place-place.ensures) ∙ sym c.may_follow.ensures ∙ c.if-not-may_follow.false in
    subst (λ place. IsChangeRun None c.args.count c.args.bytes.now ↔ IsChangeRun (Some place) (c.args.count - (c.loop.counter + 1)) c.in-Some.behind.now) (sym c.place-place.ensures)
    (run_on (last_place c.loop.last) c.args.count c.loop.counter (change_of c.in-Some.change) c.loop.rest.now c.in-Some.behind.now c.loop-test.true
    c.in-Some.ensures.first up c.loop.invariant)

pub returns : goal.returns
returns c =
    let none_left : c.args.count - c.loop.counter ≡ 0 = omega arith in
    run_ends (last_place c.loop.last) (c.args.count - c.loop.counter) c.loop.rest.now c.is_empty.result none_left
    (empty_test c.is_empty.result c.loop.rest.now c.is_empty.ensures) c.loop.invariant
