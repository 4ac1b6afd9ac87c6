use Rattle.mdb_bytes.proofs.EntryLaw.{changes_past, changes_on, left_on}
use Rattle.mdb_bytes.specs.LoggedChanges.{change_of}
use Rattle.mdb_bytes.proofs.entry.skip.Goals as goal

pub returns-in_default : goal.returns-in_default
returns-in_default c = λ cs h. changes_past c.loop.rest.now c.loop.counter c.args.count cs c.loop-test.true c.in_default.ensures.first (c.loop.invariant.2 cs h)

pub loop-preserved : goal.loop-preserved
loop-preserved c =
    let change = change_of c.in-Some.field-0-0 in
    let left = left_on c.args.bytes.now c.loop.rest.now c.in-Some.behind.now change c.loop.invariant.0 c.loop.invariant.1 c.in-Some.ensures.first in (
      left.0,
      left.1,
      λ cs h. changes_on change c.loop.rest.now c.in-Some.behind.now c.loop.counter cs c.in-Some.ensures.first (c.loop.invariant.2 cs h),
    )
