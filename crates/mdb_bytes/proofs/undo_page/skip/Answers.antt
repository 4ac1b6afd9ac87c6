use Rattle.std.proofs.Common.{◌≤◌, length, inl, inr}
use Rattle.std.specs.Prelude.{nat_lt}
use Rattle.std.proofs.lemmas.Bool.{cases_Bool, ltb-true, ltb-false}
use Rattle.mdb_bytes.proofs.UndoParts.{skip_lacks, skip_on, left_on}
use Rattle.mdb_bytes.proofs.undo_page.skip.Goals as goal

pub returns-in_default : goal.returns-in_default
returns-in_default c =
    λ entries more h. elim (cases_Bool (nat_lt (length entries) c.args.count)) [
      | inl few ↦ ltb-true (length entries) c.args.count few
      | inr enough ↦
          let le : c.args.count ≤ length entries = ltb-false (length entries) c.args.count enough in
          absurd (skip_lacks c.loop.rest.now c.loop.counter c.args.count entries more c.loop-test.true le c.in_default.ensures (c.loop.invariant.2 entries more le h))
    ]

pub loop-preserved : goal.loop-preserved
loop-preserved c =
    let left = left_on c.args.bytes.now c.loop.rest.now c.behind-rest.result.now c.in-Some.head c.loop.invariant.0 c.loop.invariant.1 c.in-Some.ensures.1 c.behind-rest.ensures in (
      left.0,
      left.1,
      λ entries more le h. skip_on c.loop.rest.now c.behind-rest.result.now c.in-Some.head c.loop.counter c.args.count entries more c.loop-test.true le c.in-Some.ensures.0 c.behind-rest.ensures
          (c.loop.invariant.2 entries more le h),
    )
