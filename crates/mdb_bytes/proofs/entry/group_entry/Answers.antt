use Rattle.std.proofs.Common.{arith}
use Rattle.mdb_bytes.specs.LoggedChanges.{change_of}
use Rattle.mdb_bytes.proofs.ChangeRuns.{group_long}
use Rattle.mdb_bytes.proofs.EntryLaw.{entry_past, entry_none, entry_found, entry_within}
use Rattle.mdb_bytes.proofs.entry.group_entry.Goals as goal

pub returns-then-bytes-lt33-clause-entry : goal.returns-then-bytes-lt33-clause-entry
returns-then-bytes-lt33-clause-entry c = λ v s. let long = group_long v c.args.bytes.now s in absurd (omega (arith, long.1))

pub returns-in_default-clause-entry : goal.returns-in_default-clause-entry
returns-in_default-clause-entry c = λ v s. entry_past v c.args.bytes.now c.split_at.result.1.now c.args.index s c.split_at.ensures.back c.in_default.ensures

pub returns-in_default-first_change-clause-entry :
    goal.returns-in_default-first_change-clause-entry
returns-in_default-first_change-clause-entry c =
    λ v s. entry_none v c.args.bytes.now c.split_at.result.1.now c.in-Some.rest.now c.args.index s c.split_at.ensures.back c.in-Some.ensures.2 c.in_default-first_change.ensures.first

pub returns-clause-entry : goal.returns-clause-entry
returns-clause-entry c =
    λ v s. entry_found v c.args.bytes.now c.split_at.result.1.now c.in-Some.rest.now c.in-Some-first_change.field-0-1.now (change_of c.in-Some-first_change.change) c.entry_at.result c.args.index
    c.if-bytes-lt33.false c.split_at.ensures.back c.in-Some.ensures c.in-Some-first_change.ensures.first c.entry_at.ensures s

pub returns-clause-within : goal.returns-clause-within
returns-clause-within c =
    entry_within c.args.bytes.now c.split_at.result.1.now c.in-Some.rest.now c.in-Some-first_change.field-0-1.now (change_of c.in-Some-first_change.change) c.entry_at.result
    c.if-bytes-lt33.false c.split_at.ensures.back c.in-Some.ensures.0 c.in-Some-first_change.ensures.first c.entry_at.ensures
