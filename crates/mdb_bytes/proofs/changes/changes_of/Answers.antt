use Rattle.std.proofs.Common.{◌∙◌, arith}
use Rattle.mdb_bytes.proofs.ChangeRuns.{group_changes, group_long}
use Rattle.mdb_bytes.proofs.changes.changes_of.Goals as goal

pub returns-then-bytes-lt33-clause-has : goal.returns-then-bytes-lt33-clause-has
returns-then-bytes-lt33-clause-has c = λ v s. let long = group_long v c.args.bytes.now s in absurd (omega (arith, long.1))

pub returns-clause-has : goal.returns-clause-has
returns-clause-has c = λ v s. let changes = group_changes v c.args.bytes.now s in (changes.0, c.split_at.ensures.back ∙ changes.1)
