use Rattle.mdb_bytes.proofs.GroupFront.{finds_head}
use Rattle.mdb_bytes.proofs.group.group_head.Goals as goal

pub returns-clause-group : goal.returns-clause-group
returns-clause-group c = λ v s. finds_head c.args.bytes.now c.first_head.result c.first_head.ensures v s
