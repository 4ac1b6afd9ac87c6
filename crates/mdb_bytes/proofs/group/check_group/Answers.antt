use Rattle.mdb_bytes.proofs.GroupChecked.{no_group, group_by_head}
use Rattle.mdb_bytes.proofs.group.check_group.Goals as goal

pub returns-in_default : goal.returns-in_default
returns-in_default c = no_group c.args.bytes.now c.in_default.ensures.head

pub returns : goal.returns
returns c = group_by_head c.args.bytes.now c.in-Some.head c.is_due.result c.in-Some.ensures.head c.is_due.ensures
