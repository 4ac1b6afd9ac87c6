use Rattle.std.proofs.Common.{◌↔◌, drop, None, IsTrue, subst}
use Rattle.mdb_bytes.specs.ChangeOrder.{IsChangeRun}
use Rattle.mdb_bytes.proofs.Booleans.{refused, passed}
use Rattle.mdb_bytes.proofs.GroupFront.{head_long}
use Rattle.mdb_bytes.proofs.GroupChecked.{not_due, other_due, due_by_run}
use Rattle.mdb_bytes.proofs.group.is_due.Goals as goal

pub returns-in_default : goal.returns-in_default
returns-in_default c = not_due c.args.name c.args.number c.args.bytes.now c.in_default.ensures.head

pub returns-then-not-is_head_for : goal.returns-then-not-is_head_for
returns-then-not-is_head_for c =
    other_due c.args.name c.args.number c.args.bytes.now c.in-Some.head c.in-Some.ensures.head (refused c.is_head_for.ensures c.if-not-is_head_for.true)

pub split_at-requires : goal.split_at-requires
split_at-requires c = head_long c.in-Some.head c.args.bytes.now (drop 33 c.args.bytes.now) c.in-Some.ensures.head

pub returns : goal.returns
returns c =
    due_by_run c.args.name c.args.number c.args.bytes.now c.in-Some.head c.are_changes.result c.in-Some.ensures.head (passed c.is_head_for.ensures c.if-not-is_head_for.false)
    (subst (λ t. IsTrue c.are_changes.result ↔ IsChangeRun None c.in-Some.head.changes t) c.split_at.ensures.back c.are_changes.ensures)
