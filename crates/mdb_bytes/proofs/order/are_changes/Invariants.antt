use Rattle.std.proofs.Common.{◌-◌, ◌↔◌, None}
use Rattle.mdb_bytes.specs.ChangeOrder.{last_place, IsChangeRun}
use Rattle.mdb_bytes.proofs.order.are_changes.Given as goal

abbrev pub invariant-loop : goal.invariant-loop
invariant-loop l = IsChangeRun None l.count l.bytes ↔ IsChangeRun (last_place l.last) (l.count - l.counter) l.rest
