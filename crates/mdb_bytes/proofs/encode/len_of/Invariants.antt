use Rattle.std.proofs.Common.{◌≡◌, ◌+◌, take}
use Rattle.std.specs.Prelude.{sum_by}
use Rattle.mdb_model.specs.Sessions.{change_bytes}
use Rattle.mdb_bytes.proofs.encode.len_of.Given as goal

abbrev pub invariant-loop-change : goal.invariant-loop-change
invariant-loop-change l = l.length ≡ 33 + sum_by change_bytes (take l.change-index l.changes)
