use Rattle.std.proofs.Common.{◌≡◌, ◌++◌}
use Rattle.std.specs.Map.{values_of}
use Rattle.transactions.proofs.transaction.list_changes.Given as goal

-- what is listed, and what is left
abbrev pub invariant-loop-change : goal.invariant-loop-change
invariant-loop-change l = l.into.items ++ l.change-iterator ≡ values_of l.changes.entries
