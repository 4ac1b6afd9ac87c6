use Rattle.std.proofs.Common.{◌≡◌, List, ◌++◌}
use Rattle.std.specs.Prelude.{IsTrue}
use Rattle.std.specs.List.{flat_map}
use Rattle.std.specs.Map.{values_of}
use Rattle.mdb_model.specs.declared.change.Change.{Change}
use Rattle.mdb_bytes.specs.Fields.{spelled, fields_fit}
use Rattle.mdb_bytes.specs.Groups.{change_fields}
use Rattle.mdb_bytes.specs.GroupHeads.{group_head_fields, group_head_of}
use Rattle.transactions.proofs.transaction.encode_changes.Given as goal

-- what is written, and what is left
abbrev pub invariant-loop-change : goal.invariant-loop-change
invariant-loop-change l =
    (xs : List Change) × (xs ++ l.change-iterator ≡ values_of l.changes.entries)
    × (l.into ≡ spelled (group_head_fields (group_head_of (record { name = l.fn.name; number = l.fn.number; changes = values_of l.changes.entries }))) ++ spelled (flat_map change_fields xs))
    × IsTrue (fields_fit (flat_map change_fields xs))
