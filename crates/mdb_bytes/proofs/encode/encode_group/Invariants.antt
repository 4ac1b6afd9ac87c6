use Rattle.std.proofs.Common.{◌≡◌, ◌++◌, take}
use Rattle.std.specs.Prelude.{IsTrue}
use Rattle.std.specs.List.{flat_map}
use Rattle.mdb_bytes.specs.Fields.{spelled, fields_fit}
use Rattle.mdb_bytes.specs.Groups.{change_fields}
use Rattle.mdb_bytes.specs.GroupHeads.{group_head_fields, group_head_of}
use Rattle.mdb_bytes.proofs.encode.encode_group.Given as goal

abbrev pub invariant-loop-change : goal.invariant-loop-change
invariant-loop-change l = record {
  bytes : l.into ≡ spelled (group_head_fields (group_head_of (record { name = l.fn.name; number = l.fn.number; changes = l.changes }))) ++ spelled (flat_map change_fields (take l.change-index l.changes));
  fit : IsTrue (fields_fit (flat_map change_fields (take l.change-index l.changes)));
}
