use Rattle.std.proofs.Common.{arith}
use Rattle.mdb_bytes.proofs.NumberBytes.{as_bytes}
use Rattle.mdb_bytes.proofs.EntryParts.{no_row, row_found, row_long}
use Rattle.mdb_bytes.proofs.row_leaf.row_leaf_entry.Goals as goal

pub returns-in_default-clause-entry : goal.returns-in_default-clause-entry
returns-in_default-clause-entry c = λ longest v s. no_row longest c.args.bytes.now (as_bytes c.args.bytes.now c.type_inv.bytes) c.args.index v s c.in_default.ensures

pub returns-then-front-lt6-clause-entry : goal.returns-then-front-lt6-clause-entry
returns-then-front-lt6-clause-entry c =
    λ longest v s. (let long = row_long longest c.args.bytes.now (as_bytes c.args.bytes.now c.type_inv.bytes) c.args.index v s (c.in-Some.place, c.in-Some.front) c.in-Some.ensures in absurd (omega arith))

pub returns-then-front-key_len-clause-entry : goal.returns-then-front-key_len-clause-entry
returns-then-front-key_len-clause-entry c =
    λ longest v s. (let found = row_found longest c.args.bytes.now (as_bytes c.args.bytes.now c.type_inv.bytes) c.args.index v s (c.in-Some.place, c.in-Some.front) c.in-Some.ensures
    c.head_at_front-head.result c.head_at_front-head.ensures in let long = found.0 in absurd (omega arith))

pub returns-clause-entry : goal.returns-clause-entry
returns-clause-entry c =
    λ longest v s. (row_found longest c.args.bytes.now (as_bytes c.args.bytes.now c.type_inv.bytes) c.args.index v s (c.in-Some.place, c.in-Some.front) c.in-Some.ensures
    c.head_at_front-head.result c.head_at_front-head.ensures).1
