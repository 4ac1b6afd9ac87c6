use Rattle.std.proofs.Common.{◌<◌, Some, sym, subst, arith}
use Rattle.mdb_bytes.specs.LogicalPages.{count_on}
use Rattle.mdb_bytes.specs.PageEntries.{IsUndoEntry, FindsEntry}
use Rattle.mdb_bytes.proofs.NumberBytes.{as_bytes}
use Rattle.mdb_bytes.proofs.UndoParts.{page_undo_count, undo_skipped, undo_lacks, undo_there}
use Rattle.mdb_bytes.proofs.undo_page.undo_page_entry.Goals as goal

pub returns-then-bytes-lt64-clause-entry : goal.returns-then-bytes-lt64-clause-entry
returns-then-bytes-lt64-clause-entry c =
    λ longest v s. (let long = (page_undo_count longest c.args.bytes.now v s (as_bytes c.args.bytes.now c.type_inv.bytes)).1 in absurd (omega arith))

pub returns-then-index-u16_at-clause-entry : goal.returns-then-index-u16_at-clause-entry
returns-then-index-u16_at-clause-entry c =
    λ longest v s. (let count = (page_undo_count longest c.args.bytes.now v s (as_bytes c.args.bytes.now c.type_inv.bytes)).0 in omega arith)

pub returns-in_default-clause-entry : goal.returns-in_default-clause-entry
returns-in_default-clause-entry c =
    λ longest v s. (let below : c.args.index < count_on c.args.bytes.now = omega arith in
    absurd (undo_skipped longest c.args.bytes.now v s (as_bytes c.args.bytes.now c.type_inv.bytes) c.split_at.result.1.now c.args.index c.split_at.ensures.back below c.in_default.ensures))

pub returns-in_default-whole_head-clause-entry : goal.returns-in_default-whole_head-clause-entry
returns-in_default-whole_head-clause-entry c =
    λ longest v s. (let below : c.args.index < count_on c.args.bytes.now = omega arith in
    absurd (undo_lacks longest c.args.bytes.now v s (as_bytes c.args.bytes.now c.type_inv.bytes) c.split_at.result.1.now c.in-Some.rest c.args.index c.split_at.ensures.back below
    c.in-Some.ensures c.in_default-whole_head.ensures))

pub returns-clause-entry : goal.returns-clause-entry
returns-clause-entry c =
    λ longest v s. (let below : c.args.index < count_on c.args.bytes.now = omega arith in
    subst (λ entry. FindsEntry (IsUndoEntry c.args.bytes.now) v.entries c.args.index (Some entry)) (sym c.entry_of.ensures)
    (undo_there longest c.args.bytes.now v s (as_bytes c.args.bytes.now c.type_inv.bytes) c.split_at.result.1.now c.in-Some.rest c.in-Some-whole_head.head c.args.index c.split_at.ensures.back below
    c.in-Some.ensures c.in-Some-whole_head.ensures.0))
