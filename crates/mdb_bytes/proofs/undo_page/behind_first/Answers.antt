use Rattle.mdb_bytes.proofs.NumberBytes.{as_bytes}
use Rattle.mdb_bytes.proofs.Booleans.{refused, passed}
use Rattle.mdb_bytes.proofs.UndoEntries.{undo_not_whole, undo_bad, undo_found}
use Rattle.mdb_bytes.proofs.undo_page.behind_first.Goals as goal

pub returns-in_default : goal.returns-in_default
returns-in_default c = undo_not_whole c.args.bytes.now (as_bytes c.args.bytes.now c.type_inv.bytes) c.in_default.ensures

pub returns-then-not-has_kept_lengths : goal.returns-then-not-has_kept_lengths
returns-then-not-has_kept_lengths c =
    undo_bad c.args.bytes.now c.in-Some.head (as_bytes c.args.bytes.now c.type_inv.bytes) c.in-Some.ensures.0
    (λ kept. refused c.has_kept_lengths.ensures c.if-not-has_kept_lengths.true (kept.1, kept.3))

pub returns-then-not-has_kept_numbers : goal.returns-then-not-has_kept_numbers
returns-then-not-has_kept_numbers c =
    undo_bad c.args.bytes.now c.in-Some.head (as_bytes c.args.bytes.now c.type_inv.bytes) c.in-Some.ensures.0
    (λ kept. refused c.has_kept_numbers.ensures c.if-not-has_kept_numbers.true (kept.0, kept.2, kept.4))

pub returns : goal.returns
returns c =
    let lengths = passed c.has_kept_lengths.ensures c.if-not-has_kept_lengths.false in
    let numbers = passed c.has_kept_numbers.ensures c.if-not-has_kept_numbers.false in
    undo_found c.args.bytes.now c.in-Some.head c.behind.result.now (as_bytes c.args.bytes.now c.type_inv.bytes) c.in-Some.ensures.1 c.in-Some.ensures.0
    (numbers.0, lengths.0, numbers.1, lengths.1, numbers.2) c.behind.ensures
