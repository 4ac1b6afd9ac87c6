use Rattle.std.proofs.Common.{arith}
use Rattle.mdb_bytes.specs.TablePages.{longest_value, row_leaf_format}
use Rattle.mdb_bytes.specs.EntryPages.{row_layout, leaf_head}
use Rattle.mdb_bytes.proofs.NumberBytes.{as_bytes}
use Rattle.mdb_bytes.proofs.Booleans.{refused, passed}
use Rattle.mdb_bytes.proofs.RowEntries.{row_law}
use Rattle.mdb_bytes.proofs.EntryPageLaws.{not_parted, other_head, page_by_run}
use Rattle.mdb_bytes.proofs.TablePageLaws.{IsLeafHead, leaf_page, page_leaf}
use Rattle.mdb_bytes.proofs.row_leaf.check_row_leaf.Goals as goal

pub returns-in_default : goal.returns-in_default
returns-in_default c =
    not_parted (row_layout longest_value) 2 (row_law longest_value) (row_leaf_format longest_value) leaf_head (λ v. v.rows) IsLeafHead c.args.bytes.now
    (as_bytes c.args.bytes.now c.type_inv.bytes) (leaf_page longest_value c.args.bytes.now) c.in_default.ensures

pub returns-then-not-is_leaf_head : goal.returns-then-not-is_leaf_head
returns-then-not-is_leaf_head c =
    other_head (row_layout longest_value) 2 (row_law longest_value) (row_leaf_format longest_value) leaf_head (λ v. v.rows) IsLeafHead c.args.bytes.now
    (as_bytes c.args.bytes.now c.type_inv.bytes) (leaf_page longest_value c.args.bytes.now) c.in-Some.page.head c.in-Some.page.entries.now c.in-Some.page.slots.now
    c.in-Some.ensures (refused c.is_leaf_head.ensures c.if-not-is_leaf_head.true)

pub are_rows-requires : goal.are_rows-requires
are_rows-requires c = let used = c.in-Some.ensures.used in let within = c.in-Some.ensures.within in omega arith

pub returns : goal.returns
returns c =
    page_by_run (row_layout longest_value) 2 (row_law longest_value) (row_leaf_format longest_value) leaf_head (λ v. v.rows) IsLeafHead c.args.bytes.now
    (as_bytes c.args.bytes.now c.type_inv.bytes) (leaf_page longest_value c.args.bytes.now) c.in-Some.page.head c.in-Some.page.entries.now c.in-Some.page.slots.now
    c.in-Some.ensures c.are_rows.result
    (page_leaf longest_value c.args.bytes.now c.in-Some.page.head (passed c.is_leaf_head.ensures c.if-not-is_leaf_head.false)) c.are_rows.ensures
