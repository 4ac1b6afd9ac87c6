use Rattle.std.proofs.Common.{arith}
use Rattle.mdb_bytes.specs.TablePages.{index_format}
use Rattle.mdb_bytes.specs.EntryPages.{child_layout, index_head}
use Rattle.mdb_bytes.proofs.NumberBytes.{as_bytes}
use Rattle.mdb_bytes.proofs.Booleans.{refused, passed}
use Rattle.mdb_bytes.proofs.ChildEntries.{child_law}
use Rattle.mdb_bytes.proofs.EntryPageLaws.{not_parted, other_head, page_by_run}
use Rattle.mdb_bytes.proofs.TablePageLaws.{IsIndexHead, index_page_of, page_index}
use Rattle.mdb_bytes.proofs.index_page.check_index_page.Goals as goal

pub returns-in_default : goal.returns-in_default
returns-in_default c =
    not_parted child_layout 2 child_law index_format index_head (λ v. v.children) IsIndexHead c.args.bytes.now
    (as_bytes c.args.bytes.now c.type_inv.bytes) (index_page_of c.args.bytes.now) c.in_default.ensures

pub returns-then-not-is_index_head : goal.returns-then-not-is_index_head
returns-then-not-is_index_head c =
    other_head child_layout 2 child_law index_format index_head (λ v. v.children) IsIndexHead c.args.bytes.now
    (as_bytes c.args.bytes.now c.type_inv.bytes) (index_page_of c.args.bytes.now) c.in-Some.page.head c.in-Some.page.entries.now c.in-Some.page.slots.now
    c.in-Some.ensures (refused c.is_index_head.ensures c.if-not-is_index_head.true)

pub are_children-requires : goal.are_children-requires
are_children-requires c = let used = c.in-Some.ensures.used in let within = c.in-Some.ensures.within in omega arith

pub returns : goal.returns
returns c =
    page_by_run child_layout 2 child_law index_format index_head (λ v. v.children) IsIndexHead c.args.bytes.now
    (as_bytes c.args.bytes.now c.type_inv.bytes) (index_page_of c.args.bytes.now) c.in-Some.page.head c.in-Some.page.entries.now c.in-Some.page.slots.now
    c.in-Some.ensures c.are_children.result
    (page_index c.args.bytes.now c.in-Some.page.head (passed c.is_index_head.ensures c.if-not-is_index_head.false)) c.are_children.ensures
