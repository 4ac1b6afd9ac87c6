use Rattle.std.proofs.Common.{◌≡◌, ◌↔◌, None, [], sym, subst, arith}
use Rattle.std.specs.Prelude.{IsTrue}
use Rattle.std.proofs.lemmas.List.{nil_from_length}
use Rattle.mdb_bytes.specs.TablePages.{longest_value}
use Rattle.mdb_bytes.specs.UndoPages.{undo_page_format}
use Rattle.mdb_bytes.specs.EntryPages.{undo_layout, IsEntryRun, undo_head}
use Rattle.mdb_bytes.proofs.NumberBytes.{as_bytes}
use Rattle.mdb_bytes.proofs.Booleans.{refused, passed}
use Rattle.mdb_bytes.proofs.UndoEntries.{undo_law}
use Rattle.mdb_bytes.proofs.EntryPageLaws.{not_parted, other_head, page_by_run}
use Rattle.mdb_bytes.proofs.UndoPageLaws.{IsUndoHead, undo_page_of, page_undo}
use Rattle.mdb_bytes.proofs.undo_page.check_undo_page.Goals as goal

pub returns-in_default : goal.returns-in_default
returns-in_default c =
    not_parted (undo_layout longest_value) 0 (undo_law longest_value) (undo_page_format longest_value) undo_head (λ v. v.entries) IsUndoHead c.args.bytes.now
    (as_bytes c.args.bytes.now c.type_inv.bytes) (undo_page_of longest_value c.args.bytes.now) c.in_default.ensures

pub returns-then-not-is_undo_head : goal.returns-then-not-is_undo_head
returns-then-not-is_undo_head c =
    other_head (undo_layout longest_value) 0 (undo_law longest_value) (undo_page_format longest_value) undo_head (λ v. v.entries) IsUndoHead c.args.bytes.now
    (as_bytes c.args.bytes.now c.type_inv.bytes) (undo_page_of longest_value c.args.bytes.now) c.in-Some.page.head c.in-Some.page.entries.now c.in-Some.page.slots.now
    c.in-Some.ensures (refused c.is_undo_head.ensures c.if-not-is_undo_head.true)

pub returns : goal.returns
returns c =
    let counted = c.in-Some.ensures.counted in
    let none : c.in-Some.page.slots.now ≡ [] = nil_from_length c.in-Some.page.slots.now (omega arith) in
    page_by_run (undo_layout longest_value) 0 (undo_law longest_value) (undo_page_format longest_value) undo_head (λ v. v.entries) IsUndoHead c.args.bytes.now
    (as_bytes c.args.bytes.now c.type_inv.bytes) (undo_page_of longest_value c.args.bytes.now) c.in-Some.page.head c.in-Some.page.entries.now c.in-Some.page.slots.now
    c.in-Some.ensures c.are_entries.result
    (page_undo longest_value c.args.bytes.now c.in-Some.page.head (passed c.is_undo_head.ensures c.if-not-is_undo_head.false))
    (subst (λ slots. IsTrue c.are_entries.result ↔ IsEntryRun (undo_layout longest_value) None c.in-Some.page.head.count 64 c.in-Some.page.entries.now slots) (sym none) c.are_entries.ensures)
