-- The header of a page says what the page says.
use Rattle.std.proofs.Common.{◌≡◌, ℕ, List}
use Rattle.std.specs.Prelude.{map}
use Rattle.std.specs.List.{flat_map}
use Rattle.mdb_bytes.specs.declared.page_sections.PageHead.{PageHead}
use Rattle.mdb_bytes.specs.Fields.{Spells, spelled}
use Rattle.mdb_bytes.specs.TablePages.{RowLeaf, row_leaf_format, IndexPage, index_format}
use Rattle.mdb_bytes.specs.UndoPages.{UndoPage, undo_page_format}
use Rattle.mdb_bytes.specs.EntryPages.{Layout, row_layout, child_layout, undo_layout, page_head_in, leaf_head, index_head, undo_head}
use Rattle.mdb_bytes.proofs.NumberBytes.{AreBytes}
use Rattle.mdb_bytes.proofs.PageParts.{parts_say}
use Rattle.mdb_bytes.proofs.EntryRuns.{IsLayout}
use Rattle.mdb_bytes.proofs.EntryPageLaws.{IsEntryPage, page_parts}
use Rattle.mdb_bytes.proofs.RowEntries.{row_law}
use Rattle.mdb_bytes.proofs.ChildEntries.{child_law}
use Rattle.mdb_bytes.proofs.UndoEntries.{undo_law}
use Rattle.mdb_bytes.proofs.TablePageLaws.{leaf_page, index_page_of}
use Rattle.mdb_bytes.proofs.UndoPageLaws.{undo_page_of}

pub head_read : {X : Type 0} (layout : Layout X) (slot_len : ℕ) → IsLayout layout slot_len → (head : PageHead) (xs : List X) (bytes : List ℕ) → AreBytes bytes → IsEntryPage layout head xs bytes
    → page_head_in bytes ≡ head
head_read layout slot_len law head xs bytes all p =
    (parts_say slot_len head (spelled (flat_map layout.entry.fields xs)) (spelled (layout.slots 64 (map layout.len xs))) bytes all (page_parts layout slot_len law head xs bytes p)).header

pub leaf_head_read : (longest : ℕ) (bytes : List ℕ) → AreBytes bytes → (v : RowLeaf) → Spells (row_leaf_format longest) v bytes → page_head_in bytes ≡ leaf_head v
leaf_head_read longest bytes all v s = head_read (row_layout longest) 2 (row_law longest) (leaf_head v) v.rows bytes all (leaf_page longest bytes v s).1

pub index_head_read : (bytes : List ℕ) → AreBytes bytes → (v : IndexPage) → Spells index_format v bytes → page_head_in bytes ≡ index_head v
index_head_read bytes all v s = head_read child_layout 2 child_law (index_head v) v.children bytes all (index_page_of bytes v s).1

pub undo_head_read : (longest : ℕ) (bytes : List ℕ) → AreBytes bytes → (v : UndoPage) → Spells (undo_page_format longest) v bytes → page_head_in bytes ≡ undo_head v
undo_head_read longest bytes all v s = head_read (undo_layout longest) 0 (undo_law longest) (undo_head v) v.entries bytes all (undo_page_of longest bytes v s).1
