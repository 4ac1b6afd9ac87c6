-- An undo page as a page of entries.
use Rattle.std.proofs.Common.{◌≡◌, refl, sym, subst, ℕ, true, List, [], ◌∷◌, None}
use Rattle.std.specs.Prelude.{IsTrue, nat_le}
use Rattle.std.specs.List.{list_all}
use Rattle.std.proofs.lemmas.Bool.{leb-true, le-leb}
use Rattle.mdb_bytes.specs.declared.page_sections.PageHead.{PageHead}
use Rattle.mdb_bytes.specs.Fields.{Spells, fields_fit}
use Rattle.mdb_bytes.specs.Parts.{page_room}
use Rattle.mdb_bytes.specs.UndoPages.{UndoEntry, UndoPage, undo_entry_fits, undo_entries_cost, undo_page_fields, undo_page_fits, undo_page_format}
use Rattle.mdb_bytes.specs.EntryPages.{undo_layout, ascend, undo_head}
use Rattle.mdb_bytes.proofs.Decoding.{and_left, and_right, and_both}
use Rattle.mdb_bytes.proofs.EntryPageLaws.{IsEntryPage}

-- entries without keys are in order
in_order : (longest : ℕ) (entries : List UndoEntry) → ascend (undo_layout longest) None entries ≡ true
in_order longest [] = refl
in_order longest (v ∷ entries) = in_order longest entries

abbrev pub IsUndoHead : PageHead → Type 0
IsUndoHead h = (h.kind ≡ 3) × (h.level ≡ 0) × (h.table ≡ 0)

pub undo_page_of : (longest : ℕ) (bytes : List ℕ) (v : UndoPage) → Spells (undo_page_format longest) v bytes → IsUndoHead (undo_head v) × IsEntryPage (undo_layout longest) (undo_head v) v.entries bytes
undo_page_of longest bytes v s =
    let fits = and_left (undo_page_fits longest v) _ s.0 in (
      (refl, refl, refl),
      record {
        keeps = and_right (nat_le (undo_entries_cost v.entries) page_room) _ fits;
        order = in_order longest v.entries;
        counted = refl;
        used = refl;
        within = leb-true (undo_entries_cost v.entries) page_room (and_left (nat_le (undo_entries_cost v.entries) page_room) _ fits);
        fits = and_right (undo_page_fits longest v) _ s.0;
        whole = s.1;
      },
    )

pub page_undo : (longest : ℕ) (bytes : List ℕ) (head : PageHead) → IsUndoHead head → (entries : List UndoEntry) → IsEntryPage (undo_layout longest) head entries bytes
    → (v : UndoPage) × Spells (undo_page_format longest) v bytes
page_undo longest bytes head is entries p =
    let v : UndoPage = record { number = head.number; next = head.next; entries = entries } in
    let same : head ≡ undo_head v =
    λ i. record { kind = is.0 i; level = is.1 i; table = is.2 i; number = head.number; count = sym p.counted i; used = sym p.used i; next = head.next } in
    let q : IsEntryPage (undo_layout longest) (undo_head v) entries bytes = subst (λ h. IsEntryPage (undo_layout longest) h entries bytes) same p in
    let fits : IsTrue (undo_page_fits longest v) =
    and_both (nat_le (undo_entries_cost entries) page_room) (list_all (undo_entry_fits longest) entries) (le-leb (undo_entries_cost entries) page_room q.within) q.keeps in
    (v, (and_both (undo_page_fits longest v) (fields_fit (undo_page_fields v)) fits q.fits, q.whole))
