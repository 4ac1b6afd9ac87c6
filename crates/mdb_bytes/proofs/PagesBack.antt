-- Pages of entries are read back.
--     entries_again      entries that were spelled are read again
--     row_leaf_again, index_again, undo_page_again      pages are
use Rattle.std.proofs.Common.{◌≡◌, refl, ap, sym, ◌∙◌, ℕ, true, List, [], ◌∷◌, ◌++◌, length, drop, append_assoc}
use Rattle.std.specs.List.{flat_map, list_all}
use Rattle.std.proofs.lemmas.List.Concat.{flat_map-cons}
use Rattle.mdb_bytes.specs.declared.page_sections.PageHead.{PageHead}
use Rattle.mdb_bytes.specs.Fields.{Field, ReadsBack, field_fits, spelled, read_run}
use Rattle.mdb_bytes.specs.LogicalPages.{count_on}
use Rattle.mdb_bytes.specs.TablePages.{row_leaf_fits, row_leaf_fields, row_leaf_format, index_fits, index_fields, index_format}
use Rattle.mdb_bytes.specs.UndoPages.{undo_page_fits, undo_page_fields, undo_page_format}
use Rattle.mdb_bytes.specs.EntryPages.{Layout, row_layout, child_layout, undo_layout, page_head_fields, leaf_head, index_head, undo_head}
use Rattle.mdb_bytes.proofs.Decoding.{and_right}
use Rattle.mdb_bytes.proofs.ReadBack.{byte_in, two_in, four_in}
use Rattle.mdb_bytes.proofs.GroupBack.{all_right}
use Rattle.mdb_bytes.proofs.TableLaws.{drop_fields}
use Rattle.mdb_bytes.proofs.EntryRuns.{IsLayout}
use Rattle.mdb_bytes.proofs.EntryPageLaws.{body_fields, page_fields}
use Rattle.mdb_bytes.proofs.RowEntries.{row_law}
use Rattle.mdb_bytes.proofs.ChildEntries.{child_law}
use Rattle.mdb_bytes.proofs.UndoEntries.{undo_law}

module _ {X : Type 0} (layout : Layout X) (slot_len : ℕ) (law : IsLayout layout slot_len) where
  entries_again : (xs : List X) (more : List Field) → list_all field_fits (flat_map layout.entry.fields xs ++ more) ≡ true
      → read_run layout.entry.reads layout.len (length xs) (spelled (flat_map layout.entry.fields xs ++ more)) ≡ xs
  unfolding read_run
  entries_again [] more fit = refl
  entries_again (x ∷ xs) more fit =
      let fields = layout.entry.fields in
      let reads = layout.entry.reads in
      let rest : List Field = flat_map fields xs ++ more in
      let parts : flat_map fields (x ∷ xs) ++ more ≡ fields x ++ rest = ap (λ (fs : List Field). fs ++ more) (flat_map-cons fields x xs) ∙ append_assoc (fields x) (flat_map fields xs) more in
      let fit_parts : list_all field_fits (fields x ++ rest) ≡ true = ap (list_all field_fits) (sym parts) ∙ fit in
      let bytes : List ℕ = spelled (flat_map fields (x ∷ xs) ++ more) in
      let first : reads bytes ≡ x = ap (λ (fs : List Field). reads (spelled fs)) parts ∙ law.again x rest fit_parts in
      let behind : drop (layout.len (reads bytes)) bytes ≡ spelled rest =
      ap (λ x. drop (layout.len x) bytes) first ∙ ap (λ (fs : List Field). drop (layout.len x) (spelled fs)) parts ∙ drop_fields (fields x) rest (layout.len x) (law.len_is x) in
      (λ i. first i ∷ read_run reads layout.len (length xs) (behind i)) ∙ ap (λ xs. x ∷ xs) (entries_again xs more (all_right (fields x) rest fit_parts))

  -- those of a page, after its header
  page_again : (head : PageHead) (xs : List X) → head.count ≡ length xs → list_all field_fits (page_fields layout head xs) ≡ true
      → read_run layout.entry.reads layout.len (count_on (spelled (page_fields layout head xs))) (drop 64 (spelled (page_fields layout head xs))) ≡ xs
  page_again head xs count fit =
      let fs : List Field = page_fields layout head xs in
      let counted : count_on (spelled fs) ≡ length xs = two_in fs 8 head.count fit refl ∙ count in
      let body : drop 64 (spelled fs) ≡ spelled (body_fields layout xs) = drop_fields (page_head_fields head) (body_fields layout xs) 64 refl in
      (λ i. read_run layout.entry.reads layout.len (counted i) (body i))
      ∙ entries_again xs _ (all_right (page_head_fields head) (body_fields layout xs) fit)

pub row_leaf_again : (longest : ℕ) → ReadsBack (row_leaf_format longest)
row_leaf_again longest v kept =
    let fs = row_leaf_fields v in
    let fit : list_all field_fits fs ≡ true = and_right (row_leaf_fits longest v) _ kept in
    let rows = page_again (row_layout longest) 2 (row_law longest) (leaf_head v) v.rows refl fit in
    λ i. record { table = two_in fs 2 v.table fit refl i; number = four_in fs 4 v.number fit refl i; next = four_in fs 12 v.next fit refl i; rows = rows i }

pub index_again : ReadsBack index_format
index_again v kept =
    let fs = index_fields v in
    let fit : list_all field_fits fs ≡ true = and_right (index_fits v) _ kept in
    let children = page_again child_layout 2 child_law (index_head v) v.children refl fit in
    λ i. record { level = byte_in fs 1 v.level fit refl i; table = two_in fs 2 v.table fit refl i; number = four_in fs 4 v.number fit refl i; children = children i }

pub undo_page_again : (longest : ℕ) → ReadsBack (undo_page_format longest)
undo_page_again longest v kept =
    let fs = undo_page_fields v in
    let fit : list_all field_fits fs ≡ true = and_right (undo_page_fits longest v) _ kept in
    let entries = page_again (undo_layout longest) 0 (undo_law longest) (undo_head v) v.entries refl fit in
    λ i. record { number = four_in fs 4 v.number fit refl i; next = four_in fs 12 v.next fit refl i; entries = entries i }
