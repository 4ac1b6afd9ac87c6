-- The logical pages of fixed fields are read back, and have the length of a page.
--     catalogue_again, length-catalogue      the catalogue
--     open_list_again, length-open_list      the open list
use Rattle.std.proofs.Common.{◌≡◌, refl, sym, ap, ◌∙◌, ℕ, ◌≤◌, true, List, ◌++◌, length, drop, min, arith}
use Rattle.std.specs.Prelude.{nat_le, ◌&&◌, map, IsTrue}
use Rattle.std.specs.List.{list_all}
use Rattle.std.proofs.lemmas.Bool.{leb-true, eqb-true}
use Rattle.mdb_bytes.specs.declared.logical_pages.CatalogueEntry.{CatalogueEntry}
use Rattle.mdb_bytes.specs.declared.logical_pages.Catalogue.{Catalogue}
use Rattle.mdb_bytes.specs.declared.logical_pages.OpenEntry.{OpenEntry}
use Rattle.mdb_bytes.specs.declared.logical_pages.OpenList.{OpenList}
use Rattle.mdb_bytes.specs.Fields.{Field, ReadsBack, field_fits, spelled, number_at, read_run}
use Rattle.mdb_bytes.specs.Parts.{HasLength, page_room, ascend_from}
use Rattle.mdb_bytes.specs.LogicalPages.{header_fields, catalogue_entry_fields, catalogue_entry_reads, catalogue_fields, catalogue_fits, catalogue_format, open_entry_fields, open_entry_fits, open_entry_reads, open_list_front, open_list_fields, open_list_fits, open_list_format}
use Rattle.mdb_bytes.proofs.Decoding.{and_left, and_right}
use Rattle.mdb_bytes.proofs.ReadBack.{byte_in, two_in, four_in, eight_in}
use Rattle.mdb_bytes.proofs.TableLaws.{length-section, section_again}

-- the entry of a table is read again
catalogue_entry_again : (v : CatalogueEntry) (more : List Field) → list_all field_fits (catalogue_entry_fields v ++ more) ≡ true
    → catalogue_entry_reads (spelled (catalogue_entry_fields v ++ more)) ≡ v
catalogue_entry_again v more fit =
    let fs = catalogue_entry_fields v ++ more in
    λ i. record { root = four_in fs 0 v.root fit refl i; pages = four_in fs 4 v.pages fit refl i; cost = eight_in fs 8 v.cost fit refl i }

-- there are 500 tables
tables_all : (v : Catalogue) → IsTrue (catalogue_fits v) → length v.entries ≡ 500
tables_all v fits = eqb-true (length v.entries) 500 fits

-- how many bytes the catalogue has
pub length-catalogue : HasLength catalogue_format 8192
length-catalogue v kept =
    let all = tables_all v (and_left (catalogue_fits v) _ kept) in
    length-section catalogue_entry_fields 16 64 page_room (header_fields 4 0 0 0 500 8000 0) refl (λ e. refl) v.entries (omega (arith, all))

-- the catalogue is read again
pub catalogue_again : ReadsBack catalogue_format
catalogue_again v kept =
    let all = tables_all v (and_left (catalogue_fits v) _ kept) in
    let fs = catalogue_fields v in
    let bytes = spelled fs in
    let fit : list_all field_fits fs ≡ true = and_right (catalogue_fits v) _ kept in
    let entries : read_run catalogue_entry_reads (λ e. 16) 500 (drop 64 bytes) ≡ v.entries =
    ap (λ (n : ℕ). read_run catalogue_entry_reads (λ e. 16) n (drop 64 bytes)) (sym all)
    ∙ section_again catalogue_entry_fields 16 64 page_room (header_fields 4 0 0 0 500 8000 0) refl (λ e. refl) catalogue_entry_reads catalogue_entry_again v.entries fit in
    λ i. record { entries = entries i }

-- the entry of a session is read again
open_entry_again : (v : OpenEntry) (more : List Field) → list_all field_fits (open_entry_fields v ++ more) ≡ true → open_entry_reads (spelled (open_entry_fields v ++ more)) ≡ v
open_entry_again v more fit =
    let fs = open_entry_fields v ++ more in
    λ i. record { session = byte_in fs 0 v.session fit refl i; last_page = four_in fs 4 v.last_page fit refl i; count = four_in fs 8 v.count fit refl i }

-- there are at most 64 sessions
sessions_few : (v : OpenList) → IsTrue (open_list_fits v) → length v.entries.items ≤ 64
sessions_few v fits =
    let most = nat_le (length v.entries.items) 64 in
    let each = list_all open_entry_fits v.entries.items in
    leb-true (length v.entries.items) 64 (and_left most each (and_left (most && each) (ascend_from 0 (map (λ (e : OpenEntry). e.session) v.entries.items)) fits))

-- how many bytes the open list has
pub length-open_list : HasLength open_list_format 8192
length-open_list v kept =
    let few = sessions_few v (and_left (open_list_fits v) _ kept) in
    length-section open_entry_fields 12 64 page_room (open_list_front v) refl (λ e. refl) v.entries.items (omega (arith, few))

-- the open list is read again
pub open_list_again : ReadsBack open_list_format
open_list_again v kept =
    let few = sessions_few v (and_left (open_list_fits v) _ kept) in
    let fs = open_list_fields v in
    let bytes = spelled fs in
    let fit : list_all field_fits fs ≡ true = and_right (open_list_fits v) _ kept in
    let count : min (number_at 2 8 bytes) 64 ≡ length v.entries.items = let n = two_in fs 8 (length v.entries.items) fit refl in omega (arith, n, few) in
    let entries : read_run open_entry_reads (λ e. 12) (min (number_at 2 8 bytes) 64) (drop 64 bytes) ≡ v.entries.items =
    ap (λ (n : ℕ). read_run open_entry_reads (λ e. 12) n (drop 64 bytes)) count
    ∙ section_again open_entry_fields 12 64 page_room (open_list_front v) refl (λ e. refl) open_entry_reads open_entry_again v.entries.items fit in
    λ i. record { entries = record { items = entries i } }
