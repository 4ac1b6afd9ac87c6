-- The pages of the converter are read back, and have the length of a page.
--     converter_root_again, length-converter_root      the root
--     converter_leaf_again, length-converter_leaf      a leaf
use Rattle.std.proofs.Common.{◌≡◌, refl, sym, ap, ◌∙◌, ℕ, ◌≤◌, true, List, ◌++◌, length, drop, min, arith}
use Rattle.std.specs.Prelude.{nat_lt, ◌&&◌, ◌==◌, IsTrue}
use Rattle.std.specs.List.{list_all}
use Rattle.std.proofs.lemmas.Bool.{leb-true, eqb-true}
use Rattle.mdb_bytes.specs.declared.converter_pages.ConverterEntry.{ConverterEntry}
use Rattle.mdb_bytes.specs.declared.converter_pages.ConverterLeaf.{ConverterLeaf}
use Rattle.mdb_bytes.specs.declared.converter_pages.ConverterRoot.{ConverterRoot}
use Rattle.mdb_bytes.specs.Fields.{Field, ReadsBack, field_fits, spelled, number_at, read_run}
use Rattle.mdb_bytes.specs.Parts.{HasLength, page_room, word_format}
use Rattle.mdb_bytes.specs.ConverterPages.{converter_root_front, converter_root_fields, converter_root_fits, converter_root_format, converter_entry_fields, converter_entry_fits, converter_entry_reads, converter_leaf_front, converter_leaf_fields, converter_leaf_fits, converter_leaf_format}
use Rattle.mdb_bytes.proofs.Decoding.{and_left, and_right}
use Rattle.mdb_bytes.proofs.ReadBack.{four_in, eight_in}
use Rattle.mdb_bytes.proofs.TableLaws.{length-section, section_again, word_again}

-- there are at most 110 leaves
leaves_few : (v : ConverterRoot) → IsTrue (converter_root_fits v) → length v.leaves.items ≤ 110
leaves_few v fits = leb-true (length v.leaves.items) 110 fits

-- how many bytes a converter root has
pub length-converter_root : HasLength converter_root_format 8192
length-converter_root v kept =
    let few = leaves_few v (and_left (converter_root_fits v) _ kept) in
    length-section word_format.fields 4 64 page_room (converter_root_front v) refl (λ n. refl) v.leaves.items (omega (arith, few))

-- a converter root is read again
pub converter_root_again : ReadsBack converter_root_format
converter_root_again v kept =
    let few = leaves_few v (and_left (converter_root_fits v) _ kept) in
    let fs = converter_root_fields v in
    let bytes = spelled fs in
    let fit : list_all field_fits fs ≡ true = and_right (converter_root_fits v) _ kept in
    let count : min (number_at 4 16 bytes) 110 ≡ length v.leaves.items = let n = four_in fs 16 (length v.leaves.items) fit refl in omega (arith, n, few) in
    let leaves : read_run word_format.reads (λ n. 4) (min (number_at 4 16 bytes) 110) (drop 64 bytes) ≡ v.leaves.items =
    ap (λ (n : ℕ). read_run word_format.reads (λ n. 4) n (drop 64 bytes)) count
    ∙ section_again word_format.fields 4 64 page_room (converter_root_front v) refl (λ n. refl) word_format.reads word_again v.leaves.items fit in
    λ i. record { savepoint = eight_in fs 8 v.savepoint fit refl i; leaves = record { items = leaves i } }

-- a converter entry is read again
converter_entry_again : (v : ConverterEntry) (more : List Field) → list_all field_fits (converter_entry_fields v ++ more) ≡ true
    → converter_entry_reads (spelled (converter_entry_fields v ++ more)) ≡ v
converter_entry_again v more fit =
    let fs = converter_entry_fields v ++ more in
    λ i. record { block = four_in fs 0 v.block fit refl i; stamp = eight_in fs 4 v.stamp fit refl i }

-- there are 600 entries
entries_all : (v : ConverterLeaf) → IsTrue (converter_leaf_fits v) → length v.entries ≡ 600
entries_all v fits =
    let first = nat_lt v.leaf 110 in
    let second = length v.entries == 600 in
    eqb-true (length v.entries) 600 (and_right first second (and_left (first && second) (list_all converter_entry_fits v.entries) fits))

-- how many bytes a converter leaf has
pub length-converter_leaf : HasLength converter_leaf_format 8192
length-converter_leaf v kept =
    let all = entries_all v (and_left (converter_leaf_fits v) _ kept) in
    length-section converter_entry_fields 12 64 page_room (converter_leaf_front v) refl (λ e. refl) v.entries (omega (arith, all))

-- a converter leaf is read again
pub converter_leaf_again : ReadsBack converter_leaf_format
converter_leaf_again v kept =
    let all = entries_all v (and_left (converter_leaf_fits v) _ kept) in
    let fs = converter_leaf_fields v in
    let bytes = spelled fs in
    let fit : list_all field_fits fs ≡ true = and_right (converter_leaf_fits v) _ kept in
    let entries : read_run converter_entry_reads (λ e. 12) 600 (drop 64 bytes) ≡ v.entries =
    ap (λ (n : ℕ). read_run converter_entry_reads (λ e. 12) n (drop 64 bytes)) (sym all)
    ∙ section_again converter_entry_fields 12 64 page_room (converter_leaf_front v) refl (λ e. refl) converter_entry_reads converter_entry_again v.entries fit in
    λ i. record { leaf = four_in fs 8 v.leaf fit refl i; savepoint = eight_in fs 16 v.savepoint fit refl i; entries = entries i }
