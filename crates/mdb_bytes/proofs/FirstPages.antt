-- The two pages of a new database are well formed, and hold no rows and no before images.
--     first_two, first_pages      the catalogue and the open list as the creation writes them
--     well_formed, standing_is, committed_is, all_images_are, undo_count_is      what they say
use Rattle.std.proofs.Common.{◌≡◌, ◌⊎◌, inl, inr, refl, sym, ap, subst, ◌∙◌, ℕ, zero, suc, ◌+◌, List, [], ◌∷◌, replicate, map, Some, None, arith, true, false}
use Rattle.std.specs.Prelude.{IsSome, option_map, option_and_then, slice_get, is_some, count_by, cond}
use Rattle.std.specs.List.{flat_map}
use Rattle.std.specs.Ordering.{nat_cmp, eq_by_cmp}
use Rattle.std.specs.Cmp.{unsigned_tied}
use Rattle.std.specs.FinMap.{get, entries, from_sorted, entries-from_sorted, get-from_sorted, find, empty}
use Rattle.std.proofs.lemmas.Bool.{ne_eqb}
use Rattle.mdb_model.specs.Tables.{place_cmp}
use Rattle.mdb_model.specs.Pages.{Page, PageMap, committed, set_back}
use Rattle.mdb_model.proofs.Computing.{entries-empty}
use Rattle.mdb_bytes.specs.declared.logical_pages.CatalogueEntry.{CatalogueEntry}
use Rattle.mdb_bytes.specs.Fields.{spelled, decoded, number_at, read_run}
use Rattle.mdb_bytes.specs.LogicalPages.{catalogue_fields, open_list_fields}
use Rattle.mdb_bytes.specs.Firsts.{first_catalogue, first_open_list}
use Rattle.mdb_bytes.specs.PageReadings.{page_as, catalogue_of, open_list_of, row_leaf_of, undo_page_of, standing_rows, rows_before, undo_page_count, all_images, rows_on, images_on, once}
use Rattle.mdb_bytes.specs.Forms.{IsWellFormed, IsTable, reading}

-- the bytes of the catalogue and of the open list
abbrev pub catalogue_page : List ℕ
catalogue_page = spelled (catalogue_fields first_catalogue)

abbrev pub open_list_page : List ℕ
open_list_page = spelled (open_list_fields first_open_list)

-- the two pages, with the stamps of the first savepoint
abbrev pub first_two : List (ℕ × Page)
first_two = (0, record { stamp = 1; bytes = catalogue_page }) ∷ (1, record { stamp = 1; bytes = open_list_page }) ∷ []

abbrev pub first_pages : PageMap
first_pages = from_sorted first_two

entries_are : entries first_pages ≡ first_two
entries_are = entries-from_sorted nat_cmp first_two tt

get_is : (number : ℕ) → get first_pages number ≡ find nat_cmp number first_two
get_is number = get-from_sorted nat_cmp first_two number tt

no_rows : flat_map (λ page. rows_on page.bytes) (map (λ e. e.1) first_two) ≡ []
unfolding spelled decoded number_at read_run row_leaf_of
no_rows = refl

no_images : flat_map (λ page. images_on page.bytes) (map (λ e. e.1) first_two) ≡ []
unfolding spelled decoded number_at read_run undo_page_of
no_images = refl

pub all_images_are : all_images first_pages ≡ []
all_images_are = ap (λ es. flat_map (λ page. images_on page.bytes) (map (λ e. e.1) es)) entries_are ∙ no_images

pub standing_is : standing_rows first_pages ≡ Some empty
standing_is = ap (λ es. once (flat_map (λ page. rows_on page.bytes) (map (λ e. e.1) es))) entries_are ∙ ap once no_rows

pub before_is : rows_before first_pages ≡ Some empty
before_is = ap once all_images_are

pub undo_count_is : undo_page_count first_pages ≡ 0
unfolding spelled decoded number_at read_run undo_page_of
undo_count_is = ap (λ es. count_by (λ page. is_some (undo_page_of page.bytes)) (map (λ e. e.1) es)) entries_are

pub committed_is : committed reading first_pages ≡ Some empty
committed_is =
    (λ i. option_and_then (λ rows. option_map (λ images. set_back (entries images) rows) (before_is i)) (standing_is i))
    ∙ ap (λ es. Some (set_back es empty)) (entries-empty place_cmp)

slice_get-replicate : {X : Type 0} (x y : X) (n k : ℕ) → slice_get (replicate n x) k ≡ Some y → y ≡ x
slice_get-replicate x y zero k e = absurd cc
slice_get-replicate x y (suc n) zero e = cc
slice_get-replicate x y (suc n) (suc k) e = slice_get-replicate x y n k e

page_0 : page_as catalogue_of first_pages 0 ≡ Some first_catalogue
unfolding spelled decoded number_at read_run catalogue_of
page_0 = ap (option_and_then (λ page. catalogue_of page.bytes)) (get_is 0)

page_1 : page_as open_list_of first_pages 1 ≡ Some first_open_list
unfolding spelled decoded number_at read_run open_list_of
page_1 = ap (option_and_then (λ page. open_list_of page.bytes)) (get_is 1)

empty_table : (table : ℕ) (entry : CatalogueEntry) (numbers : List ℕ) → entry ≡ record { root = 0; pages = 0; cost = 0 } → numbers ≡ [] → IsTable first_pages table entry numbers
empty_table table entry numbers e n =
    subst (λ (p : CatalogueEntry × List ℕ). IsTable first_pages table p.0 p.1) (λ i. (sym e i, sym n i))
    (record { without_rows = λ z. refl; with_rows = λ some. absurd (some refl); count = refl; cost = refl })

named_is : (number : ℕ) → is_some (find nat_cmp number first_two) ≡ true → (number ≡ 0) ⊎ (number ≡ 1)
named_is zero e = inl refl
named_is (suc zero) e = inr refl
named_is (suc (suc n)) e =
    let first : Page = record { stamp = 1; bytes = catalogue_page } in
    let second : Page = record { stamp = 1; bytes = open_list_page } in
    let not_0 : eq_by_cmp nat_cmp (suc (suc n)) 0 ≡ false = unsigned_tied (suc (suc n)) 0 ∙ ne_eqb (suc (suc n)) 0 (λ z. omega (arith, z)) in
    let not_1 : eq_by_cmp nat_cmp (suc (suc n)) 1 ≡ false = unsigned_tied (suc (suc n)) 1 ∙ ne_eqb (suc (suc n)) 1 (λ z. omega (arith, z)) in
    let never : is_some (cond false (Some first) (cond false (Some second) None)) ≡ true = sym (λ i. is_some (cond (not_0 i) (Some first) (cond (not_1 i) (Some second) None))) ∙ e in
    absurd cc

pub well_formed : IsWellFormed first_pages
well_formed = record {
  catalogue = first_catalogue;
  open_list = first_open_list;
  page_0 = page_0;
  page_1 = page_1;
  table_pages = replicate 500 [];
  undo_files = [];
  tables = λ table entry numbers is_entry is_numbers.
      empty_table (table + 1) entry numbers (slice_get-replicate _ entry 500 table is_entry) (slice_get-replicate [] numbers 500 table is_numbers);
  all_tables = refl;
  undo = tt;
  apart = refl;
  named = λ number. (
    λ there. elim (named_is number (ap is_some (sym (get_is number)) ∙ there)) [ inl z ↦ inl z | inr o ↦ inr (inl o) ],
    λ named. elim named [
      | inl z ↦ subst (λ k. IsSome (get first_pages k)) (sym z) (ap is_some (get_is 0))
      | inr more ↦ elim more [
        | inl o ↦ subst (λ k. IsSome (get first_pages k)) (sym o) (ap is_some (get_is 1))
        | inr others ↦ elim others [ inl a ↦ absurd (omega (arith, a.1)) | inr b ↦ absurd (omega (arith, b.1)) ]
      ]
    ],
  );
}
