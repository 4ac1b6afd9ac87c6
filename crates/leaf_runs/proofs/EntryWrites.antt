-- The catalogue with another entry of one table.
--     entry_set      what a write of an entry makes of the bytes of page 0
--     sets_entry      and of the pages
--     entry_now, entry_beside      the entries of the new catalogue
use Rattle.std.proofs.Common.{◌≡◌, refl, sym, ap, ◌∙◌, ℕ, zero, suc, ◌<◌, List, [], ◌∷◌, length, Some, arith}
use Rattle.std.specs.Prelude.{slice_get, slice_set, option_and_then}
use Rattle.std.specs.FinMap.{get, insert}
use Rattle.mdb_bytes.specs.declared.logical_pages.CatalogueEntry.{CatalogueEntry}
use Rattle.mdb_bytes.specs.declared.logical_pages.Catalogue.{Catalogue}
use Rattle.mdb_bytes.specs.Fields.{Spells}
use Rattle.mdb_bytes.specs.LogicalPages.{catalogue_format}
use Rattle.mdb_bytes.specs.PageReadings.{catalogue_of}
use Rattle.mdb_bytes.specs.Paged.{PageBytes}
use Rattle.mdb_bytes.proofs.Decoding.{spelled-decoded}
use Rattle.mdb_bytes.proofs.LogicalPageLaws.{catalogue_again}
use Rattle.leaf_runs.specs.Runs.{catalogue_at}
use Rattle.leaf_runs.specs.Changed.{with_entry, IsEntrySet, SetsEntry}
use Rattle.leaf_runs.proofs.PageSteps.{written_here, written_there}

-- Lists

pub set_here : {X : Type 0} (xs : List X) (i : ℕ) (x : X) → i < length xs → slice_get (slice_set xs i x) i ≡ Some x
set_here [] i x lt = absurd (omega arith)
set_here (y ∷ ys) zero x lt = refl
set_here (y ∷ ys) (suc i) x lt = set_here ys i x (omega arith)

pub set_there : {X : Type 0} (xs : List X) (i j : ℕ) (x : X) → (j ≡ i → ⊥) → slice_get (slice_set xs i x) j ≡ slice_get xs j
set_there [] i j x apart = refl
set_there (y ∷ ys) zero zero x apart = absurd (apart refl)
set_there (y ∷ ys) zero (suc j) x apart = refl
set_there (y ∷ ys) (suc i) zero x apart = refl
set_there (y ∷ ys) (suc i) (suc j) x apart = set_there ys i j x (λ e. apart (ap suc e))

-- Entries

pub entry_set : (table : ℕ) (entry : CatalogueEntry) (old new : List ℕ) (catalogue : Catalogue) → Spells catalogue_format catalogue old → Spells catalogue_format (with_entry catalogue table entry) new → IsEntrySet table entry old new
unfolding catalogue_of
entry_set table entry old new catalogue was is =
    (catalogue, spelled-decoded catalogue_format catalogue_again old catalogue was, spelled-decoded catalogue_format catalogue_again new (with_entry catalogue table entry) is)

-- page 0 that was written with another entry
pub sets_entry : (pages pages2 : PageBytes) (table : ℕ) (entry : CatalogueEntry) (old new : List ℕ) → get pages 0 ≡ Some old → pages2 ≡ insert pages 0 new → IsEntrySet table entry old new → SetsEntry pages pages2 table entry
sets_entry pages pages2 table entry old new there is set = record {
  catalogue = set.0;
  was = ap (option_and_then catalogue_of) there ∙ set.1;
  is_now = ap catalogue_at is ∙ ap (option_and_then catalogue_of) (written_here pages 0 new) ∙ set.2;
  others = λ other apart. ap (λ (p : PageBytes). get p other) is ∙ written_there pages 0 other new apart;
}

-- the catalogue that page 0 spells
pub catalogue_bytes : (pages : PageBytes) (bytes : List ℕ) (catalogue : Catalogue) → get pages 0 ≡ Some bytes → catalogue_at pages ≡ Some catalogue → catalogue_of bytes ≡ Some catalogue
catalogue_bytes pages bytes catalogue there is = sym (ap (option_and_then catalogue_of) there) ∙ is
