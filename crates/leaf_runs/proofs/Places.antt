-- What pages spell.
--     leaf_there, catalogue_there, no_catalogue      what is read of the bytes of a page
--     run_leaf_there      a leaf of a chain passes the test
--     run_leaf_here, named_here, catalogue_here      what a page is, said of its bytes
--     catalogue_some, catalogue_spelled      page 0 is a catalogue
use Rattle.std.proofs.Common.{◌≡◌, refl, sym, ap, subst, ◌∙◌, ℕ, ◌<◌, List, length, get_or, Option, Some, None, IsSome, eqb-true}
use Rattle.std.specs.Prelude.{option_and_then, slice_get}
use Rattle.std.proofs.lemmas.Option.{slice_get-get_or}
use Rattle.std.specs.FinMap.{get}
use Rattle.mdb_bytes.specs.declared.logical_pages.Catalogue.{Catalogue}
use Rattle.mdb_bytes.specs.Fields.{Spells, decoded}
use Rattle.mdb_bytes.specs.LogicalPages.{catalogue_format, catalogue_fits}
use Rattle.mdb_bytes.specs.TablePages.{RowLeaf}
use Rattle.mdb_bytes.specs.PageReadings.{row_leaf_of, catalogue_of}
use Rattle.mdb_bytes.specs.Paged.{PageBytes}
use Rattle.mdb_bytes.proofs.Decoding.{and_left, decoded-spells, spelled-decoded}
use Rattle.mdb_bytes.proofs.LogicalPageLaws.{catalogue_again}
use Rattle.leaf_runs.specs.Edits.{IsLeafNamed}
use Rattle.leaf_runs.specs.Leaves.{IsRunLeaf}
use Rattle.leaf_runs.specs.Runs.{Leaf, leaf_at, leaf_value, catalogue_at, LeafStands, HasRunLeaf, AreRuns}
use Rattle.leaf_runs.specs.Steps.{HasLeaf}

module _ (pages : PageBytes) where
  pub leaf_there : (page : ℕ) (bytes : List ℕ) (leaf : RowLeaf) → get pages page ≡ Some bytes → row_leaf_of bytes ≡ Some leaf → leaf_at pages page ≡ Some leaf
  leaf_there page bytes leaf there is = ap (option_and_then row_leaf_of) there ∙ is

  pub catalogue_there : (bytes : List ℕ) (catalogue : Catalogue) → get pages 0 ≡ Some bytes → Spells catalogue_format catalogue bytes → catalogue_at pages ≡ Some catalogue
  unfolding catalogue_of
  catalogue_there bytes catalogue there spells = ap (option_and_then catalogue_of) there ∙ spelled-decoded catalogue_format catalogue_again bytes catalogue spells

  pub no_catalogue : (bytes : List ℕ) → get pages 0 ≡ Some bytes → ((v : Catalogue) → Spells catalogue_format v bytes → ⊥) → IsSome (catalogue_at pages) → ⊥
  unfolding catalogue_of
  no_catalogue bytes there none some = by_option (decoded catalogue_format bytes) refl (subst IsSome (ap (option_and_then catalogue_of) there) some) where
    by_option : (o : Option Catalogue) → decoded catalogue_format bytes ≡ o → IsSome o → ⊥
    by_option None is s = absurd cc
    by_option (Some v) is s = none v (decoded-spells catalogue_format bytes v is)

  -- the page of a leaf, and its bytes
  pub bytes_of_leaf : (page : ℕ) (leaf : RowLeaf) → leaf_at pages page ≡ Some leaf → (bytes : List ℕ) × (get pages page ≡ Some bytes) × (row_leaf_of bytes ≡ Some leaf)
  bytes_of_leaf page leaf is = by_option (get pages page) refl is where
    by_option : (o : Option (List ℕ)) → get pages page ≡ o → option_and_then row_leaf_of o ≡ Some leaf → (bytes : List ℕ) × (get pages page ≡ Some bytes) × (row_leaf_of bytes ≡ Some leaf)
    by_option None there is = absurd cc
    by_option (Some bytes) there is = (bytes, there, is)

  pub run_leaf_there : (table next : ℕ) (leaf : Leaf) → LeafStands pages table leaf next → HasRunLeaf pages table leaf.page
  run_leaf_there table next leaf stands =
      let b = bytes_of_leaf leaf.page (leaf_value table leaf next) stands.there in
      (b.0, b.1, record { leaf = leaf_value table leaf next; there = b.2; of_table = refl; own_number = refl; has_rows = stands.has_rows })

pub some_same : {X : Type 0} (o : Option X) (a b : X) → o ≡ Some a → o ≡ Some b → a ≡ b
some_same o a b p q = let both : Some a ≡ Some b = sym p ∙ q in cc

-- a page that is a leaf of a table, by its bytes
pub run_leaf_here : (pages : PageBytes) (table number : ℕ) (bytes : List ℕ) → get pages number ≡ Some bytes → HasRunLeaf pages table number → IsRunLeaf table number bytes
run_leaf_here pages table number bytes there has = let same : has.0 ≡ bytes = some_same (get pages number) has.0 bytes has.1 there in subst (IsRunLeaf table number) same has.2

pub named_here : (pages : PageBytes) (table number : ℕ) (bytes : List ℕ) → get pages number ≡ Some bytes → HasLeaf pages table number → (leaf : RowLeaf) × IsLeafNamed table number bytes leaf
named_here pages table number bytes there has =
    let same : has.0 ≡ bytes = some_same (get pages number) has.0 bytes has.1 there in
    subst (λ (b : List ℕ). (leaf : RowLeaf) × IsLeafNamed table number b leaf) same has.2

pub catalogue_here : (pages : PageBytes) (bytes : List ℕ) → get pages 0 ≡ Some bytes → IsSome (catalogue_at pages) → (catalogue : Catalogue) × (catalogue_at pages ≡ Some catalogue) × (catalogue_of bytes ≡ Some catalogue)
catalogue_here pages bytes there some = by_option (catalogue_at pages) refl some where
  by_option : (o : Option Catalogue) → catalogue_at pages ≡ o → IsSome o → (catalogue : Catalogue) × (catalogue_at pages ≡ Some catalogue) × (catalogue_of bytes ≡ Some catalogue)
  by_option None is s = absurd cc
  by_option (Some v) is s = (v, is, sym (ap (option_and_then catalogue_of) there) ∙ is)

-- where tables are runs, page 0 is a catalogue
pub catalogue_some : (pages : PageBytes) → AreRuns pages → IsSome (catalogue_at pages)
catalogue_some pages r = subst IsSome (sym r.page_0) refl

-- the bytes of a page that is a catalogue spell it
pub catalogue_spelled : (bytes : List ℕ) (catalogue : Catalogue) → catalogue_of bytes ≡ Some catalogue → Spells catalogue_format catalogue bytes
unfolding catalogue_of
catalogue_spelled bytes catalogue is = decoded-spells catalogue_format bytes catalogue is

pub catalogue_len : (bytes : List ℕ) (catalogue : Catalogue) → Spells catalogue_format catalogue bytes → length catalogue.entries ≡ 500
catalogue_len bytes catalogue spells = eqb-true (length catalogue.entries) 500 (and_left (catalogue_fits catalogue) _ spells.0)

pub got_at : {X : Type 0} (xs : List X) (i : ℕ) (d : X) → i < length xs → slice_get xs i ≡ Some (get_or xs i d)
got_at xs i d lt = slice_get-get_or xs i d lt
