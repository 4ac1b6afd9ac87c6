-- A change of a table leaves a table area.
--     no_leaf_1      page 1 is no leaf
--     put_area, removed_area      a table area is one after a put and after a deletion
--     only_rows, on_both      what a keeper of rows says of it
use Rattle.std.proofs.Common.{◌≡◌, refl, sym, ap, subst, ◌∙◌, ℕ, Bool, true, false, List, [], Result, Ok, Err, Some, None, IsSome, arith, inl, inr, eqb, eqb-true}
use Rattle.std.specs.Prelude.{◌⊎◌, option_and_then, OnOk}
use Rattle.std.proofs.lemmas.Bool.{eqb-false}
use Rattle.std.specs.FinMap.{get, empty}
use Rattle.mdb_model.specs.Tables.{Tables}
use Rattle.mdb_bytes.specs.Held.{Holding}
use Rattle.mdb_bytes.specs.declared.logical_pages.OpenList.{OpenList}
use Rattle.mdb_bytes.specs.Fields.{number_at}
use Rattle.mdb_bytes.specs.LogicalPages.{open_list_fields, open_list_fits, open_list_format}
use Rattle.mdb_bytes.specs.TablePages.{RowLeaf, row_leaf_fields, row_leaf_fits, row_leaf_format, longest_value}
use Rattle.mdb_bytes.specs.PageReadings.{row_leaf_of, open_list_of}
use Rattle.mdb_bytes.specs.Paged.{PageBytes}
use Rattle.mdb_bytes.proofs.Decoding.{and_right, decoded-spells}
use Rattle.mdb_bytes.proofs.ReadBack.{byte_in}
use Rattle.leaf_runs.specs.Runs.{AreRuns, leaf_at}
use Rattle.leaf_runs.specs.Loose.{IsFreeOrOf, LeavesOthers}
use Rattle.leaf_runs.specs.Changed.{PutsRow, DelsRow}
use Rattle.leaf_runs.specs.TableAreas.{IsTableArea, open_list_at}
use Rattle.leaf_runs.proofs.Places.{bytes_of_leaf}

-- no bytes spell both a leaf and an open list
pub list_no_leaf : (bytes : List ℕ) (leaf : RowLeaf) (sessions : OpenList) → row_leaf_of bytes ≡ Some leaf → open_list_of bytes ≡ Some sessions → ⊥
unfolding row_leaf_of open_list_of
list_no_leaf bytes leaf sessions p q =
    let s = decoded-spells (row_leaf_format longest_value) bytes leaf p in
    let t = decoded-spells open_list_format bytes sessions q in
    let one : number_at 1 0 bytes ≡ 1 = ap (number_at 1 0) s.1 ∙ byte_in (row_leaf_fields leaf) 0 1 (and_right (row_leaf_fits longest_value leaf) _ s.0) refl in
    let five : number_at 1 0 bytes ≡ 5 = ap (number_at 1 0) t.1 ∙ byte_in (open_list_fields sessions) 0 5 (and_right (open_list_fits sessions) _ t.0) refl in
    omega arith

-- page 1 is no leaf
pub no_leaf_1 : (pages : PageBytes) (sessions : OpenList) (leaf : RowLeaf) → open_list_at pages ≡ Some sessions → leaf_at pages 1 ≡ Some leaf → ⊥
no_leaf_1 pages sessions leaf is there =
    let b = bytes_of_leaf pages 1 leaf there in
    list_no_leaf b.0 leaf sessions b.2 (sym (ap (option_and_then open_list_of) b.1) ∙ is)

module _ (pages pages2 : PageBytes) (table : ℕ) (area : IsTableArea pages) (runs : AreRuns pages2) (others : LeavesOthers pages pages2 table) where
  -- page 1 lives and is no leaf, so it stays
  list_stays : open_list_at pages2 ≡ open_list_at pages
  list_stays = by_case (others.beside 1 (λ none. absurd (omega arith))) where
    free : IsFreeOrOf pages table 1 → ⊥
    free (inl none) = let wrong : None ≡ Some area.sessions = sym (ap (option_and_then open_list_of) none) ∙ area.page_1 in cc
    free (inr (leaf, there, of)) = no_leaf_1 pages area.sessions leaf area.page_1 there

    by_case : (get pages2 1 ≡ get pages 1) ⊎ (IsFreeOrOf pages table 1 × IsFreeOrOf pages2 table 1) → open_list_at pages2 ≡ open_list_at pages
    by_case (inl same) = ap (option_and_then open_list_of) same
    by_case (inr (was, is)) = absurd (free was)

  -- a page that lives is the catalogue, the open list, or a leaf
  named : (number : ℕ) → IsSome (get pages2 number) → (number ≡ 0) ⊎ (number ≡ 1) ⊎ ((leaf : RowLeaf) × (leaf_at pages2 number ≡ Some leaf))
  named number lives = by_zero (eqb number 0) refl where
    as_before : get pages2 number ≡ get pages number → (number ≡ 0) ⊎ (number ≡ 1) ⊎ ((leaf : RowLeaf) × (leaf_at pages number ≡ Some leaf)) → (number ≡ 0) ⊎ (number ≡ 1) ⊎ ((leaf : RowLeaf) × (leaf_at pages2 number ≡ Some leaf))
    as_before same (inl zero_is) = inl zero_is
    as_before same (inr (inl one_is)) = inr (inl one_is)
    as_before same (inr (inr (leaf, there))) = inr (inr (leaf, ap (option_and_then row_leaf_of) same ∙ there))

    is_leaf : IsFreeOrOf pages2 table number → (leaf : RowLeaf) × (leaf_at pages2 number ≡ Some leaf)
    is_leaf (inl none) = let wrong : false ≡ true = subst IsSome none lives in absurd cc
    is_leaf (inr (leaf, there, of)) = (leaf, there)

    by_case : (get pages2 number ≡ get pages number) ⊎ (IsFreeOrOf pages table number × IsFreeOrOf pages2 table number) → (number ≡ 0) ⊎ (number ≡ 1) ⊎ ((leaf : RowLeaf) × (leaf_at pages2 number ≡ Some leaf))
    by_case (inl same) = as_before same (area.named number (subst IsSome same lives))
    by_case (inr (was, is)) = inr (inr (is_leaf is))

    by_zero : (b : Bool) → eqb number 0 ≡ b → (number ≡ 0) ⊎ (number ≡ 1) ⊎ ((leaf : RowLeaf) × (leaf_at pages2 number ≡ Some leaf))
    by_zero true e = inl (eqb-true number 0 e)
    by_zero false e = by_case (others.beside number (eqb-false number 0 e))

  -- the pages are a table area after the change
  area_stays : IsTableArea pages2
  area_stays = record { runs = runs; sessions = area.sessions; page_1 = list_stays ∙ area.page_1; no_session = area.no_session; named = named }

-- a put leaves a table area, and so does a deletion
pub put_area : (pages pages2 : PageBytes) (table : ℕ) (key value : List ℕ) → PutsRow pages pages2 table key value → IsTableArea pages → IsTableArea pages2
put_area pages pages2 table key value p area = area_stays pages pages2 table area p.runs p.others

pub removed_area : (pages pages2 : PageBytes) (table : ℕ) (key : List ℕ) → DelsRow pages pages2 table key → IsTableArea pages → IsTableArea pages2
removed_area pages pages2 table key p area = area_stays pages pages2 table area p.runs p.others

-- What a keeper of rows says of a change

-- rows, and nothing else
abbrev pub only_rows : Tables → Holding
only_rows rows = record { rows = rows; undo = empty; log = record { name = record { birth = 0; generation = 1 }; after = 0; commits = [] } }

-- what follows from two facts of an answer
pub on_both : {A E : Type 0} (P Q S : Type 0) (r : Result A E) → (P → Q → S) → OnOk r P → OnOk r Q → OnOk r S
on_both P Q S (Ok a) f p q = f p q
on_both P Q S (Err e) f p q = tt
