-- Pages with and without their stamps.
--     get_bytes, entries_bytes, values_bytes      what has no stamp is as it was
--     page_as_bytes      a page is read without its stamp
--     each_entry      what holds of each page that is found holds of all entries
use Rattle.std.proofs.Common.{◌≡◌, refl, sym, ap, subst, ◌∙◌, ℕ, Bool, true, false, cond, ◌&&◌, T, List, [], ◌∷◌, map, Option, Some, None}
use Rattle.std.specs.Prelude.{option_map, option_and_then}
use Rattle.std.specs.List.{AllByRecursion}
use Rattle.std.specs.Ordering.{nat_cmp, is_eq, is_lt, eq_by_cmp}
use Rattle.std.specs.Cmp.{tied_itself, nat_cmp_total}
use Rattle.std.specs.FinMap.{get, find, is_sorted, entries, entries_sorted, get-entries, values, entries-from_sorted, get-from_sorted, nat_cmp-IsAntisymmetric}
use Rattle.std.specs.FinMap.Entries.{below_all}
use Rattle.mdb_model.specs.Pages.{Page, PageMap}
use Rattle.mdb_bytes.specs.PageReadings.{page_as}
use Rattle.mdb_bytes.proofs.NextRow.{find-below}
use Rattle.leaf_runs.proofs.RowLists.{t_left, t_right}
use Rattle.leaf_runs.proofs.RowsLaw.{equal}
use Rattle.run_forms.specs.Stampless.{bytes_of_pages}

-- an entry without its stamp
abbrev pub stampless : ℕ × Page → ℕ × List ℕ
stampless e = (e.0, e.1.bytes)

-- entries without stamps are in order as with them
below_same : (k : ℕ) (es : List (ℕ × Page)) → below_all nat_cmp k (map stampless es) ≡ below_all nat_cmp k es
below_same k [] = refl
below_same k (e ∷ es) = ap (λ (b : Bool). is_lt (nat_cmp k e.0) && b) (below_same k es)

sorted_same : (es : List (ℕ × Page)) → is_sorted nat_cmp (map stampless es) ≡ is_sorted nat_cmp es
sorted_same [] = refl
sorted_same (e ∷ es) = λ i. below_same e.0 es i && sorted_same es i

-- what is found without stamps is what is found with them
find_same : (n : ℕ) (es : List (ℕ × Page)) → find nat_cmp n (map stampless es) ≡ option_map (λ page. page.bytes) (find nat_cmp n es)
find_same n [] = refl
find_same n (e ∷ es) = by_test (eq_by_cmp nat_cmp n e.0) (find_same n es) where
  by_test : (b : Bool) → find nat_cmp n (map stampless es) ≡ option_map (λ page. page.bytes) (find nat_cmp n es) → cond b (Some e.1.bytes) (find nat_cmp n (map stampless es)) ≡ option_map (λ page. page.bytes) (cond b (Some e.1) (find nat_cmp n es))
  by_test true more = refl
  by_test false more = more

-- the bytes of entries without stamps
values_same : (es : List (ℕ × Page)) → map (λ e. e.1) (map stampless es) ≡ map (λ page. page.bytes) (map (λ e. e.1) es)
values_same [] = refl
values_same (e ∷ es) = ap (λ (bs : List (List ℕ)). e.1.bytes ∷ bs) (values_same es)

module _ (pages : PageMap) where
  -- the entries of a map without their stamps are in order
  sorted : T (is_sorted nat_cmp (map stampless (entries pages)))
  sorted = subst T (sym (sorted_same (entries pages))) (entries_sorted pages)

  -- the entries of the map without stamps, each of its pages, and all of its bytes
  pub entries_bytes : entries (bytes_of_pages pages) ≡ map stampless (entries pages)
  entries_bytes = entries-from_sorted nat_cmp (map stampless (entries pages)) sorted

  pub get_bytes : (n : ℕ) → get (bytes_of_pages pages) n ≡ option_map (λ page. page.bytes) (get pages n)
  get_bytes n = get-from_sorted nat_cmp (map stampless (entries pages)) n sorted ∙ find_same n (entries pages) ∙ ap (option_map (λ page. page.bytes)) (sym (get-entries pages n))

  pub values_bytes : values (bytes_of_pages pages) ≡ map (λ page. page.bytes) (values pages)
  values_bytes = ap (map (λ e. e.1)) entries_bytes ∙ values_same (entries pages)

  -- a page is read without its stamp
  pub page_as_bytes : {X : Type 0} (reads : List ℕ → Option X) (n : ℕ) → page_as reads pages n ≡ option_and_then reads (get (bytes_of_pages pages) n)
  page_as_bytes reads n = by_page (get pages n) ∙ ap (option_and_then reads) (sym (get_bytes n)) where
    by_page : (o : Option Page) → option_and_then (λ page. reads page.bytes) o ≡ option_and_then reads (option_map (λ page. page.bytes) o)
    by_page None = refl
    by_page (Some page) = refl

-- Entries in order

-- what is found in the rest is found in the whole
pub found_behind : {X : Type 0} (e : ℕ × X) (es : List (ℕ × X)) → T (is_sorted nat_cmp (e ∷ es)) → (n : ℕ) (x : X) → find nat_cmp n es ≡ Some x → find nat_cmp n (e ∷ es) ≡ Some x
found_behind e es up n x there = by_test (eq_by_cmp nat_cmp n e.0) refl where
  by_test : (b : Bool) → eq_by_cmp nat_cmp n e.0 ≡ b → cond b (Some e.1) (find nat_cmp n es) ≡ Some x
  by_test false is = there
  by_test true is =
      let same : n ≡ e.0 = nat_cmp-IsAntisymmetric n e.0 (equal _ is) in
      let none : find nat_cmp n es ≡ None = ap (λ m. find nat_cmp m es) same ∙ find-below nat_cmp nat_cmp_total e.0 es (t_left _ _ up) in
      let wrong : Some x ≡ None = sym there ∙ none in
      absurd cc

-- the first entry is found
pub found_first : {X : Type 0} (e : ℕ × X) (es : List (ℕ × X)) → find nat_cmp e.0 (e ∷ es) ≡ Some e.1
found_first e es = ap (λ o. cond (is_eq o) (Some e.1) (find nat_cmp e.0 es)) (tied_itself nat_cmp_total e.0)

-- what holds of each page that is found holds of all
pub each_entry : {X : Type 0} (P : X → Type 0) (es : List (ℕ × X)) → T (is_sorted nat_cmp es) → ((n : ℕ) (x : X) → find nat_cmp n es ≡ Some x → P x) → AllByRecursion (λ x. P x) (map (λ e. e.1) es)
each_entry P [] up all = tt
each_entry P (e ∷ es) up all = (all e.0 e.1 (found_first e es), each_entry P es (t_right _ _ up) (λ n x there. all n x (found_behind e es up n x there)))
