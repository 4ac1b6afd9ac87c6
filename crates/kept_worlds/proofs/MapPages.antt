-- What images show of a map is what a store has on its pages.
--     pages_found      a page of the shown map
--     pages_shown      without stamps the pages of the map that a savepoint writes are the store's
--     places_counted      as many places have a block as pages live
use Rattle.std.proofs.Common.{◌≡◌, inl, inr, refl, sym, ap, subst, ◌∙◌, ℕ, zero, suc, ◌+◌, ◌<◌, ◌≤◌, ◌==◌, Bool, true, false, cond, not, ◌&&◌, T, List, [], ◌∷◌, length, map, drop, Option, Some, None, arith}
use Rattle.std.specs.Prelude.{option_map, nat_lt, if◌then◌else◌}
use Rattle.std.specs.Ordering.{nat_cmp, is_lt, eq_by_cmp, MatchOrdering}
use Rattle.std.specs.declared.cmp.Ordering.TheVariants.{Less, Equal, Greater}
use Rattle.std.specs.Cmp.{nat_cmp_total, unsigned_tied, ranks}
use Rattle.std.specs.FinMap.{get, find, is_sorted, len, from_sorted, get-from_sorted, entries-from_sorted, len-entries, same_map, nat_cmp-IsAntisymmetric}
use Rattle.std.specs.FinMap.Entries.{below_all}
use Rattle.std.proofs.lemmas.Bool.{ne_eqb, eq-eqb, lt-ltb, cases_lt}
use Rattle.std.proofs.lemmas.List.{get_or-drop}
use Rattle.mdb_model.specs.Images.{Image}
use Rattle.mdb_model.specs.Pages.{Page}
use Rattle.mdb_bytes.specs.declared.converter_pages.ConverterEntry.{ConverterEntry}
use Rattle.mdb_bytes.specs.Firsts.{no_entry}
use Rattle.mdb_bytes.specs.KeptMaps.{Placed, placed}
use Rattle.converter.specs.Maps.{IsSoundMaps, entry_at, block_of}
use Rattle.page_store.specs.LogicalPages.{store_pages}
use Rattle.page_store.specs.Store.{Store, page_block}
use Rattle.page_store.specs.WholeSavepoint.{present_page}
use Rattle.page_store.proofs.Views.{get_page}
use Rattle.run_forms.specs.Stampless.{bytes_of_pages}
use Rattle.run_forms.proofs.Stampless.{get_bytes, found_first}
use Rattle.run_forms.proofs.PageCounts.{same_count}
use Rattle.shown_maps.specs.ShownMaps.{shown_map}
use Rattle.shown_maps.proofs.UsedEntries.{used_from, some_or_none}

-- lesser numbers
lesser : (j k : ℕ) → j < k → is_lt (nat_cmp j k) ≡ true
lesser j k lt = elim (nat_cmp j k) as (λ o. MatchOrdering o (j < k) (j ≡ k) (k < j) → is_lt o ≡ true) [
  | Less ↦ λ is. refl
  | Equal ↦ λ is. absurd (omega (arith, is, lt))
  | Greater ↦ λ is. absurd (omega (arith, is, lt))
] (ranks j k)

module _ (pages : ℕ → List ℕ) where
  -- an entry as a page
  abbrev as_page : Placed → ℕ × Page
  as_page e = (e.0, record { stamp = e.1.stamp; bytes = pages e.0 })

  -- the pages of a list of entries, numbered from k on
  abbrev pages_from : ℕ → List ConverterEntry → List (ℕ × Page)
  pages_from k xs = map as_page (used_from k xs)

  below_used : (j k : ℕ) (xs : List ConverterEntry) → j < k
      → below_all nat_cmp j (pages_from k xs) ≡ true
  below_used j k [] lt = refl
  below_used j k (x ∷ xs) lt =
      let rest = below_used j (k + 1) xs (omega (arith, lt)) in
      some_or_none x.block (λ b. below_all nat_cmp j (map as_page (cond (not b) ((k, x) ∷ used_from (k + 1) xs) (used_from (k + 1) xs))) ≡ true)
      (λ e. rest)
      (λ some e. (λ i. lesser j k lt i && rest i))

  used_sorted : (k : ℕ) (xs : List ConverterEntry) → is_sorted nat_cmp (pages_from k xs) ≡ true
  used_sorted k [] = refl
  used_sorted k (x ∷ xs) =
      let rest = used_sorted (k + 1) xs in
      some_or_none x.block (λ b. is_sorted nat_cmp (map as_page (cond (not b) ((k, x) ∷ used_from (k + 1) xs) (used_from (k + 1) xs))) ≡ true)
      (λ e. rest)
      (λ some e. (λ i. below_used k (k + 1) xs (omega arith) i && rest i))

  -- what is found under a number
  abbrev found_at : (xs : List ConverterEntry) (i q : ℕ) → Option Page
  found_at xs i q = cond (block_of xs i == 0) None
      (Some (record { stamp = (entry_at xs i).stamp; bytes = pages q }))

  none_below : (q k : ℕ) (xs : List ConverterEntry) → q < k → find nat_cmp q (pages_from k xs) ≡ None
  none_below q k [] lt = refl
  none_below q k (x ∷ xs) lt =
      let rest = none_below q (k + 1) xs (omega (arith, lt)) in
      let off : eq_by_cmp nat_cmp q k ≡ false = unsigned_tied q k ∙ ne_eqb q k (λ e. omega (arith, e, lt)) in
      some_or_none x.block (λ b. find nat_cmp q (map as_page (cond (not b) ((k, x) ∷ used_from (k + 1) xs) (used_from (k + 1) xs))) ≡ None)
      (λ e. rest)
      (λ some e. ap (λ b. cond b (Some (as_page (k, x)).1) (find nat_cmp q (pages_from (k + 1) xs))) off ∙ rest)

  used_found : (i k : ℕ) (xs : List ConverterEntry) → find nat_cmp (k + i) (pages_from k xs) ≡ found_at xs i (k + i)
  used_found i k [] = sym (none_at i (k + i))
    where
      none_at : (i q : ℕ) → found_at [] i q ≡ None
      none_at zero q = refl
      none_at (suc i) q = refl
  used_found zero k (x ∷ xs) =
      let here : k + 0 ≡ k = omega arith in
      subst (λ q. find nat_cmp q (pages_from k (x ∷ xs)) ≡ found_at (x ∷ xs) 0 q) (sym here)
      (some_or_none x.block (λ b. find nat_cmp k (map as_page (cond (not b) ((k, x) ∷ used_from (k + 1) xs) (used_from (k + 1) xs))) ≡ cond b None (Some (record { stamp = x.stamp; bytes = pages k })))
      (λ e. none_below k (k + 1) xs (omega arith))
      (λ some e. found_first (as_page (k, x)) (pages_from (k + 1) xs)))
  used_found (suc i) k (x ∷ xs) =
      let on : (k + 1) + i ≡ k + suc i = omega arith in
      let rest : find nat_cmp (k + suc i) (pages_from (k + 1) xs) ≡ found_at xs i (k + suc i) =
      subst (λ q. find nat_cmp q (pages_from (k + 1) xs) ≡ found_at xs i q) on (used_found i (k + 1) xs) in
      let off : eq_by_cmp nat_cmp (k + suc i) k ≡ false = unsigned_tied (k + suc i) k ∙ ne_eqb (k + suc i) k (λ e. omega (arith, e)) in
      some_or_none x.block (λ b. find nat_cmp (k + suc i) (map as_page (cond (not b) ((k, x) ∷ used_from (k + 1) xs) (used_from (k + 1) xs))) ≡ found_at xs i (k + suc i))
      (λ e. rest)
      (λ some e. ap (λ b. cond b (Some (as_page (k, x)).1) (find nat_cmp (k + suc i) (pages_from (k + 1) xs))) off ∙ rest)

  -- a page of a map
  pub page_found : (xs : List ConverterEntry) (q : ℕ) → get (from_sorted {R = nat_cmp} (pages_from 0 xs)) q ≡ found_at xs q q
  page_found xs q =
      get-from_sorted nat_cmp (pages_from 0 xs) q (subst T (sym (used_sorted 0 xs)) tt)
      ∙ subst (λ n. find nat_cmp n (pages_from 0 xs) ≡ found_at xs q n) (omega arith) (used_found q 0 xs)

  pub pages_counted : (xs : List ConverterEntry) → len (from_sorted {R = nat_cmp} (pages_from 0 xs)) ≡ length (pages_from 0 xs)
  pages_counted xs = len-entries (from_sorted {R = nat_cmp} (pages_from 0 xs)) ∙ ap length (entries-from_sorted nat_cmp (pages_from 0 xs) (subst T (sym (used_sorted 0 xs)) tt))

module _ (s : Store) (seen : Image) (m : List ConverterEntry) (sound : IsSoundMaps s.maps)
    (same : (q : ℕ) → s.maps.conv ≤ q → entry_at m q ≡ entry_at s.maps.present q) where
  abbrev entries_of : List ConverterEntry
  entries_of = drop s.maps.conv m

  entry_is : (q : ℕ) → entry_at entries_of q ≡ entry_at s.maps.present (s.maps.conv + q)
  entry_is q = get_or-drop s.maps.conv m q no_entry ∙ same (s.maps.conv + q) (omega arith)

  -- a page that has a block, with what stands on it
  shown_if : (o : Bool) (b : ℕ) (bytes : List ℕ) → (b == 0) ≡ o → (cond (b == 0) None (Some bytes)) ≡ (if nat_lt 0 b then Some bytes else None)
  shown_if true b bytes is =
      let none : b ≡ 0 = eqb_zero b is in
      subst (λ n. (cond (n == 0) None (Some bytes)) ≡ (if nat_lt 0 n then Some bytes else None)) (sym none) refl
    where
      eqb_zero : (n : ℕ) → (n == 0) ≡ true → n ≡ 0
      eqb_zero n is = elim (cases_lt 0 n) [ inl lt ↦ absurd (let no = ne_eqb n 0 (λ z. omega (arith, lt, z)) in let t : true ≡ false = sym is ∙ no in cc) | inr le ↦ omega (arith, le) ]
  shown_if false b bytes is =
      let some : nat_lt 0 b ≡ true = lt-ltb 0 b (above b is) in
      ap (λ t. cond t None (Some bytes)) is ∙ sym (ap (λ t. if t then Some bytes else None) some)
    where
      above : (n : ℕ) → (n == 0) ≡ false → 0 < n
      above n is = elim (cases_lt 0 n) [ inl lt ↦ lt | inr le ↦ absurd (let yes = eq-eqb n 0 (omega (arith, le)) in let t : true ≡ false = sym yes ∙ is in cc) ]

  map_found : (o : Option Page) (b : Bool) (page : Page) → o ≡ cond b None (Some page) → option_map (λ page. page.bytes) o ≡ cond b None (Some page.bytes)
  map_found o true page is = ap (option_map (λ page. page.bytes)) is
  map_found o false page is = ap (option_map (λ page. page.bytes)) is

  pub pages_shown : bytes_of_pages (shown_map s.maps.conv m (present_page s seen)).pages ≡ store_pages s seen
  pages_shown = same_map nat_cmp_total nat_cmp-IsAntisymmetric _ _ (λ q.
      get_bytes (shown_map s.maps.conv m (present_page s seen)).pages q
      ∙ map_found _ (block_of entries_of q == 0) _ (page_found (present_page s seen) entries_of q)
      ∙ ap (λ (e : ConverterEntry). cond (e.block == 0) None (Some (present_page s seen q))) (entry_is q)
      ∙ shown_if (page_block s q == 0) (page_block s q) (present_page s seen q) refl
      ∙ sym (get_page s seen q sound))

  pub places_counted : length (placed entries_of) ≡ len (store_pages s seen)
  places_counted = sym (length_map (placed entries_of)) ∙ sym (pages_counted (present_page s seen) entries_of)
      ∙ sym (same_count (shown_map s.maps.conv m (present_page s seen)).pages) ∙ ap len pages_shown
    where
      length_map : (xs : List Placed) → length (map (as_page (present_page s seen)) xs) ≡ length xs
      length_map [] = refl
      length_map (x ∷ xs) = ap suc (length_map xs)
