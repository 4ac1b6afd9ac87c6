-- How many pages a table area has.
--     any_contains, contains_any      whether a number is one of some
--     distinct_append      numbers that differ, after others
--     live_are      the numbers of the pages that live
--     count_is, count_within      how many they are
use Rattle.std.proofs.Common.{◌≡◌, ◌⊎◌, inl, inr, refl, sym, ap, subst, ◌∙◌, ℕ, zero, suc, ◌+◌, ◌-◌, ◌<◌, ◌≤◌, Bool, true, false, ◌||◌, T, List, [], ◌∷◌, ◌++◌, map, length, get_or, Some, is_some, arith, eqb, eqb-true, eq-eqb, length-append}
use Rattle.std.specs.Prelude.{slice_get, Contains, sum_by}
use Rattle.std.specs.List.{flat_map, range_with_len, list_any, IsDistinct, AllByRecursion}
use Rattle.std.proofs.lemmas.List.{length-map}
use Rattle.std.proofs.lemmas.List.Elements.{Contains-append_right}
use Rattle.std.proofs.lemmas.List.Sums.{sum_by-cons}
use Rattle.std.proofs.lemmas.Map.Keys.{IsDistinct-head, IsDistinct-tail, IsDistinct-cons}
use Rattle.std.proofs.lemmas.Map.Made.{length-from_same_keys}
use Rattle.std.proofs.lemmas.Option.{slice_get_within}
use Rattle.std.specs.declared.cmp.Ordering.{Ordering}
use Rattle.std.specs.declared.cmp.Ordering.TheVariants.{Less, Equal, Greater}
use Rattle.std.specs.Ordering.{nat_cmp, eq_by_cmp, is_eq, is_lt}
use Rattle.std.specs.Cmp.{unsigned_tied, nat_eq_equiv}
use Rattle.std.specs.FinMap.{get, is_sorted, entries, entries_sorted, keys, len, len-entries, contains_key-keys}
use Rattle.std.specs.FinMap.Entries.{below_all}
use Rattle.mdb_model.specs.Pages.{PageMap}
use Rattle.mdb_model.specs.Space.{table_pages, table_cost, tree_pages, every_table}
use Rattle.mdb_bytes.specs.declared.logical_pages.CatalogueEntry.{CatalogueEntry}
use Rattle.mdb_bytes.specs.declared.logical_pages.Catalogue.{Catalogue}
use Rattle.mdb_bytes.specs.TablePages.{RowLeaf}
use Rattle.mdb_bytes.specs.Paged.{PageBytes}
use Rattle.leaf_runs.specs.Runs.{Leaf, leaf_at, catalogue_at, HasEntry, rows_in_pages}
use Rattle.leaf_runs.specs.TableAreas.{IsTableArea}
use Rattle.leaf_runs.proofs.RowLists.{t_left, t_right}
use Rattle.leaf_runs.proofs.Chains.{chain_apart}
use Rattle.leaf_runs.proofs.Places.{some_same, got_at}
use Rattle.leaf_runs.proofs.PageBound.{page_bound}
use Rattle.leaf_runs.proofs.Gets.{chains_of, table_run, some_catalogue, no_entry}
use Rattle.leaf_runs.proofs.Changes.{no_leaf_0}
use Rattle.leaf_runs.proofs.TableAreas.{no_leaf_1}
use Rattle.run_forms.specs.Stampless.{bytes_of_pages}
use Rattle.run_forms.proofs.Stampless.{stampless, entries_bytes}
use Rattle.run_forms.proofs.Formed.{on_table, all_numbers, of_some_table, leaf_on_table, leaf_named, leaf_lives, zero_lives, one_lives}

-- Numbers

module _ (q : ℕ) where
  -- a number that equals one of some is contained, and the other way round
  pub any_contains : (xs : List ℕ) → list_any (eqb q) xs ≡ true → Contains xs q
  any_contains [] is = absurd cc
  any_contains (x ∷ xs) is = by_test (any_contains xs) (eqb q x) refl is where
    by_test : (list_any (eqb q) xs ≡ true → Contains xs q) → (b : Bool) → eqb q x ≡ b → (b || list_any (eqb q) xs) ≡ true → Contains (x ∷ xs) q
    by_test more true e is = subst (λ (k : ℕ). Contains (k ∷ xs) q) (eqb-true q x e) (0, omega arith, refl)
    by_test more false e is = Contains-append_right (x ∷ []) xs q (more is)

  pub contains_any : (xs : List ℕ) → Contains xs q → list_any (eqb q) xs ≡ true
  contains_any [] c = let lt = c.1 in absurd (omega (arith, lt))
  contains_any (x ∷ xs) c = by_index c.0 c.1 c.2 (contains_any xs) (eqb q x) refl where
    by_index : (i : ℕ) → i < length (x ∷ xs) → get_or (x ∷ xs) i q ≡ q → (Contains xs q → list_any (eqb q) xs ≡ true) → (b : Bool) → eqb q x ≡ b → (b || list_any (eqb q) xs) ≡ true
    by_index i lt is more true e = refl
    by_index zero lt is more false e = let yes : eqb q x ≡ true = eq-eqb q x (sym is) in let wrong : false ≡ true = sym e ∙ yes in absurd cc
    by_index (suc i) lt is more false e = more (i, omega (arith, lt), is)

-- a number that is not contained differs from each
not_among : (x : ℕ) (ys : List ℕ) → (Contains ys x → ⊥) → AllByRecursion (λ y. eqb x y ≡ false) ys
not_among x [] out = tt
not_among x (y ∷ ys) out = (by_test (eqb x y) refl, not_among x ys (λ c. out (Contains-append_right (y ∷ []) ys x c))) where
  by_test : (b : Bool) → eqb x y ≡ b → b ≡ false
  by_test false e = refl
  by_test true e = absurd (out (subst (λ (k : ℕ). Contains (k ∷ ys) x) (eqb-true x y e) (0, omega arith, refl)))

-- what holds of two lists holds of both together
all_append : (P : ℕ → Type 0) (xs ys : List ℕ) → AllByRecursion P xs → AllByRecursion P ys → AllByRecursion P (xs ++ ys)
all_append P [] ys p q = q
all_append P (x ∷ xs) ys p q = (p.0, all_append P xs ys p.1 q)

-- no numbers differ
no_numbers : IsDistinct eqb []
unfolding IsDistinct
no_numbers = tt

-- numbers that differ, after others that have none of them
distinct_append : (xs ys : List ℕ) → IsDistinct eqb xs → IsDistinct eqb ys → ((q : ℕ) → Contains xs q → Contains ys q → ⊥) → IsDistinct eqb (xs ++ ys)
distinct_append [] ys p q apart = q
distinct_append (x ∷ xs) ys p q apart =
    IsDistinct-cons eqb x (xs ++ ys)
    (all_append (λ y. eqb x y ≡ false) xs ys (IsDistinct-head eqb x xs p) (not_among x ys (λ c. apart x (0, omega arith, refl) c)))
    (distinct_append xs ys (IsDistinct-tail eqb x xs p) q (λ k in_xs in_ys. apart k (Contains-append_right (x ∷ []) xs k in_xs) in_ys))

-- Live pages

-- keys are equal where numbers are
any_same : (q : ℕ) (xs : List ℕ) → list_any (eq_by_cmp nat_cmp q) xs ≡ list_any (eqb q) xs
any_same q [] = refl
any_same q (x ∷ xs) = λ i. unsigned_tied q x i || any_same q xs i

-- a key below others differs from each
less_apart : (k : ℕ) (es : List (ℕ × List ℕ)) → T (below_all nat_cmp k es) → AllByRecursion (λ y. eqb k y ≡ false) (map (λ e. e.0) es)
less_apart k [] p = tt
less_apart k (e ∷ es) p = (sym (unsigned_tied k e.0) ∙ by_order (nat_cmp k e.0) (t_left _ _ p), less_apart k es (t_right _ _ p)) where
  by_order : (o : Ordering) → T (is_lt o) → is_eq o ≡ false
  by_order Less p = refl
  by_order Equal p = absurd p
  by_order Greater p = absurd p

-- keys in order differ
keys_apart : (es : List (ℕ × List ℕ)) → T (is_sorted nat_cmp es) → IsDistinct eqb (map (λ e. e.0) es)
keys_apart [] up = no_numbers
keys_apart (e ∷ es) up = IsDistinct-cons eqb e.0 (map (λ e. e.0) es) (less_apart e.0 es (t_left _ _ up)) (keys_apart es (t_right _ _ up))

-- two truth values that follow from one another are the same
both_ways : (a b : Bool) → (a ≡ true → b ≡ true) → (b ≡ true → a ≡ true) → a ≡ b
both_ways true b f g = sym (f refl)
both_ways false true f g = g refl
both_ways false false f g = refl

-- two numbers before others
two_more : (a b : ℕ) (xs : List ℕ) → length (a ∷ b ∷ xs) ≡ 2 + length xs
two_more a b xs = omega arith

-- a sum stays within a larger one
within_two : (a b c : ℕ) → a ≡ 2 + b → b ≤ c → a ≤ 2 + c
within_two a b c is le = omega arith

module _ (pages : PageBytes) (area : IsTableArea pages) where
  -- the first two pages and those of the tables
  abbrev all_live : List ℕ
  all_live = 0 ∷ 1 ∷ all_numbers pages area

  -- the keys of the map are the pages that live
  live_is : (q : ℕ) → list_any (eqb q) (keys pages) ≡ is_some (get pages q)
  live_is q = sym (any_same q (keys pages)) ∙ sym (contains_key-keys pages q)

  -- a page that lives is one of these, and the other way round
  named_live : (q : ℕ) → is_some (get pages q) ≡ true → list_any (eqb q) all_live ≡ true
  named_live q there = contains_any q all_live (by_case (area.named q there)) where
    by_case : (q ≡ 0) ⊎ (q ≡ 1) ⊎ ((leaf : RowLeaf) × (leaf_at pages q ≡ Some leaf)) → Contains all_live q
    by_case (inl z) = (0, omega arith, sym z)
    by_case (inr (inl o)) = (1, omega arith, sym o)
    by_case (inr (inr (leaf, is))) = Contains-append_right (0 ∷ 1 ∷ []) (all_numbers pages area) q (leaf_named pages area q leaf is)

  live_named : (q : ℕ) → list_any (eqb q) all_live ≡ true → is_some (get pages q) ≡ true
  live_named q is = by_zero (eqb q 0) refl (eqb q 1) refl is where
    by_zero : (a : Bool) → eqb q 0 ≡ a → (b : Bool) → eqb q 1 ≡ b → (a || (b || list_any (eqb q) (all_numbers pages area))) ≡ true → is_some (get pages q) ≡ true
    by_zero true e b f is = ap (λ (k : ℕ). is_some (get pages k)) (eqb-true q 0 e) ∙ zero_lives pages area
    by_zero false e true f is = ap (λ (k : ℕ). is_some (get pages k)) (eqb-true q 1 f) ∙ one_lives pages area
    by_zero false e false f is = leaf_lives pages area q (any_contains q (all_numbers pages area) is)

  -- no page is one of two tables
  tables_apart : (a n : ℕ) → 1 ≤ a → a + n ≤ 501 → IsDistinct eqb (flat_map (λ numbers. numbers) (map (on_table pages area) (range_with_len a n)))
  tables_apart a zero low high = no_numbers
  tables_apart a (suc n) low high =
      distinct_append (on_table pages area a) (flat_map (λ numbers. numbers) (map (on_table pages area) (range_with_len (a + 1) n)))
      (chain_apart pages a (area.runs.runs a) ((chains_of pages area.runs).linked a low (omega (arith, high))).0)
      (tables_apart (a + 1) n (omega arith) (omega (arith, high)))
      (λ q here later. (let t = of_some_table (on_table pages area) q (a + 1) n later in
      let above = t.1 in let below = t.2 in
      let one = leaf_on_table pages area a q low (omega (arith, high)) here in
      let two = leaf_on_table pages area t.0 q (omega (arith, above)) (omega (arith, below, high)) t.3 in
      let same : one.0 ≡ two.0 = some_same (leaf_at pages q) one.0 two.0 one.1 two.1 in
      let tables : a ≡ t.0 = sym one.2 ∙ ap (λ (l : RowLeaf). l.table) same ∙ two.2 in
      omega (arith, above, tables)))

  -- neither of the first two pages is one of a table
  no_table_at : (q : ℕ) → ((leaf : RowLeaf) → leaf_at pages q ≡ Some leaf → ⊥) → Contains (all_numbers pages area) q → ⊥
  no_table_at q none c =
      let t = of_some_table (on_table pages area) q 1 500 c in
      let below = t.2 in
      let leaf = leaf_on_table pages area t.0 q t.1 (omega (arith, below)) t.3 in
      none leaf.0 leaf.1

  -- none of these pages comes twice
  live_apart : IsDistinct eqb all_live
  live_apart =
      let one_out = not_among 1 (all_numbers pages area) (no_table_at 1 (λ leaf is. no_leaf_1 pages area.sessions leaf area.page_1 is)) in
      let zero_out = not_among 0 (all_numbers pages area) (no_table_at 0 (λ leaf is. no_leaf_0 pages area.runs.catalogue leaf area.runs.page_0 is)) in
      IsDistinct-cons eqb 0 (1 ∷ all_numbers pages area) (refl, zero_out) (IsDistinct-cons eqb 1 (all_numbers pages area) one_out (tables_apart 1 500 (omega arith) (omega arith)))

  -- two pages and those of the tables
  live_are : len pages ≡ 2 + length (all_numbers pages area)
  live_are =
      len-entries pages ∙ sym (length-map (entries pages) (λ (e : ℕ × List ℕ). e.0))
      ∙ length-from_same_keys nat_eq_equiv (keys pages) all_live (keys_apart (entries pages) (entries_sorted pages)) live_apart (λ q. live_is q ∙ both_ways (is_some (get pages q)) (list_any (eqb q) all_live) (named_live q) (live_named q))
      ∙ two_more 0 1 (all_numbers pages area)

  -- the pages of the tables are as many as the entries of the catalogue say
  sum_of : (es : List CatalogueEntry) (a : ℕ) → ((i : ℕ) (e : CatalogueEntry) → slice_get es i ≡ Some e → e.pages ≡ length (on_table pages area (a + i)))
      → length (flat_map (λ numbers. numbers) (map (on_table pages area) (range_with_len a (length es)))) ≡ sum_by (λ entry. entry.pages) es
  sum_of [] a each = refl
  sum_of (e ∷ es) a each =
      let zero_is : a + 0 ≡ a = omega arith in
      let here : e.pages ≡ length (on_table pages area a) = each 0 e refl ∙ ap (λ (t : ℕ). length (on_table pages area t)) zero_is in
      let rest = sum_of es (a + 1) (λ i f is. each (suc i) f is ∙ ap (λ (t : ℕ). length (on_table pages area t)) (next i)) in
      let both = length-append (on_table pages area a) (flat_map (λ numbers. numbers) (map (on_table pages area) (range_with_len (a + 1) (length es)))) in
      both ∙ (λ i. sym here i + rest i) ∙ sym (sum_by-cons (λ (entry : CatalogueEntry). entry.pages) e es)
    where
      next : (i : ℕ) → a + suc i ≡ a + 1 + i
      next i = omega arith

  -- the pages that live are two more
  pub count_is : (catalogue : Catalogue) → catalogue_at pages ≡ Some catalogue → len pages ≡ 2 + sum_by (λ entry. entry.pages) catalogue.entries
  count_is catalogue is =
      let same : area.runs.catalogue ≡ catalogue = some_same (catalogue_at pages) area.runs.catalogue catalogue area.runs.page_0 is in
      let entries_len = some_catalogue pages area.runs.catalogue area.runs.page_0 in
      let sum = sum_of area.runs.catalogue.entries 1 each in
      live_are ∙ ap (λ (n : ℕ). 2 + n)
      (ap (λ (n : ℕ). length (flat_map (λ numbers. numbers) (map (on_table pages area) (range_with_len 1 n)))) (sym entries_len) ∙ sum ∙ ap (λ (c : Catalogue). sum_by (λ entry. entry.pages) c.entries) same)
    where
      each : (i : ℕ) (e : CatalogueEntry) → slice_get area.runs.catalogue.entries i ≡ Some e → e.pages ≡ length (on_table pages area (1 + i))
      each i e is_e =
          let entries_len = some_catalogue pages area.runs.catalogue area.runs.page_0 in
          let within = slice_get_within area.runs.catalogue.entries i e is_e in
          let before : 1 + i - 1 ≡ i = omega arith in
          let run = area.runs.tables (1 + i) e (omega arith) (omega (arith, within, entries_len)) (ap (slice_get area.runs.catalogue.entries) before ∙ is_e) in
          run.count ∙ sym (length-map (area.runs.runs (1 + i)) (λ (leaf : Leaf). leaf.page))

  -- no more than the space rule counts
  abbrev rule : ℕ → ℕ
  rule table = table_pages (table_cost (rows_in_pages pages) (rows_in_pages pages) table)

  -- the pages of a table are no more than the space rule counts
  table_within : (table : ℕ) → 1 ≤ table → table ≤ 500 → length (on_table pages area table) ≤ rule table
  table_within table low high =
      let entries_len = some_catalogue pages area.runs.catalogue area.runs.page_0 in
      let entry = get_or area.runs.catalogue.entries (table - 1) no_entry in
      let run = area.runs.tables table entry low high (got_at area.runs.catalogue.entries (table - 1) no_entry (omega (arith, low, high, entries_len))) in
      subst (λ (n : ℕ). n ≤ rule table) (run.count ∙ sym (length-map (area.runs.runs table) (λ (leaf : Leaf). leaf.page))) (page_bound pages area.runs table entry low high run)

  -- nor are those of all tables
  all_within : (a n : ℕ) → 1 ≤ a → a + n ≤ 501 → length (flat_map (λ numbers. numbers) (map (on_table pages area) (range_with_len a n))) ≤ sum_by rule (range_with_len a n)
  all_within a zero low high = omega arith
  all_within a (suc n) low high =
      let here = table_within a low (omega (arith, high)) in
      let rest = all_within (a + 1) n (omega arith) (omega (arith, high)) in
      let both = length-append (on_table pages area a) (flat_map (λ numbers. numbers) (map (on_table pages area) (range_with_len (a + 1) n))) in
      let sum = sum_by-cons rule a (range_with_len (a + 1) n) in
      omega (arith, here, rest, both, sum)

  -- nor are all pages
  pub count_within : len pages ≤ 2 + tree_pages (rows_in_pages pages) (rows_in_pages pages)
  unfolding every_table
  count_within = within_two (len pages) (length (all_numbers pages area)) (tree_pages (rows_in_pages pages) (rows_in_pages pages)) live_are (all_within 1 500 (omega arith) (omega arith))

  -- nor is what the catalogue says of a table
  pub entry_within : (table : ℕ) (entry : CatalogueEntry) → 1 ≤ table → table ≤ 500 → HasEntry pages table entry → entry.pages ≤ rule table
  entry_within table entry low high has = page_bound pages area.runs table entry low high (table_run pages table entry area.runs low high has)

-- there are as many pages without stamps
pub same_count : (pages : PageMap) → len (bytes_of_pages pages) ≡ len pages
same_count pages = len-entries (bytes_of_pages pages) ∙ ap length (entries_bytes pages) ∙ length-map (entries pages) stampless ∙ sym (len-entries pages)
