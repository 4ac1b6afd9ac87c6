-- What is found in a leaf.
--     found_at      where a search in a page of entries ends, said of the rows of the leaf
--     found_value      the value of a row that is found
--     ends_at      the last key of a leaf
use Rattle.std.proofs.Common.{◌≡◌, sym, ap, subst, ◌∙◌, ℕ, zero, suc, ◌-◌, ◌<◌, ◌≤◌, Bool, true, false, not, T, List, [], ◌∷◌, map, length, get_or, Option, Some, None, Result, Ok, Err, arith, inr}
use Rattle.std.specs.Prelude.{MatchResult, slice_get}
use Rattle.std.proofs.lemmas.Option.{slice_get-get_or}
use Rattle.std.proofs.lemmas.List.{length-map, get_or-map}
use Rattle.std.specs.List.{list_all}
use Rattle.std.specs.declared.cmp.Ordering.TheVariants.{Less, Equal, Greater}
use Rattle.std.specs.Ordering.{is_lt}
use Rattle.std.specs.Cmp.{tied_itself}
use Rattle.std.specs.Cmp.Lexicographic.{nat_list_cmp_total}
use Rattle.std.specs.FinMap.{find, is_sorted, slice_cmp-IsAntisymmetric, nat_cmp-IsAntisymmetric}
use Rattle.mdb_bytes.specs.Held.{IsFoundRow}
use Rattle.mdb_bytes.specs.TablePages.{Row, RowLeaf, row_fits, longest_value}
use Rattle.row_page.specs.Entries.{PageEntry, entries_of, page_entry_at, key_at, empty_entry, HasKey, IsPlaceFor, page_head_of, is_leaf, by_bytes}
use Rattle.sorted_places.specs.Search.{IsAt, IsGap}
use Rattle.sorted_places.proofs.Sorted.{sorted-index, find-at, find-gap}
use Rattle.mdb_bytes.proofs.Decoding.{and_left, and_right}
use Rattle.leaf_runs.specs.Leaves.{key_of_row, all_below}
use Rattle.leaf_runs.specs.Sights.{BelongsHere}
use Rattle.leaf_runs.proofs.RowLists.{last_decides}
use Rattle.leaf_runs.proofs.LeafLaw.{entry_of, IsLeafPage, rows_id, row_ok, row_limits}

abbrev pub no_row : Row
no_row = ([], [])

pub entry_there : (rows : List Row) (i : ℕ) (d : Row) → i < length rows → get_or (map entry_of rows) i empty_entry ≡ entry_of (get_or rows i d)
entry_there rows i d lt = get_or-map entry_of rows i d empty_entry lt

pub as_pairs : (rows : List Row) → T (is_sorted by_bytes rows) → T (is_sorted by_bytes (map (λ (r : Row). let same : Row = (r.0, r.1) in same) rows))
as_pairs rows up = subst (λ (rs : List Row). T (is_sorted by_bytes rs)) (sym (rows_id rows)) up

module _ (bytes : List ℕ) (leaf : RowLeaf) (p : IsLeafPage bytes leaf) where
  pub count_is : length (entries_of bytes) ≡ length leaf.rows
  count_is = ap length p.entries ∙ length-map leaf.rows entry_of

  pub entry_is : (i : ℕ) (d : Row) → i < length leaf.rows → page_entry_at (entries_of bytes) i ≡ entry_of (get_or leaf.rows i d)
  entry_is i d lt = ap (λ (es : List PageEntry). page_entry_at es i) p.entries ∙ entry_there leaf.rows i d lt

  pub leaf_is : is_leaf (page_head_of bytes) ≡ true
  leaf_is = ap is_leaf p.head

  pub found_at : (key : List ℕ) (r : Result ℕ ℕ) → MatchResult r (HasKey (entries_of bytes) key) (IsPlaceFor (entries_of bytes) key) → MatchResult r (IsAt by_bytes key_of_row leaf.rows key) (IsGap by_bytes key_of_row leaf.rows key)
  found_at key (Ok at) h =
      let count = count_is in
      let within = h.within in
      let inside : at < length leaf.rows = omega arith in
      let same : (d : Row) → (get_or leaf.rows at d).0 ≡ key = λ d. ap (λ (e : PageEntry). e.key) (sym (entry_is at d inside)) ∙ h.same in record {
        in_range = inside;
        lower_before = λ j d lt. (subst (λ (k : List ℕ). by_bytes (get_or leaf.rows j d).0 k ≡ Less) (same d)
            (sorted-index by_bytes key_of_row (λ (r : Row). r.1) nat_list_cmp_total leaf.rows (as_pairs leaf.rows p.keeps.up) j at d lt inside));
        same_here = λ d. subst (λ (k : List ℕ). by_bytes (get_or leaf.rows at d).0 k ≡ Equal) (same d) (tied_itself nat_list_cmp_total (get_or leaf.rows at d).0);
      }
  found_at key (Err at) h =
      let count = count_is in
      let within = h.within in record {
        in_range = omega arith;
        lower_before = λ j d lt. (let inside : j < length leaf.rows = omega arith in
            subst (λ (e : PageEntry). by_bytes e.key key ≡ Less) (entry_is j d inside) (h.before j lt));
        greater_after = λ j d from inside. (let within_es : j < length (entries_of bytes) = omega arith in
            subst (λ (e : PageEntry). by_bytes e.key key ≡ Greater) (entry_is j d inside) (h.after j from within_es));
      }

  pub found_value : (key : List ℕ) (at : ℕ) → IsAt by_bytes key_of_row leaf.rows key at
      → (find by_bytes key leaf.rows ≡ Some (page_entry_at (entries_of bytes) at).rest) × (length (page_entry_at (entries_of bytes) at).rest ≤ 1500)
  found_value key at is =
      let e = entry_is at no_row is.in_range in
      let short = short_at leaf.rows at p.keeps.rows is.in_range in (
        ap (find by_bytes key) (sym (rows_id leaf.rows)) ∙ find-at by_bytes key_of_row (λ (r : Row). r.1) nat_list_cmp_total leaf.rows key at no_row is ∙ ap (λ (x : PageEntry). Some x.rest) (sym e),
        subst (λ (x : PageEntry). length x.rest ≤ 1500) (sym e) short,
      )
    where
      short_at : (rows : List Row) (i : ℕ) → list_all row_ok rows ≡ true → i < length rows → length (get_or rows i no_row).1 ≤ 1500
      short_at [] i all lt = absurd (omega arith)
      short_at (x ∷ rows) zero all lt = let limits = row_limits x (and_left (row_fits longest_value x) _ (and_left (row_ok x) _ all)) in limits.2
      short_at (x ∷ rows) (suc i) all lt = short_at rows i (and_right (row_ok x) _ all) (omega arith)

  -- the lengths of a row
  pub row_short : (at : ℕ) → at < length leaf.rows → (length (key_at (entries_of bytes) at) ≤ 256) × (length (page_entry_at (entries_of bytes) at).rest ≤ 1500)
  row_short at lt = let e = entry_is at no_row lt in let s = short_at leaf.rows at p.keeps.rows lt in (subst (λ (x : PageEntry). length x.key ≤ 256) (sym e) s.0, subst (λ (x : PageEntry). length x.rest ≤ 1500) (sym e) s.1) where
    short_at : (rows : List Row) (i : ℕ) → list_all row_ok rows ≡ true → i < length rows → (length (get_or rows i no_row).0 ≤ 256) × (length (get_or rows i no_row).1 ≤ 1500)
    short_at [] i all lt = absurd (omega arith)
    short_at (x ∷ rows) zero all lt = let limits = row_limits x (and_left (row_fits longest_value x) _ (and_left (row_ok x) _ all)) in (limits.1, limits.2)
    short_at (x ∷ rows) (suc i) all lt = short_at rows i (and_right (row_ok x) _ all) (omega arith)

  -- the length of a key that is found
  pub key_found : (key : List ℕ) (at : ℕ) → IsAt by_bytes key_of_row leaf.rows key at → length key ≤ 256
  key_found key at is =
      let short = (row_short at is.in_range).0 in
      let e = entry_is at no_row is.in_range in
      let same : (get_or leaf.rows at no_row).0 ≡ key = slice_cmp-IsAntisymmetric nat_cmp-IsAntisymmetric _ key (is.same_here no_row) in
      subst (λ (k : List ℕ). length k ≤ 256) (ap (λ (x : PageEntry). x.key) e ∙ same) short

  -- a row that was copied
  pub row_copied : (at : ℕ) (key value : List ℕ) → at < length leaf.rows → key ≡ key_at (entries_of bytes) at → value ≡ (page_entry_at (entries_of bytes) at).rest → slice_get leaf.rows at ≡ Some (key, value)
  row_copied at key value lt k v =
      let e = entry_is at no_row lt in
      let same_key : key ≡ (get_or leaf.rows at no_row).0 = k ∙ ap (λ (x : PageEntry). x.key) e in
      let same_value : value ≡ (get_or leaf.rows at no_row).1 = v ∙ ap (λ (x : PageEntry). x.rest) e in
      slice_get-get_or leaf.rows at no_row lt ∙ (λ i. Some (sym same_key i, sym same_value i))

  pub no_value : (key : List ℕ) (at : ℕ) → IsGap by_bytes key_of_row leaf.rows key at → find by_bytes key leaf.rows ≡ None
  no_value key at is = ap (find by_bytes key) (sym (rows_id leaf.rows)) ∙ find-gap by_bytes key_of_row (λ (r : Row). r.1) nat_list_cmp_total leaf.rows key at is

  -- the test of the last key
  pub ends_at : (key last : List ℕ) → 0 < length leaf.rows → last ≡ key_at (entries_of bytes) (length (entries_of bytes) - 1) → all_below key leaf.rows ≡ is_lt (by_bytes last key)
  ends_at key last lt is =
      let count = count_is in
      let inside : length leaf.rows - 1 < length leaf.rows = omega arith in
      let place : length (entries_of bytes) - 1 ≡ length leaf.rows - 1 = omega arith in
      let same : last ≡ (get_or leaf.rows (length leaf.rows - 1) no_row).0 =
      is ∙ ap (λ (n : ℕ). key_at (entries_of bytes) n) place ∙ ap (λ (e : PageEntry). e.key) (entry_is (length leaf.rows - 1) no_row inside) in
      last_decides key leaf.rows no_row p.keeps.up lt ∙ ap (λ (k : List ℕ). is_lt (by_bytes k key)) (sym same)

  pub next_is : (next : ℕ) → next ≡ (page_head_of bytes).next → next ≡ leaf.next
  next_is next is = is ∙ ap (λ h. h.next) p.head

pub row_by : (r : Bool) (row : Option (List ℕ)) (v items : List ℕ) → r ≡ true → row ≡ Some v → items ≡ v → IsFoundRow r row items
row_by true row v items t is same = is ∙ ap (λ (x : List ℕ). Some x) (sym same)
row_by false row v items t is same = absurd cc

-- a leaf that does not end below a key
pub here_by : (leaf : RowLeaf) (key : List ℕ) (b : Bool) → (leaf.next ≡ 0 → ⊥) → b ≡ all_below key leaf.rows → BelongsHere (not b) leaf key
here_by leaf key true more is = (more, sym is)
here_by leaf key false more is = inr (sym is)
