-- What edits make of a leaf.
--     edited      a page that has become one of other rows spells the leaf with them
--     taken_at, taken_gap      a row taken out
--     inserted, no_room      a row put in
use Rattle.std.proofs.Common.{◌≡◌, refl, sym, ap, subst, ◌∙◌, ℕ, zero, suc, ◌+◌, ◌-◌, ◌<◌, ◌≤◌, ◌^◌, ◌↔◌, Bool, true, false, ◌&&◌, not, cond, T, List, [], ◌∷◌, ◌++◌, map, length, take, drop, get_or, Some, None, is_some, Ok, Err, arith, inl, inr}
use Rattle.std.specs.Prelude.{IsTrue, nat_le, ◌⊎◌}
use Rattle.std.proofs.lemmas.Bool.{leb-true}
use Rattle.std.specs.List.{list_all, insert, remove}
use Rattle.std.proofs.lemmas.List.{take-append-drop, take-map, drop-map, map-append, append-nil, nil_from_length}
use Rattle.std.proofs.lemmas.List.Sums.{sum_by-insert}
use Rattle.std.specs.declared.cmp.Ordering.{Ordering}
use Rattle.std.specs.declared.cmp.Ordering.TheVariants.{Less, Equal, Greater}
use Rattle.std.specs.Ordering.{is_eq, is_lt, eq_by_cmp}
use Rattle.std.specs.Cmp.Lexicographic.{nat_list_cmp_total}
use Rattle.std.specs.FinMap.{find, put, is_sorted, slice_cmp-IsAntisymmetric, nat_cmp-IsAntisymmetric}
use Rattle.std.specs.FinMap.Entries.{below_all, by_order, is_sorted-put, is_sorted-where_key}
use Rattle.mdb_model.specs.Script.{is_table, is_key, is_value}
use Rattle.mdb_bytes.specs.declared.page_sections.PageHead.{PageHead}
use Rattle.mdb_bytes.specs.Fields.{Spells}
use Rattle.mdb_bytes.specs.EntryPages.{leaf_head}
use Rattle.mdb_bytes.specs.TablePages.{Row, RowLeaf, row_cost, rows_cost, row_leaf_format, longest_value}
use Rattle.mdb_bytes.specs.PageReadings.{row_leaf_of}
use Rattle.mdb_bytes.proofs.Decoding.{and_left, and_right, and_both}
use Rattle.mdb_bytes.proofs.NumberBytes.{AreBytes, bytes_pass}
use Rattle.row_page.specs.Page.{used}
use Rattle.row_page.specs.Entries.{PageEntry, Head, IsPage, Becomes, HasKey, IsPlaceFor, entries_of, page_head_of, is_leaf, cells, used_bytes, entries_cost, key_at, by_bytes}
use Rattle.row_page.proofs.Edits.{map-insert, map-remove}
use Rattle.row_page.proofs.Entries.{used_cells}
use Rattle.sorted_places.specs.Search.{IsAt, IsGap}
use Rattle.sorted_places.proofs.Sorted.{put-gap, where_key-at, where_key-gap, find-at}
use Rattle.leaf_runs.specs.Leaves.{key_of_row}
use Rattle.leaf_runs.specs.Edits.{with_rows, without, IsTaken, IsInserted, IsPut, IsLeafNamed}
use Rattle.leaf_runs.proofs.RowLists.{t_left, t_right, t_both, from_true, to_true, is_less, below_right, below_through, sorted_left, sorted_right, put-back}
use Rattle.leaf_runs.proofs.LeafLaw.{entry_of, head_for, IsLeafPage, leaf_page_of, page_leaf_of, rows_id, row_ok, rows_used, leaf_spells, spelled_leaf, leaf_head_is}
use Rattle.leaf_runs.proofs.Places.{some_same}
use Rattle.leaf_runs.proofs.LeafReads.{as_pairs, found_at, no_row, no_value, count_is, entry_is}

-- what the rows of a page cost
pub page_cost : (bytes : List ℕ) (leaf : RowLeaf) → IsLeafPage bytes leaf → used_bytes bytes ≡ rows_cost leaf.rows
page_cost bytes leaf p = (λ i. entries_cost (is_leaf (p.head i)) (p.entries i)) ∙ sym (used_cells true (map entry_of leaf.rows)) ∙ rows_used leaf.rows

pub cost_small : (bytes : List ℕ) → IsPage bytes → used_bytes bytes ≤ 8128
cost_small bytes p = subst (λ (n : ℕ). n ≤ 8128) (used_cells (is_leaf (page_head_of bytes)) (entries_of bytes)) p.entries.fits

module _ (old new : List ℕ) (leaf : RowLeaf) (p : IsLeafPage old leaf) where
  -- a page that has become one of other rows
  pub edited : (rows : List Row) → Becomes old new (map entry_of rows) → list_all row_ok rows ≡ true → T (is_sorted by_bytes rows) → row_leaf_of new ≡ Some (with_rows leaf leaf.next rows)
  edited rows b ok up =
      let head : page_head_of new ≡ head_for leaf = b.head ∙ p.head in
      let fits : used (cells true (map entry_of rows)) ≤ 8128 = subst (λ (n : ℕ). n ≤ 8128) (λ i. used (cells (is_leaf (head i)) (b.entries i))) b.page.entries.fits in
      page_leaf_of new (with_rows leaf leaf.next rows) (record {
        page = b.page;
        head = head;
        entries = b.entries;
        keeps = record {
          table = p.keeps.table;
          number = p.keeps.number;
          next = p.keeps.next;
          fits = subst (λ (n : ℕ). n ≤ 8128) (rows_used rows) fits;
          rows = ok;
          up = up;
        };
      })

-- Rows taken out

remove_ok : (rows : List Row) (i : ℕ) → list_all row_ok rows ≡ true → list_all row_ok (remove rows i) ≡ true
remove_ok [] zero ok = refl
remove_ok [] (suc i) ok = refl
remove_ok (x ∷ xs) zero ok = and_right (row_ok x) _ ok
remove_ok (x ∷ xs) (suc i) ok = and_both (row_ok x) (list_all row_ok (remove xs i)) (and_left (row_ok x) _ ok) (remove_ok xs i (and_right (row_ok x) _ ok))

without_up : (key : List ℕ) (rows : List Row) → T (is_sorted by_bytes rows) → T (is_sorted by_bytes (without key rows))
without_up key rows up = is_sorted-where_key by_bytes (λ q. not (eq_by_cmp by_bytes key q)) rows up

without_at : (rows : List Row) (key : List ℕ) (i : ℕ) → T (is_sorted by_bytes rows) → IsAt by_bytes key_of_row rows key i → without key rows ≡ remove rows i
without_at rows key i up is =
    ap (without key) (sym (rows_id rows)) ∙ where_key-at by_bytes key_of_row (λ (r : Row). r.1) nat_list_cmp_total rows (as_pairs rows up) key i is ∙ rows_id (remove rows i)

without_gap : (rows : List Row) (key : List ℕ) (i : ℕ) → IsGap by_bytes key_of_row rows key i → without key rows ≡ rows
without_gap rows key i is = ap (without key) (sym (rows_id rows)) ∙ where_key-gap by_bytes key_of_row (λ (r : Row). r.1) nat_list_cmp_total rows key i is ∙ rows_id rows

pub taken_at : (old new : List ℕ) (leaf : RowLeaf) (key : List ℕ) (at : ℕ) → row_leaf_of old ≡ Some leaf → HasKey (entries_of old) key at → Becomes old new (remove (entries_of old) at) → IsTaken true leaf key new
taken_at old new leaf key at there has b =
    let p = leaf_page_of old leaf there in
    let is : IsAt by_bytes key_of_row leaf.rows key at = found_at old leaf p key (Ok at) has in
    let same : without key leaf.rows ≡ remove leaf.rows at = without_at leaf.rows key at p.keeps.up is in
    let entries : remove (entries_of old) at ≡ map entry_of (remove leaf.rows at) = ap (λ (es : List PageEntry). remove es at) p.entries ∙ sym (map-remove entry_of leaf.rows at) in (
      sym (ap is_some (ap (find by_bytes key) (sym (rows_id leaf.rows)) ∙ find-at by_bytes key_of_row (λ (r : Row). r.1) nat_list_cmp_total leaf.rows key at no_row is)),
      edited old new leaf p (remove leaf.rows at) (subst (Becomes old new) entries b) (remove_ok leaf.rows at p.keeps.rows) (subst (λ (rs : List Row). T (is_sorted by_bytes rs)) same (without_up key leaf.rows p.keeps.up))
          ∙ ap (λ (rs : List Row). Some (with_rows leaf leaf.next rs)) (sym same),
    )

-- the same by what a removal answers
pub taken_by : (taken : Bool) (old new : List ℕ) (leaf : RowLeaf) (key : List ℕ) (at : ℕ) → row_leaf_of old ≡ Some leaf → HasKey (entries_of old) key at → taken ≡ true → Becomes old new (remove (entries_of old) at) → IsTaken taken leaf key new
taken_by true old new leaf key at there has is b = taken_at old new leaf key at there has b
taken_by false old new leaf key at there has is b = absurd cc

pub taken_gap : (old : List ℕ) (leaf : RowLeaf) (key : List ℕ) (at : ℕ) → row_leaf_of old ≡ Some leaf → IsPlaceFor (entries_of old) key at → IsTaken false leaf key old
taken_gap old leaf key at there has =
    let p = leaf_page_of old leaf there in
    let is : IsGap by_bytes key_of_row leaf.rows key at = found_at old leaf p key (Err at) has in
    (sym (ap is_some (no_value old leaf p key at is)), there ∙ ap (λ (rs : List Row). Some (with_rows leaf leaf.next rs)) (sym (without_gap leaf.rows key at is)))

-- Rows put in

insert_ok : (rows : List Row) (i : ℕ) (row : Row) → list_all row_ok rows ≡ true → row_ok row ≡ true → list_all row_ok (insert rows i row) ≡ true
insert_ok [] zero row ok one = and_both (row_ok row) true one refl
insert_ok [] (suc i) row ok one = and_both (row_ok row) true one refl
insert_ok (x ∷ xs) zero row ok one = and_both (row_ok row) (list_all row_ok (x ∷ xs)) one ok
insert_ok (x ∷ xs) (suc i) row ok one = and_both (row_ok x) (list_all row_ok (insert xs i row)) (and_left (row_ok x) _ ok) (insert_ok xs i row (and_right (row_ok x) _ ok) one)

put_gap : (rows : List Row) (key value : List ℕ) (i : ℕ) → IsGap by_bytes key_of_row rows key i → put by_bytes key value rows ≡ insert rows i (key, value)
put_gap rows key value i is =
    ap (put by_bytes key value) (sym (rows_id rows)) ∙ sym (put-gap by_bytes key_of_row (λ (r : Row). r.1) nat_list_cmp_total rows (key, value) i is) ∙ rows_id (insert rows i (key, value))

pub row_fine : (key value : List ℕ) → IsTrue (is_key key) → IsTrue (is_value value) → AreBytes key → AreBytes value → row_ok (key, value) ≡ true
row_fine key value k v kb vb = and_both _ _ (and_both (is_key key) (is_value value) k v) (and_both _ _ (bytes_pass key kb) (bytes_pass value vb))

pub inserted : (old new : List ℕ) (leaf : RowLeaf) (key value : List ℕ) (at : ℕ) → row_leaf_of old ≡ Some leaf → IsPlaceFor (entries_of old) key at → row_ok (key, value) ≡ true
    → Becomes old new (insert (entries_of old) at (record { key = key; rest = value })) → IsInserted true leaf key value old new
inserted old new leaf key value at there place ok b =
    let p = leaf_page_of old leaf there in
    let is : IsGap by_bytes key_of_row leaf.rows key at = found_at old leaf p key (Err at) place in
    let same = put_gap leaf.rows key value at is in
    let row : Row = (key, value) in
    let entries : insert (entries_of old) at (entry_of row) ≡ map entry_of (insert leaf.rows at row) = ap (λ (es : List PageEntry). insert es at (entry_of row)) p.entries ∙ sym (map-insert entry_of leaf.rows at row) in
    edited old new leaf p (insert leaf.rows at row) (subst (Becomes old new) entries b) (insert_ok leaf.rows at row p.keeps.rows ok)
    (subst (λ (rs : List Row). T (is_sorted by_bytes rs)) same (is_sorted-put by_bytes nat_list_cmp_total key value leaf.rows p.keeps.up))
    ∙ ap (λ (rs : List Row). Some (with_rows leaf leaf.next rs)) (sym same)

pub no_room : (old : List ℕ) (leaf : RowLeaf) (key value : List ℕ) (at : ℕ) → row_leaf_of old ≡ Some leaf → IsPlaceFor (entries_of old) key at → 8128 < used_bytes old + (8 + length key + length value)
    → 8128 < rows_cost (put by_bytes key value leaf.rows)
no_room old leaf key value at there place full =
    let p = leaf_page_of old leaf there in
    let is : IsGap by_bytes key_of_row leaf.rows key at = found_at old leaf p key (Err at) place in
    let same = ap rows_cost (put_gap leaf.rows key value at is) in
    let sum = sum_by-insert row_cost leaf.rows at (key, value) in
    let cost = page_cost old leaf p in
    omega arith

pub not_found : (old : List ℕ) (leaf : RowLeaf) (key : List ℕ) (at : ℕ) → row_leaf_of old ≡ Some leaf → HasKey (entries_of old) key at → find by_bytes key leaf.rows ≡ None → ⊥
not_found old leaf key at there has none =
    let p = leaf_page_of old leaf there in
    let is : IsAt by_bytes key_of_row leaf.rows key at = found_at old leaf p key (Ok at) has in
    let some = ap (find by_bytes key) (sym (rows_id leaf.rows)) ∙ find-at by_bytes key_of_row (λ (r : Row). r.1) nat_list_cmp_total leaf.rows key at no_row is in
    let wrong : Some (get_or leaf.rows at no_row).1 ≡ None = sym some ∙ none in
    absurd cc

-- Rows taken out and put in

pub without_none : (key : List ℕ) (rows : List Row) → find by_bytes key (without key rows) ≡ None
without_none key [] = refl
without_none key (x ∷ xs) = by_test (eq_by_cmp by_bytes key x.0) refl (without_none key xs) where
  by_test : (b : Bool) → eq_by_cmp by_bytes key x.0 ≡ b → find by_bytes key (without key xs) ≡ None → find by_bytes key (cond (not b) (x ∷ without key xs) (without key xs)) ≡ None
  by_test true e more = more
  by_test false e more = ap (λ b. cond b (Some x.1) (find by_bytes key (without key xs))) e ∙ more

pub put_without : (key value : List ℕ) (rows : List Row) → T (is_sorted by_bytes rows) → put by_bytes key value (without key rows) ≡ put by_bytes key value rows
put_without key value [] up = refl
put_without key value (x ∷ xs) up = by_case (by_bytes key x.0) refl (put_without key value xs (t_right _ _ up)) where
  rest : T (below_all by_bytes x.0 xs)
  rest = t_left _ _ up

  keep_all : (ys : List Row) → T (below_all by_bytes key ys) → without key ys ≡ ys
  keep_all [] p = refl
  keep_all (y ∷ ys) p =
      ap (λ r. cond (not (is_eq r)) (y ∷ without key ys) (without key ys)) (is_less (by_bytes key y.0) (t_left _ _ p)) ∙ ap (λ (zs : List Row). y ∷ zs) (keep_all ys (t_right _ _ p))

  tied : (ys : List Row) → by_bytes key x.0 ≡ Equal → T (below_all by_bytes x.0 ys) → T (below_all by_bytes key ys)
  tied ys e p = subst (λ (k : List ℕ). T (below_all by_bytes k ys)) (sym (slice_cmp-IsAntisymmetric nat_cmp-IsAntisymmetric key x.0 e)) p

  by_case : (o : Ordering) → by_bytes key x.0 ≡ o → put by_bytes key value (without key xs) ≡ put by_bytes key value xs
      → put by_bytes key value (without key (x ∷ xs)) ≡ put by_bytes key value (x ∷ xs)
  by_case Less e more =
      let kept : without key xs ≡ xs = keep_all xs (below_through key x.0 xs e rest) in
      ap (put by_bytes key value) (ap (λ r. cond (not (is_eq r)) (x ∷ without key xs) (without key xs)) e ∙ ap (λ (zs : List Row). x ∷ zs) kept)
  by_case Greater e more =
      ap (put by_bytes key value) (ap (λ r. cond (not (is_eq r)) (x ∷ without key xs) (without key xs)) e)
      ∙ ap (λ r. by_order r ((key, value) ∷ x ∷ without key xs) ((x.0, value) ∷ without key xs) (x ∷ put by_bytes key value (without key xs))) e
      ∙ ap (λ (zs : List Row). x ∷ zs) more
      ∙ sym (ap (λ r. by_order r ((key, value) ∷ x ∷ xs) ((x.0, value) ∷ xs) (x ∷ put by_bytes key value xs)) e)
  by_case Equal e more =
      let high : T (below_all by_bytes key xs) = tied xs e rest in
      let kept : without key xs ≡ xs = keep_all xs high in
      let same : key ≡ x.0 = slice_cmp-IsAntisymmetric nat_cmp-IsAntisymmetric key x.0 e in
      ap (put by_bytes key value) (ap (λ r. cond (not (is_eq r)) (x ∷ without key xs) (without key xs)) e ∙ kept)
      ∙ put-back key value [] xs high
      ∙ ap (λ (k : List ℕ). (k, value) ∷ xs) same
      ∙ sym (ap (λ r. by_order r ((key, value) ∷ x ∷ xs) ((x.0, value) ∷ xs) (x ∷ put by_bytes key value xs)) e)

pub key_short : (key : List ℕ) → IsTrue (is_key key) → length key ≤ 256
key_short key is = leb-true (length key) 256 (and_right (nat_le 1 (length key)) _ is)

pub value_short : (value : List ℕ) → IsTrue (is_value value) → length value ≤ 1500
value_short value is = leb-true (length value) 1500 is

pub inserted_by : (r : Bool) (old new : List ℕ) (leaf : RowLeaf) (key value : List ℕ) (at : ℕ) → row_leaf_of old ≡ Some leaf → IsPlaceFor (entries_of old) key at → row_ok (key, value) ≡ true
    → (r ≡ true → Becomes old new (insert (entries_of old) at (record { key = key; rest = value }))) → (r ≡ false → (new ≡ old) × (8128 < used_bytes old + (8 + length key + length value))) → IsInserted r leaf key value old new
inserted_by true old new leaf key value at there place ok done full = inserted old new leaf key value at there place ok (done refl)
inserted_by false old new leaf key value at there place ok done full = let f = full refl in (f.0, no_room old leaf key value at there place f.1)

pub put_by : (r : Bool) (middle new : List ℕ) (leaf : RowLeaf) (key value : List ℕ) → T (is_sorted by_bytes leaf.rows) → row_leaf_of middle ≡ Some (with_rows leaf leaf.next (without key leaf.rows))
    → IsInserted r (with_rows leaf leaf.next (without key leaf.rows)) key value middle new → IsPut r leaf key value new
put_by true middle new leaf key value up there is = is ∙ ap (λ (rs : List Row). Some (with_rows leaf leaf.next rs)) (put_without key value leaf.rows up)
put_by false middle new leaf key value up there is = (ap row_leaf_of is.0 ∙ there, is.1)

-- Leaves split and joined

take_ok : (rows : List Row) (i : ℕ) → list_all row_ok rows ≡ true → list_all row_ok (take i rows) ≡ true
take_ok [] zero ok = refl
take_ok [] (suc i) ok = refl
take_ok (x ∷ xs) zero ok = refl
take_ok (x ∷ xs) (suc i) ok = and_both (row_ok x) (list_all row_ok (take i xs)) (and_left (row_ok x) _ ok) (take_ok xs i (and_right (row_ok x) _ ok))

drop_ok : (rows : List Row) (i : ℕ) → list_all row_ok rows ≡ true → list_all row_ok (drop i rows) ≡ true
drop_ok [] zero ok = refl
drop_ok [] (suc i) ok = refl
drop_ok (x ∷ xs) zero ok = ok
drop_ok (x ∷ xs) (suc i) ok = drop_ok xs i (and_right (row_ok x) _ ok)

append_ok : (a b : List Row) → list_all row_ok a ≡ true → list_all row_ok b ≡ true → list_all row_ok (a ++ b) ≡ true
append_ok [] b p q = q
append_ok (x ∷ a) b p q = and_both (row_ok x) (list_all row_ok (a ++ b)) (and_left (row_ok x) _ p) (append_ok a b (and_right (row_ok x) _ p) q)

take_up : (rows : List Row) (i : ℕ) → T (is_sorted by_bytes rows) → T (is_sorted by_bytes (take i rows))
take_up rows i up = sorted_left (take i rows) (drop i rows) (subst (λ (rs : List Row). T (is_sorted by_bytes rs)) (sym (take-append-drop i rows)) up)

drop_up : (rows : List Row) (i : ℕ) → T (is_sorted by_bytes rows) → T (is_sorted by_bytes (drop i rows))
drop_up rows i up = sorted_right (take i rows) (drop i rows) (subst (λ (rs : List Row). T (is_sorted by_bytes rs)) (sym (take-append-drop i rows)) up)

-- a page of the head and entries of a leaf is that leaf
pub made : (new : List ℕ) (v : RowLeaf) → IsPage new → page_head_of new ≡ head_for v → entries_of new ≡ map entry_of v.rows → IsTrue (is_table v.table) → v.number < 2 ^ 32 → v.next < 2 ^ 32
    → list_all row_ok v.rows ≡ true → T (is_sorted by_bytes v.rows) → row_leaf_of new ≡ Some v
made new v page head entries table number next ok up =
    let fits : used (cells true (map entry_of v.rows)) ≤ 8128 = subst (λ (n : ℕ). n ≤ 8128) (λ i. used (cells (is_leaf (head i)) (entries i))) page.entries.fits in
    page_leaf_of new v (record {
      page = page;
      head = head;
      entries = entries;
      keeps = record { table = table; number = number; next = next; fits = subst (λ (n : ℕ). n ≤ 8128) (rows_used v.rows) fits; rows = ok; up = up };
    })

pub split_first : (old mid new : List ℕ) (leaf : RowLeaf) (at to : ℕ) → row_leaf_of old ≡ Some leaf → to < 2 ^ 32 → Becomes old mid (take at (entries_of old))
    → IsPage new → page_head_of new ≡ record (page_head_of mid) { next = to } → entries_of new ≡ entries_of mid → row_leaf_of new ≡ Some (with_rows leaf to (take at leaf.rows))
split_first old mid new leaf at to there small b page head entries =
    let p = leaf_page_of old leaf there in
    made new (with_rows leaf to (take at leaf.rows)) page (head ∙ ap (λ (h : Head). record h { next = to }) (b.head ∙ p.head))
    (entries ∙ b.entries ∙ ap (take at) p.entries ∙ take-map entry_of at leaf.rows) p.keeps.table p.keeps.number small (take_ok leaf.rows at p.keeps.rows) (take_up leaf.rows at p.keeps.up)

pub split_second : (old other mid new : List ℕ) (leaf blank : RowLeaf) (at : ℕ) → row_leaf_of old ≡ Some leaf → row_leaf_of other ≡ Some blank → Becomes other mid (drop at (entries_of old))
    → IsPage new → page_head_of new ≡ record (page_head_of mid) { next = leaf.next } → entries_of new ≡ entries_of mid → row_leaf_of new ≡ Some (with_rows blank leaf.next (drop at leaf.rows))
split_second old other mid new leaf blank at there there2 b page head entries =
    let p = leaf_page_of old leaf there in
    let q = leaf_page_of other blank there2 in
    made new (with_rows blank leaf.next (drop at leaf.rows)) page (head ∙ ap (λ (h : Head). record h { next = leaf.next }) (b.head ∙ q.head))
    (entries ∙ b.entries ∙ ap (drop at) p.entries ∙ drop-map entry_of at leaf.rows) q.keeps.table q.keeps.number p.keeps.next (drop_ok leaf.rows at p.keeps.rows) (drop_up leaf.rows at p.keeps.up)

pub joined_by : (old other mid new : List ℕ) (leaf second : RowLeaf) → row_leaf_of old ≡ Some leaf → row_leaf_of other ≡ Some second → T (is_sorted by_bytes (leaf.rows ++ second.rows))
    → Becomes old mid (entries_of old ++ entries_of other) → IsPage new → page_head_of new ≡ record (page_head_of mid) { next = second.next } → entries_of new ≡ entries_of mid
    → row_leaf_of new ≡ Some (with_rows leaf second.next (leaf.rows ++ second.rows))
joined_by old other mid new leaf second there there2 up b page head entries =
    let p = leaf_page_of old leaf there in
    let q = leaf_page_of other second there2 in
    made new (with_rows leaf second.next (leaf.rows ++ second.rows)) page (head ∙ ap (λ (h : Head). record h { next = second.next }) (b.head ∙ p.head))
    (entries ∙ b.entries ∙ (λ i. p.entries i ++ q.entries i) ∙ sym (map-append entry_of leaf.rows second.rows)) p.keeps.table p.keeps.number q.keeps.next (append_ok leaf.rows second.rows p.keeps.rows q.keeps.rows) up

-- keys of one leaf are below those of the next one
pub below_each : (old other : List ℕ) (leaf second : RowLeaf) → row_leaf_of old ≡ Some leaf → row_leaf_of other ≡ Some second → T (is_sorted by_bytes (leaf.rows ++ second.rows))
    → (i j : ℕ) → i < length (entries_of old) → j < length (entries_of other) → by_bytes (key_at (entries_of old) i) (key_at (entries_of other) j) ≡ Less
below_each old other leaf second there there2 up i j li lj =
    let p = leaf_page_of old leaf there in
    let q = leaf_page_of other second there2 in
    let n = count_is old leaf p in
    let m = count_is other second q in
    (λ k. by_bytes (entry_is old leaf p i no_row (omega arith) k).key (entry_is other second q j no_row (omega arith) k).key)
    ∙ across leaf.rows second.rows up i j (omega arith) (omega arith)
  where
    first_all : (k : List ℕ) (ys : List Row) (j : ℕ) → T (below_all by_bytes k ys) → j < length ys → by_bytes k (get_or ys j no_row).0 ≡ Less
    first_all k [] j p lt = absurd (omega arith)
    first_all k (y ∷ ys) zero p lt = is_less (by_bytes k y.0) (t_left _ _ p)
    first_all k (y ∷ ys) (suc j) p lt = first_all k ys j (t_right _ _ p) (omega arith)

    across : (xs ys : List Row) → T (is_sorted by_bytes (xs ++ ys)) → (i j : ℕ) → i < length xs → j < length ys → by_bytes (get_or xs i no_row).0 (get_or ys j no_row).0 ≡ Less
    across [] ys up i j li lj = absurd (omega arith)
    across (x ∷ xs) ys up zero j li lj = first_all x.0 ys j (below_right x.0 xs ys (t_left _ _ up)) lj
    across (x ∷ xs) ys up (suc i) j li lj = across xs ys (t_right _ _ up) i j (omega arith) lj

-- whether the keys of two leaves ascend
pub join_sorted : (xs ys : List Row) → T (is_sorted by_bytes xs) → T (is_sorted by_bytes ys) → 0 < length xs → 0 < length ys
    → is_sorted by_bytes (xs ++ ys) ≡ is_lt (by_bytes (get_or xs (length xs - 1) no_row).0 (get_or ys 0 no_row).0)
join_sorted [] ys up_x up_y sx sy = absurd (omega arith)
join_sorted (x ∷ xs) [] up_x up_y sx sy = absurd (omega arith)
join_sorted (x ∷ []) (y ∷ ys) up_x up_y sx sy = by_less (is_lt (by_bytes x.0 y.0)) refl where
  by_less : (b : Bool) → is_lt (by_bytes x.0 y.0) ≡ b → ((is_lt (by_bytes x.0 y.0) && below_all by_bytes x.0 ys) && is_sorted by_bytes (y ∷ ys)) ≡ is_lt (by_bytes x.0 y.0)
  by_less false e = ap (λ b. (b && below_all by_bytes x.0 ys) && is_sorted by_bytes (y ∷ ys)) e ∙ sym e
  by_less true e =
      let less : by_bytes x.0 y.0 ≡ Less = is_less (by_bytes x.0 y.0) (from_true _ e) in
      to_true _ (t_both _ _ (t_both _ _ (from_true _ e) (below_through x.0 y.0 ys less (t_left _ _ up_y))) up_y) ∙ sym e
join_sorted (x ∷ z ∷ xs) (y ∷ ys) up_x up_y sx sy =
    by_rest (is_sorted by_bytes ((z ∷ xs) ++ y ∷ ys)) refl ∙ join_sorted (z ∷ xs) (y ∷ ys) (t_right _ _ up_x) up_y (omega arith) sy
    ∙ ap (λ (n : ℕ). is_lt (by_bytes (get_or (x ∷ z ∷ xs) n no_row).0 y.0)) at_end
  where
    at_end : suc (length (z ∷ xs) - 1) ≡ length (x ∷ z ∷ xs) - 1
    at_end = omega arith

    xz : by_bytes x.0 z.0 ≡ Less
    xz = is_less (by_bytes x.0 z.0) (t_left _ (below_all by_bytes x.0 xs) (t_left (below_all by_bytes x.0 (z ∷ xs)) (is_sorted by_bytes (z ∷ xs)) up_x))

    and_no : (b : Bool) → (b && false) ≡ false
    and_no true = refl
    and_no false = refl

    by_rest : (b : Bool) → is_sorted by_bytes ((z ∷ xs) ++ y ∷ ys) ≡ b → (below_all by_bytes x.0 ((z ∷ xs) ++ y ∷ ys) && is_sorted by_bytes ((z ∷ xs) ++ y ∷ ys)) ≡ is_sorted by_bytes ((z ∷ xs) ++ y ∷ ys)
    by_rest false e = ap (λ b. below_all by_bytes x.0 ((z ∷ xs) ++ y ∷ ys) && b) e ∙ and_no (below_all by_bytes x.0 ((z ∷ xs) ++ y ∷ ys)) ∙ sym e
    by_rest true e =
        let rest : T (below_all by_bytes z.0 (xs ++ y ∷ ys)) = t_left _ _ (from_true _ e) in
        to_true _ (t_both _ _ (t_both _ _ (from_true _ (ap is_lt xz)) (below_through x.0 z.0 (xs ++ y ∷ ys) xz rest)) (from_true _ e)) ∙ sym e

-- Leaves by their names

pub leaf_named_by : (table number : ℕ) (bytes : List ℕ) (head : PageHead) (r : Bool) → ((v : RowLeaf) × Spells (row_leaf_format longest_value) v bytes)
    → ((longest : ℕ) → (v : RowLeaf) → Spells (row_leaf_format longest) v bytes → head ≡ leaf_head v)
    → (IsTrue r ↔ ((head.table ≡ table) × (head.number ≡ number))) → IsTrue r ↔ ((leaf : RowLeaf) × IsLeafNamed table number bytes leaf)
leaf_named_by table number bytes head r w reads is = (
  λ t. (let same = reads longest_value w.0 w.1 in
      let named = is.0 t in
      (w.0, (spelled_leaf bytes w.0 w.1, ap (λ (h : PageHead). h.table) (sym same) ∙ named.0, ap (λ (h : PageHead). h.number) (sym same) ∙ named.1))),
  λ l. (let n = l.1 in let same = reads longest_value l.0 (leaf_spells bytes l.0 n.0) in is.1 (ap (λ (h : PageHead). h.table) same ∙ n.1, ap (λ (h : PageHead). h.number) same ∙ n.2)),
)

pub no_leaf_named : (table number : ℕ) (bytes : List ℕ) → ¬ ((v : RowLeaf) × Spells (row_leaf_format longest_value) v bytes) → IsTrue false ↔ ((leaf : RowLeaf) × IsLeafNamed table number bytes leaf)
no_leaf_named table number bytes out = (λ f. absurd cc, λ l. absurd (let n = l.1 in out (l.0, leaf_spells bytes l.0 n.0)))

pub same_leaf : (bytes : List ℕ) (a b : RowLeaf) → row_leaf_of bytes ≡ Some a → row_leaf_of bytes ≡ Some b → a ≡ b
same_leaf bytes a b p q = some_same (row_leaf_of bytes) a b p q

pub ascend_by : (old other last first : List ℕ) (leaf second : RowLeaf) → row_leaf_of old ≡ Some leaf → row_leaf_of other ≡ Some second → 0 < length leaf.rows → 0 < length second.rows
    → last ≡ key_at (entries_of old) (length (entries_of old) - 1) → first ≡ key_at (entries_of other) 0 → is_lt (by_bytes last first) ≡ is_sorted by_bytes (leaf.rows ++ second.rows)
ascend_by old other last first leaf second there there2 some some2 is_last is_first =
    let p = leaf_page_of old leaf there in
    let q = leaf_page_of other second there2 in
    let n = count_is old leaf p in
    let place : length (entries_of old) - 1 ≡ length leaf.rows - 1 = omega arith in
    let inside : length leaf.rows - 1 < length leaf.rows = omega arith in
    let a : last ≡ (get_or leaf.rows (length leaf.rows - 1) no_row).0 = is_last ∙ ap (λ (k : ℕ). key_at (entries_of old) k) place ∙ ap (λ (e : PageEntry). e.key) (entry_is old leaf p (length leaf.rows - 1) no_row inside) in
    let b : first ≡ (get_or second.rows 0 no_row).0 = is_first ∙ ap (λ (e : PageEntry). e.key) (entry_is other second q 0 no_row some2) in
    (λ i. is_lt (by_bytes (a i) (b i))) ∙ sym (join_sorted leaf.rows second.rows p.keeps.up q.keeps.up some some2)

-- with no rows in one of two leaves, the keys ascend
pub ascend_none : (old other : List ℕ) (leaf second : RowLeaf) → row_leaf_of old ≡ Some leaf → row_leaf_of other ≡ Some second → (length leaf.rows ≡ 0) ⊎ (length second.rows ≡ 0) → true ≡ is_sorted by_bytes (leaf.rows ++ second.rows)
ascend_none old other leaf second there there2 none =
    sym (to_true _ (elim none [
      | inl e ↦ subst (λ (rs : List Row). T (is_sorted by_bytes (rs ++ second.rows))) (sym (nil_from_length leaf.rows e)) (leaf_page_of other second there2).keeps.up
      | inr e ↦ subst (λ (rs : List Row). T (is_sorted by_bytes (leaf.rows ++ rs))) (sym (nil_from_length second.rows e)) (subst (λ (rs : List Row). T (is_sorted by_bytes rs)) (sym (append-nil leaf.rows)) (leaf_page_of old leaf there).keeps.up)
    ]))

-- what holds of a leaf holds of the one that the page is known to spell
pub named_page : (table number : ℕ) (bytes : List ℕ) → ((leaf : RowLeaf) × IsLeafNamed table number bytes leaf) → (leaf : RowLeaf) × IsLeafPage bytes leaf
named_page table number bytes l = let n = l.1 in (l.0, leaf_page_of bytes l.0 n.0)

-- an edit that refuses what it was to do
pub too_far : (old : List ℕ) (leaf : RowLeaf) (at count : ℕ) → row_leaf_of old ≡ Some leaf → count ≡ length (entries_of old) → count < at → at ≤ length leaf.rows → ⊥
too_far old leaf at count there is more le = let n = count_is old leaf (leaf_page_of old leaf there) in omega arith

pub not_blank : (old : List ℕ) (leaf : RowLeaf) (count : ℕ) → row_leaf_of old ≡ Some leaf → count ≡ length (entries_of old) → (count ≡ 0 → ⊥) → leaf.rows ≡ [] → ⊥
not_blank old leaf count there is some none =
    let n = count_is old leaf (leaf_page_of old leaf there) in
    let m : length leaf.rows ≡ 0 = ap length none in
    some (omega arith)

pub too_full : (old other : List ℕ) (leaf second : RowLeaf) (a b : ℕ) → row_leaf_of old ≡ Some leaf → row_leaf_of other ≡ Some second → a ≡ used_bytes old → b ≡ used_bytes other → 8128 < a + b → rows_cost leaf.rows + rows_cost second.rows ≤ 8128 → ⊥
too_full old other leaf second a b there there2 is is2 full fits =
    let n = page_cost old leaf (leaf_page_of old leaf there) in
    let m = page_cost other second (leaf_page_of other second there2) in
    omega arith

pub number_small : (bytes : List ℕ) (leaf : RowLeaf) (number : ℕ) → row_leaf_of bytes ≡ Some leaf → leaf.number ≡ number → number < 2 ^ 32
number_small bytes leaf number there is = let n = (leaf_page_of bytes leaf there).keeps.number in omega arith

-- the header of a leaf of a table
pub named_leaf_head : (table number : ℕ) (bytes : List ℕ) (head : PageHead) → ((longest : ℕ) → (v : RowLeaf) → Spells (row_leaf_format longest) v bytes → head ≡ leaf_head v)
    → (leaf : RowLeaf) → IsLeafNamed table number bytes leaf → ((head.kind ≡ 1) × (head.level ≡ 0)) × ((head.table ≡ table) × (head.number ≡ number))
named_leaf_head table number bytes head reads leaf named =
    let same = leaf_head_is bytes head leaf reads named.0 in (
      (ap (λ (h : PageHead). h.kind) same, ap (λ (h : PageHead). h.level) same),
      (ap (λ (h : PageHead). h.table) same ∙ named.1, ap (λ (h : PageHead). h.number) same ∙ named.2),
    )
