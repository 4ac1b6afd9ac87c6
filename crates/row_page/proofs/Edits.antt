-- A page after an entry was put in or taken out.
--     shown, renamed      a page of a new head and a new body
--     entries-insert, entries-remove      the entries after an edit
use Rattle.std.proofs.Common.{◌≡◌, ℕ, suc, ◌+◌, ◌^◌, ◌<◌, ◌≤◌, true, List, [], ◌∷◌, ◌++◌, length, take, drop, get_or, refl, sym, ap, ◌∙◌, arith, length-append, inl, inr}
use Rattle.std.proofs.lemmas.Bool.{eqb-true}
use Rattle.std.specs.Prelude.{map}
use Rattle.std.specs.List.{insert, remove}
use Rattle.std.proofs.lemmas.List.{map-append, take-map, drop-map, length-map, get_or-map, drop_at, take_at}
use Rattle.std.proofs.lemmas.List.Edits.{length-insert, length-remove}
use Rattle.byteorder.specs.Endian.{big_bytes}
use Rattle.mdb_bytes.specs.Fields.{spelled}
use Rattle.mdb_bytes.proofs.PartBytes.{length-spelled}
use Rattle.row_page.specs.Page.{joined_cells, written_at, page_body, used, HasCellRoom, HasCell}
use Rattle.row_page.specs.Entries.{PageEntry, Head, ShowsEntries, page_bytes, full_head_fields, cells, cell_of, cell_len, is_leaf, IsHead, AreEntries, KeepsEntry, empty_entry}
use Rattle.row_page.proofs.Cells.{run_more}
use Rattle.row_page.proofs.Bodies.{run-insert, run_split, run-remove, run_at}
use Rattle.row_page.proofs.Entries.{length-cell}
use Rattle.row_page.proofs.Order.{kept-insert, ascend-insert, kept-remove, ascend-remove, Between}
use Rattle.row_page.proofs.Pages.{whole}

-- a function of each item, of a list with one more
pub map-insert : {X Y : Type 0} (f : X → Y) (xs : List X) (i : ℕ) (x : X) → map f (insert xs i x) ≡ insert (map f xs) i (f x)
map-insert f xs i x = map-append f (take i xs) (x ∷ drop i xs) ∙ rw (take-map f i xs, drop-map f i xs) refl

-- a function of each item, of a list with one fewer
pub map-remove : {X Y : Type 0} (f : X → Y) (xs : List X) (i : ℕ) → map f (remove xs i) ≡ remove (map f xs) i
map-remove f xs i = map-append f (take i xs) (drop (suc i) xs) ∙ rw (take-map f i xs, drop-map f (suc i) xs) refl

-- the bytes of one more cell
pub used-insert : (i : ℕ) (cs : List (List ℕ)) (c : List ℕ) → i ≤ length cs → used (insert cs i c) ≡ used cs + length c + 2
used-insert i cs c le =
    let e = ap length (run-insert i cs c) in
    let s = ap length (run_split i cs) in
    let n = length-insert cs i c le in
    omega (arith, length-append (joined_cells (take i cs)) (c ++ joined_cells (drop i cs)), length-append c (joined_cells (drop i cs)), length-append (joined_cells (take i cs)) (joined_cells (drop i cs)))

-- the bytes of one cell fewer
pub used-remove : (i : ℕ) (cs : List (List ℕ)) → i < length cs → used (remove cs i) + length (get_or cs i []) + 2 ≡ used cs
used-remove i cs lt =
    let e = ap length (run-remove i cs) in
    let s = ap length (run_split i cs) in
    let a = ap length (run_at i cs lt) in
    let n = length-remove cs i lt in
    omega (arith, length-append (joined_cells (take i cs)) (joined_cells (drop (i + 1) cs)), length-append (get_or cs i []) (joined_cells (drop (i + 1) cs)), length-append (joined_cells (take i cs)) (joined_cells (drop i cs)))

-- the two numbers of the head
pub new_head : (h : Head) (n m u v : ℕ) → written_at 10 (big_bytes 2 v) (written_at 8 (big_bytes 2 m) (spelled (full_head_fields h n u))) ≡ spelled (full_head_fields h m v)
unfolding spelled
new_head h n m u v = refl

-- the page in two parts
pub page_parts : (page : List ℕ) (h : Head) (es : List PageEntry) → ShowsEntries page h es
    → (take 64 page ≡ spelled (full_head_fields h (length es) (used (cells (is_leaf h) es)))) × (drop 64 page ≡ page_body 8128 (cells (is_leaf h) es))
page_parts page h es s =
    let fs = full_head_fields h (length es) (used (cells (is_leaf h) es)) in
    let l = length-spelled fs in
    let e = whole page h es s in
    (ap (take 64) e ∙ take_at (spelled fs) (page_body 8128 (cells (is_leaf h) es)) 64 l, ap (drop 64) e ∙ drop_at (spelled fs) (page_body 8128 (cells (is_leaf h) es)) 64 l)

-- the body of a page on which an entry fits has room for its cell
pub has_room : (page body : List ℕ) (h : Head) (es : List PageEntry) (count i place n : ℕ) → ShowsEntries page h es → body ≡ drop 64 page → length body ≡ 8128
    → count ≡ length es → i ≤ length es → place ≡ length (joined_cells (take i (cells (is_leaf h) es))) → used (cells (is_leaf h) es) + (n + 2) ≤ 8128
    → HasCellRoom body (cells (is_leaf h) es) count i place n
has_room page body h es count i place n s is len ct le at fits =
    let p = page_parts page h es s in
    let l = length-map es (cell_of (is_leaf h)) in
    record {
      bytes = is ∙ p.1 ∙ ap (λ (k : ℕ). page_body k (cells (is_leaf h) es)) (sym len);
      counted = omega arith;
      within = omega arith;
      placed = at;
      room = omega arith;
      short = omega arith;
    }

-- the body of a page has the cell of each entry
pub has_cell : (page body : List ℕ) (h : Head) (es : List PageEntry) (count i place n : ℕ) → ShowsEntries page h es → body ≡ drop 64 page → length body ≡ 8128
    → count ≡ length es → i < length es → place ≡ length (joined_cells (take i (cells (is_leaf h) es))) → n ≡ cell_len (is_leaf h) (get_or es i empty_entry)
    → HasCell body (cells (is_leaf h) es) count i place n
has_cell page body h es count i place n s is len ct lt at size =
    let p = page_parts page h es s in
    let l = length-map es (cell_of (is_leaf h)) in
    let f = s.entries.fits in
    record {
      bytes = is ∙ p.1 ∙ ap (λ (k : ℕ). page_body k (cells (is_leaf h) es)) (sym len);
      counted = omega arith;
      within = omega arith;
      placed = at;
      size = size ∙ sym (length-cell (is_leaf h) (get_or es i empty_entry)) ∙ ap length (sym (get_or-map (cell_of (is_leaf h)) es i empty_entry [] lt));
      fits = omega arith;
      short = omega arith;
    }

-- new numbers in the head and a new body make a new page
pub shown : (top top2 top3 body : List ℕ) (h : Head) (es new : List PageEntry) (m v : ℕ) → IsHead h → AreEntries (is_leaf h) new
    → top ≡ spelled (full_head_fields h (length es) (used (cells (is_leaf h) es)))
    → top2 ≡ written_at 8 (big_bytes 2 m) top → top3 ≡ written_at 10 (big_bytes 2 v) top2 → m ≡ length new → v ≡ used (cells (is_leaf h) new)
    → body ≡ page_body 8128 (cells (is_leaf h) new) → ShowsEntries (top3 ++ body) h new
unfolding page_bytes
shown top top2 top3 body h es new m v ih a t t2 t3 mi vi b = record {
  head = ih;
  entries = a;
  bytes =
      ap (λ (x : List ℕ). x ++ body) (t3 ∙ ap (written_at 10 (big_bytes 2 v)) (t2 ∙ ap (written_at 8 (big_bytes 2 m)) t) ∙ new_head h (length es) m (used (cells (is_leaf h) es)) v)
      ∙ rw (mi, vi, b) refl;
}

-- entries with one more keep their limits
pub entries-insert : (h : Head) (es : List PageEntry) (i : ℕ) (e : PageEntry) → AreEntries (is_leaf h) es → i ≤ length es → KeepsEntry (is_leaf h) e
    → used (cells (is_leaf h) es) + (cell_len (is_leaf h) e + 2) ≤ 8128 → Between es i e.key
    → AreEntries (is_leaf h) (insert es i e) × (used (cells (is_leaf h) (insert es i e)) ≡ used (cells (is_leaf h) es) + cell_len (is_leaf h) e + 2)
entries-insert h es i e a le k fits between =
    let l = length-map es (cell_of (is_leaf h)) in
    let c = length-cell (is_leaf h) e in
    let u : used (cells (is_leaf h) (insert es i e)) ≡ used (cells (is_leaf h) es) + cell_len (is_leaf h) e + 2 =
    ap used (map-insert (cell_of (is_leaf h)) es i e) ∙ used-insert i (cells (is_leaf h) es) (cell_of (is_leaf h) e) (omega arith)
    ∙ ap (λ (n : ℕ). used (cells (is_leaf h) es) + n + 2) c in (
      record { fits = omega (arith, u); kept = kept-insert (is_leaf h) es i e le a.kept k; ascend = ascend-insert es i e le a.ascend between },
      u,
    )

-- entries with one fewer keep their limits
pub entries-remove : (h : Head) (es : List PageEntry) (i : ℕ) → AreEntries (is_leaf h) es → i < length es
    → AreEntries (is_leaf h) (remove es i) × (used (cells (is_leaf h) (remove es i)) + cell_len (is_leaf h) (get_or es i empty_entry) + 2 ≡ used (cells (is_leaf h) es))
entries-remove h es i a lt =
    let l = length-map es (cell_of (is_leaf h)) in
    let c = length-cell (is_leaf h) (get_or es i empty_entry) in
    let g = ap length (get_or-map (cell_of (is_leaf h)) es i empty_entry [] lt) in
    let f = a.fits in
    let m = ap used (map-remove (cell_of (is_leaf h)) es i) in
    let r = used-remove i (cells (is_leaf h) es) (omega arith) in
    let u : used (cells (is_leaf h) (remove es i)) + cell_len (is_leaf h) (get_or es i empty_entry) + 2 ≡ used (cells (is_leaf h) es) = omega arith in (
      record { fits = omega arith; kept = kept-remove (is_leaf h) es i lt a.kept; ascend = ascend-remove es i lt a.ascend },
      u,
    )

-- where a cell ends
pub cell_size_is : (h : Head) (es : List PageEntry) (i : ℕ) → i < length es
    → length (joined_cells (take (i + 1) (cells (is_leaf h) es))) ≡ length (joined_cells (take i (cells (is_leaf h) es))) + cell_len (is_leaf h) (get_or es i empty_entry)
cell_size_is h es i lt =
    let cs = cells (is_leaf h) es in
    let l = length-map es (cell_of (is_leaf h)) in
    let e = ap length (run_more i cs (omega arith)) in
    let g = ap length (get_or-map (cell_of (is_leaf h)) es i empty_entry [] lt) in
    let c = length-cell (is_leaf h) (get_or es i empty_entry) in
    omega (arith, length-append (joined_cells (take i cs)) (get_or cs i []))

-- the next page in the head
pub new_next : (h : Head) (n u next : ℕ) → written_at 12 (big_bytes 4 next) (spelled (full_head_fields h n u)) ≡ spelled (full_head_fields (record h { next = next }) n u)
unfolding spelled
new_next h n u next = refl

-- another next page in the head of a row leaf
pub renamed : (top top2 body : List ℕ) (h : Head) (es : List PageEntry) (next : ℕ) → IsHead h → is_leaf h ≡ true → next < 2 ^ 32 → AreEntries (is_leaf h) es
    → top ≡ spelled (full_head_fields h (length es) (used (cells (is_leaf h) es))) → top2 ≡ written_at 12 (big_bytes 4 next) top
    → body ≡ page_body 8128 (cells (is_leaf h) es) → ShowsEntries (top2 ++ body) (record h { next = next }) es
unfolding page_bytes
renamed top top2 body h es next ih leaf fits a t t2 b =
    let one : h.kind ≡ 1 = eqb-true h.kind 1 leaf in
    record {
      head = record {
        kind = elim ih.kind [ inl k ↦ inl k | inr k ↦ let two = k.0 in absurd (omega arith) ];
        table = ih.table;
        own = ih.own;
        next = fits;
      };
      entries = a;
      bytes = ap (λ (x : List ℕ). x ++ body) (t2 ∙ ap (written_at 12 (big_bytes 4 next)) t ∙ new_next h (length es) (used (cells (is_leaf h) es)) next) ∙ rw b refl;
    }
