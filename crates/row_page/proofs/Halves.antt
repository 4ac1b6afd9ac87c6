-- Pages split and merged.
--     entries-take, entries-drop, entries-append      the entries of a half and of two pages
--     has_cut, has_cells      the body of a page
--     blank      a page without entries
use Rattle.std.proofs.Common.{◌≡◌, ℕ, ◌+◌, ◌-◌, ◌*◌, ◌<◌, ◌≤◌, Bool, List, [], ◌∷◌, ◌++◌, length, take, drop, get_or, refl, sym, ap, subst, ◌∙◌, arith, length-append, inl, inr}
use Rattle.std.specs.Prelude.{replicate}
use Rattle.std.specs.declared.cmp.Ordering.TheVariants.{Less}
use Rattle.std.proofs.lemmas.Bool.{cases_lt}
use Rattle.std.proofs.lemmas.List.{append-nil, length-map, length-take, length-drop, take-map, drop-map, map-append, get_or-take, get_or-drop, get_or_append_left, get_or-append_right, take-append-drop}
use Rattle.row_page.specs.Page.{joined_cells, slots, page_body, used, HasCut, HasCells}
use Rattle.mdb_bytes.specs.Fields.{spelled}
use Rattle.row_page.specs.Entries.{page_bytes, full_head_fields, PageEntry, Head, ShowsEntries, cells, cell_of, is_leaf, IsHead, AreEntries, KeepsEntry, empty_entry, key_at, by_bytes}
use Rattle.row_page.proofs.Cells.{run-append}
use Rattle.row_page.proofs.Bodies.{run_split}
use Rattle.row_page.proofs.Edits.{page_parts}

-- a body without cells is zero
pub empty_body : (room : ℕ) (cs : List (List ℕ)) → length cs ≡ 0 → page_body room cs ≡ replicate room 0
unfolding page_body joined_cells slots
empty_body room [] l = let z : room - 0 ≡ room = omega arith in append-nil (replicate (room - 0) 0) ∙ ap (λ (n : ℕ). replicate n 0) z
empty_body room (c ∷ cs) l = absurd (omega arith)

-- the limits of the same entry
same_entry : (leaf : Bool) (x y : PageEntry) → x ≡ y → KeepsEntry leaf y → KeepsEntry leaf x
same_entry leaf x y e k = subst (KeepsEntry leaf) (sym e) k

-- the order of the same entries
same_less : (a b c d : PageEntry) → a ≡ b → c ≡ d → by_bytes b.key d.key ≡ Less → by_bytes a.key c.key ≡ Less
same_less a b c d e f h = rw (e, f) h

-- the bytes of two lists of cells
pub used_two : (xs ys : List (List ℕ)) → used (xs ++ ys) ≡ used xs + used ys
used_two xs ys = let e = ap length (run-append xs ys) in omega (arith, length-append (joined_cells xs) (joined_cells ys), length-append xs ys)

-- the first entries keep their limits
pub entries-take : (leaf : Bool) (es : List PageEntry) (i : ℕ) → i ≤ length es → AreEntries leaf es → AreEntries leaf (take i es)
entries-take leaf es i le a =
    let cs = cells leaf es in
    let t : cells leaf (take i es) ≡ take i cs = sym (take-map (cell_of leaf) i es) in
    let u = used_two (take i cs) (drop i cs) in
    let w = ap used (take-append-drop i cs) in
    let v = ap used t in
    let f = a.fits in
    let l : length (take i es) ≡ i = omega (arith, length-take i es) in
    record {
      fits = omega arith;
      kept = λ k lt. same_entry leaf (get_or (take i es) k empty_entry) (get_or es k empty_entry) (get_or-take i es k empty_entry (omega arith)) (a.kept k (omega arith));
      ascend = λ k j lt within.
          same_less (get_or (take i es) k empty_entry) (get_or es k empty_entry) (get_or (take i es) j empty_entry) (get_or es j empty_entry)
          (get_or-take i es k empty_entry (omega arith)) (get_or-take i es j empty_entry (omega arith)) (a.ascend k j lt (omega arith));
    }

-- the last entries keep their limits
pub entries-drop : (leaf : Bool) (es : List PageEntry) (i : ℕ) → i ≤ length es → AreEntries leaf es → AreEntries leaf (drop i es)
entries-drop leaf es i le a =
    let cs = cells leaf es in
    let t : cells leaf (drop i es) ≡ drop i cs = sym (drop-map (cell_of leaf) i es) in
    let u = used_two (take i cs) (drop i cs) in
    let w = ap used (take-append-drop i cs) in
    let v = ap used t in
    let f = a.fits in
    let l : length (drop i es) ≡ length es - i = length-drop i es in
    record {
      fits = omega arith;
      kept = λ k lt. same_entry leaf (get_or (drop i es) k empty_entry) (get_or es (i + k) empty_entry) (get_or-drop i es k empty_entry) (a.kept (i + k) (omega arith));
      ascend = λ k j lt within.
          same_less (get_or (drop i es) k empty_entry) (get_or es (i + k) empty_entry) (get_or (drop i es) j empty_entry) (get_or es (i + j) empty_entry)
          (get_or-drop i es k empty_entry) (get_or-drop i es j empty_entry) (a.ascend (i + k) (i + j) (omega arith) (omega arith));
    }

-- two lists of entries keep their limits together
pub entries-append : (leaf : Bool) (xs ys : List PageEntry) → AreEntries leaf xs → AreEntries leaf ys → used (cells leaf xs) + used (cells leaf ys) ≤ 8128
    → ((i j : ℕ) → i < length xs → j < length ys → by_bytes (key_at xs i) (key_at ys j) ≡ Less) → AreEntries leaf (xs ++ ys)
entries-append leaf xs ys a b fits below =
    let t = ap used (map-append (cell_of leaf) xs ys) in
    let u = used_two (cells leaf xs) (cells leaf ys) in
    let l = length-append xs ys in
    record {
      fits = omega arith;
      kept = λ k lt. elim (cases_lt k (length xs)) [
        | inl low ↦ same_entry leaf (get_or (xs ++ ys) k empty_entry) (get_or xs k empty_entry) (get_or_append_left xs ys empty_entry k low) (a.kept k low)
        | inr high ↦
            same_entry leaf (get_or (xs ++ ys) k empty_entry) (get_or ys (k - length xs) empty_entry) (get_or-append_right xs ys (length xs) k empty_entry refl high) (b.kept (k - length xs) (omega arith))
      ];
      ascend = λ k j lt within. elim (cases_lt j (length xs)) [
        | inl low ↦
            same_less (get_or (xs ++ ys) k empty_entry) (get_or xs k empty_entry) (get_or (xs ++ ys) j empty_entry) (get_or xs j empty_entry)
            (get_or_append_left xs ys empty_entry k (omega arith)) (get_or_append_left xs ys empty_entry j low) (a.ascend k j lt low)
        | inr high ↦
            elim (cases_lt k (length xs)) [
              | inl low ↦
                  same_less (get_or (xs ++ ys) k empty_entry) (get_or xs k empty_entry) (get_or (xs ++ ys) j empty_entry) (get_or ys (j - length xs) empty_entry)
                  (get_or_append_left xs ys empty_entry k low) (get_or-append_right xs ys (length xs) j empty_entry refl high) (below k (j - length xs) low (omega arith))
              | inr above ↦
                  same_less (get_or (xs ++ ys) k empty_entry) (get_or ys (k - length xs) empty_entry) (get_or (xs ++ ys) j empty_entry) (get_or ys (j - length xs) empty_entry)
                  (get_or-append_right xs ys (length xs) k empty_entry refl above) (get_or-append_right xs ys (length xs) j empty_entry refl high)
                  (b.ascend (k - length xs) (j - length xs) (omega arith) (omega arith))
            ]
      ];
    }

-- the body of a page may be cut at each entry
pub has_cut : (page body : List ℕ) (h : Head) (es : List PageEntry) (count i place size : ℕ) → ShowsEntries page h es → body ≡ drop 64 page → length body ≡ 8128
    → count ≡ length es → i ≤ length es → place ≡ length (joined_cells (take i (cells (is_leaf h) es))) → size ≡ used (cells (is_leaf h) es) - 2 * count
    → HasCut body (cells (is_leaf h) es) count i place size
has_cut page body h es count i place size s is len ct le at sz =
    let p = page_parts page h es s in
    let l = length-map es (cell_of (is_leaf h)) in
    let f = s.entries.fits in
    record {
      bytes = is ∙ p.1 ∙ ap (λ (k : ℕ). page_body k (cells (is_leaf h) es)) (sym len);
      counted = omega arith;
      within = omega arith;
      placed = at;
      sized = omega arith;
      fits = omega arith;
      short = omega arith;
    }

-- the body of a page has the cells of its entries
pub has_cells : (page body : List ℕ) (h : Head) (es : List PageEntry) (count size : ℕ) → ShowsEntries page h es → body ≡ drop 64 page → length body ≡ 8128
    → count ≡ length es → size ≡ used (cells (is_leaf h) es) - 2 * count → HasCells body (cells (is_leaf h) es) count size
has_cells page body h es count size s is len ct sz =
    let p = page_parts page h es s in
    let l = length-map es (cell_of (is_leaf h)) in
    let f = s.entries.fits in
    record {
      bytes = is ∙ p.1 ∙ ap (λ (k : ℕ). page_body k (cells (is_leaf h) es)) (sym len);
      counted = omega arith;
      sized = omega arith;
      fits = omega arith;
      short = omega arith;
    }

-- the body of a page without entries is zero
pub no_cells : (page body : List ℕ) (h : Head) (es : List PageEntry) (n : ℕ) → ShowsEntries page h es → length es ≡ 0 → body ≡ drop 64 page → length body ≡ 8128 → n ≡ 8128 → body ≡ replicate n 0
no_cells page body h es n s none is len same =
    let p = page_parts page h es s in
    let l = length-map es (cell_of (is_leaf h)) in
    is ∙ p.1 ∙ ap (λ (k : ℕ). page_body k (cells (is_leaf h) es)) (sym same) ∙ empty_body n (cells (is_leaf h) es) (omega arith)

-- the bytes of the first entries
pub used-take : (leaf : Bool) (es : List PageEntry) (i place : ℕ) → i ≤ length es → place ≡ length (joined_cells (take i (cells leaf es))) → used (cells leaf (take i es)) ≡ place + 2 * i
used-take leaf es i place le at =
    let v = ap used (sym (take-map (cell_of leaf) i es)) in
    let l = length-map es (cell_of leaf) in
    omega (arith, length-take i (cells leaf es))

-- the bytes of the last entries
pub used-drop : (leaf : Bool) (es : List PageEntry) (i place size count : ℕ) → i ≤ length es → place ≡ length (joined_cells (take i (cells leaf es))) → count ≡ length es
    → size ≡ used (cells leaf es) - 2 * count → used (cells leaf (drop i es)) ≡ size - place + 2 * (count - i)
used-drop leaf es i place size count le at ct sz =
    let v = ap used (sym (drop-map (cell_of leaf) i es)) in
    let l = length-map es (cell_of leaf) in
    let e = ap length (run_split i (cells leaf es)) in
    omega (arith, length-drop i (cells leaf es), length-append (joined_cells (take i (cells leaf es))) (joined_cells (drop i (cells leaf es))))

-- no entries keep their limits
pub no_entries : (leaf : Bool) → AreEntries leaf []
unfolding joined_cells
no_entries leaf = record { fits = omega arith; kept = λ i lt. absurd (omega arith); ascend = λ i j lt within. absurd (omega arith) }

-- the bytes of a page without entries
pub blank : (top body : List ℕ) (n : ℕ) (h : Head) → IsHead h → top ≡ spelled (full_head_fields h 0 0) → body ≡ replicate n 0 → n ≡ 8128 → ShowsEntries (top ++ body) h []
unfolding page_bytes joined_cells
blank top body n h ih t b e = record {
  head = ih;
  entries = no_entries (is_leaf h);
  bytes = ap (λ (x : List ℕ). x ++ body) t ∙ ap (λ (x : List ℕ). spelled (full_head_fields h 0 0) ++ x) (b ∙ sym (empty_body n [] refl) ∙ ap (λ (k : ℕ). page_body k []) e);
}
