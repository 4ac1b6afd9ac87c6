-- What stands where in a page.
--     count_is, used_is      the numbers of the head
--     slot_is, cell_is, key_is, child_is, value_is      what is read of an entry
use Rattle.std.proofs.Common.{◌≡◌, ℕ, ◌+◌, ◌-◌, ◌*◌, ◌^◌, ◌<◌, ◌≤◌, Bool, true, false, List, [], ◌∷◌, ◌++◌, length, take, drop, get_or, refl, sym, ap, ◌∙◌, arith, length-append, append_assoc}
use Rattle.std.specs.Prelude.{replicate}
use Rattle.std.proofs.lemmas.List.{drop_at, take_at, drop-drop, length-map, get_or-map, length-drop}
use Rattle.byteorder.specs.Endian.{big_bytes, big_number}
use Rattle.byteorder.specs.Numbers.{big_number-reads_back}
use Rattle.mdb_bytes.specs.Fields.{Field}
use Rattle.mdb_bytes.specs.Fields.{spelled, number_at}
use Rattle.row_page.proofs.FieldPlaces.{two_in}
use Rattle.mdb_bytes.proofs.PartBytes.{length-spelled}
use Rattle.row_page.specs.Page.{joined_cells, slots, page_body, used}
use Rattle.row_page.specs.Entries.{PageEntry, Head, ShowsEntries, page_bytes, full_head_fields, cells, cell_of, cell_len, is_leaf, AreEntries, KeepsEntry, empty_entry, key_at}
use Rattle.row_page.proofs.Cells.{length-slots, run_more, within_run, one_more, two_behind}
use Rattle.row_page.proofs.Bodies.{slots_split, run_split, run_at, length-zeros}
use Rattle.row_page.proofs.Entries.{length-cell}

-- the fields of the head
heading : Head → List PageEntry → List Field
heading h es = full_head_fields h (length es) (used (cells (is_leaf h) es))

-- a page is its head and its body
pub whole : (page : List ℕ) (h : Head) (es : List PageEntry) → ShowsEntries page h es
    → page ≡ spelled (full_head_fields h (length es) (used (cells (is_leaf h) es))) ++ page_body 8128 (cells (is_leaf h) es)
unfolding page_bytes
whole page h es s = s.bytes

-- the slots fit
pub few : (h : Head) (es : List PageEntry) → AreEntries (is_leaf h) es → 2 * length es ≤ 8128
few h es a = let f = a.fits in let l = length-map es (cell_of (is_leaf h)) in omega arith

-- the number of entries in the head
pub count_is : (page : List ℕ) (h : Head) (es : List PageEntry) → ShowsEntries page h es → number_at 2 8 page ≡ length es
count_is page h es s =
    let f = few h es s.entries in
    ap (number_at 2 8) (whole page h es s) ∙ two_in (full_head_fields h (length es) (used (cells (is_leaf h) es))) (page_body 8128 (cells (is_leaf h) es)) 8 (length es) (omega arith) refl

-- the bytes that they take in the head
pub used_is : (page : List ℕ) (h : Head) (es : List PageEntry) → ShowsEntries page h es → number_at 2 10 page ≡ used (cells (is_leaf h) es)
used_is page h es s =
    let f = s.entries.fits in
    ap (number_at 2 10) (whole page h es s) ∙ two_in (full_head_fields h (length es) (used (cells (is_leaf h) es))) (page_body 8128 (cells (is_leaf h) es)) 10 (used (cells (is_leaf h) es)) (omega arith) refl

-- the head's bytes, the cells, zeros and the slots
parts : (page : List ℕ) (h : Head) (es : List PageEntry) → ShowsEntries page h es → (top : List ℕ) × (length top ≡ 64)
    × (page ≡ top ++ (joined_cells (cells (is_leaf h) es) ++ (replicate (8128 - used (cells (is_leaf h) es)) 0 ++ slots 64 (cells (is_leaf h) es))))
unfolding page_body
parts page h es s =
    (spelled (full_head_fields h (length es) (used (cells (is_leaf h) es))), length-spelled (full_head_fields h (length es) (used (cells (is_leaf h) es))), whole page h es s)

-- what a slot in a page holds
slot_in : (top page : List ℕ) (cs : List (List ℕ)) (i : ℕ) → length top ≡ 64 → used cs ≤ 8128 → i < length cs
    → page ≡ top ++ (joined_cells cs ++ (replicate (8128 - used cs) 0 ++ slots 64 cs)) → number_at 2 (8190 - 2 * i) page ≡ 64 + length (joined_cells (take i cs))
slot_in top page cs i l fits lt e =
    let z : List ℕ = replicate (8128 - used cs) 0 in
    let s = slots (64 + length (joined_cells (take (i + 1) cs))) (drop (i + 1) cs) in
    let y = slots 64 (take i cs) in
    let a = 64 + length (joined_cells (take i cs)) in
    let cut : slots 64 cs ≡ s ++ (big_bytes 2 a ++ y) = slots_split 64 (i + 1) cs ∙ ap (λ (t : List ℕ). s ++ t) (one_more 64 i cs lt) in
    let x = top ++ (joined_cells cs ++ (z ++ s)) in
    let shape : page ≡ x ++ (big_bytes 2 a ++ y) =
    e ∙ ap (λ (t : List ℕ). top ++ (joined_cells cs ++ (z ++ t))) cut
    ∙ ap (λ (t : List ℕ). top ++ (joined_cells cs ++ t)) (sym (append_assoc z s (big_bytes 2 a ++ y)))
    ∙ ap (λ (t : List ℕ). top ++ t) (sym (append_assoc (joined_cells cs) (z ++ s) (big_bytes 2 a ++ y)))
    ∙ sym (append_assoc top (joined_cells cs ++ (z ++ s)) (big_bytes 2 a ++ y)) in
    let lx : length x ≡ 8190 - 2 * i =
    omega (arith, length-append top (joined_cells cs ++ (z ++ s)), length-append (joined_cells cs) (z ++ s), length-append z s, length-zeros (8128 - used cs), length-slots (64 + length (joined_cells (take (i + 1) cs))) (drop (i + 1) cs), length-drop (i + 1) cs) in
    let small : a < 2 ^ 16 = omega (arith, within_run i cs) in
    ap (number_at 2 (8190 - 2 * i)) shape ∙ two_behind (8190 - 2 * i) a x y lx small

-- what stands from a cell of a page on
cell_in : (top page : List ℕ) (cs : List (List ℕ)) (i : ℕ) → length top ≡ 64 → i < length cs
    → page ≡ top ++ (joined_cells cs ++ (replicate (8128 - used cs) 0 ++ slots 64 cs)) → (more : List ℕ) × (drop (64 + length (joined_cells (take i cs))) page ≡ get_or cs i [] ++ more)
cell_in top page cs i l lt e =
    let z : List ℕ = replicate (8128 - used cs) 0 ++ slots 64 cs in
    let a = joined_cells (take i cs) in
    let c = get_or cs i [] in
    let b = joined_cells (drop (i + 1) cs) in
    let cut : joined_cells cs ++ z ≡ a ++ (c ++ (b ++ z)) =
    ap (λ (t : List ℕ). t ++ z) (run_split i cs ∙ ap (λ (t : List ℕ). a ++ t) (run_at i cs lt)) ∙ append_assoc a (c ++ b) z ∙ ap (λ (t : List ℕ). a ++ t) (append_assoc c b z) in
    let shape : page ≡ (top ++ a) ++ (c ++ (b ++ z)) = e ∙ ap (λ (t : List ℕ). top ++ t) cut ∙ sym (append_assoc top a (c ++ (b ++ z))) in
    let lx : length (top ++ a) ≡ 64 + length a = omega (arith, length-append top a) in
    (b ++ z, ap (drop (64 + length a)) shape ∙ drop_at (top ++ a) (c ++ (b ++ z)) (64 + length a) lx)

-- the slot of an entry
pub slot_is : (page : List ℕ) (h : Head) (es : List PageEntry) (i : ℕ) → ShowsEntries page h es → i < length es
    → number_at 2 (8190 - 2 * i) page ≡ 64 + length (joined_cells (take i (cells (is_leaf h) es)))
slot_is page h es i s lt =
    let p = parts page h es s in
    let l = length-map es (cell_of (is_leaf h)) in
    slot_in p.0 page (cells (is_leaf h) es) i p.1 s.entries.fits (omega arith) p.2

-- the cell of an entry
pub cell_is : (page : List ℕ) (h : Head) (es : List PageEntry) (i : ℕ) → ShowsEntries page h es → i < length es
    → (more : List ℕ) × (drop (64 + length (joined_cells (take i (cells (is_leaf h) es)))) page ≡ cell_of (is_leaf h) (get_or es i empty_entry) ++ more)
cell_is page h es i s lt =
    let p = parts page h es s in
    let l = length-map es (cell_of (is_leaf h)) in
    let c = cell_in p.0 page (cells (is_leaf h) es) i p.1 (omega arith) p.2 in
    (c.0, c.1 ∙ ap (λ (t : List ℕ). t ++ c.0) (get_or-map (cell_of (is_leaf h)) es i empty_entry [] lt))

-- a cell stands before the slots
pub cell_within : (h : Head) (es : List PageEntry) (i : ℕ) → AreEntries (is_leaf h) es → i < length es
    → 64 + length (joined_cells (take i (cells (is_leaf h) es))) + cell_len (is_leaf h) (get_or es i empty_entry) + 2 * length es ≤ 8192
cell_within h es i a lt =
    let cs = cells (is_leaf h) es in
    let l = length-map es (cell_of (is_leaf h)) in
    let e = ap length (run_more i cs (omega arith)) in
    let g = ap length (get_or-map (cell_of (is_leaf h)) es i empty_entry [] lt) in
    let c = length-cell (is_leaf h) (get_or es i empty_entry) in
    let f = a.fits in
    omega (arith, within_run (i + 1) cs, length-append (joined_cells (take i cs)) (get_or cs i []))

-- a cell begins after the head, and what stands before it ends before the slots
pub starts_within : (h : Head) (es : List PageEntry) (i start : ℕ) → start ≡ 64 + length (joined_cells (take i (cells (is_leaf h) es)))
    → (64 ≤ start) × (start + 2 * length es ≤ 64 + used (cells (is_leaf h) es))
starts_within h es i start at =
    let w = within_run i (cells (is_leaf h) es) in
    let l = length-map es (cell_of (is_leaf h)) in
    (omega arith, omega arith)

-- a place counted from the first cell
pub past_head : (start n : ℕ) → start ≡ 64 + n → start - 64 ≡ n
past_head start n e = omega arith

-- the key in a cell
pub cell_key_len : (leaf : Bool) (e : PageEntry) (more : List ℕ) → KeepsEntry leaf e → big_number 2 (cell_of leaf e ++ more) ≡ length e.key
unfolding cell_of
cell_key_len true e more k = big_number-reads_back 2 (length e.key) ((big_bytes 2 (length e.rest) ++ (0 ∷ 0 ∷ [] ++ (e.key ++ e.rest))) ++ more) (let l = k.1 in omega arith)
cell_key_len false e more k = big_number-reads_back 2 (length e.key) ((e.rest ++ e.key) ++ more) (let l = k.0 in omega arith)

-- the key in a cell
pub cell_key : (leaf : Bool) (e : PageEntry) (more : List ℕ) → KeepsEntry leaf e → take (length e.key) (drop 6 (cell_of leaf e ++ more)) ≡ e.key
unfolding cell_of
cell_key true e more k = ap (take (length e.key)) (append_assoc e.key e.rest more) ∙ take_at e.key (e.rest ++ more) (length e.key) refl
cell_key false e more k =
    ap (λ (t : List ℕ). take (length e.key) (drop 4 t)) (append_assoc e.rest e.key more)
    ∙ ap (take (length e.key)) (drop_at e.rest (e.key ++ more) 4 k.1) ∙ take_at e.key more (length e.key) refl

-- a key stands within its cell
pub key_within : (leaf : Bool) (e : PageEntry) → KeepsEntry leaf e → 6 + length e.key ≤ cell_len leaf e
key_within true e k = omega arith
key_within false e k = let r = k.1 in omega arith

-- a number of two bytes at a slot, and the key after it
pub key_len_is : (page : List ℕ) (h : Head) (es : List PageEntry) (i at : ℕ) → ShowsEntries page h es → i < length es → at ≡ 64 + length (joined_cells (take i (cells (is_leaf h) es)))
    → (number_at 2 at page ≡ length (key_at es i)) × (at + 6 + length (key_at es i) ≤ 8192)
unfolding number_at
key_len_is page h es i at s lt is =
    let c = cell_is page h es i s lt in
    let k = s.entries.kept i lt in
    let w = cell_within h es i s.entries lt in
    let b = key_within (is_leaf h) (get_or es i empty_entry) k in
    (ap (λ (n : ℕ). big_number 2 (drop n page)) is ∙ ap (big_number 2) c.1 ∙ cell_key_len (is_leaf h) (get_or es i empty_entry) c.0 k, omega arith)

-- the key of an entry
pub key_is : (page : List ℕ) (h : Head) (es : List PageEntry) (i at : ℕ) → ShowsEntries page h es → i < length es → at ≡ 64 + length (joined_cells (take i (cells (is_leaf h) es)))
    → take (length (key_at es i)) (drop (at + 6) page) ≡ key_at es i
key_is page h es i at s lt is =
    let c = cell_is page h es i s lt in
    let k = s.entries.kept i lt in
    ap (take (length (key_at es i))) (sym (drop-drop 6 at page) ∙ ap (λ (n : ℕ). drop 6 (drop n page)) is ∙ ap (drop 6) c.1) ∙ cell_key (is_leaf h) (get_or es i empty_entry) c.0 k

-- a number of four bytes, whatever follows
four_front : (xs ys : List ℕ) → length xs ≡ 4 → big_number 4 (xs ++ ys) ≡ big_number 4 xs
four_front (a ∷ b ∷ c ∷ d ∷ []) ys l = refl
four_front [] ys l = absurd (omega arith)
four_front (a ∷ []) ys l = absurd (omega arith)
four_front (a ∷ b ∷ []) ys l = absurd (omega arith)
four_front (a ∷ b ∷ c ∷ []) ys l = absurd (omega arith)
four_front (a ∷ b ∷ c ∷ d ∷ e ∷ xs) ys l = absurd (omega arith)

-- the child in a cell
cell_child : (leaf : Bool) (e : PageEntry) (more : List ℕ) → leaf ≡ false → KeepsEntry leaf e → big_number 4 (drop 2 (cell_of leaf e ++ more)) ≡ big_number 4 e.rest
unfolding cell_of
cell_child true e more is k = absurd cc
cell_child false e more is k = ap (big_number 4) (append_assoc e.rest e.key more) ∙ four_front e.rest (e.key ++ more) k.1

-- the child of an entry
pub child_is : (page : List ℕ) (h : Head) (es : List PageEntry) (i at : ℕ) → ShowsEntries page h es → is_leaf h ≡ false → i < length es → at ≡ 64 + length (joined_cells (take i (cells (is_leaf h) es)))
    → (number_at 4 (at + 2) page ≡ big_number 4 (get_or es i empty_entry).rest) × (at + 6 ≤ 8192)
unfolding number_at
child_is page h es i at s index lt is =
    let c = cell_is page h es i s lt in
    let k = s.entries.kept i lt in
    let w = cell_within h es i s.entries lt in
    let b = key_within (is_leaf h) (get_or es i empty_entry) k in (
      ap (big_number 4) (sym (drop-drop 2 at page) ∙ ap (λ (n : ℕ). drop 2 (drop n page)) is ∙ ap (drop 2) c.1) ∙ cell_child (is_leaf h) (get_or es i empty_entry) c.0 index k,
      omega arith,
    )

-- the value in a cell
cell_value : (leaf : Bool) (e : PageEntry) (more : List ℕ) → leaf ≡ true → KeepsEntry leaf e
    → (big_number 2 (drop 2 (cell_of leaf e ++ more)) ≡ length e.rest) × (take (length e.rest) (drop (length e.key) (drop 6 (cell_of leaf e ++ more))) ≡ e.rest)
    × (cell_len leaf e ≡ 6 + length e.key + length e.rest)
unfolding cell_of
cell_value false e more is k = absurd cc
cell_value true e more is k = (
  big_number-reads_back 2 (length e.rest) ((0 ∷ 0 ∷ [] ++ (e.key ++ e.rest)) ++ more) (let l = k.2 in omega arith),
  ap (λ (t : List ℕ). take (length e.rest) (drop (length e.key) t)) (append_assoc e.key e.rest more)
      ∙ ap (take (length e.rest)) (drop_at e.key (e.rest ++ more) (length e.key) refl) ∙ take_at e.rest more (length e.rest) refl,
  refl,
)

-- the value of a row
pub value_is : (page : List ℕ) (h : Head) (es : List PageEntry) (i at : ℕ) → ShowsEntries page h es → is_leaf h ≡ true → i < length es → at ≡ 64 + length (joined_cells (take i (cells (is_leaf h) es)))
    → (number_at 2 (at + 2) page ≡ length (get_or es i empty_entry).rest)
    × (take (length (get_or es i empty_entry).rest) (drop (at + 6 + length (key_at es i)) page) ≡ (get_or es i empty_entry).rest)
    × (at + 6 + length (key_at es i) + length (get_or es i empty_entry).rest ≤ 8192)
unfolding number_at
value_is page h es i at s leaf lt is =
    let e = get_or es i empty_entry in
    let c = cell_is page h es i s lt in
    let k = s.entries.kept i lt in
    let w = cell_within h es i s.entries lt in
    let v = cell_value (is_leaf h) e c.0 leaf k in
    let l = v.2 in (
      ap (big_number 2) (sym (drop-drop 2 at page) ∙ ap (λ (n : ℕ). drop 2 (drop n page)) is ∙ ap (drop 2) c.1) ∙ v.0,
      ap (take (length e.rest)) (sym (drop-drop (length e.key) (at + 6) page) ∙ ap (drop (length e.key)) (sym (drop-drop 6 at page) ∙ ap (λ (n : ℕ). drop 6 (drop n page)) is ∙ ap (drop 6) c.1)) ∙ v.1,
      omega arith,
    )
