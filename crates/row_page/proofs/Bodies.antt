-- Laws of the part after the head.
--     room_parts, high_slots, inserted      a cell put in
--     cell_parts, low_slots, removed      a cell taken out
use Rattle.std.proofs.Common.{◌≡◌, ℕ, suc, ◌+◌, ◌-◌, ◌*◌, ◌<◌, ◌≤◌, List, [], ◌∷◌, ◌++◌, length, take, drop, get_or, refl, sym, ap, ◌∙◌, arith, length-append, append_assoc}
use Rattle.std.specs.Prelude.{replicate}
use Rattle.std.specs.List.{insert, remove}
use Rattle.std.proofs.lemmas.List.{drop_at, take_at, drop_more, take-append-drop, length-drop, length-replicate, replicate-append-replicate}
use Rattle.std.proofs.lemmas.List.Edits.{length-insert, length-remove}
use Rattle.byteorder.specs.Endian.{big_bytes}
use Rattle.row_page.specs.Page.{joined_cells, slots, inserted_at, closed, page_body, used, HasCellRoom, HasCell}
use Rattle.row_page.proofs.Cells.{run-append, slots-append, length-slots, slot_split}

-- zeros are as many as they are said to be
pub length-zeros : (n : ℕ) → length (replicate {A = ℕ} n 0) ≡ n
length-zeros n = length-replicate {A = ℕ} n 0

-- some of the zeros belong to the slots
pub body_parts : (room a b : ℕ) (cs : List (List ℕ)) → a + b ≡ room - used cs → page_body room cs ≡ (joined_cells cs ++ replicate a 0) ++ (replicate b 0 ++ slots 64 cs)
unfolding page_body
body_parts room a b cs e =
    ap (λ (t : List ℕ). joined_cells cs ++ (t ++ slots 64 cs)) (ap (λ (k : ℕ). replicate k 0) (sym e) ∙ sym (replicate-append-replicate a b 0))
    ∙ ap (λ (t : List ℕ). joined_cells cs ++ t) (append_assoc (replicate a 0) (replicate b 0) (slots 64 cs))
    ∙ sym (append_assoc (joined_cells cs) (replicate a 0) (replicate b 0 ++ slots 64 cs))

-- a body has the bytes of its room
pub length-body : (room : ℕ) (cs : List (List ℕ)) → used cs ≤ room → length (page_body room cs) ≡ room
unfolding page_body
length-body room cs le =
    omega (arith, length-append (joined_cells cs) (replicate (room - used cs) 0 ++ slots 64 cs), length-append (replicate (room - used cs) 0) (slots 64 cs), length-zeros (room - used cs), length-slots 64 cs)

-- the run of a first cell and the others
pub run_cons : (c : List ℕ) (cs : List (List ℕ)) → joined_cells (c ∷ cs) ≡ c ++ joined_cells cs
unfolding joined_cells
run_cons c cs = refl

-- the slots of a first cell and the others
pub slots_cons : (at : ℕ) (c : List ℕ) (cs : List (List ℕ)) → slots at (c ∷ cs) ≡ slots (at + length c) cs ++ big_bytes 2 at
unfolding slots
slots_cons at c cs = refl

-- the run in two parts
pub run_split : (i : ℕ) (cs : List (List ℕ)) → joined_cells cs ≡ joined_cells (take i cs) ++ joined_cells (drop i cs)
run_split i cs = ap joined_cells (sym (take-append-drop i cs)) ∙ run-append (take i cs) (drop i cs)

-- the run with one more cell
pub run-insert : (i : ℕ) (cs : List (List ℕ)) (c : List ℕ) → joined_cells (insert cs i c) ≡ joined_cells (take i cs) ++ (c ++ joined_cells (drop i cs))
run-insert i cs c = run-append (take i cs) (c ∷ drop i cs) ∙ ap (λ (t : List ℕ). joined_cells (take i cs) ++ t) (run_cons c (drop i cs))

-- the slots in two parts, the later cells first
pub slots_split : (at i : ℕ) (cs : List (List ℕ)) → slots at cs ≡ slots (at + length (joined_cells (take i cs))) (drop i cs) ++ slots at (take i cs)
slots_split at i cs = ap (slots at) (sym (take-append-drop i cs)) ∙ slots-append at (take i cs) (drop i cs)

-- the slots with one more cell
pub slots-insert : (at i : ℕ) (cs : List (List ℕ)) (c : List ℕ)
    → slots at (insert cs i c) ≡ (slots (at + length (joined_cells (take i cs)) + length c) (drop i cs) ++ big_bytes 2 (at + length (joined_cells (take i cs)))) ++ slots at (take i cs)
slots-insert at i cs c =
    slots-append at (take i cs) (c ∷ drop i cs) ∙ ap (λ (t : List ℕ). t ++ slots at (take i cs)) (slots_cons (at + length (joined_cells (take i cs))) c (drop i cs))

-- a cell put into the run
pub opened_run : (i z : ℕ) (cs : List (List ℕ)) (c : List ℕ) → length c ≤ z
    → inserted_at (length (joined_cells (take i cs))) c (joined_cells cs ++ replicate z 0) ≡ joined_cells (insert cs i c) ++ replicate (z - length c) 0
opened_run i z cs c le =
    let a = joined_cells (take i cs) in
    let b = joined_cells (drop i cs) in
    let whole : joined_cells cs ++ replicate z 0 ≡ a ++ (b ++ replicate z 0) = ap (λ (t : List ℕ). t ++ replicate z 0) (run_split i cs) ∙ append_assoc a b (replicate z 0) in
    let cut : replicate z 0 ≡ replicate (z - length c) 0 ++ replicate (length c) 0 =
    (let k : z ≡ (z - length c) + length c = omega arith in ap (λ (n : ℕ). replicate n 0) k ∙ sym (replicate-append-replicate (z - length c) (length c) 0)) in
    let n = length (a ++ (b ++ replicate z 0)) - (length a + length c) in
    let ln : length (b ++ replicate (z - length c) 0) ≡ n =
    omega (arith, length-append a (b ++ replicate z 0), length-append b (replicate z 0), length-append b (replicate (z - length c) 0), length-zeros z, length-zeros (z - length c)) in
    let kept : take n (b ++ replicate z 0) ≡ b ++ replicate (z - length c) 0 =
    ap (λ (t : List ℕ). take n (b ++ t)) cut ∙ ap (take n) (sym (append_assoc b (replicate (z - length c) 0) (replicate (length c) 0)))
    ∙ take_at (b ++ replicate (z - length c) 0) (replicate (length c) 0) n ln in
    ap (inserted_at (length a) c) whole
    ∙ rw (take_at a (b ++ replicate z 0) (length a) refl, drop_at a (b ++ replicate z 0) (length a) refl, kept) refl
    ∙ ap (λ (t : List ℕ). a ++ t) (sym (append_assoc c b (replicate (z - length c) 0)))
    ∙ sym (append_assoc a (c ++ b) (replicate (z - length c) 0))
    ∙ ap (λ (t : List ℕ). t ++ replicate (z - length c) 0) (sym (run-insert i cs c))

-- a cell that has room leaves the slots alone
pub place_fits : (body : List ℕ) (cs : List (List ℕ)) (count i place n : ℕ) → HasCellRoom body cs count i place n
    → (place + n + 2 * count + 2 ≤ length body) × (i ≤ count) × (place + length (joined_cells (drop i cs)) ≡ length (joined_cells cs))
place_fits body cs count i place n r =
    let e = ap length (run_split i cs) in
    let s : place + length (joined_cells (drop i cs)) ≡ length (joined_cells cs) = (let p = r.placed in omega (arith, length-append (joined_cells (take i cs)) (joined_cells (drop i cs)))) in
    let m = r.room in
    let q = r.counted in
    let w = r.within in
    (omega arith, omega arith, s)

-- the body in three parts: the cells with what is left, the slots from cell i on after two zeros, and the slots before
pub room_parts : (body : List ℕ) (cs : List (List ℕ)) (count i place n : ℕ) → HasCellRoom body cs count i place n
    → (take (length body - 2 * count - 2) body ≡ joined_cells cs ++ replicate (length body - used cs - 2) 0)
    × (drop (length body - 2 * count - 2) body ≡ (0 ∷ 0 ∷ slots (64 + place) (drop i cs)) ++ slots 64 (take i cs))
room_parts body cs count i place n r =
    let m = r.room in
    let q = r.counted in
    let k = length body - used cs - 2 in
    let e : body ≡ (joined_cells cs ++ replicate k 0) ++ (0 ∷ 0 ∷ slots 64 cs) = r.bytes ∙ body_parts (length body) k 2 cs (omega arith) in
    let l : length (joined_cells cs ++ replicate k 0) ≡ length body - 2 * count - 2 = omega (arith, length-append (joined_cells cs) (replicate k 0), length-zeros k) in
    let s : slots 64 cs ≡ slots (64 + place) (drop i cs) ++ slots 64 (take i cs) =
    slots_split 64 i cs ∙ ap (λ (p : ℕ). slots (64 + p) (drop i cs) ++ slots 64 (take i cs)) (sym r.placed) in (
      ap (take (length body - 2 * count - 2)) e ∙ take_at (joined_cells cs ++ replicate k 0) (0 ∷ 0 ∷ slots 64 cs) (length body - 2 * count - 2) l,
      ap (drop (length body - 2 * count - 2)) e ∙ drop_at (joined_cells cs ++ replicate k 0) (0 ∷ 0 ∷ slots 64 cs) (length body - 2 * count - 2) l
          ∙ ap (λ (t : List ℕ). 0 ∷ 0 ∷ t) s,
    )

-- the slots that move
pub high_slots : (body back : List ℕ) (cs : List (List ℕ)) (count i place n : ℕ) → HasCellRoom body cs count i place n → back ≡ drop (length body - 2 * count - 2) body
    → (take (2 * (count - i) + 2) back ≡ 0 ∷ 0 ∷ slots (64 + place) (drop i cs)) × (drop (2 * (count - i) + 2) back ≡ slots 64 (take i cs))
high_slots body back cs count i place n r is =
    let e = is ∙ (room_parts body cs count i place n r).1 in
    let q = r.counted in
    let w = r.within in
    let x : List ℕ = 0 ∷ 0 ∷ slots (64 + place) (drop i cs) in
    let l : length x ≡ 2 * (count - i) + 2 = omega (arith, length-slots (64 + place) (drop i cs), length-drop i cs) in (
      ap (take (2 * (count - i) + 2)) e ∙ take_at x (slots 64 (take i cs)) (2 * (count - i) + 2) l,
      ap (drop (2 * (count - i) + 2)) e ∙ drop_at x (slots 64 (take i cs)) (2 * (count - i) + 2) l,
    )

-- the three parts after a cell was put in
pub inserted : (body front high low : List ℕ) (cs : List (List ℕ)) (count i place n : ℕ) (c : List ℕ) → HasCellRoom body cs count i place n → length c ≡ n
    → front ≡ inserted_at place c (joined_cells cs ++ replicate (length body - used cs - 2) 0)
    → high ≡ slots (64 + place + n) (drop i cs) ++ big_bytes 2 (64 + place) → low ≡ slots 64 (take i cs)
    → front ++ (high ++ low) ≡ page_body (length body) (insert cs i c)
inserted body front high low cs count i place n c r len f h l =
    let m = r.room in
    let z = length body - used cs - 2 in
    let new = insert cs i c in
    let f2 : front ≡ joined_cells new ++ replicate (z - length c) 0 = f ∙ ap (λ (p : ℕ). inserted_at p c (joined_cells cs ++ replicate z 0)) r.placed ∙ opened_run i z cs c (omega arith) in
    let at : 64 + place ≡ 64 + length (joined_cells (take i cs)) = ap (λ (p : ℕ). 64 + p) r.placed in
    let h2 : high ++ low ≡ slots 64 new =
    rw (h, l, sym len, at) (sym (slots-insert 64 i cs c)) in
    let ln : length (joined_cells new) ≡ length (joined_cells cs) + length c =
    (let e = ap length (run-insert i cs c) in let s = ap length (run_split i cs) in
    omega (arith, length-append (joined_cells (take i cs)) (c ++ joined_cells (drop i cs)), length-append c (joined_cells (drop i cs)), length-append (joined_cells (take i cs)) (joined_cells (drop i cs)))) in
    let ct : length new ≡ length cs + 1 = length-insert cs i c r.within in
    rw (f2, h2) (sym (body_parts (length body) (z - length c) 0 new (omega arith)))

-- A cell taken out

-- the cells after cell i
next : (i : ℕ) (cs : List (List ℕ)) → drop (suc i) cs ≡ drop (i + 1) cs
next i cs = let e : suc i ≡ i + 1 = omega arith in ap (λ (n : ℕ). drop n cs) e

-- the run with one cell fewer
pub run-remove : (i : ℕ) (cs : List (List ℕ)) → joined_cells (remove cs i) ≡ joined_cells (take i cs) ++ joined_cells (drop (i + 1) cs)
run-remove i cs = run-append (take i cs) (drop (suc i) cs) ∙ ap (λ (t : List (List ℕ)). joined_cells (take i cs) ++ joined_cells t) (next i cs)

-- the slots with one cell fewer
pub slots-remove : (at i : ℕ) (cs : List (List ℕ)) → slots at (remove cs i) ≡ slots (at + length (joined_cells (take i cs))) (drop (i + 1) cs) ++ slots at (take i cs)
slots-remove at i cs =
    slots-append at (take i cs) (drop (suc i) cs) ∙ ap (λ (t : List (List ℕ)). slots (at + length (joined_cells (take i cs))) t ++ slots at (take i cs)) (next i cs)

-- the run from cell i on
pub run_at : (i : ℕ) (cs : List (List ℕ)) → i < length cs → joined_cells (drop i cs) ≡ get_or cs i [] ++ joined_cells (drop (i + 1) cs)
run_at i cs lt = ap joined_cells (drop_more cs i [] lt) ∙ run_cons (get_or cs i []) (drop (i + 1) cs)

-- a cell of the run stands before the slots
pub cell_fits : (body : List ℕ) (cs : List (List ℕ)) (count i place n : ℕ) → HasCell body cs count i place n
    → (place + n + 2 * count ≤ length body) × (i < count) × (place + n + length (joined_cells (drop (i + 1) cs)) ≡ length (joined_cells cs))
cell_fits body cs count i place n r =
    let e = ap length (run_split i cs) in
    let f = ap length (run_at i cs r.within) in
    let p = r.placed in
    let z = r.size in
    let s : place + n + length (joined_cells (drop (i + 1) cs)) ≡ length (joined_cells cs) =
    omega (arith, length-append (joined_cells (take i cs)) (joined_cells (drop i cs)), length-append (get_or cs i []) (joined_cells (drop (i + 1) cs))) in
    let m = r.fits in
    let q = r.counted in
    let w = r.within in
    (omega arith, omega arith, s)

-- a body in two parts: the cells with what is left, and the slots
pub cell_parts : (body : List ℕ) (cs : List (List ℕ)) (count i place n : ℕ) → HasCell body cs count i place n
    → (take (length body - 2 * count) body ≡ joined_cells cs ++ replicate (length body - used cs) 0)
    × (drop (length body - 2 * count) body ≡ slots 64 cs)
unfolding page_body
cell_parts body cs count i place n r =
    let m = r.fits in
    let q = r.counted in
    let k = length body - used cs in
    let e : body ≡ (joined_cells cs ++ replicate k 0) ++ slots 64 cs = r.bytes ∙ sym (append_assoc (joined_cells cs) (replicate k 0) (slots 64 cs)) in
    let l : length (joined_cells cs ++ replicate k 0) ≡ length body - 2 * count = omega (arith, length-append (joined_cells cs) (replicate k 0), length-zeros k) in (
      ap (take (length body - 2 * count)) e ∙ take_at (joined_cells cs ++ replicate k 0) (slots 64 cs) (length body - 2 * count) l,
      ap (drop (length body - 2 * count)) e ∙ drop_at (joined_cells cs ++ replicate k 0) (slots 64 cs) (length body - 2 * count) l,
    )

-- the slots from the one of cell i on, and those before
pub low_slots : (body back : List ℕ) (cs : List (List ℕ)) (count i place n : ℕ) → HasCell body cs count i place n → back ≡ drop (length body - 2 * count) body
    → (take (2 * (count - i)) back ≡ slots (64 + place + n) (drop (i + 1) cs) ++ big_bytes 2 (64 + place)) × (drop (2 * (count - i)) back ≡ slots 64 (take i cs))
low_slots body back cs count i place n r is =
    let at : 64 + length (joined_cells (take i cs)) ≡ 64 + place = ap (λ (p : ℕ). 64 + p) (sym r.placed) in
    let s : slots 64 cs ≡ slots (64 + place) (drop i cs) ++ slots 64 (take i cs) =
    slots_split 64 i cs ∙ ap (λ (p : ℕ). slots p (drop i cs) ++ slots 64 (take i cs)) at in
    let e = is ∙ (cell_parts body cs count i place n r).1 ∙ s in
    let q = r.counted in
    let w = r.within in
    let x = slots (64 + place) (drop i cs) in
    let l : length x ≡ 2 * (count - i) = omega (arith, length-slots (64 + place) (drop i cs), length-drop i cs) in (
      ap (take (2 * (count - i))) e ∙ take_at x (slots 64 (take i cs)) (2 * (count - i)) l ∙ slot_split (64 + place) i cs r.within
          ∙ ap (λ (k : ℕ). slots (64 + place + k) (drop (i + 1) cs) ++ big_bytes 2 (64 + place)) (sym r.size),
      ap (drop (2 * (count - i))) e ∙ drop_at x (slots 64 (take i cs)) (2 * (count - i)) l,
    )

-- a cell taken out of the run
pub closed_run : (i z n : ℕ) (cs : List (List ℕ)) → i < length cs → n ≡ length (get_or cs i [])
    → closed (length (joined_cells (take i cs))) n (joined_cells cs ++ replicate z 0) ≡ joined_cells (remove cs i) ++ replicate (z + n) 0
closed_run i z n cs lt is =
    let a = joined_cells (take i cs) in
    let c = get_or cs i [] in
    let b = joined_cells (drop (i + 1) cs) in
    let whole : joined_cells cs ++ replicate z 0 ≡ a ++ (c ++ (b ++ replicate z 0)) =
    ap (λ (t : List ℕ). t ++ replicate z 0) (run_split i cs ∙ ap (λ (t : List ℕ). a ++ t) (run_at i cs lt))
    ∙ append_assoc a (c ++ b) (replicate z 0) ∙ ap (λ (t : List ℕ). a ++ t) (append_assoc c b (replicate z 0)) in
    let whole2 : joined_cells cs ++ replicate z 0 ≡ (a ++ c) ++ (b ++ replicate z 0) = whole ∙ sym (append_assoc a c (b ++ replicate z 0)) in
    let l : length (a ++ c) ≡ length a + n = omega (arith, length-append a c) in
    let front : take (length a) (joined_cells cs ++ replicate z 0) ≡ a = ap (take (length a)) whole ∙ take_at a (c ++ (b ++ replicate z 0)) (length a) refl in
    let back : drop (length a + n) (joined_cells cs ++ replicate z 0) ≡ b ++ replicate z 0 = ap (drop (length a + n)) whole2 ∙ drop_at (a ++ c) (b ++ replicate z 0) (length a + n) l in
    rw (front, back) refl
    ∙ ap (λ (t : List ℕ). a ++ t) (append_assoc b (replicate z 0) (replicate n 0) ∙ ap (λ (t : List ℕ). b ++ t) (replicate-append-replicate z n 0))
    ∙ sym (append_assoc a b (replicate (z + n) 0))
    ∙ ap (λ (t : List ℕ). t ++ replicate (z + n) 0) (sym (run-remove i cs))

-- the three parts after a cell was taken out
pub removed : (body front high low : List ℕ) (cs : List (List ℕ)) (count i place n : ℕ) → HasCell body cs count i place n
    → front ≡ closed place n (joined_cells cs ++ replicate (length body - used cs) 0)
    → high ≡ 0 ∷ 0 ∷ slots (64 + place) (drop (i + 1) cs) → low ≡ slots 64 (take i cs)
    → front ++ (high ++ low) ≡ page_body (length body) (remove cs i)
removed body front high low cs count i place n r f h l =
    let m = r.fits in
    let z = length body - used cs in
    let new = remove cs i in
    let f2 : front ≡ joined_cells new ++ replicate (z + n) 0 = f ∙ ap (λ (p : ℕ). closed p n (joined_cells cs ++ replicate z 0)) r.placed ∙ closed_run i z n cs r.within r.size in
    let at : 64 + place ≡ 64 + length (joined_cells (take i cs)) = ap (λ (p : ℕ). 64 + p) r.placed in
    let h2 : high ++ low ≡ 0 ∷ 0 ∷ slots 64 new = rw (h, l, at) (ap (λ (t : List ℕ). 0 ∷ 0 ∷ t) (sym (slots-remove 64 i cs))) in
    let fits = cell_fits body cs count i place n r in
    let ln : length (joined_cells new) + n ≡ length (joined_cells cs) =
    (let e = ap length (run-remove i cs) in let p = r.placed in omega (arith, fits.2, length-append (joined_cells (take i cs)) (joined_cells (drop (i + 1) cs)))) in
    let ct : length new + 1 ≡ length cs = length-remove cs i r.within in
    rw (f2, h2) (sym (body_parts (length body) (z + n) 2 new (omega arith)))
