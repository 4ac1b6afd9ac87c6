-- Cells moved from one body to another.
--     cut_fits, split_parts, kept_cells, moved_cells      a body that is cut
--     cells_parts, cells_ends, appended      cells put after others
use Rattle.std.proofs.Common.{◌≡◌, ℕ, ◌+◌, ◌-◌, ◌*◌, ◌^◌, ◌<◌, ◌≤◌, List, ◌++◌, length, take, drop, refl, sym, ap, ◌∙◌, arith, length-append, append_assoc}
use Rattle.std.specs.Prelude.{replicate}
use Rattle.std.proofs.lemmas.List.{drop_at, take_at, length-drop, length-take, take-replicate, drop-replicate}
use Rattle.row_page.specs.Page.{joined_cells, slots, page_body, used, HasCut, HasCells}
use Rattle.row_page.proofs.Cells.{run-append, slots-append, length-slots}
use Rattle.row_page.proofs.Bodies.{length-zeros, run_split, slots_split}

-- the parts of a body that is cut stand one after the other
pub cut_fits : (body : List ℕ) (cs : List (List ℕ)) (count i place size : ℕ) → HasCut body cs count i place size
    → (place ≤ size) × (length (joined_cells (drop i cs)) ≡ size - place) × (size + 2 * count ≤ length body) × (i ≤ count) × (length (drop i cs) ≡ count - i) × (64 + length body < 2 ^ 16)
cut_fits body cs count i place size r =
    let e = ap length (run_split i cs) in
    let a = r.counted in
    let b = r.within in
    let c = r.placed in
    let d = r.sized in
    let f = r.fits in
    let l = length-append (joined_cells (take i cs)) (joined_cells (drop i cs)) in
    (omega arith, omega arith, omega arith, omega arith, omega (arith, length-drop i cs), r.short)

-- what is free of a body
zeros_left : ℕ → List (List ℕ) → List ℕ
zeros_left room cs = replicate (room - used cs) 0

-- a body that is cut, part by part
pub cut_shape : (body : List ℕ) (cs : List (List ℕ)) (count i place size : ℕ) → HasCut body cs count i place size
    → body ≡ joined_cells (take i cs) ++ ((joined_cells (drop i cs) ++ (replicate (length body - used cs) 0 ++ slots (64 + place) (drop i cs))) ++ slots 64 (take i cs))
unfolding page_body
cut_shape body cs count i place size r =
    let a = joined_cells (take i cs) in
    let b = joined_cells (drop i cs) in
    let z : List ℕ = replicate (length body - used cs) 0 in
    let h = slots (64 + place) (drop i cs) in
    let l = slots 64 (take i cs) in
    let s : slots 64 cs ≡ h ++ l = slots_split 64 i cs ∙ ap (λ (p : ℕ). slots (64 + p) (drop i cs) ++ l) (sym r.placed) in
    r.bytes ∙ ap (λ (t : List ℕ). t ++ (z ++ slots 64 cs)) (run_split i cs) ∙ ap (λ (t : List ℕ). (a ++ b) ++ (z ++ t)) s
    ∙ append_assoc a b (z ++ (h ++ l))
    ∙ ap (λ (t : List ℕ). a ++ t) (ap (λ (t : List ℕ). b ++ t) (sym (append_assoc z h l)) ∙ sym (append_assoc b (z ++ h) l))

-- the parts that the code cuts
pub split_parts : (body keep rest middle low cells moved : List ℕ) (cs : List (List ℕ)) (count i place size : ℕ) → HasCut body cs count i place size
    → keep ≡ take place body → rest ≡ drop place body → middle ≡ take (length body - place - 2 * i) rest → low ≡ drop (length body - place - 2 * i) rest
    → cells ≡ take (size - place) middle → moved ≡ drop (length body - place - 2 * i - 2 * (count - i)) middle
    → (keep ≡ joined_cells (take i cs)) × (low ≡ slots 64 (take i cs)) × (cells ≡ joined_cells (drop i cs)) × (moved ≡ slots (64 + place) (drop i cs)) × (length middle ≡ length body - place - 2 * i)
split_parts body keep rest middle low cells moved cs count i place size r ek er em el ec ev =
    let f = cut_fits body cs count i place size r in
    let a = joined_cells (take i cs) in
    let b = joined_cells (drop i cs) in
    let k = length body - used cs in
    let z : List ℕ = replicate k 0 in
    let h = slots (64 + place) (drop i cs) in
    let l = slots 64 (take i cs) in
    let shape = cut_shape body cs count i place size r in
    let la : length a ≡ place = sym r.placed in
    let c = r.counted in
    let d = r.sized in
    let lh : length h ≡ 2 * (count - i) = omega (arith, length-slots (64 + place) (drop i cs), f.4) in
    let w : k + (size + 2 * count) ≡ length body = (let g = r.fits in omega arith) in
    let lm : length (b ++ (z ++ h)) ≡ length body - place - 2 * i =
    omega (arith, length-append b (z ++ h), length-append z h, length-zeros k, f) in
    let keep_is : keep ≡ a = ek ∙ ap (take place) shape ∙ take_at a ((b ++ (z ++ h)) ++ l) place la in
    let rest_is : rest ≡ (b ++ (z ++ h)) ++ l = er ∙ ap (drop place) shape ∙ drop_at a ((b ++ (z ++ h)) ++ l) place la in
    let n = length body - place - 2 * i in
    let middle_is : middle ≡ b ++ (z ++ h) = em ∙ ap (take n) rest_is ∙ take_at (b ++ (z ++ h)) l n lm in
    let low_is : low ≡ l = el ∙ ap (drop n) rest_is ∙ drop_at (b ++ (z ++ h)) l n lm in
    let cells_is : cells ≡ b = ec ∙ ap (take (size - place)) middle_is ∙ take_at b (z ++ h) (size - place) f.1 in
    let lz : length (b ++ z) ≡ n - 2 * (count - i) = omega (arith, length-append b z, length-zeros k, f) in
    let moved_is : moved ≡ h =
    ev ∙ ap (drop (n - 2 * (count - i))) (middle_is ∙ sym (append_assoc b z h)) ∙ drop_at (b ++ z) h (n - 2 * (count - i)) lz in
    (keep_is, low_is, cells_is, moved_is, ap length middle_is ∙ lm)

-- what stays is the body of the first cells
pub kept_cells : (body keep low filled : List ℕ) (cs : List (List ℕ)) (count i place size : ℕ) → HasCut body cs count i place size
    → keep ≡ joined_cells (take i cs) → low ≡ slots 64 (take i cs) → filled ≡ replicate (length body - place - 2 * i) 0 → keep ++ (filled ++ low) ≡ page_body (length body) (take i cs)
unfolding page_body
kept_cells body keep low filled cs count i place size r k l f =
    let p = r.placed in
    let w = r.within in
    let n : length body - place - 2 * i ≡ length body - used (take i cs) = omega (arith, length-take i cs) in
    rw (k, l, f, n) refl

-- what was moved is the body of the last cells
pub moved_cells : (body other cells front back : List ℕ) (cs : List (List ℕ)) (count i place size : ℕ) → HasCut body cs count i place size
    → other ≡ replicate (length body) 0 → cells ≡ joined_cells (drop i cs) → front ≡ drop (size - place) (take (length body - 2 * (count - i)) other) → back ≡ slots 64 (drop i cs)
    → (cells ++ front) ++ back ≡ page_body (length body) (drop i cs)
unfolding page_body
moved_cells body other cells front back cs count i place size r o c f b =
    let g = cut_fits body cs count i place size r in
    let q = r.counted in
    let m = length body - 2 * (count - i) in
    let z : front ≡ replicate (m - (size - place)) 0 =
    f ∙ ap (λ (t : List ℕ). drop (size - place) (take m t)) o ∙ ap (drop (size - place)) (take-replicate m (length body) 0 (omega arith)) ∙ drop-replicate (size - place) m 0 in
    let n : m - (size - place) ≡ length body - used (drop i cs) = omega (arith, g) in
    append_assoc cells front back ∙ rw (c, b, z, n) refl

-- Cells put after others

-- a body of cells in three parts
pub cells_parts : (body rest middle low : List ℕ) (cs : List (List ℕ)) (count size : ℕ) → HasCells body cs count size
    → rest ≡ drop size body → middle ≡ take (length body - size - 2 * count) rest → low ≡ drop (length body - size - 2 * count) rest
    → (take size body ≡ joined_cells cs) × (middle ≡ replicate (length body - used cs) 0) × (low ≡ slots 64 cs)
unfolding page_body
cells_parts body rest middle low cs count size r er em el =
    let a = r.counted in
    let b = r.sized in
    let f = r.fits in
    let k = length body - used cs in
    let z : List ℕ = replicate k 0 in
    let n = length body - size - 2 * count in
    let l : length z ≡ n = omega (arith, length-zeros k) in
    let rest_is : rest ≡ z ++ slots 64 cs = er ∙ ap (drop size) r.bytes ∙ drop_at (joined_cells cs) (z ++ slots 64 cs) size (sym b) in (
      ap (take size) r.bytes ∙ take_at (joined_cells cs) (z ++ slots 64 cs) size (sym b),
      em ∙ ap (take n) rest_is ∙ take_at z (slots 64 cs) n l,
      el ∙ ap (drop n) rest_is ∙ drop_at z (slots 64 cs) n l,
    )

-- the cells at the front of a body, and the slots at its end
pub cells_ends : (body : List ℕ) (cs : List (List ℕ)) (count size : ℕ) → HasCells body cs count size → (take size body ≡ joined_cells cs) × (drop (length body - 2 * count) body ≡ slots 64 cs)
unfolding page_body
cells_ends body cs count size r =
    let a = r.counted in
    let b = r.sized in
    let f = r.fits in
    let k = length body - used cs in
    let z : List ℕ = replicate k 0 in
    let n = length body - 2 * count in
    let l : length (joined_cells cs ++ z) ≡ n = omega (arith, length-append (joined_cells cs) z, length-zeros k) in (
      ap (take size) r.bytes ∙ take_at (joined_cells cs) (z ++ slots 64 cs) size (sym b),
      ap (drop n) (r.bytes ∙ sym (append_assoc (joined_cells cs) z (slots 64 cs))) ∙ drop_at (joined_cells cs ++ z) (slots 64 cs) n l,
    )

-- the parts after cells were put after others
pub appended : (body first middle low cells front back : List ℕ) (cs ds : List (List ℕ)) (count size other_count other_size : ℕ) → HasCells body cs count size → other_count ≡ length ds → other_size ≡ length (joined_cells ds)
    → used cs + used ds ≤ length body → first ≡ joined_cells cs → middle ≡ replicate (length body - used cs) 0 → low ≡ slots 64 cs
    → cells ≡ joined_cells ds → front ≡ drop other_size (take (length body - size - 2 * count - 2 * other_count) middle) → back ≡ slots (64 + size) ds
    → first ++ (((cells ++ front) ++ back) ++ low) ≡ page_body (length body) (cs ++ ds)
unfolding page_body
appended body first middle low cells front back cs ds count size other_count other_size r oc os fits f m l c fr b =
    let a = r.counted in
    let s = r.sized in
    let k = length body - used cs in
    let n = length body - size - 2 * count - 2 * other_count in
    let z : front ≡ replicate (n - other_size) 0 =
    fr ∙ ap (λ (t : List ℕ). drop other_size (take n t)) m ∙ ap (drop other_size) (take-replicate n k 0 (omega arith)) ∙ drop-replicate other_size n 0 in
    let run_is = run-append cs ds in
    let u : used (cs ++ ds) ≡ used cs + used ds = (let e = ap length run_is in omega (arith, length-append (joined_cells cs) (joined_cells ds), length-append cs ds)) in
    let left : n - other_size ≡ length body - used (cs ++ ds) = omega arith in
    let st : 64 + size ≡ 64 + length (joined_cells cs) = ap (λ (t : ℕ). 64 + t) s in
    let slots_is : back ++ low ≡ slots 64 (cs ++ ds) = rw (b, l, st) (sym (slots-append 64 cs ds)) in
    ap (λ (t : List ℕ). first ++ t) (append_assoc (cells ++ front) back low ∙ append_assoc cells front (back ++ low))
    ∙ sym (append_assoc first cells (front ++ (back ++ low)))
    ∙ rw (f, c, slots_is, z, left, run_is) refl
