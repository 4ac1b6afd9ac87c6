-- Laws of runs and slots.
--     run-append, slots-append, run_more, slot_split      runs and slots in parts
--     move_step, slots_all, slots_start      slots that are moved one after the other
use Rattle.std.proofs.Common.{◌≡◌, ℕ, ◌+◌, ◌-◌, ◌*◌, ◌%◌, ◌^◌, ◌<◌, ◌≤◌, List, [], ◌∷◌, ◌++◌, length, take, drop, get_or, refl, sym, ap, ◌∙◌, arith, length-append, append_assoc}
use Rattle.std.proofs.lemmas.List.{append-nil, drop_at, take_at, drop_more, take_more, take_all, drop_all, take-append-drop, length-drop}
use Rattle.byteorder.specs.Endian.{big_bytes, big_number}
use Rattle.byteorder.specs.Numbers.{big_number-reads_back}
use Rattle.mdb_bytes.specs.Fields.{number_at}
use Rattle.row_page.specs.Page.{joined_cells, slots, written_at}

-- the run of two lists of cells
pub run-append : (xs ys : List (List ℕ)) → joined_cells (xs ++ ys) ≡ joined_cells xs ++ joined_cells ys
unfolding joined_cells
run-append [] ys = refl
run-append (x ∷ xs) ys = ap (λ (t : List ℕ). x ++ t) (run-append xs ys) ∙ sym (append_assoc x (joined_cells xs) (joined_cells ys))

-- two bytes for each slot
pub length-slots : (at : ℕ) (cs : List (List ℕ)) → length (slots at cs) ≡ 2 * length cs
unfolding slots
length-slots at [] = refl
length-slots at (c ∷ cs) = let i = length-slots (at + length c) cs in omega (arith, length-append (slots (at + length c) cs) (big_bytes 2 at))

-- the slots of two lists of cells, those of the second in front
pub slots-append : (at : ℕ) (xs ys : List (List ℕ)) → slots at (xs ++ ys) ≡ slots (at + length (joined_cells xs)) ys ++ slots at xs
unfolding slots joined_cells
slots-append at [] ys = let z : at ≡ at + 0 = omega arith in sym (append-nil (slots at ys)) ∙ ap (λ (m : ℕ). slots m ys ++ []) z
slots-append at (x ∷ xs) ys =
    let i = slots-append (at + length x) xs ys in
    let n : (at + length x) + length (joined_cells xs) ≡ at + length (x ++ joined_cells xs) = omega (arith, length-append x (joined_cells xs)) in
    ap (λ (t : List ℕ). t ++ big_bytes 2 at) (i ∙ ap (λ (m : ℕ). slots m ys ++ slots (at + length x) xs) n)
    ∙ append_assoc (slots (at + length (x ++ joined_cells xs)) ys) (slots (at + length x) xs) (big_bytes 2 at)

-- a part of the run is no longer than it
pub within_run : (k : ℕ) (cs : List (List ℕ)) → length (joined_cells (take k cs)) ≤ length (joined_cells cs)
within_run k cs =
    let e = ap joined_cells (take-append-drop k cs) in
    let l = ap length (run-append (take k cs) (drop k cs)) in
    let m = ap length e in
    omega (arith, length-append (joined_cells (take k cs)) (joined_cells (drop k cs)))

-- what follows a part of known length is overwritten
pub over_at : (n : ℕ) (x old new y : List ℕ) → length x ≡ n → length new ≡ length old → written_at n new (x ++ (old ++ y)) ≡ x ++ (new ++ y)
over_at n x old new y lx same =
    let whole : x ++ (old ++ y) ≡ (x ++ old) ++ y = sym (append_assoc x old y) in
    let l : length (x ++ old) ≡ n + length new = omega (arith, length-append x old) in
    rw (take_at x (old ++ y) n lx, ap (drop (n + length new)) whole ∙ drop_at (x ++ old) y (n + length new) l) refl

-- a number of two bytes after a part of known length
pub two_behind : (n a : ℕ) (x y : List ℕ) → length x ≡ n → a < 2 ^ 16 → number_at 2 n (x ++ (big_bytes 2 a ++ y)) ≡ a
unfolding number_at
two_behind n a x y lx small = ap (big_number 2) (drop_at x (big_bytes 2 a ++ y) n lx) ∙ big_number-reads_back 2 a y small

-- the run of one cell
pub run_one : (c : List ℕ) → joined_cells (c ∷ []) ≡ c
unfolding joined_cells
run_one c = append-nil c

-- the run up to the next cell
pub run_more : (k : ℕ) (cs : List (List ℕ)) → k < length cs → joined_cells (take (k + 1) cs) ≡ joined_cells (take k cs) ++ get_or cs k []
run_more k cs lt = ap joined_cells (take_more cs k [] lt) ∙ run-append (take k cs) (get_or cs k [] ∷ []) ∙ ap (λ (t : List ℕ). joined_cells (take k cs) ++ t) (run_one (get_or cs k []))

-- where the next cell begins
next_start : (at k : ℕ) (cs : List (List ℕ)) → k < length cs → (at + length (joined_cells (take k cs))) + length (get_or cs k []) ≡ at + length (joined_cells (take (k + 1) cs))
next_start at k cs lt = let e = ap length (run_more k cs lt) in omega (arith, length-append (joined_cells (take k cs)) (get_or cs k []))

-- the slot of one cell
one_slot : (at : ℕ) (c : List ℕ) → slots at (c ∷ []) ≡ big_bytes 2 at
unfolding slots
one_slot at c = refl

-- the slots up to the next cell
pub one_more : (at k : ℕ) (cs : List (List ℕ)) → k < length cs → slots at (take (k + 1) cs) ≡ big_bytes 2 (at + length (joined_cells (take k cs))) ++ slots at (take k cs)
one_more at k cs lt =
    ap (slots at) (take_more cs k [] lt) ∙ slots-append at (take k cs) (get_or cs k [] ∷ []) ∙ ap (λ (t : List ℕ). t ++ slots at (take k cs)) (one_slot (at + length (joined_cells (take k cs))) (get_or cs k []))

-- the slots from cell k on end with its own
pub slot_split : (at k : ℕ) (cs : List (List ℕ)) → k < length cs
    → slots at (drop k cs) ≡ slots (at + length (get_or cs k [])) (drop (k + 1) cs) ++ big_bytes 2 at
unfolding slots
slot_split at k cs lt = ap (slots at) (drop_more cs k [] lt)

-- the slots of which some have moved
slot_shape : (from to k place : ℕ) (cs : List (List ℕ)) (part : List ℕ) → k < length cs
    → part ≡ slots (from + length (joined_cells (take k cs))) (drop k cs) ++ slots to (take k cs)
    → part ≡ slots (from + length (joined_cells (take (k + 1) cs))) (drop (k + 1) cs) ++ (big_bytes 2 (from + length (joined_cells (take k cs))) ++ slots to (take k cs))
slot_shape from to k place cs part lt e =
    let a = from + length (joined_cells (take k cs)) in
    let b : a + length (get_or cs k []) ≡ from + length (joined_cells (take (k + 1) cs)) = next_start from k cs lt in
    e ∙ ap (λ (t : List ℕ). t ++ slots to (take k cs)) (slot_split a k cs lt ∙ ap (λ (n : ℕ). slots n (drop (k + 1) cs) ++ big_bytes 2 a) b)
    ∙ append_assoc (slots (from + length (joined_cells (take (k + 1) cs))) (drop (k + 1) cs)) (big_bytes 2 a) (slots to (take k cs))

-- what the next slot to move holds
slot_read : (from to k place : ℕ) (cs : List (List ℕ)) (part : List ℕ) → k < length cs
    → part ≡ slots (from + length (joined_cells (take k cs))) (drop k cs) ++ slots to (take k cs) → from + length (joined_cells cs) < 2 ^ 16
    → place ≡ 2 * (length cs - k - 1)
    → number_at 2 place part ≡ from + length (joined_cells (take k cs))
slot_read from to k place cs part lt e fits p =
    let a = from + length (joined_cells (take k cs)) in
    let x = slots (from + length (joined_cells (take (k + 1) cs))) (drop (k + 1) cs) in
    let lx : length x ≡ place = omega (arith, length-slots (from + length (joined_cells (take (k + 1) cs))) (drop (k + 1) cs), length-drop (k + 1) cs) in
    let small : a < 2 ^ 16 = omega (arith, within_run k cs) in
    ap (number_at 2 place) (slot_shape from to k place cs part lt e) ∙ two_behind place a x (slots to (take k cs)) lx small

-- one more slot has moved
slot_moved : (from to k place : ℕ) (cs : List (List ℕ)) (part : List ℕ) → k < length cs
    → part ≡ slots (from + length (joined_cells (take k cs))) (drop k cs) ++ slots to (take k cs)
    → place ≡ 2 * (length cs - k - 1)
    → written_at place (big_bytes 2 (to + length (joined_cells (take k cs)))) part
    ≡ slots (from + length (joined_cells (take (k + 1) cs))) (drop (k + 1) cs) ++ slots to (take (k + 1) cs)
slot_moved from to k place cs part lt e p =
    let a = from + length (joined_cells (take k cs)) in
    let b = to + length (joined_cells (take k cs)) in
    let x = slots (from + length (joined_cells (take (k + 1) cs))) (drop (k + 1) cs) in
    let y = slots to (take k cs) in
    let lx : length x ≡ place = omega (arith, length-slots (from + length (joined_cells (take (k + 1) cs))) (drop (k + 1) cs), length-drop (k + 1) cs) in
    ap (written_at place (big_bytes 2 b)) (slot_shape from to k place cs part lt e) ∙ over_at place x (big_bytes 2 a) (big_bytes 2 b) y lx refl
    ∙ ap (λ (t : List ℕ). x ++ t) (sym (one_more to k cs lt))

-- a number that moves by the way from one place to another, and wraps
moved_number : (from to n : ℕ) → from + n < 2 ^ 16 → to + n < 2 ^ 16 → (from + n + (to + (2 ^ 16 - from)) % 2 ^ 16) % 2 ^ 16 ≡ to + n
moved_number from to n p q = omega arith

-- a step of the move
pub move_step : (from to k place old moved : ℕ) (cs : List (List ℕ)) (part new : List ℕ) → old ≡ number_at 2 place part
    → moved ≡ (old + (to + (2 ^ 16 - from)) % 2 ^ 16) % 2 ^ 16 → new ≡ written_at place (big_bytes 2 moved) part
    → k < length cs → place ≡ 2 * (length cs - k - 1)
    → part ≡ slots (from + length (joined_cells (take k cs))) (drop k cs) ++ slots to (take k cs) → from + length (joined_cells cs) < 2 ^ 16 → to + length (joined_cells cs) < 2 ^ 16
    → new ≡ slots (from + length (joined_cells (take (k + 1) cs))) (drop (k + 1) cs) ++ slots to (take (k + 1) cs)
move_step from to k place old moved cs part new read by is lt p e fits fits2 =
    let r = slot_read from to k place cs part lt e fits p in
    let w = within_run k cs in
    let v : moved ≡ to + length (joined_cells (take k cs)) =
    by ∙ ap (λ (n : ℕ). (n + (to + (2 ^ 16 - from)) % 2 ^ 16) % 2 ^ 16) (read ∙ r) ∙ moved_number from to (length (joined_cells (take k cs))) (omega arith) (omega arith) in
    is ∙ ap (λ (n : ℕ). written_at place (big_bytes 2 n) part) v ∙ slot_moved from to k place cs part lt e p

-- all slots have moved
pub slots_all : (from to k : ℕ) (cs : List (List ℕ)) → length cs ≤ k → slots (from + length (joined_cells (take k cs))) (drop k cs) ++ slots to (take k cs) ≡ slots to cs
unfolding slots
slots_all from to k cs le = rw (drop_all k cs le, take_all k cs le) refl

-- no slot has moved
pub slots_start : (from to : ℕ) (cs : List (List ℕ)) → slots from cs ≡ slots (from + length (joined_cells (take 0 cs))) (drop 0 cs) ++ slots to (take 0 cs)
unfolding slots joined_cells
slots_start from to cs = let z : from ≡ from + 0 = omega arith in sym (append-nil (slots from cs)) ∙ ap (λ (m : ℕ). slots m cs ++ []) z
