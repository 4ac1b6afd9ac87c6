-- A part of a buffer that shrinks at its front and grows at its end.
use Rattle.std.proofs.Common.{◌≡◌, ℕ, ◌+◌, ◌-◌, ◌≤◌, List, [], ◌++◌, Option, Some, None, length, take, drop, refl, sym, ap, subst, ◌∙◌, arith, append_assoc}
use Rattle.std.specs.List.{copy_within}
use Rattle.std.proofs.Math.Seq.{take-append-add}
use Rattle.std.proofs.lemmas.List.{drop-drop, drop-take, drop-append-le, take-append-le, length-take-le, length-drop, take_at, take-append-drop, take_all, append-nil}
use Rattle.mdb_host.specs.Script.{TakesFrom}
use Rattle.script_lines.specs.Reading.{Pulls, GivesBytes}
use Rattle.std.proofs.lemmas.Slice.{between_is}

-- the first count bytes are taken off
pub window_skip : (items : List ℕ) (start end count : ℕ) → start + count ≤ end → take (end - (start + count)) (drop (start + count) items) ≡ drop count (take (end - start) (drop start items))
window_skip items start end count h =
    let m : count + (end - (start + count)) ≡ end - start = omega arith in
    ap (take (end - (start + count))) (sym (drop-drop count start items)) ∙ sym (drop-take count (end - (start + count)) (drop start items))
    ∙ ap (λ k. drop count (take k (drop start items))) m

-- n bytes are written after the part
pub window_grown : (items into behind : List ℕ) (start end n : ℕ) → start ≤ end → end ≤ length items → n ≤ length into
    → take (end + n - start) (drop start (take end items ++ (into ++ behind))) ≡ take (end - start) (drop start items) ++ take n into
window_grown items into behind start end n low high few =
    let l : length (take end items) ≡ end = length-take-le end items high in
    let a : drop start (take end items ++ (into ++ behind)) ≡ drop start (take end items) ++ (into ++ behind) = drop-append-le start (take end items) (into ++ behind) (omega arith) in
    let b : drop start (take end items) ≡ take (end - start) (drop start items) = sym (between_is items start end) in
    let front = take (end - start) (drop start items) in
    let s : length front ≡ end - start = length-take-le (end - start) (drop start items) (omega (arith, length-drop start items)) in
    let e : end + n - start ≡ length front + n = omega arith in
    ap (take (end + n - start)) (a ∙ ap (λ xs. xs ++ (into ++ behind)) b) ∙ ap (λ k. take k (front ++ (into ++ behind))) e
    ∙ take-append-add front (into ++ behind) n ∙ ap (λ xs. front ++ xs) (take-append-le n into behind few)

-- the part is moved, and n bytes are written after it
pub window_read : (old mid new into part : List ℕ) (start end at up n : ℕ) → take (end - start) (drop start old) ≡ part → take (end - start) (drop at mid) ≡ take (end - start) (drop start old)
    → at ≤ start → start ≤ end → up ≡ end - (start - at) → up ≤ length mid → new ≡ take up mid ++ into → n ≤ length into
    → take (up + n - at) (drop at new) ≡ part ++ take n into
window_read old mid new into part start end at up n seen same low high is room wrote few =
    let e : up - at ≡ end - start = omega arith in
    let w : new ≡ take up mid ++ (into ++ []) = wrote ∙ ap (λ xs. take up mid ++ xs) (sym (append-nil into)) in
    ap (λ xs. take (up + n - at) (drop at xs)) w ∙ window_grown mid into [] at up n (omega arith) room few
    ∙ ap (λ xs. xs ++ take n into) (ap (λ k. take k (drop at mid)) e ∙ same ∙ seen)

-- the part is moved, and nothing is written after it
pub window_kept : (old mid new into part : List ℕ) (start end at up : ℕ) → take (end - start) (drop start old) ≡ part → take (end - start) (drop at mid) ≡ take (end - start) (drop start old)
    → at ≤ start → start ≤ end → up ≡ end - (start - at) → up ≤ length mid → new ≡ take up mid ++ into
    → take (up - at) (drop at new) ≡ part
window_kept old mid new into part start end at up seen same low high is room wrote =
    let e : up - at ≡ up + 0 - at = omega arith in
    ap (λ k. take k (drop at new)) e ∙ window_read old mid new into part start end at up 0 seen same low high is room wrote (omega arith) ∙ append-nil part

-- the part is moved to the front
pub window_moved : (items : List ℕ) (start end : ℕ) → start ≤ end → end ≤ length items → take (end - start) (drop 0 (copy_within items start end 0)) ≡ take (end - start) (drop start items)
window_moved items start end low high =
    let l : length (drop start items) ≡ length items - start = length-drop start items in
    let front = take (end - start) (drop start items) in
    let s : length front ≡ end - start = length-take-le (end - start) (drop start items) (omega arith) in
    take_at front (drop (0 + (end - start)) items) (end - start) s

-- what n bytes that were taken are added to
pub Pulls-taken : (before after : Option (List ℕ)) (n : ℕ) (into old new : List ℕ) → TakesFrom before after n into → new ≡ old ++ take n into → Pulls before after old new
Pulls-taken None after n into old new h e = (take n into, e, h)
Pulls-taken (Some left) after n into old new h e =
    (take n into, e, (h.0, sym (take-append-drop n left) ∙ ap (λ xs. take n left ++ xs) (sym h.2.rest) ∙ ap (λ xs. xs ++ h.0) (sym h.2.taken), h.1))

pub GivesBytes-none : (before after : Option (List ℕ)) → after ≡ before → GivesBytes before after []
GivesBytes-none None after h = h
GivesBytes-none (Some left) after h = (left, refl, h)

pub GivesBytes-more : (a b c : Option (List ℕ)) (more next : List ℕ) → GivesBytes a b more → GivesBytes b c next → GivesBytes a c (more ++ next)
GivesBytes-more None b c more next h k = subst (λ (o : Option (List ℕ)). GivesBytes o c next) h k
GivesBytes-more (Some left) b c more next h k =
    let t : GivesBytes (Some h.0) c next = subst (λ (o : Option (List ℕ)). GivesBytes o c next) h.2 k in
    (t.0, h.1 ∙ ap (λ xs. more ++ xs) t.1 ∙ sym (append_assoc more next t.0), t.2)

pub Pulls-none : (before after : Option (List ℕ)) (old new : List ℕ) → after ≡ before → new ≡ old → Pulls before after old new
Pulls-none before after old new h e = ([], e ∙ sym (append-nil old), GivesBytes-none before after h)

pub Pulls-more : (a b c : Option (List ℕ)) (old mid new : List ℕ) → Pulls a b old mid → Pulls b c mid new → Pulls a c old new
Pulls-more a b c old mid new h k =
    (h.0 ++ k.0, k.1 ∙ ap (λ xs. xs ++ k.0) h.1 ∙ append_assoc old h.0 k.0, GivesBytes-more a b c h.0 k.0 h.2 k.2)

-- what stood before stands at the front
pub Pulls-front : (before after : Option (List ℕ)) (old new : List ℕ) → Pulls before after old new → take (length old) new ≡ old
Pulls-front before after old new h = ap (take (length old)) h.1 ∙ take_at old h.0 (length old) refl

pub Pulls-same : (before after : Option (List ℕ)) (old new : List ℕ) → Pulls before after old new → length new ≡ length old → new ≡ old
Pulls-same before after old new h e = sym (take_all (length old) new (omega arith)) ∙ Pulls-front before after old new h
