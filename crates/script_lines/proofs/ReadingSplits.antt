-- The lines of bytes that are joined.
use Rattle.std.proofs.Common.{◌≡◌, ℕ, ◌+◌, ◌-◌, ◌<◌, ◌≤◌, ◌⊎◌, List, [], ◌∷◌, ◌++◌, map, reverse, length, take, get_or, refl, sym, ap, subst, ◌∙◌, arith, append_assoc, append-nil, ⊎_elim, inl, inr, length-append, ◌==◌}
use Rattle.std.specs.List.{slice_split, onto_first}
use Rattle.std.specs.Str.Lines.{lines, lines_of_parts, strip_carriage_return}
use Rattle.std.proofs.lemmas.Bool.{eqb-true, cases_Bool, cond-true, cond-false, ne_eqb}
use Rattle.std.proofs.lemmas.List.{reverse-append, reverse-reverse, get_or-append-add, length-take}
use Rattle.std.proofs.lemmas.List.Elements.{All-append, All-head, All-tail, All-cons, All-nil}
use Rattle.std.proofs.lemmas.List.Splits.{slice_split-cons_yes, slice_split-cons_no, slice_split_none, length-slice_split}
use Rattle.std.proofs.Math.Seq.{take-append-add}
use Rattle.mdb_model.specs.Headline.{from_newline, ended_part}
use Rattle.script_lines.specs.Reading.{HasNoNewline}
use Rattle.script_lines.proofs.ReadingLines.{IsNoNewline}

-- the parts between the newlines
abbrev parts : List ℕ → List (List ℕ)
parts bytes = slice_split (λ b. b == 10) bytes

abbrev strip_all : List (List ℕ) → List (List ℕ)
strip_all pieces = map strip_carriage_return pieces

onto_first-append : (b : ℕ) (xs ys : List (List ℕ)) → 0 < length xs → onto_first b (xs ++ ys) ≡ onto_first b xs ++ ys
onto_first-append b [] ys l = absurd (omega arith)
onto_first-append b (x ∷ xs) ys l = refl

some_part : (bytes : List ℕ) → 0 < length (parts bytes)
some_part bytes = omega (arith, length-slice_split (λ b. b == 10) bytes)

-- a newline ends the parts before it
parts-append : (bytes more : List ℕ) → parts (bytes ++ 10 ∷ more) ≡ parts bytes ++ parts more
parts-append [] more = refl
parts-append (b ∷ bytes) more =
    ⊎_elim
    (λ is. slice_split-cons_yes (λ b. b == 10) b (bytes ++ 10 ∷ more) is ∙ ap (λ ps. [] ∷ ps) (parts-append bytes more)
    ∙ ap (λ ps. ps ++ parts more) (sym (slice_split-cons_yes (λ b. b == 10) b bytes is)))
    (λ none. slice_split-cons_no (λ b. b == 10) b (bytes ++ 10 ∷ more) none ∙ ap (onto_first b) (parts-append bytes more)
    ∙ onto_first-append b (parts bytes) (parts more) (some_part bytes)
    ∙ ap (λ ps. ps ++ parts more) (sym (slice_split-cons_no (λ b. b == 10) b bytes none)))
    (cases_Bool (b == 10))

-- only the last part is no line with an end
lines_of_parts-append : (xs ys : List (List ℕ)) → 0 < length ys → lines_of_parts (xs ++ ys) ≡ strip_all xs ++ lines_of_parts ys
lines_of_parts-append [] ys l = refl
lines_of_parts-append (x ∷ []) [] l = absurd (omega arith)
lines_of_parts-append (x ∷ []) (y ∷ ys) l = refl
lines_of_parts-append (x ∷ z ∷ xs) ys l = ap (λ ls. strip_carriage_return x ∷ ls) (lines_of_parts-append (z ∷ xs) ys l)

lines_at : (bytes more : List ℕ) → lines (bytes ++ 10 ∷ more) ≡ strip_all (parts bytes) ++ lines more
lines_at bytes more = ap lines_of_parts (parts-append bytes more) ∙ lines_of_parts-append (parts bytes) (parts more) (some_part more)

-- the line before the first newline
pub lines_first : (line more : List ℕ) → HasNoNewline line → lines (line ++ 10 ∷ more) ≡ strip_carriage_return line ∷ lines more
lines_first line more none = lines_at line more ∙ ap (λ ps. strip_all ps ++ lines more) (slice_split_none (λ b. b == 10) line none)

-- a last line without a newline
pub lines_last : (line : List ℕ) → HasNoNewline line → 0 < length line → lines line ≡ line ∷ []
lines_last [] none some = absurd (omega arith)
lines_last (b ∷ line) none some =
    ap lines_of_parts (slice_split_none (λ b. b == 10) (b ∷ line) none) ∙ cond-false (length (b ∷ line) == 0) [] ((b ∷ line) ∷ []) (ne_eqb (length (b ∷ line)) 0 (λ e. omega (arith, e, some)))

-- Bytes that end with a newline

from_newline-shorter : (bytes : List ℕ) → length (from_newline bytes) ≤ length bytes
from_newline-shorter [] = omega arith
from_newline-shorter (b ∷ bytes) =
    ⊎_elim
    (λ is. omega (arith, ap length (cond-true (b == 10) (b ∷ bytes) (from_newline bytes) is)))
    (λ none. omega (arith, ap length (cond-false (b == 10) (b ∷ bytes) (from_newline bytes) none), from_newline-shorter bytes))
    (cases_Bool (b == 10))

from_newline-whole : (bytes : List ℕ) → from_newline bytes ≡ bytes → (bytes ≡ []) ⊎ ((more : List ℕ) × (bytes ≡ 10 ∷ more))
from_newline-whole [] e = inl refl
from_newline-whole (b ∷ bytes) e =
    ⊎_elim
    (λ is. inr (bytes, ap (λ n. n ∷ bytes) (eqb-true b 10 is)))
    (λ none. absurd (omega (arith, ap length (sym (cond-false (b == 10) (b ∷ bytes) (from_newline bytes) none) ∙ e), from_newline-shorter bytes)))
    (cases_Bool (b == 10))

-- what ends with its last newline is empty, or ends with one
pub ended_cases : (bytes : List ℕ) → ended_part bytes ≡ bytes → (bytes ≡ []) ⊎ ((front : List ℕ) × (bytes ≡ front ++ 10 ∷ []))
ended_cases bytes e =
    let turned : from_newline (reverse bytes) ≡ reverse bytes = sym (reverse-reverse (from_newline (reverse bytes))) ∙ ap reverse e in
    ⊎_elim
    (λ none. inl (sym (reverse-reverse bytes) ∙ ap reverse none))
    (λ w. inr (reverse w.0, sym (reverse-reverse bytes) ∙ ap reverse w.1 ∙ reverse-append (10 ∷ []) w.0))
    (from_newline-whole (reverse bytes) turned)

pub ended_at : (front : List ℕ) → ended_part (front ++ 10 ∷ []) ≡ front ++ 10 ∷ []
ended_at front =
    ap (λ bs. reverse (from_newline bs)) (reverse-append front (10 ∷ [])) ∙ ap reverse (sym (reverse-append front (10 ∷ []))) ∙ reverse-reverse (front ++ 10 ∷ [])

-- the lines after an end
pub lines-append : (front more : List ℕ) → ended_part front ≡ front → lines (front ++ more) ≡ lines front ++ lines more
lines-append front more e =
    ⊎_elim
    (λ none. ap (λ bs. lines (bs ++ more)) none ∙ ap (λ bs. lines bs ++ lines more) (sym none))
    (λ w. ap (λ bs. lines (bs ++ more)) w.1 ∙ ap lines (append_assoc w.0 (10 ∷ []) more) ∙ lines_at w.0 more
    ∙ ap (λ ls. ls ++ lines more) (sym (append-nil (strip_all (parts w.0))) ∙ sym (lines_at w.0 []) ∙ ap lines (sym w.1)))
    (ended_cases front e)

from_newline-skip : (front more : List ℕ) → HasNoNewline front → from_newline (front ++ more) ≡ from_newline more
from_newline-skip [] more none = refl
from_newline-skip (b ∷ front) more none =
    cond-false (b == 10) (b ∷ (front ++ more)) (from_newline (front ++ more)) (All-head IsNoNewline b front none) ∙ from_newline-skip front more (All-tail IsNoNewline b front none)

reverse-no_newline : (bytes : List ℕ) → HasNoNewline bytes → HasNoNewline (reverse bytes)
reverse-no_newline [] none = All-nil IsNoNewline
reverse-no_newline (b ∷ bytes) none =
    subst HasNoNewline (sym (reverse-append (b ∷ []) bytes))
    (All-append IsNoNewline (reverse bytes) (b ∷ []) (reverse-no_newline bytes (All-tail IsNoNewline b bytes none)) (All-cons IsNoNewline b [] (All-head IsNoNewline b bytes none) (All-nil IsNoNewline)))

-- an unended rest is cut off
pub ended_before : (front rest : List ℕ) → ended_part front ≡ front → HasNoNewline rest → ended_part (front ++ rest) ≡ front
ended_before front rest e none =
    ap (λ bs. reverse (from_newline bs)) (reverse-append front rest) ∙ ap reverse (from_newline-skip (reverse rest) (reverse front) (reverse-no_newline rest none)) ∙ e

-- The carriage return before the end

last_of_append : (front line : List ℕ) → 0 < length line → get_or (front ++ line) (length (front ++ line) - 1) 0 ≡ get_or line (length line - 1) 0
last_of_append front line some =
    let at : length (front ++ line) - 1 ≡ length front + (length line - 1) = omega (arith, length-append front line) in
    ap (λ n. get_or (front ++ line) n 0) at ∙ get_or-append-add front line (length line - 1) 0

pub strip-append : (front line : List ℕ) → 0 < length line → strip_carriage_return (front ++ line) ≡ front ++ strip_carriage_return line
strip-append front line some =
    let at : length (front ++ line) - 1 ≡ length front + (length line - 1) = omega (arith, length-append front line) in
    let same : (get_or (front ++ line) (length (front ++ line) - 1) 0 == 13) ≡ (get_or line (length line - 1) 0 == 13) = ap (λ b. b == 13) (last_of_append front line some) in
    ⊎_elim
    (λ is. cond-true _ _ _ (same ∙ is) ∙ ap (λ n. take n (front ++ line)) at ∙ take-append-add front line (length line - 1) ∙ ap (λ xs. front ++ xs) (sym (cond-true _ _ _ is)))
    (λ none. cond-false _ _ _ (same ∙ none) ∙ ap (λ xs. front ++ xs) (sym (cond-false _ _ _ none)))
    (cases_Bool (get_or line (length line - 1) 0 == 13))

pub strip-length : (line : List ℕ) → (length line ≤ length (strip_carriage_return line) + 1) × (length (strip_carriage_return line) ≤ length line)
strip-length line =
    ⊎_elim
    (λ is. let l = ap length (cond-true (get_or line (length line - 1) 0 == 13) (take (length line - 1) line) line is) in (omega (arith, l, length-take (length line - 1) line), omega (arith, l, length-take (length line - 1) line)))
    (λ none. let l = ap length (cond-false (get_or line (length line - 1) 0 == 13) (take (length line - 1) line) line none) in (omega (arith, l), omega (arith, l)))
    (cases_Bool (get_or line (length line - 1) 0 == 13))

-- The first line, whatever follows

split_or_none : (bytes : List ℕ) → ((front : List ℕ) × (more : List ℕ) × (bytes ≡ front ++ 10 ∷ more) × HasNoNewline front) ⊎ HasNoNewline bytes
split_or_none [] = inr (All-nil IsNoNewline)
split_or_none (b ∷ bytes) =
    ⊎_elim
    (λ is. inl ([], bytes, ap (λ n. n ∷ bytes) (eqb-true b 10 is), All-nil IsNoNewline))
    (λ none. ⊎_elim
    (λ w. inl (b ∷ w.0, w.1, ap (λ bs. b ∷ bs) w.2, All-cons IsNoNewline b w.0 none w.3))
    (λ rest. inr (All-cons IsNoNewline b bytes none rest))
    (split_or_none bytes))
    (cases_Bool (b == 10))

-- a line that begins with these bytes
pub lines_begin : (begin more : List ℕ) → HasNoNewline begin → 0 < length begin
    → (line : List ℕ) × (others : List (List ℕ)) × (lines (begin ++ more) ≡ line ∷ others) × (length begin ≤ length line + 1)
lines_begin begin more none some =
    ⊎_elim
    (λ w. (
      strip_carriage_return (begin ++ w.0),
      lines w.1,
      ap (λ bs. lines (begin ++ bs)) w.2 ∙ ap lines (sym (append_assoc begin w.0 (10 ∷ w.1))) ∙ lines_first (begin ++ w.0) w.1 (All-append IsNoNewline begin w.0 none w.3),
      omega (arith, length-append begin w.0, (strip-length (begin ++ w.0)).0),
    ))
    (λ rest. (
      begin ++ more,
      [],
      lines_last (begin ++ more) (All-append IsNoNewline begin more none rest) (omega (arith, length-append begin more)),
      omega (arith, length-append begin more),
    ))
    (split_or_none more)
