-- What the lines that a reader gave out say of the whole script.
use Rattle.std.proofs.Common.{◌≡◌, ℕ, suc, ◌+◌, ◌-◌, ◌^◌, ◌<◌, ◌≤◌, true, false, not, List, [], ◌∷◌, ◌++◌, None, length, take, min, filter, refl, sym, ap, subst, ◌∙◌, arith, append_assoc, append-nil, length-append, nat_le}
use Rattle.std.specs.Str.Lines.{lines}
use Rattle.std.proofs.lemmas.Bool.{cond-true, cond-false, le-leb, lt-leb, and_left}
use Rattle.std.proofs.lemmas.List.{take_at}
use Rattle.std.proofs.lemmas.List.Elements.{filter-append}
use Rattle.std.proofs.lemmas.List.Sums.{sum_by-cons, sum_by-append}
use Rattle.mdb_model.specs.Runs.{TakenLine}
use Rattle.mdb_model.specs.Script.{is_skipped, is_empty_or_comment, past_blanks, script_lines, Reads, line_weight, most_lines}
use Rattle.mdb_model.specs.Headline.{ended_part, lines_within, lines_before_limit, answered_lines, AreRead}
use Rattle.script_lines.specs.Reading.{kept, weight_of, Reading, HasRead}
use Rattle.script_lines.proofs.ReadingSteps.{HasRead-lines}

-- The lines that are answered

-- at the end of the script all its lines are done
pub script_at_end : (bytes given left : List ℕ) (done : List (List ℕ)) → given ++ left ≡ bytes → left ≡ [] → lines given ≡ done → script_lines bytes ≡ kept done
script_at_end bytes given left done all none found = ap script_lines (sym all ∙ ap (λ bs. given ++ bs) none ∙ append-nil given) ∙ ap kept found

-- where the source failed, all lines that had ended are done
pub script_at_failure : (given : List ℕ) (done : List (List ℕ)) → lines (ended_part given) ≡ done → script_lines (ended_part given) ≡ kept done
script_at_failure given done found = ap kept found

kept-append : (done more : List (List ℕ)) → kept (done ++ more) ≡ kept done ++ kept more
kept-append done more = filter-append (λ line. not (is_skipped line)) done more

-- the lines done are the first ones
pub script_begins : (bytes : List ℕ) (done more : List (List ℕ)) → lines bytes ≡ done ++ more → take (length (kept done)) (script_lines bytes) ≡ kept done
script_begins bytes done more is = ap (λ ls. take (length (kept done)) (kept ls)) is ∙ ap (take (length (kept done))) (kept-append done more) ∙ take_at (kept done) (kept more) _ refl

pub script_begins-HasRead : (reader : Reading) (bytes given left : List ℕ) (done : List (List ℕ)) → HasRead reader given left done → given ++ left ≡ bytes → take (length (kept done)) (script_lines bytes) ≡ kept done
script_begins-HasRead reader bytes given left done h all = script_begins bytes done (lines (reader.rest ++ left)) (ap lines (sym all) ∙ HasRead-lines reader given left done h)

-- one more line
pub kept-skipped : (done : List (List ℕ)) (line : List ℕ) → is_skipped line ≡ true → kept (done ++ line ∷ []) ≡ kept done
kept-skipped done line skipped = kept-append done (line ∷ []) ∙ ap (λ ls. kept done ++ ls) (cond-false (not (is_skipped line)) (line ∷ []) [] (ap not skipped)) ∙ append-nil (kept done)

pub kept-answered : (done : List (List ℕ)) (line : List ℕ) → is_skipped line ≡ false → kept (done ++ line ∷ []) ≡ kept done ++ line ∷ []
kept-answered done line answered = kept-append done (line ∷ []) ∙ ap (λ ls. kept done ++ ls) (cond-true (not (is_skipped line)) (line ∷ []) [] (ap not answered))

-- a line that is too long is answered, and spells no command
pub too_long-answered : (line : List ℕ) → 8192 < length line → is_skipped line ≡ false
too_long-answered line long = and_left (nat_le (length line) 8192) (is_empty_or_comment (past_blanks line)) (lt-leb (length line) 8192 long)

pub too_long-Reads : (line : List ℕ) → 8192 < length line → Reads line None
too_long-Reads line long = λ command spells. omega (arith, spells.0)

-- The limit

pub weight-push : (done : List (List ℕ)) (line : List ℕ) → weight_of (done ++ line ∷ []) ≡ weight_of done + line_weight line
weight-push done line = omega (arith, sum_by-append line_weight done (line ∷ []), sum_by-cons line_weight line [])

-- a line that is kept counts as one
pub weight-text : (line : List ℕ) → length line ≤ 8192 → line_weight line ≡ 1
weight-text line short = omega arith

-- a weight that was capped: below the cap it is the weight, and past the limit the weight is past it too
pub weight-exact : (line : List ℕ) (weight : ℕ) → weight ≡ min (line_weight line) (2 ^ 32) → weight < 2 ^ 32 → line_weight line ≡ weight
weight-exact line weight is small = omega (arith, is, small)

pub weight-past : (line : List ℕ) (n weight : ℕ) → weight ≡ min (line_weight line) (2 ^ 32) → most_lines < n + weight → most_lines < n + line_weight line
weight-past line n weight is past = omega (arith, is, past)

within_limit : (before : List (List ℕ)) (line : List ℕ) (more : List (List ℕ)) (n : ℕ) → weight_of before ≤ n → n < weight_of before + line_weight line → lines_within n (before ++ line ∷ more) ≡ before
within_limit [] line more n low high = cond-false (nat_le (line_weight line) n) _ [] (lt-leb (line_weight line) n (omega (arith, high)))
within_limit (first ∷ before) line more n low high =
    let w : weight_of (first ∷ before) ≡ line_weight first + weight_of before = sum_by-cons line_weight first before in
    cond-true (nat_le (line_weight first) n) (first ∷ lines_within (n - line_weight first) (before ++ line ∷ more)) [] (le-leb (line_weight first) n (omega (arith, w, low)))
    ∙ ap (λ ls. first ∷ ls) (within_limit before line more (n - line_weight first) (omega (arith, w, low)) (omega (arith, w, low, high)))

-- the line that goes past the limit ends the lines before it
pub limit_before : (bytes : List ℕ) (before : List (List ℕ)) (line : List ℕ) (more : List (List ℕ)) → lines bytes ≡ (before ++ line ∷ []) ++ more
    → weight_of before ≤ most_lines → most_lines < weight_of before + line_weight line → lines_before_limit bytes ≡ before
limit_before bytes before line more is low high =
    ap (lines_within most_lines) (is ∙ append_assoc before (line ∷ []) more) ∙ within_limit before line more most_lines low high

pub limit_shorter : (bytes : List ℕ) (before : List (List ℕ)) (line : List ℕ) (more : List (List ℕ)) → lines bytes ≡ (before ++ line ∷ []) ++ more
    → weight_of before ≤ most_lines → most_lines < weight_of before + line_weight line → length (lines_before_limit bytes) < length (lines bytes)
limit_shorter bytes before line more is low high =
    omega (arith, ap length (limit_before bytes before line more is low high), ap length is, length-append (before ++ line ∷ []) more, length-append before (line ∷ []))

-- lines that count as no more than the limit are among those before it
within_first : (before more : List (List ℕ)) (n : ℕ) → weight_of before ≤ n
    → lines_within n (before ++ more) ≡ before ++ lines_within (n - weight_of before) more
within_first [] more n low = let same : n ≡ n - 0 = omega arith in ap (λ k. lines_within k more) same
within_first (first ∷ before) more n low =
    let w : weight_of (first ∷ before) ≡ line_weight first + weight_of before = sum_by-cons line_weight first before in
    let left : n - line_weight first - weight_of before ≡ n - weight_of (first ∷ before) = omega (arith, w) in
    cond-true (nat_le (line_weight first) n) (first ∷ lines_within (n - line_weight first) (before ++ more)) [] (le-leb (line_weight first) n (omega (arith, w, low)))
    ∙ ap (λ ls. first ∷ ls) (within_first before more (n - line_weight first) (omega (arith, w, low)))
    ∙ ap (λ k. first ∷ before ++ lines_within k more) left

answered_begins : (bytes : List ℕ) (done more : List (List ℕ)) → lines bytes ≡ done ++ more → weight_of done ≤ most_lines
    → take (length (kept done)) (answered_lines bytes) ≡ kept done
answered_begins bytes done more is low =
    ap (λ ls. take (length (kept done)) (kept (lines_within most_lines ls))) is
    ∙ ap (λ ls. take (length (kept done)) (kept ls)) (within_first done more most_lines low)
    ∙ ap (take (length (kept done))) (kept-append done (lines_within (most_lines - weight_of done) more))
    ∙ take_at (kept done) (kept (lines_within (most_lines - weight_of done) more)) _ refl

pub limit_answered : (bytes : List ℕ) (before : List (List ℕ)) (line : List ℕ) (more : List (List ℕ)) → lines bytes ≡ (before ++ line ∷ []) ++ more
    → weight_of before ≤ most_lines → most_lines < weight_of before + line_weight line → filter (λ l. not (is_skipped l)) (lines_before_limit bytes) ≡ kept before
limit_answered bytes before line more is low high = ap kept (limit_before bytes before line more is low high)

-- What the run has read

pub AreRead-push : (texts : List (List ℕ)) (run : List TakenLine) (text : List ℕ) (entry : TakenLine) → AreRead texts run → Reads text entry.line → AreRead (texts ++ text ∷ []) (run ++ entry ∷ [])
AreRead-push [] [] text entry h reads = (reads, tt)
AreRead-push [] (other ∷ run) text entry h reads = absurd h
AreRead-push (first ∷ texts) [] text entry h reads = absurd h
AreRead-push (first ∷ texts) (other ∷ run) text entry h reads = (h.0, AreRead-push texts run text entry h.1 reads)

pub AreRead-length : (texts : List (List ℕ)) (run : List TakenLine) → AreRead texts run → length run ≡ length texts
AreRead-length [] [] h = refl
AreRead-length [] (other ∷ run) h = absurd h
AreRead-length (first ∷ texts) [] h = absurd h
AreRead-length (first ∷ texts) (other ∷ run) h = ap suc (AreRead-length texts run h.1)

-- where the output failed: the lines that the run has read are the first ones before the limit
pub AreRead-begins : (bytes : List ℕ) (done more : List (List ℕ)) (run : List TakenLine) → lines bytes ≡ done ++ more → weight_of done ≤ most_lines
    → AreRead (kept done) run → AreRead (take (length run) (answered_lines bytes)) run
AreRead-begins bytes done more run is low h =
    subst (λ (texts : List (List ℕ)). AreRead texts run)
    (sym (ap (λ n. take n (answered_lines bytes)) (AreRead-length (kept done) run h) ∙ answered_begins bytes done more is low)) h
