-- One step of a reader.
use Rattle.std.proofs.Common.{◌≡◌, ℕ, zero, suc, ◌+◌, ◌^◌, ◌<◌, ◌≤◌, ◌⊎◌, true, false, List, [], ◌∷◌, ◌++◌, Option, Some, IfSome, length, take, drop, get_or, min, max, refl, sym, ap, subst, ◌∙◌, arith, append_assoc, append-nil, ⊎_elim, length-append, ◌==◌}
use Rattle.std.specs.Str.Lines.{lines, strip_carriage_return}
use Rattle.std.proofs.lemmas.Bool.{cases_Bool, both_ways}
use Rattle.std.proofs.lemmas.List.{drop_more, drop_all, take_all, take-append-drop, get_or-take, length-take-le, nil_from_length}
use Rattle.std.proofs.lemmas.List.Elements.{All-append}
use Rattle.mdb_model.specs.Space.{ceil_div}
use Rattle.mdb_model.specs.Headline.{ended_part}
use Rattle.script_lines.specs.declared.lines.Found.{Found}
use Rattle.script_lines.specs.declared.lines.LineKind.{LineKind}
use Rattle.script_lines.specs.declared.lines.LineKind.TheVariants.{Text, TooLong, End}
use Rattle.script_lines.specs.declared.lines.Scanned.{Scanned}
use Rattle.script_lines.specs.declared.lines.Scanned.TheVariants.{Newline, AtEnd, Unended}
use Rattle.script_lines.specs.Reading.{Reading, HasRead, GivesBytes, Drops, PullsNoNewline, FindsNextLine, IsNewlineScanned, IsLineFound, IsKind, HasNoNewline}
use Rattle.script_lines.proofs.ReadingLines.{IsNoNewline}
use Rattle.script_lines.proofs.ReadingSplits.{lines_first, lines_last, lines_begin, lines-append, ended_at, ended_before, strip-append}

-- what was done and what is to come are all lines
pub HasRead-lines : (reader : Reading) (given left : List ℕ) (done : List (List ℕ)) → HasRead reader given left done → lines (given ++ left) ≡ done ++ lines (reader.rest ++ left)
HasRead-lines reader given left done h =
    let e : given ++ left ≡ h.first ++ (reader.rest ++ left) = ap (λ xs. xs ++ left) h.bytes ∙ append_assoc h.first reader.rest left in
    ⊎_elim
    (λ ended. let w = h.last ended in
    let none : reader.rest ++ left ≡ [] = ap (λ xs. xs ++ left) w.0 ∙ w.1 in
    ap lines (e ∙ ap (λ xs. h.first ++ xs) none ∙ append-nil h.first) ∙ h.found ∙ sym (append-nil done) ∙ ap (λ xs. done ++ lines xs) (sym none))
    (λ goes. ap lines e ∙ lines-append h.first (reader.rest ++ left) (h.whole goes) ∙ ap (λ ls. ls ++ lines (reader.rest ++ left)) h.found)
    (cases_Bool reader.at_end)

-- a line with an end was found after the first bytes
HasRead-line : (reader : Reading) (first raw given left : List ℕ) (done : List (List ℕ)) → reader.at_end ≡ false → ended_part first ≡ first → lines first ≡ done → HasNoNewline raw
    → given ≡ first ++ (raw ++ 10 ∷ reader.rest) → HasRead reader given left (done ++ strip_carriage_return raw ∷ [])
HasRead-line reader first raw given left done goes whole found none is =
    record {
      first = (first ++ raw) ++ 10 ∷ [];
      bytes = is ∙ sym (append_assoc (first ++ raw) (10 ∷ []) reader.rest ∙ append_assoc first raw (10 ∷ reader.rest));
      found = ap lines (append_assoc first raw (10 ∷ [])) ∙ lines-append first (raw ++ 10 ∷ []) whole ∙ ap (λ ls. ls ++ lines (raw ++ 10 ∷ [])) found
          ∙ ap (λ ls. done ++ ls) (lines_first raw [] none);
      whole = λ _. ended_at (first ++ raw);
      last = λ ended. absurd (both_ways reader.at_end goes ended);
    }

-- a line without an end was found after the first bytes
HasRead-last : (reader : Reading) (first raw given left : List ℕ) (done : List (List ℕ)) → reader.at_end ≡ true → reader.rest ≡ [] → left ≡ [] → ended_part first ≡ first → lines first ≡ done → HasNoNewline raw
    → 0 < length raw → given ≡ first ++ raw → HasRead reader given left (done ++ raw ∷ [])
HasRead-last reader first raw given left done ended rest none_left whole found none some is =
    record {
      first = first ++ raw;
      bytes = is ∙ sym (append-nil (first ++ raw)) ∙ ap (λ bs. (first ++ raw) ++ bs) (sym rest);
      found = lines-append first raw whole ∙ ap (λ ls. ls ++ lines raw) found ∙ ap (λ ls. done ++ ls) (lines_last raw none some);
      whole = λ goes. absurd (both_ways reader.at_end goes ended);
      last = λ _. (rest, none_left);
    }

-- nothing was found after the first bytes
HasRead-end : (reader : Reading) (first given left : List ℕ) (done : List (List ℕ)) → reader.at_end ≡ true → reader.rest ≡ [] → left ≡ [] → lines first ≡ done → given ≡ first → HasRead reader given left done
HasRead-end reader first given left done ended rest none_left found is =
    record {
      first = first;
      bytes = is ∙ sym (append-nil first) ∙ ap (λ bs. first ++ bs) (sym rest);
      found = found;
      whole = λ goes. absurd (both_ways reader.at_end goes ended);
      last = λ _. (rest, none_left);
    }

-- a line of this length was found
FindsNextLine-line : (kind : LineKind) (count : ℕ) (reader : Reading) (given left : List ℕ) (done : List (List ℕ)) (line : List ℕ) → IsKind count kind → length line ≡ count → (count ≤ 8192 → line ≡ reader.text)
    → HasRead reader given left (done ++ line ∷ []) → FindsNextLine kind reader given left done
FindsNextLine-line Text count reader given left done line is long same h =
    (omega (arith, is, ap length (same is), long), subst (λ (text : List ℕ). HasRead reader given left (done ++ text ∷ [])) (same is) h)
FindsNextLine-line (TooLong weight) count reader given left done line is long same h = (
  line,
  omega (arith, is.0, long),
  is.1 ∙ ap (λ n. min (max 1 (ceil_div n 8192)) (2 ^ 32)) (sym long),
  (lines (reader.rest ++ left), HasRead-lines reader given left (done ++ line ∷ []) h),
  λ _. h,
)
FindsNextLine-line End count reader given left done line is long same h = absurd is

-- what was dropped before a line that is kept
nothing_dropped : (dropped held : List ℕ) (count : ℕ) → length dropped ≡ count → (count ≡ 0) ⊎ ((8193 ≤ count) × (0 < length held) × HasNoNewline (take 1 held)) → count ≤ 8192 → dropped ≡ []
nothing_dropped dropped held count long cases few = ⊎_elim (λ e. nil_from_length dropped (long ∙ e)) (λ w. absurd (omega (arith, w.0))) cases

-- an LF does not stand at the front
some_before : (held : List ℕ) (place : ℕ) → 0 < length held → HasNoNewline (take 1 held) → place < length held → get_or held place 0 ≡ 10 → 0 < length (take place held)
some_before held zero some none within newline =
    let first : get_or (take 1 held) 0 0 ≡ 10 = get_or-take 1 held 0 0 (omega arith) ∙ newline in
    absurd (both_ways (get_or (take 1 held) 0 0 == 10) (none 0 0 (omega (arith, length-take-le 1 held (omega arith)))) (ap (λ b. b == 10) first))
some_before held (suc place) some none within newline = omega (arith, length-take-le (suc place) held (omega arith))

-- a line that ends with an LF, of which the first bytes may have been dropped
line_parts : (dropped held : List ℕ) (count place text : ℕ) → length dropped ≡ count → (count ≡ 0) ⊎ ((8193 ≤ count) × (0 < length held) × HasNoNewline (take 1 held))
    → place < length held → get_or held place 0 ≡ 10 → take text held ≡ strip_carriage_return (take place held) → strip_carriage_return (dropped ++ take place held) ≡ dropped ++ take text held
line_parts dropped held count place text long cases within newline is =
    ⊎_elim
    (λ e. let none = nil_from_length dropped (long ∙ e) in
    ap (λ bs. strip_carriage_return (bs ++ take place held)) none ∙ sym is ∙ ap (λ bs. bs ++ take text held) (sym none))
    (λ w. strip-append dropped (take place held) (some_before held place w.1 w.2 within newline) ∙ ap (λ bs. dropped ++ bs) (sym is))
    cases

FindsNextLine-newline : (reader : Reading) (first dropped held given left : List ℕ) (done : List (List ℕ)) (count place : ℕ) (found : Found) → ended_part first ≡ first → lines first ≡ done
    → given ≡ first ++ (dropped ++ held) → length dropped ≡ count → HasNoNewline dropped → (count ≡ 0) ⊎ ((8193 ≤ count) × (0 < length held) × HasNoNewline (take 1 held))
    → IsNewlineScanned held (Newline place) → IsLineFound held count (Newline place) found → reader ≡ record { rest = drop found.taken held; text = take found.text held; at_end = found.at_end }
    → FindsNextLine found.kind reader given left done
FindsNextLine-newline reader first dropped held given left done count place found whole lines_are is long none cases scanned made seen =
    let taken : reader.rest ≡ drop (place + 1) held = ap (λ (r : Reading). r.rest) seen ∙ ap (λ n. drop n held) made.2 in
    let cut : held ≡ take place held ++ 10 ∷ reader.rest =
    sym (take-append-drop place held) ∙ ap (λ bs. take place held ++ bs) (drop_more held place 0 scanned.0 ∙ ap (λ b. b ∷ drop (place + 1) held) scanned.2 ∙ ap (λ bs. 10 ∷ bs) (sym taken)) in
    let parts = line_parts dropped held count place found.text long cases scanned.0 scanned.2 made.0 in
    let raw = dropped ++ take place held in
    FindsNextLine-line found.kind (count + found.text) reader given left done (strip_carriage_return raw) made.4
    (ap length parts ∙ length-append dropped (take found.text held) ∙ omega (arith, long, length-take-le found.text held (omega (arith, made.1, scanned.0))))
    (λ few. parts ∙ ap (λ bs. bs ++ take found.text held) (nothing_dropped dropped held count long cases (omega arith)) ∙ sym (ap (λ (r : Reading). r.text) seen))
    (HasRead-line reader first raw given left done (ap (λ (r : Reading). r.at_end) seen ∙ made.3) whole lines_are
    (All-append IsNoNewline dropped (take place held) none scanned.1)
    (is ∙ ap (λ bs. first ++ (dropped ++ bs)) cut ∙ ap (λ bs. first ++ bs) (sym (append_assoc dropped (take place held) (10 ∷ reader.rest)))))

FindsNextLine-at_end : (reader : Reading) (first dropped held given left : List ℕ) (done : List (List ℕ)) (count : ℕ) (found : Found) → ended_part first ≡ first → lines first ≡ done
    → given ≡ first ++ (dropped ++ held) → left ≡ [] → length dropped ≡ count → HasNoNewline dropped → (count ≡ 0) ⊎ ((8193 ≤ count) × (0 < length held) × HasNoNewline (take 1 held))
    → HasNoNewline held → IsLineFound held count AtEnd found → reader ≡ record { rest = drop found.taken held; text = take found.text held; at_end = found.at_end }
    → FindsNextLine found.kind reader given left done
FindsNextLine-at_end reader first dropped held given left done count found whole lines_are is none_left long none cases scanned made seen =
    let rest : reader.rest ≡ [] = ap (λ (r : Reading). r.rest) seen ∙ drop_all found.taken held (omega (arith, made.1)) in
    let ended : reader.at_end ≡ true = ap (λ (r : Reading). r.at_end) seen ∙ made.2 in
    let text : reader.text ≡ held = ap (λ (r : Reading). r.text) seen ∙ take_all found.text held (omega (arith, made.0)) in
    let raw = dropped ++ held in
    let l : length raw ≡ count + found.text = length-append dropped held ∙ omega (arith, long, made.0) in
    ⊎_elim
    (λ w. let empty : raw ≡ [] = nil_from_length raw (l ∙ w.0) in
    let all : given ≡ first = is ∙ ap (λ bs. first ++ bs) empty ∙ append-nil first in
    subst (λ (kind : LineKind). FindsNextLine kind reader given left done) (sym w.1) (none_left, ap lines all ∙ lines_are, HasRead-end reader first given left done ended rest none_left lines_are all))
    (λ w. FindsNextLine-line found.kind (count + found.text) reader given left done raw w.1 l
    (λ few. ap (λ bs. bs ++ held) (nothing_dropped dropped held count long cases (omega arith)) ∙ sym text)
    (HasRead-last reader first raw given left done ended rest none_left whole lines_are (All-append IsNoNewline dropped held none scanned) (omega (arith, l, w.0)) is))
    made.3

-- so long a line counts as the most lines
most_weight : (n : ℕ) → 35184372088832 ≤ n → 2 ^ 32 ≡ min (max 1 (ceil_div n 8192)) (2 ^ 32)
most_weight n many = omega arith

held_some : (held : List ℕ) (count : ℕ) → 2 ^ 45 ≤ count → (count ≡ 0) ⊎ ((8193 ≤ count) × (0 < length held) × HasNoNewline (take 1 held)) → 0 < length held
held_some held count many cases = ⊎_elim (λ e. absurd (omega (arith, e, many))) (λ w. w.1) cases

FindsNextLine-unended : (reader : Reading) (first dropped held given left : List ℕ) (done : List (List ℕ)) (count : ℕ) (found : Found) → ended_part first ≡ first → lines first ≡ done
    → given ≡ first ++ (dropped ++ held) → length dropped ≡ count → HasNoNewline dropped → 2 ^ 45 ≤ count → (count ≡ 0) ⊎ ((8193 ≤ count) × (0 < length held) × HasNoNewline (take 1 held))
    → HasNoNewline held → IsLineFound held count Unended found → FindsNextLine found.kind reader given left done
FindsNextLine-unended reader first dropped held given left done count found whole lines_are is long none many cases scanned made =
    let raw = dropped ++ held in
    let more : 0 < length held = held_some held count many cases in
    let some : 35184372088833 ≤ length raw = omega (arith, many, long, length-append dropped held) in
    let begin = lines_begin raw left (All-append IsNoNewline dropped held none scanned) (omega (arith, some)) in
    subst (λ (kind : LineKind). FindsNextLine kind reader given left done) (sym made.3) (
      begin.0,
      omega (arith, some, begin.3),
      most_weight (length begin.0) (omega (arith, some, begin.3)),
      (
        begin.1,
        ap (λ bs. lines (bs ++ left)) is ∙ ap lines (append_assoc first raw left) ∙ lines-append first (raw ++ left) whole ∙ ap (λ ls. ls ++ lines (raw ++ left)) lines_are
            ∙ ap (λ ls. done ++ ls) begin.2 ∙ sym (append_assoc done (begin.0 ∷ []) begin.1),
      ),
      λ small. absurd (omega (arith, small)),
    )

FindsNextLine-any : (reader : Reading) (first dropped held given left : List ℕ) (done : List (List ℕ)) (count : ℕ) (scanned : Scanned) (found : Found) → ended_part first ≡ first → lines first ≡ done
    → given ≡ first ++ (dropped ++ held) → length dropped ≡ count → HasNoNewline dropped → (count ≡ 0) ⊎ ((8193 ≤ count) × (0 < length held) × HasNoNewline (take 1 held))
    → IsNewlineScanned held scanned → (scanned ≡ AtEnd → left ≡ []) → (scanned ≡ Unended → 2 ^ 45 ≤ count) → IsLineFound held count scanned found
    → reader ≡ record { rest = drop found.taken held; text = take found.text held; at_end = found.at_end } → FindsNextLine found.kind reader given left done
FindsNextLine-any reader first dropped held given left done count (Newline place) found whole lines_are is long none cases scanned end many made seen =
    FindsNextLine-newline reader first dropped held given left done count place found whole lines_are is long none cases scanned made seen
FindsNextLine-any reader first dropped held given left done count AtEnd found whole lines_are is long none cases scanned end many made seen =
    FindsNextLine-at_end reader first dropped held given left done count found whole lines_are is (end refl) long none cases scanned made seen
FindsNextLine-any reader first dropped held given left done count Unended found whole lines_are is long none cases scanned end many made seen =
    FindsNextLine-unended reader first dropped held given left done count found whole lines_are is long none (many refl) cases scanned made

-- the bytes given, after more were pulled
given_more : (first rest given more both : List ℕ) → given ≡ first ++ rest → both ≡ rest ++ more → given ++ more ≡ first ++ both
given_more first rest given more both e pulled = ap (λ bs. bs ++ more) e ∙ append_assoc first rest more ∙ ap (λ bs. first ++ bs) (sym pulled)

-- one call that ends a line, or the script
pub Advances-found : (before after : Option (List ℕ)) (old reader : Reading) (held : List ℕ) (count : ℕ) (scanned : Scanned) (found : Found) → old.at_end ≡ false
    → Drops before after old.rest count held → IsNewlineScanned held scanned → (scanned ≡ AtEnd → IfSome after (λ left. left ≡ [])) → (scanned ≡ Unended → 2 ^ 45 ≤ count)
    → IsLineFound held count scanned found → reader ≡ record { rest = drop found.taken held; text = take found.text held; at_end = found.at_end }
    → (given left : List ℕ) (done : List (List ℕ)) → before ≡ Some left → HasRead old given left done
    → (more : List ℕ) × (rest : List ℕ) × (left ≡ more ++ rest) × (after ≡ Some rest) × FindsNextLine found.kind reader (given ++ more) rest done
Advances-found before after old reader held count scanned found goes drops scan end many made seen given left done told h =
    let more = drops.3.0 in
    let gives : GivesBytes (Some left) after more = subst (λ (o : Option (List ℕ)). GivesBytes o after more) told drops.3.2 in (
      more,
      gives.0,
      gives.1,
      gives.2,
      FindsNextLine-any reader h.first drops.0 held (given ++ more) gives.0 done count scanned found (h.whole goes) h.found
          (given_more h.first old.rest given more (drops.0 ++ held) h.bytes drops.3.1) drops.1 drops.2 drops.4 scan
          (λ is. let none : IfSome (Some gives.0) (λ left. left ≡ []) = subst (λ (o : Option (List ℕ)). IfSome o (λ left. left ≡ [])) gives.2 (end is) in none) many made seen,
    )

-- one call that fails
pub Advances-failed : (before after : Option (List ℕ)) (old : Reading) (held : List ℕ) → old.at_end ≡ false → PullsNoNewline before after old.rest held
    → (given left : List ℕ) (done : List (List ℕ)) → before ≡ Some left → HasRead old given left done
    → (more : List ℕ) × (rest : List ℕ) × (left ≡ more ++ rest) × (after ≡ Some rest) × (lines (ended_part (given ++ more)) ≡ done)
Advances-failed before after old held goes stays given left done told h =
    let more = stays.2.0 in
    let gives : GivesBytes (Some left) after more = subst (λ (o : Option (List ℕ)). GivesBytes o after more) told stays.2.2 in (
      more,
      gives.0,
      gives.1,
      gives.2,
      ap (λ bs. lines (ended_part bs)) (given_more h.first old.rest given more (stays.0 ++ held) h.bytes stays.2.1)
          ∙ ap lines (ended_before h.first (stays.0 ++ held) (h.whole goes) stays.1) ∙ h.found,
    )
