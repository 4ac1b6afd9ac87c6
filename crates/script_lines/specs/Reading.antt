-- Reading a script line by line.
--     HasRead      of the bytes that a source gave, a reader gave out these lines
--     Advances      one more line, or the end, or a fault
--     kept, weight_of      the lines that are answered; how many lines they count as
use Rattle.std.specs.Prelude.{◌≡◌, ℕ, ◌^◌, ◌<◌, ◌≤◌, List, [], ◌∷◌, ◌++◌, Bool, true, false, not, Option, Some, None, Result, MatchOption, MatchResult, length, take, slice_index, min, max, filter, ◌==◌, ◌⊎◌, ◌+◌}
use Rattle.std.specs.List.{All, sum_by}
use Rattle.std.specs.Str.Lines.{lines, strip_carriage_return}
use Rattle.mdb_model.specs.declared.fault.Failed.{Failed}
use Rattle.mdb_model.specs.Script.{is_skipped, line_weight}
use Rattle.mdb_model.specs.Headline.{ended_part}
use Rattle.mdb_model.specs.Space.{ceil_div}
use Rattle.script_lines.specs.declared.lines.LineKind.{LineKind}
use Rattle.script_lines.specs.declared.lines.LineKind.TheVariants.{Text, TooLong, End}
use Rattle.script_lines.specs.declared.lines.Found.{Found}
use Rattle.script_lines.specs.declared.lines.Scanned.{Scanned}
use Rattle.script_lines.specs.declared.lines.Scanned.TheVariants.{Newline, AtEnd, Unended}

-- the lines that are answered
abbrev pub kept : List (List ℕ) → List (List ℕ)
kept done = filter (λ line. not (is_skipped line)) done

-- how many lines these count as
abbrev pub weight_of : List (List ℕ) → ℕ
weight_of done = sum_by line_weight done

-- what a reader holds: the bytes after the last line that it found, that line, and whether the
-- source came to its end
pub record Reading : Type 0 where
  pub rest : List ℕ
  pub text : List ℕ
  pub at_end : Bool

-- of a source that gave these bytes and has others left, the reader gave out these lines, which are
-- those of the first bytes given
pub record HasRead (reader : Reading) (given left : List ℕ) (done : List (List ℕ)) : Type 0 where
  pub first : List ℕ
  pub bytes : given ≡ first ++ reader.rest
  pub found : lines first ≡ done
  pub whole : reader.at_end ≡ false → ended_part first ≡ first
  pub last : reader.at_end ≡ true → (reader.rest ≡ []) × (left ≡ [])

-- a source gave these bytes, where what is left is known
abbrev pub GivesBytes : Option (List ℕ) → Option (List ℕ) → (more : List ℕ) → Type 0
GivesBytes before after more =
    MatchOption before (after ≡ None) (λ left. (rest : List ℕ) × (left ≡ more ++ rest)
    × (after ≡ Some rest))

-- what a reader holds grew by bytes that a source gave
abbrev pub Pulls : Option (List ℕ) → Option (List ℕ) → (old new : List ℕ) → Type 0
Pulls before after old new = (more : List ℕ) × (new ≡ old ++ more) × GivesBytes before after more

-- the next line after those done. A line of 2^32 lines and more need not be read to its end
abbrev pub FindsNextLine : LineKind → Reading → (given left : List ℕ) → List (List ℕ) → Type 0
FindsNextLine Text reader given left done =
    (length reader.text ≤ 8192) × HasRead reader given left (done ++ reader.text ∷ [])
FindsNextLine (TooLong weight) reader given left done =
    (line : List ℕ) × (8192 < length line) × (weight ≡ min (line_weight line) (2 ^ 32))
    × ((more : List (List ℕ)) × (lines (given ++ left) ≡ (done ++ line ∷ []) ++ more))
    × (weight < 2 ^ 32 → HasRead reader given left (done ++ line ∷ []))
FindsNextLine End reader given left done =
    (left ≡ []) × (lines given ≡ done) × HasRead reader given left done

-- one call of a reader, by what was known to be left before it and after it: where it fails, all
-- lines that end in the bytes given are done
abbrev pub Advances : Option (List ℕ) → Option (List ℕ) → (old new : Reading)
    → Result LineKind Failed → Type 0
Advances before after old new result =
    (given left : List ℕ) (done : List (List ℕ)) → before ≡ Some left → HasRead old given left done
    → (more : List ℕ) × (rest : List ℕ) × (left ≡ more ++ rest) × (after ≡ Some rest)
    × MatchResult result (λ kind. FindsNextLine kind new (given ++ more) rest done)
    (λ _. lines (ended_part (given ++ more)) ≡ done)

-- Steps inside of a reader

-- no byte is an LF
abbrev pub HasNoNewline : List ℕ → Type 0
HasNoNewline bytes = All (λ b. (b == 10) ≡ false) bytes

-- the first LF stands at a place, or there is none
abbrev pub IsNewlineScanned : List ℕ → Scanned → Type 0
IsNewlineScanned bytes (Newline place) =
    (place < length bytes) × HasNoNewline (take place bytes) × (slice_index bytes place ≡ 10)
IsNewlineScanned bytes _ = HasNoNewline bytes

-- bytes without an LF, so many of them, were pulled and dropped before those that are held now,
-- which do not begin with one
abbrev pub Drops : Option (List ℕ) → Option (List ℕ) → (old : List ℕ) → (count : ℕ) → (new : List ℕ)
    → Type 0
Drops before after old count new =
    (dropped : List ℕ) × (length dropped ≡ count) × HasNoNewline dropped
    × Pulls before after old (dropped ++ new)
    × ((count ≡ 0) ⊎ ((8193 ≤ count) × (0 < length new) × HasNoNewline (take 1 new)))

-- bytes were pulled, and there is no LF in those that are held nor in those that were dropped
-- before them
abbrev pub PullsNoNewline : Option (List ℕ) → Option (List ℕ) → (old new : List ℕ) → Type 0
PullsNoNewline before after old new =
    (dropped : List ℕ) × HasNoNewline (dropped ++ new) × Pulls before after old (dropped ++ new)

-- what a line of this length is
abbrev pub IsKind : ℕ → LineKind → Type 0
IsKind length Text = length ≤ 8192
IsKind length (TooLong weight) =
    (8192 < length) × (weight ≡ min (max 1 (ceil_div length 8192)) (2 ^ 32))
IsKind length End = ⊥

-- what a last line of this length is, which has no end
abbrev pub IsLastKind : ℕ → LineKind → Type 0
IsLastKind length kind = ((length ≡ 0) × (kind ≡ End)) ⊎ ((0 < length) × IsKind length kind)

-- what is found in the bytes in front, where so many of the line were dropped before them
abbrev pub IsLineFound : List ℕ → ℕ → Scanned → Found → Type 0
IsLineFound bytes dropped (Newline place) found =
    (take found.text bytes ≡ strip_carriage_return (take place bytes)) × (found.text ≤ place)
    × (found.taken ≡ place + 1) × (found.at_end ≡ false)
    × IsKind (dropped + found.text) found.kind
IsLineFound bytes dropped AtEnd found =
    (found.text ≡ length bytes) × (found.taken ≡ length bytes) × (found.at_end ≡ true)
    × IsLastKind (dropped + found.text) found.kind
IsLineFound bytes dropped Unended found =
    (found.text ≡ 0) × (found.taken ≡ 0) × (found.at_end ≡ false) × (found.kind ≡ TooLong (2 ^ 32))
