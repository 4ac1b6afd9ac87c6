-- Where the lines of a script end.
use Rattle.std.proofs.Common.{◌≡◌, ℕ, ◌+◌, ◌-◌, ◌<◌, ◌≤◌, Bool, true, false, cond, List, [], ◌++◌, Option, Some, None, length, take, drop, refl, sym, ap, subst, ◌∙◌, arith, append_assoc, ⊎_elim, inl, inr, length-append, ◌==◌, ltb}
use Rattle.std.specs.List.{position, position_or_len}
use Rattle.std.proofs.lemmas.Bool.{eqb-true, ltb-false, cases_lt}
use Rattle.std.proofs.lemmas.List.{get_or-take, get_or-drop, length-take-le, length-drop, take-append-drop, take_rest, take-append-le}
use Rattle.std.proofs.lemmas.List.Elements.{All-append, All-same, All-take, All-drop, All-nil, All-from_get_or}
use Rattle.std.proofs.lemmas.List.Quantifiers.{position-Some}
use Rattle.std.proofs.lemmas.List.Sums.{fails_before_first}
use Rattle.script_lines.specs.declared.lines.Scanned.TheVariants.{Newline}
use Rattle.script_lines.specs.Reading.{Pulls, HasNoNewline, IsNewlineScanned, Drops, PullsNoNewline}
use Rattle.script_lines.proofs.ReadingWindow.{Pulls-more}

abbrev pub IsNoNewline : ℕ → Type 0
IsNoNewline b = (b == 10) ≡ false

no_newline_from_position : (bytes : List ℕ) → (b : Bool) → ltb (position_or_len (λ b. b == 10) bytes) (length bytes) ≡ b → cond b (Some (position_or_len (λ b. b == 10) bytes)) None ≡ None → HasNoNewline bytes
no_newline_from_position bytes true e h = absurd (cc)
no_newline_from_position bytes false e h = λ k d l. fails_before_first (λ b. b == 10) bytes k d (omega (arith, ltb-false _ _ e))

-- what `&now[searched..]` is
pub rest_is : (bytes now : List ℕ) (searched : ℕ) → now ≡ bytes → take (length now - searched) (drop searched now) ≡ drop searched bytes
rest_is bytes now searched e = take_rest now searched ∙ ap (drop searched) e

-- no LF stands in what was searched now, nor before it
pub searched_none : (bytes : List ℕ) (searched : ℕ) → HasNoNewline (take searched bytes) → position (λ b. b == 10) (drop searched bytes) ≡ None → HasNoNewline bytes
searched_none bytes searched before h =
    All-same IsNoNewline bytes (take searched bytes ++ drop searched bytes) (sym (take-append-drop searched bytes))
    (All-append IsNoNewline (take searched bytes) (drop searched bytes) before (no_newline_from_position (drop searched bytes) _ refl h))

-- the first LF
pub searched_some : (bytes : List ℕ) (searched place : ℕ) → searched ≤ length bytes → HasNoNewline (take searched bytes) → position (λ b. b == 10) (drop searched bytes) ≡ Some place → IsNewlineScanned bytes (Newline (searched + place))
searched_some bytes searched place within before h =
    let p = position-Some (λ b. b == 10) (drop searched bytes) place 0 h in
    let low : searched + place < length bytes = omega (arith, p.0, length-drop searched bytes) in
    let l : length (take (searched + place) bytes) ≡ searched + place = length-take-le (searched + place) bytes (omega arith) in
    let s : length (take searched bytes) ≡ searched = length-take-le searched bytes within in (
      low,
      All-from_get_or IsNoNewline (take (searched + place) bytes) 0
          (λ i h. rw (get_or-take (searched + place) bytes i 0 (omega arith))
          (⊎_elim
          (λ front. rw (get_or-take searched bytes i 0 front) at (before i 0 (omega arith)))
          (λ behind. let e : searched + (i - searched) ≡ i = omega arith in rw (get_or-drop searched bytes (i - searched) 0, e) at (p.2 (i - searched) (omega arith)))
          (cases_lt i searched))),
      sym (get_or-drop searched bytes place 0) ∙ eqb-true _ _ p.1,
    )

Pulls-behind : (before after : Option (List ℕ)) (front old new : List ℕ) → Pulls before after old new → Pulls before after (front ++ old) (front ++ new)
Pulls-behind before after front old new h = (h.0, ap (λ xs. front ++ xs) h.1 ∙ sym (append_assoc front old h.0), h.2)

-- more was pulled after what was dropped
Drops-pulls : (a b c : Option (List ℕ)) (old held now dropped : List ℕ) → Pulls a b old (dropped ++ held) → Pulls b c held now → Pulls a c old (dropped ++ now)
Drops-pulls a b c old held now dropped h k = Pulls-more a b c old (dropped ++ held) (dropped ++ now) h (Pulls-behind b c dropped held now k)

Pulls-longer : (before after : Option (List ℕ)) (old new : List ℕ) → Pulls before after old new → length old ≤ length new
Pulls-longer before after old new h = omega (arith, ap length h.1, length-append old h.0)

pub Drops-none : (before after : Option (List ℕ)) (old new : List ℕ) → Pulls before after old new → Drops before after old 0 new
Drops-none before after old new h = ([], refl, All-nil IsNoNewline, h, inl refl)

pub Drops-more : (a b c : Option (List ℕ)) (old held now : List ℕ) (count : ℕ) → Drops a b old count held → Pulls b c held now → Drops a c old count now
Drops-more a b c old held now count h k = (
  h.0,
  h.1,
  h.2,
  Drops-pulls a b c old held now h.0 h.3 k,
  ⊎_elim
      (λ e. inl e)
      (λ w. inr (
        w.0,
        omega (arith, w.1, Pulls-longer b c held now k),
        subst HasNoNewline (sym (ap (take 1) k.1 ∙ take-append-le 1 held k.0 (omega (arith, w.1)))) w.2,
      ))
      h.4,
)

-- all bytes but the last one are dropped
pub Drops-shorten : (before after : Option (List ℕ)) (old held : List ℕ) (count n : ℕ) → Drops before after old count held → HasNoNewline held → 8193 < length held → n + 1 ≡ length held
    → Drops before after old (count + n) (drop n held)
Drops-shorten before after old held count n h none long e = (
  h.0 ++ take n held,
  length-append h.0 (take n held) ∙ omega (arith, h.1, length-take-le n held (omega arith)),
  All-append IsNoNewline h.0 (take n held) h.2 (All-take IsNoNewline n held none),
  subst (λ (xs : List ℕ). Pulls before after old xs) (ap (λ xs. h.0 ++ xs) (sym (take-append-drop n held)) ∙ sym (append_assoc h.0 (take n held) (drop n held))) h.3,
  inr (omega arith, omega (arith, length-drop n held), All-take IsNoNewline 1 (drop n held) (All-drop IsNoNewline n held none)),
)

pub Drops-fails : (a b c : Option (List ℕ)) (old held now : List ℕ) (count : ℕ) → Drops a b old count held → Pulls b c held now → HasNoNewline now → PullsNoNewline a c old now
Drops-fails a b c old held now count h k none = (h.0, All-append IsNoNewline h.0 now h.2 none, Drops-pulls a b c old held now h.0 h.3 k)
