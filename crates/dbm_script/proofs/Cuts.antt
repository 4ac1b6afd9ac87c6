-- How a line is cut: a part that is spelled in it is what the cut gives.
use Rattle.std.proofs.Common.{◌≡◌, ◌≢◌, ℕ, ◌+◌, ◌-◌, ◌*◌, ◌<◌, List, [], ◌∷◌, ◌++◌, Bool, true, false, not, ◌&&◌, ◌==◌, if◌then◌else◌, IsTrue, Option, Some, None, length, fold, nat_le, refl, sym, ap, ◌∙◌, subst, inl, inr, arith, append_assoc}
use Rattle.std.specs.List.{list_all}
use Rattle.std.proofs.lemmas.Bool.{and_parts, and_right, not-true, cases_Bool, eqb-true, ne_eqb, leb-true, not_from_false}
use Rattle.mdb_model.specs.Script.{Part, Word, Number, Bytes, SpellsPart, IsSpaced, is_blank_byte, is_digit, is_plain, is_within, past_blanks, hex_value, hex_bytes, join_digits, number_of}
use Rattle.dbm_script.specs.Cutting.{token, after_token, first_text, rest_after, FitsLine}

-- it is empty, or begins with a blank
abbrev pub is_apart : List ℕ → Bool
is_apart [] = true
is_apart (b ∷ bytes) = is_blank_byte b

-- neither a blank nor a quote
abbrev pub is_letter : ℕ → Bool
is_letter b = not (is_blank_byte b) && not (b == 39)

-- some letters, of which the first is no digit
abbrev pub is_word : List ℕ → Bool
is_word [] = false
is_word (b ∷ word) = not (is_digit b) && list_all is_letter (b ∷ word)

-- words are such words
abbrev pub is_proper : Part → Bool
is_proper (Word word) = is_word word
is_proper (Number n) = true
is_proper (Bytes bytes) = true

-- it begins with a byte that is no blank
abbrev pub is_begun : List ℕ → Bool
is_begun [] = false
is_begun (b ∷ bytes) = not (is_blank_byte b)

-- a text that is cut off whole
pub record IsWhole (text : List ℕ) : Type 0 where
  pub begun : IsTrue (is_begun text)
  pub text_is : (more : List ℕ) → IsTrue (is_apart more) → token false (text ++ more) ≡ text
  pub rest_is : (more : List ℕ) → IsTrue (is_apart more) → after_token false (text ++ more) ≡ more

-- One byte

-- a letter stands at the front of a token
token-letter : (b : ℕ) (bytes : List ℕ) → IsTrue (is_letter b) → token false (b ∷ bytes) ≡ b ∷ token false bytes
token-letter b bytes h =
    let p = and_parts (not (is_blank_byte b)) (not (b == 39)) h in
    rw (not-true (is_blank_byte b) p.0, not-true (b == 39) p.1) refl

-- and what is after the token is after the letter too
after-letter : (b : ℕ) (bytes : List ℕ) → IsTrue (is_letter b) → after_token false (b ∷ bytes) ≡ after_token false bytes
after-letter b bytes h =
    let p = and_parts (not (is_blank_byte b)) (not (b == 39)) h in
    rw (not-true (is_blank_byte b) p.0, not-true (b == 39) p.1) refl

-- between quotes any other byte stands in the token
token-inside : (b : ℕ) (bytes : List ℕ) → (b == 39) ≡ false → token true (b ∷ bytes) ≡ b ∷ token true bytes
token-inside b bytes h = rw (and_right (is_blank_byte b) false refl, h) refl

-- and what is after the token is after that byte too
after-inside : (b : ℕ) (bytes : List ℕ) → (b == 39) ≡ false → after_token true (b ∷ bytes) ≡ after_token true bytes
after-inside b bytes h = rw (and_right (is_blank_byte b) false refl, h) refl

-- Runs

-- no token begins at a blank or at the end
token-apart : (more : List ℕ) → IsTrue (is_apart more) → token false more ≡ []
token-apart [] a = refl
token-apart (b ∷ more) a = rw a refl

-- so all of it is after the token
after-apart : (more : List ℕ) → IsTrue (is_apart more) → after_token false more ≡ more
after-apart [] a = refl
after-apart (b ∷ more) a = rw a refl

-- letters before a blank or the end are a token
token-run : (text more : List ℕ) → IsTrue (list_all is_letter text) → IsTrue (is_apart more) → token false (text ++ more) ≡ text
token-run [] more l a = token-apart more a
token-run (b ∷ text) more l a =
    let p = and_parts (is_letter b) (list_all is_letter text) l in
    token-letter b (text ++ more) p.0 ∙ ap (λ (t : List ℕ). b ∷ t) (token-run text more p.1 a)

-- and the rest is after it
after-run : (text more : List ℕ) → IsTrue (list_all is_letter text) → IsTrue (is_apart more) → after_token false (text ++ more) ≡ more
after-run [] more l a = after-apart more a
after-run (b ∷ text) more l a =
    let p = and_parts (is_letter b) (list_all is_letter text) l in
    after-letter b (text ++ more) p.0 ∙ after-run text more p.1 a

-- no quote
abbrev pub is_inner : ℕ → Bool
is_inner b = not (b == 39)

-- bytes up to the closing quote end a token
token-quoted : (bytes more : List ℕ) → IsTrue (list_all is_inner bytes) → IsTrue (is_apart more) → token true ((bytes ++ 39 ∷ []) ++ more) ≡ bytes ++ 39 ∷ []
token-quoted [] more l a = ap (λ (t : List ℕ). 39 ∷ t) (token-apart more a)
token-quoted (b ∷ bytes) more l a =
    let p = and_parts (is_inner b) (list_all is_inner bytes) l in
    token-inside b ((bytes ++ 39 ∷ []) ++ more) (not-true (b == 39) p.0) ∙ ap (λ (t : List ℕ). b ∷ t) (token-quoted bytes more p.1 a)

-- and the rest is after it
after-quoted : (bytes more : List ℕ) → IsTrue (list_all is_inner bytes) → IsTrue (is_apart more) → after_token true ((bytes ++ 39 ∷ []) ++ more) ≡ more
after-quoted [] more l a = after-apart more a
after-quoted (b ∷ bytes) more l a =
    let p = and_parts (is_inner b) (list_all is_inner bytes) l in
    after-inside b ((bytes ++ 39 ∷ []) ++ more) (not-true (b == 39) p.0) ∙ after-quoted bytes more p.1 a

-- What parts are spelled by

-- a choice of some value or none that gave one
pub if_some : (b : Bool) (x n : ℕ) → (if b then Some x else None) ≡ Some n → (b ≡ true) × (x ≡ n)
if_some true x n e = (refl, cc)
if_some false x n e = absurd (cc)

-- a number is spelled by digits
pub number-digits : (text : List ℕ) (n : ℕ) → number_of text ≡ Some n → IsTrue (list_all is_digit text)
number-digits text n e =
    let t = if_some (list_all is_digit text && is_within 1 20 (length text)) (fold (λ n b. 10 * n + (b - 48)) 0 text) n e in
    (and_parts (list_all is_digit text) (is_within 1 20 (length text)) t.0).0

-- digits are letters
letter-digit : (b : ℕ) → IsTrue (is_digit b) → IsTrue (is_letter b)
letter-digit b d =
    let p = and_parts (nat_le 48 b) (nat_le b 57) d in
    let low = leb-true 48 b p.0 in
    let high = leb-true b 57 p.1 in
    rw (ne_eqb b 32 (λ e. omega arith), ne_eqb b 9 (λ e. omega arith), ne_eqb b 39 (λ e. omega arith)) refl

-- each of them
pub letters-digits : (text : List ℕ) → IsTrue (list_all is_digit text) → IsTrue (list_all is_letter text)
letters-digits [] d = refl
letters-digits (b ∷ text) d =
    let p = and_parts (is_digit b) (list_all is_digit text) d in
    rw (letter-digit b p.0, letters-digits text p.1) refl

-- joined digits came from two digits and the bytes after them
pub hex_joined : (a b : Option ℕ) (c : Option (List ℕ)) (d : List ℕ) → join_digits a b c ≡ Some d
    → (x : ℕ) × (y : ℕ) × (z : List ℕ) × (a ≡ Some x) × (b ≡ Some y) × (c ≡ Some z) × (d ≡ (16 * x + y) ∷ z)
hex_joined (Some x) (Some y) (Some z) d e = (x, y, z, refl, refl, refl, cc)
hex_joined (Some x) (Some y) None d e = absurd (cc)
hex_joined (Some x) None c d e = absurd (cc)
hex_joined None b c d e = absurd (cc)

-- a hexadecimal digit is no quote
inner-hex : (b v : ℕ) → hex_value b ≡ Some v → IsTrue (is_inner b)
inner-hex b v e = elim (cases_Bool (b == 39)) [
  | inl q ↦ (let none : hex_value 39 ≡ Some v = subst (λ (n : ℕ). hex_value n ≡ Some v) (eqb-true b 39 q) e in absurd (cc))
  | inr q ↦ not_from_false (b == 39) q
]

-- so none is among the digits of bytes
inner-digits : (digits bytes : List ℕ) → hex_bytes digits ≡ Some bytes → IsTrue (list_all is_inner digits)
inner-digits [] bytes e = refl
inner-digits (high ∷ []) bytes e = absurd (cc)
inner-digits (high ∷ low ∷ digits) bytes e =
    let j = hex_joined (hex_value high) (hex_value low) (hex_bytes digits) bytes e in
    rw (inner-hex high j.0 j.3, inner-hex low j.1 j.4, inner-digits digits j.2 j.5) refl

-- nor among bytes that stand for themselves
inner-plain : (bytes : List ℕ) → IsTrue (list_all is_plain bytes) → IsTrue (list_all is_inner bytes)
inner-plain [] p = refl
inner-plain (b ∷ bytes) p =
    let q = and_parts (is_plain b) (list_all is_plain bytes) p in
    let r = and_parts (is_within 32 126 b) (is_inner b) q.0 in
    rw (r.1, inner-plain bytes q.1) refl

-- a word is cut off whole
IsWhole-word : (word : List ℕ) → IsTrue (is_word word) → IsWhole word
IsWhole-word [] w = absurd (cc)
IsWhole-word (b ∷ word) w =
    let p = and_parts (not (is_digit b)) (list_all is_letter (b ∷ word)) w in
    let l = and_parts (is_letter b) (list_all is_letter word) p.1 in
    let m = and_parts (not (is_blank_byte b)) (not (b == 39)) l.0 in
    record { begun = m.0; text_is = λ more a. token-run (b ∷ word) more p.1 a; rest_is = λ more a. after-run (b ∷ word) more p.1 a }

-- a number is cut off whole
IsWhole-number : (text : List ℕ) (n : ℕ) → number_of text ≡ Some n → IsWhole text
IsWhole-number [] n e = absurd (cc)
IsWhole-number (b ∷ text) n e =
    let d = letters-digits (b ∷ text) (number-digits (b ∷ text) n e) in
    let l = and_parts (is_letter b) (list_all is_letter text) d in
    let m = and_parts (not (is_blank_byte b)) (not (b == 39)) l.0 in
    record { begun = m.0; text_is = λ more a. token-run (b ∷ text) more d a; rest_is = λ more a. after-run (b ∷ text) more d a }

-- a byte string between quotes is cut off whole
IsWhole-quoted : (bytes : List ℕ) → IsTrue (list_all is_inner bytes) → IsWhole (39 ∷ bytes ++ 39 ∷ [])
IsWhole-quoted bytes i = record {
  begun = refl;
  text_is = λ more a. ap (λ (t : List ℕ). 39 ∷ t) (token-quoted bytes more i a);
  rest_is = λ more a. after-quoted bytes more i a;
}

-- a byte string in hexadecimal is cut off whole
IsWhole-hex : (digits : List ℕ) → IsTrue (list_all is_inner digits) → IsWhole (120 ∷ 39 ∷ digits ++ 39 ∷ [])
IsWhole-hex digits i = record {
  begun = refl;
  text_is = λ more a. ap (λ (t : List ℕ). 120 ∷ 39 ∷ t) (token-quoted digits more i a);
  rest_is = λ more a. after-quoted digits more i a;
}

-- what spells a part is cut off whole
pub IsWhole-spelled : (part : Part) (text : List ℕ) → IsTrue (is_proper part) → SpellsPart part text → IsWhole text
IsWhole-spelled (Word word) text p s = subst (λ (t : List ℕ). IsWhole t) (sym s) (IsWhole-word word p)
IsWhole-spelled (Number n) text p s = IsWhole-number text n s
IsWhole-spelled (Bytes bytes) text p (inl s) = subst (λ (t : List ℕ). IsWhole t) (sym s.1) (IsWhole-quoted bytes (inner-plain bytes s.0))
IsWhole-spelled (Bytes bytes) text p (inr s) = subst (λ (t : List ℕ). IsWhole t) (sym s.2) (IsWhole-hex s.0 (inner-digits s.0 bytes s.1))

-- The whole line

-- the blanks in front
blanks : List ℕ → List ℕ
blanks [] = []
blanks (b ∷ bytes) = if is_blank_byte b then b ∷ blanks bytes else []

-- they are blanks
blanks_blank : (rest : List ℕ) → IsTrue (list_all is_blank_byte (blanks rest))
unfolding blanks
blanks_blank [] = refl
blanks_blank (b ∷ rest) = elim (cases_Bool (is_blank_byte b)) [
  | inl e ↦ rw e (rw e (blanks_blank rest))
  | inr e ↦ rw e refl
]

-- and stand before what is past the blanks
blanks_past : (rest : List ℕ) → blanks rest ++ past_blanks rest ≡ rest
unfolding blanks
blanks_past [] = refl
blanks_past (b ∷ rest) = elim (cases_Bool (is_blank_byte b)) [
  | inl e ↦ rw e (ap (λ (t : List ℕ). b ∷ t) (blanks_past rest))
  | inr e ↦ rw e refl
]

-- there are some where something follows them
blanks_some : (rest : List ℕ) → IsTrue (is_apart rest) → past_blanks rest ≢ [] → 0 < length (blanks rest)
unfolding blanks
blanks_some [] a n = absurd (n refl)
blanks_some (b ∷ rest) a n = rw a (omega arith)

-- all are blanks where nothing is past them
blanks_none : (rest : List ℕ) → past_blanks rest ≡ [] → IsTrue (list_all is_blank_byte rest)
blanks_none [] e = refl
blanks_none (b ∷ rest) e = elim (cases_Bool (is_blank_byte b)) [
  | inl q ↦ (let f : past_blanks rest ≡ [] = rw q at e in rw (q, blanks_none rest f) refl)
  | inr q ↦ (let f : b ∷ rest ≡ [] = rw q at e in absurd (cc))
]

-- a gap is passed over
past_gap : (gap rest : List ℕ) → IsTrue (list_all is_blank_byte gap) → past_blanks (gap ++ rest) ≡ past_blanks rest
past_gap [] rest a = refl
past_gap (b ∷ gap) rest a =
    let p = and_parts (is_blank_byte b) (list_all is_blank_byte gap) a in
    rw p.0 (past_gap gap rest p.1)

-- nothing is past blanks alone
past_none : (rest : List ℕ) → IsTrue (list_all is_blank_byte rest) → past_blanks rest ≡ []
past_none [] a = refl
past_none (b ∷ rest) a =
    let p = and_parts (is_blank_byte b) (list_all is_blank_byte rest) a in
    rw p.0 (past_none rest p.1)

-- a text that is begun stands past the blanks
past_begun : (text more : List ℕ) → IsTrue (is_begun text) → past_blanks (text ++ more) ≡ text ++ more
past_begun [] more b = absurd (cc)
past_begun (x ∷ text) more b = rw (not-true (is_blank_byte x) b) refl

-- a token and what is after it are all
cut_whole : (quoted : Bool) (rest : List ℕ) → token quoted rest ++ after_token quoted rest ≡ rest
cut_whole quoted [] = refl
cut_whole quoted (b ∷ rest) = elim (cases_Bool (is_blank_byte b && not quoted)) [
  | inl e ↦ rw e refl
  | inr e ↦ rw e (ap (λ (t : List ℕ). b ∷ t) (cut_whole (if b == 39 then not quoted else quoted) rest))
]

-- a token ends at a blank or at the end
after_apart : (quoted : Bool) (rest : List ℕ) → IsTrue (is_apart (after_token quoted rest))
after_apart quoted [] = refl
after_apart quoted (b ∷ rest) = elim (cases_Bool (is_blank_byte b && not quoted)) [
  | inl e ↦ rw e (and_parts (is_blank_byte b) (not quoted) e).0
  | inr e ↦ rw e (after_apart (if b == 39 then not quoted else quoted) rest)
]

-- parts in a line begin with a blank, or the line is empty
spaced_apart : (parts : List Part) (rest : List ℕ) → IsSpaced parts rest → IsTrue (is_apart rest)
spaced_apart [] [] s = refl
spaced_apart [] (b ∷ rest) s = (and_parts (is_blank_byte b) (list_all is_blank_byte rest) s).0
spaced_apart (part ∷ parts) rest (gap, text, more, e, l, b, s, f) =
    subst (λ (t : List ℕ). IsTrue (is_apart t)) (sym e) (led gap text more l b) where
      led : (gap text more : List ℕ) → 0 < length gap → IsTrue (list_all is_blank_byte gap) → IsTrue (is_apart (gap ++ text ++ more))
      led [] text more l b = absurd (omega arith)
      led (x ∷ gap) text more l b = (and_parts (is_blank_byte x) (list_all is_blank_byte gap) b).0

-- the first part that stands in a line is what the cut gives
cut_first : (part : Part) (gap text more : List ℕ) → IsTrue (is_proper part) → IsTrue (list_all is_blank_byte gap) → SpellsPart part text → IsTrue (is_apart more)
    → (first_text (gap ++ text ++ more) ≡ text) × (rest_after (gap ++ text ++ more) ≡ more)
unfolding first_text rest_after
cut_first part gap text more p b s a =
    let w = IsWhole-spelled part text p s in
    let e : past_blanks (gap ++ text ++ more) ≡ text ++ more =
    ap past_blanks (append_assoc gap text more) ∙ past_gap gap (text ++ more) b ∙ past_begun text more w.begun in
    (ap (token false) e ∙ w.text_is more a, ap (after_token false) e ∙ w.rest_is more a)

-- parts that are spaced fit what is cut
pub FitsLine-spaced : (parts : List Part) (rest : List ℕ) → IsTrue (list_all is_proper parts) → IsSpaced parts rest → FitsLine parts rest
FitsLine-spaced [] rest p s = past_none rest s
FitsLine-spaced (part ∷ parts) rest p (gap, text, more, e, l, b, s, f) =
    let q = and_parts (is_proper part) (list_all is_proper parts) p in
    let c = cut_first part gap text more q.0 b s (spaced_apart parts more f) in (
      subst (λ (t : List ℕ). SpellsPart part t) (sym (ap first_text e ∙ c.0)) s,
      subst (λ (t : List ℕ). FitsLine parts t) (sym (ap rest_after e ∙ c.1)) (FitsLine-spaced parts more q.1 f),
    )

-- a text that is begun is not empty
begun_some : (text : List ℕ) → IsTrue (is_begun text) → text ≢ []
begun_some [] b = absurd (cc)
begun_some (x ∷ text) b = λ e. absurd (cc)

-- something is past the blanks where a part is cut off
pub text_some : (rest : List ℕ) → IsTrue (is_begun (first_text rest)) → past_blanks rest ≢ []
unfolding first_text
text_some rest b = λ e. begun_some (token false (past_blanks rest)) b (ap (token false) e)

-- a line is its blanks, its first part and what follows it
cut_rest : (rest : List ℕ) → rest ≡ blanks rest ++ first_text rest ++ rest_after rest
unfolding first_text rest_after
cut_rest rest =
    sym (append_assoc (blanks rest) (token false (past_blanks rest)) (after_token false (past_blanks rest))
    ∙ ap (λ (t : List ℕ). blanks rest ++ t) (cut_whole false (past_blanks rest))
    ∙ blanks_past rest)

-- what follows a part is apart from it
rest_apart : (rest : List ℕ) → IsTrue (is_apart (rest_after rest))
unfolding rest_after
rest_apart rest = after_apart false (past_blanks rest)

-- parts that fit what is cut are spaced
pub IsSpaced-fits : (parts : List Part) (rest : List ℕ) → IsTrue (list_all is_proper parts) → IsTrue (is_apart rest) → FitsLine parts rest → IsSpaced parts rest
IsSpaced-fits [] rest p a f = blanks_none rest f
IsSpaced-fits (part ∷ parts) rest p a (s, f) =
    let q = and_parts (is_proper part) (list_all is_proper parts) p in
    let w = IsWhole-spelled part (first_text rest) q.0 s in (
      blanks rest,
      first_text rest,
      rest_after rest,
      cut_rest rest,
      blanks_some rest a (text_some rest w.begun),
      blanks_blank rest,
      s,
      IsSpaced-fits parts (rest_after rest) q.1 (rest_apart rest) f,
    )

-- with a blank in front, as a line is read
pub FitsLine-line : (parts : List Part) (line : List ℕ) → IsTrue (list_all is_proper parts) → IsSpaced parts (32 ∷ line) → FitsLine parts line
unfolding first_text rest_after
FitsLine-line [] line p s = past_none line s
FitsLine-line (part ∷ parts) line p s = FitsLine-spaced (part ∷ parts) (32 ∷ line) p s

-- and back
pub IsSpaced-line : (parts : List Part) (line : List ℕ) → IsTrue (list_all is_proper parts) → FitsLine parts line → IsSpaced parts (32 ∷ line)
unfolding first_text rest_after
IsSpaced-line [] line p f = blanks_none line f
IsSpaced-line (part ∷ parts) line p f = IsSpaced-fits (part ∷ parts) (32 ∷ line) p refl f
