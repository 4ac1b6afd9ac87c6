-- A line of which the first parts were read.
use Rattle.std.proofs.Common.{◌≡◌, ℕ, List, [], ◌∷◌, ◌++◌, Bool, true, false, not, ◌&&◌, ◌==◌, IsTrue, Option, Some, None, Result, Ok, Err, map, codes, refl, sym, ap, ◌∙◌, subst, inl, inr, append_assoc}
use Rattle.std.specs.List.{list_all}
use Rattle.std.proofs.lemmas.Bool.{and_parts, and_from, not-true, eqb-true, eq-eqb, false≢true, both_ways}
use Rattle.mdb_model.specs.declared.script.PageKind.TheVariants.{Complete, Incremental}
use Rattle.mdb_model.specs.declared.script.PageKind.{PageKind}
use Rattle.mdb_model.specs.declared.script.BackupKind.{BackupKind}
use Rattle.mdb_model.specs.declared.script.BackupKind.TheVariants.{OfPages, OfLog}
use Rattle.mdb_model.specs.declared.script.Command.{Command}
use Rattle.mdb_model.specs.declared.script.Command.TheVariants.{TaskBackup, BackupStart, Recover}
use Rattle.mdb_model.specs.Script.{Part, Word, Number, Bytes, SpellsPart, parts_of, page_kind_part, backup_kind_part, log_part, until_part, past_blanks, is_digit, number_of, same_word}
use Rattle.dbm_script.specs.declared.fault.LineFault.{LineFault}
use Rattle.dbm_script.specs.declared.fault.LineFault.TheVariants.{Syntax, Memory}
use Rattle.dbm_script.specs.Cutting.{first_text, rest_after, IsSame, Follows}
use Rattle.dbm_script.specs.Reading.{IsRest}
use Rattle.dbm_script.proofs.Cuts.{is_letter, is_word, is_proper, number-digits, letters-digits, IsWhole-spelled, text_some}

-- Parts of one form

-- parts of one kind, and for words the same
abbrev pub same_kind : Part → Part → Bool
same_kind (Word word) (Word other) = same_word word other
same_kind (Number n) (Number other) = true
same_kind (Bytes bytes) (Bytes other) = true
same_kind _ _ = false

-- the front is of one form with the first parts
abbrev pub same_form : List Part → List Part → Bool
same_form [] parts = true
same_form (first ∷ front) [] = false
same_form (first ∷ front) (part ∷ parts) = same_kind first part && same_form front parts

-- the same parts are of one kind
kind-same : (first part : Part) → IsSame first part → IsTrue (same_kind first part)
kind-same (Word word) (Word other) s = s
kind-same (Number n) (Number other) s = refl
kind-same (Bytes bytes) (Bytes other) s = refl
kind-same (Word word) (Number other) s = absurd s
kind-same (Word word) (Bytes other) s = absurd s
kind-same (Number n) (Word other) s = absurd s
kind-same (Number n) (Bytes other) s = absurd s
kind-same (Bytes bytes) (Word other) s = absurd s
kind-same (Bytes bytes) (Number other) s = absurd s

-- parts that follow a front have its form
form : (front parts : List Part) (rest : List ℕ) → Follows front parts rest → IsTrue (same_form front parts)
form [] parts rest f = refl
form (first ∷ front) [] rest f = absurd f
form (first ∷ front) (part ∷ parts) rest (s, f) =
    and_from (same_kind first part) (same_form front parts) (kind-same first part s) (form front parts rest f)

-- where the forms differ, the one is no front of the other
pub other_form : (front parts : List Part) (rest : List ℕ) → same_form front parts ≡ false → Follows front parts rest → ⊥
other_form front parts rest e f = both_ways (same_form front parts) e (form front parts rest f)

-- Which part a text spells

-- words and numbers, by their letters
abbrev pub is_lettered : Part → Bool
is_lettered (Word word) = is_word word
is_lettered (Number n) = true
is_lettered (Bytes bytes) = false

-- words and numbers are proper parts
lettered_proper : (part : Part) → IsTrue (is_lettered part) → IsTrue (is_proper part)
lettered_proper (Word word) l = l
lettered_proper (Number n) l = refl
lettered_proper (Bytes bytes) l = absurd (false≢true l)

-- a word is the same as itself
same-refl : (word : List ℕ) → IsTrue (same_word word word)
same-refl [] = refl
same-refl (b ∷ word) = and_from (b == b) (same_word word word) (eq-eqb b b refl) (same-refl word)

-- words that test the same are equal
pub same-is : (word other : List ℕ) → IsTrue (same_word word other) → word ≡ other
same-is [] [] s = refl
same-is [] (c ∷ other) s = absurd (false≢true s)
same-is (b ∷ word) [] s = absurd (false≢true s)
same-is (b ∷ word) (c ∷ other) s =
    let p = and_parts (b == c) (same_word word other) s in
    let e = eqb-true b c p.0 in
    let t = same-is word other p.1 in
    cc

-- a word has letters alone
word_letters : (word : List ℕ) → IsTrue (is_word word) → IsTrue (list_all is_letter word)
word_letters [] w = absurd (false≢true w)
word_letters (b ∷ word) w = (and_parts (not (is_digit b)) (list_all is_letter (b ∷ word)) w).1

-- and is no number
word_digits : (word : List ℕ) → IsTrue (is_word word) → IsTrue (list_all is_digit word) → ⊥
word_digits [] w d = false≢true w
word_digits (b ∷ word) w d =
    let p = and_parts (not (is_digit b)) (list_all is_letter (b ∷ word)) w in
    let q = and_parts (is_digit b) (list_all is_digit word) d in
    both_ways (is_digit b) (not-true (is_digit b) p.0) q.0

-- words and numbers are spelled by letters
spelled_letters : (part : Part) (text : List ℕ) → IsTrue (is_lettered part) → SpellsPart part text → IsTrue (list_all is_letter text)
spelled_letters (Word word) text l s = subst (λ (t : List ℕ). IsTrue (list_all is_letter t)) (sym s) (word_letters word l)
spelled_letters (Number n) text l s = letters-digits text (number-digits text n s)
spelled_letters (Bytes bytes) text l s = absurd (false≢true l)

-- byte strings are not
bytes_letters : (bytes text : List ℕ) → SpellsPart (Bytes bytes) text → IsTrue (list_all is_letter text) → ⊥
bytes_letters bytes text (inl s) l = false≢true (subst (λ (t : List ℕ). IsTrue (list_all is_letter t)) s.1 l)
bytes_letters bytes text (inr s) l = false≢true (subst (λ (t : List ℕ). IsTrue (list_all is_letter t)) s.2 l)

-- the text of a word or a number spells no other part
same_part : (part other : Part) (text : List ℕ) → IsTrue (is_lettered part) → IsTrue (is_proper other) → SpellsPart part text → SpellsPart other text → IsSame part other
same_part part (Bytes bytes) text l p s t = absurd (bytes_letters bytes text t (spelled_letters part text l s))
same_part (Word word) (Word other) text l p s t = subst (λ (u : List ℕ). IsTrue (same_word word u)) (sym s ∙ t) (same-refl word)
same_part (Word word) (Number n) text l p s t = absurd (word_digits word l (subst (λ (u : List ℕ). IsTrue (list_all is_digit u)) s (number-digits text n t)))
same_part (Number n) (Word word) text l p s t = absurd (word_digits word p (subst (λ (u : List ℕ). IsTrue (list_all is_digit u)) t (number-digits text n s)))
same_part (Number n) (Number m) text l p s t = let e : Some n ≡ Some m = sym s ∙ t in cc
same_part (Bytes bytes) (Word word) text l p s t = absurd (false≢true l)
same_part (Bytes bytes) (Number m) text l p s t = absurd (false≢true l)

-- a text spells what is the same
spelled_same : (part other : Part) (text : List ℕ) → IsTrue (is_lettered part) → SpellsPart part text → IsSame part other → SpellsPart other text
spelled_same (Word word) (Word other) text l s e = s ∙ same-is word other e
spelled_same (Number n) (Number m) text l s e = s ∙ ap (λ (k : ℕ). Some k) e
spelled_same (Word word) (Number other) text l s e = absurd e
spelled_same (Word word) (Bytes other) text l s e = absurd e
spelled_same (Number n) (Word other) text l s e = absurd e
spelled_same (Number n) (Bytes other) text l s e = absurd e
spelled_same (Bytes bytes) other text l s e = absurd (false≢true l)

-- The parts of commands

-- numbers before proper parts are proper
numbers_proper : (ns : List ℕ) (parts : List Part) → IsTrue (list_all is_proper parts) → IsTrue (list_all is_proper (map Number ns ++ parts))
numbers_proper [] parts p = p
numbers_proper (n ∷ ns) parts p = numbers_proper ns parts p

-- the options of a recovery are proper
options_proper : (log : Bool) (until : Option ℕ) → IsTrue (list_all is_proper (log_part log ++ until_part until))
options_proper true (Some n) = refl
options_proper true None = refl
options_proper false (Some n) = refl
options_proper false None = refl

-- the parts of a command are proper
pub parts_proper : (command : Command) → IsTrue (list_all is_proper (parts_of command))
parts_proper (TaskBackup medium Complete) = refl
parts_proper (TaskBackup medium Incremental) = refl
parts_proper (BackupStart medium (OfPages Complete)) = refl
parts_proper (BackupStart medium (OfPages Incremental)) = refl
parts_proper (BackupStart medium OfLog) = refl
parts_proper (Recover media log until) =
    subst (λ (parts : List Part). IsTrue (list_all is_proper (Word (codes "recover") ∷ parts))) (sym (append_assoc (map Number media.items) (log_part log) (until_part until)))
    (numbers_proper media.items (log_part log ++ until_part until) (options_proper log until))
parts_proper command = refl

-- One more part is read

-- a part that was read is one more of the front
further : (front parts : List Part) (part : Part) (rest : List ℕ) → IsTrue (list_all is_proper parts) → IsTrue (is_lettered part) → SpellsPart part (first_text rest)
    → Follows front parts rest → Follows (front ++ part ∷ []) parts (rest_after rest)
further [] [] part rest p l s f = absurd (text_some rest (IsWhole-spelled part (first_text rest) (lettered_proper part l) s).begun f)
further [] (other ∷ parts) part rest p l s (t, f) =
    (same_part part other (first_text rest) l (and_parts (is_proper other) (list_all is_proper parts) p).0 s t, f)
further (first ∷ front) [] part rest p l s f = absurd f
further (first ∷ front) (other ∷ parts) part rest p l s (e, f) =
    (e, further front parts part rest (and_parts (is_proper other) (list_all is_proper parts) p).1 l s f)

-- and back
pub before : (front parts : List Part) (part : Part) (rest : List ℕ) → IsTrue (is_lettered part) → SpellsPart part (first_text rest)
    → Follows (front ++ part ∷ []) parts (rest_after rest) → Follows front parts rest
before [] [] part rest l s f = absurd f
before [] (other ∷ parts) part rest l s (e, f) = (spelled_same part other (first_text rest) l s e, f)
before (first ∷ front) [] part rest l s f = absurd f
before (first ∷ front) (other ∷ parts) part rest l s (e, f) = (e, before front parts part rest l s f)

-- what is read past a part is read before it
pub step : (front : List Part) (part : Part) (rest : List ℕ) (result : Result Command LineFault) → IsTrue (is_lettered part) → SpellsPart part (first_text rest)
    → IsRest (front ++ part ∷ []) (rest_after rest) result → IsRest front rest result
step front part rest (Ok command) l s r = (r.0, before front (parts_of command) part rest l s r.1)
step front part rest (Err Syntax) l s r = λ command i f. r command i (further front (parts_of command) part rest (parts_proper command) l s f)
step front part rest (Err Memory) l s r = (r.0, r.1, r.2, before front (parts_of r.0) part rest l s r.3)

-- the same, where the text and the rest were cut off
pub step_word : (front : List Part) (word text rest after : List ℕ) (result : Result Command LineFault) → IsTrue (is_word word)
    → text ≡ first_text rest → after ≡ rest_after rest → text ≡ word → IsRest (front ++ Word word ∷ []) after result → IsRest front rest result
step_word front word text rest after result w t a e r =
    step front (Word word) rest result w (sym t ∙ e) (subst (λ (x : List ℕ). IsRest (front ++ Word word ∷ []) x result) a r)

-- the same for a number
pub step_number : (front : List Part) (n : ℕ) (rest after : List ℕ) (result : Result Command LineFault)
    → number_of (first_text rest) ≡ Some n → after ≡ rest_after rest → IsRest (front ++ Number n ∷ []) after result → IsRest front rest result
step_number front n rest after result e a r =
    step front (Number n) rest result refl e (subst (λ (x : List ℕ). IsRest (front ++ Number n ∷ []) x result) a r)

-- a part is the same as itself
same-itself : (part : Part) → IsSame part part
same-itself (Word word) = same-refl word
same-itself (Number n) = refl
same-itself (Bytes bytes) = refl

-- a command's parts follow themselves where the line ends
pub follows_itself : (parts : List Part) (rest : List ℕ) → past_blanks rest ≡ [] → Follows parts parts rest
follows_itself [] rest e = e
follows_itself (part ∷ parts) rest e = (same-itself part, follows_itself parts rest e)

-- a session, a table and a key that are in range
pub in_place : (session table key : Bool) → IsTrue session → IsTrue table → IsTrue key → IsTrue (session && table && key)
in_place session table key s t k = and_from (session && table) key (and_from session table s t) k

-- the kind of a backup of pages is a word
lettered_kind : (kind : PageKind) → IsTrue (is_lettered (page_kind_part kind))
lettered_kind Complete = refl
lettered_kind Incremental = refl

-- the kind of a backup is a word
pub lettered_backup : (kind : BackupKind) → IsTrue (is_lettered (backup_kind_part kind))
lettered_backup (OfPages kind) = lettered_kind kind
lettered_backup OfLog = refl

-- the same for the kind of a backup
pub step_backup : (front : List Part) (kind : BackupKind) (rest after : List ℕ) (result : Result Command LineFault) → SpellsPart (backup_kind_part kind) (first_text rest)
    → after ≡ rest_after rest → IsRest (front ++ backup_kind_part kind ∷ []) after result → IsRest front rest result
step_backup front kind rest after result s a r =
    step front (backup_kind_part kind) rest result (lettered_backup kind) s (subst (λ (x : List ℕ). IsRest (front ++ backup_kind_part kind ∷ []) x result) a r)

-- the same for a command of one word
pub step_single : (command : Command) (first line rest : List ℕ) (result : Result Command LineFault) → first ≡ first_text line → rest ≡ rest_after line
    → parts_of command ≡ Word first ∷ [] → IsRest (parts_of command) rest result → IsRest [] line result
step_single command first line rest result t a e r =
    let w : IsTrue (is_word first && true) = subst (λ (parts : List Part). IsTrue (list_all is_proper parts)) e (parts_proper command) in
    step_word [] first first line rest result (and_parts (is_word first) true w).0 t a refl (subst (λ (parts : List Part). IsRest parts rest result) e r)
