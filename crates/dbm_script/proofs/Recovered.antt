-- The line that recovers: numbers, and two options after them.
use Rattle.std.proofs.Common.{◌≡◌, ◌≢◌, ◌⊎◌, ℕ, ◌<◌, ◌≤◌, List, [], ◌∷◌, ◌++◌, Bool, true, false, ◌&&◌, IsTrue, MatchBool, Option, Some, None, Result, nat_le, length, map, codes, refl, sym, ap, ◌∙◌, subst, inl, inr, arith, append_assoc, length-append}
use Rattle.std.specs.List.{list_all}
use Rattle.std.proofs.lemmas.Bool.{and_parts, and_from, le-leb, leb-true, false≢true}
use Rattle.std.proofs.lemmas.List.{append-nil}
use Rattle.std.proofs.lemmas.List.Folds.{list_all-append}
use Rattle.mdb_model.specs.declared.script.Command.{Command}
use Rattle.mdb_model.specs.declared.script.Command.TheVariants.{Recover}
use Rattle.mdb_model.specs.Script.{Part, Word, Number, parts_of, log_part, until_part, past_blanks, is_in_range, is_medium, is_number, is_within, number_of}
use Rattle.dbm_script.specs.declared.fault.LineFault.{LineFault}
use Rattle.dbm_script.specs.Cutting.{token, first_text, rest_after, FitsLine, Follows, AreNumbers}
use Rattle.dbm_script.specs.Reading.{IsRest, is_until}
use Rattle.dbm_script.proofs.Fronts.{other_form, step_number}

-- the two options after the media
abbrev pub options : Bool → Option ℕ → List Part
options log until = log_part log ++ until_part until

-- what reading the first option says
abbrev pub HasLog : Bool → List ℕ → List ℕ → Type 0
HasLog log rest after =
    MatchBool log ((first_text rest ≡ codes "log") × (after ≡ rest_after rest)) ((first_text rest ≢ codes "log") × (after ≡ rest))

-- the numbers end at the most that a line may have, or where no medium follows
abbrev pub IsWholeRun : List ℕ → List ℕ → Type 0
IsWholeRun ns rest = (length ns ≡ 99) ⊎ ((n : ℕ) → IsTrue (is_medium n) → number_of (first_text rest) ≢ Some n)

-- nothing is cut off where nothing is past the blanks
first_nil : (rest : List ℕ) → past_blanks rest ≡ [] → first_text rest ≡ []
unfolding first_text
first_nil rest e = ap (token false) e

-- no end fits, where no number and end of the line follow its word
pub no_until : (rest after : List ℕ) → first_text rest ≡ codes "until" → after ≡ rest_after rest → ((n : ℕ) → IsTrue (is_number n) → FitsLine (Number n ∷ []) after → ⊥)
    → (until : Option ℕ) → IsTrue (is_until until) → FitsLine (until_part until) rest → ⊥
no_until rest after t a bad None i f = let e : codes "until" ≡ [] = sym t ∙ first_nil rest f in absurd (cc)
no_until rest after t a bad (Some n) i f = bad n i (subst (λ (x : List ℕ). FitsLine (Number n ∷ []) x) (sym a) f.1)

-- numbers that follow those in front, and the options after them
numbers_follow : (ns ms : List ℕ) (log : Bool) (until : Option ℕ) (rest : List ℕ) → Follows (map Number ns) (map Number ms ++ options log until) rest
    → (more : List ℕ) × (ms ≡ ns ++ more) × FitsLine (map Number more ++ options log until) rest
numbers_follow [] ms log until rest f = (ms, refl, f)
numbers_follow (n ∷ ns) [] true until rest f = absurd f.0
numbers_follow (n ∷ ns) [] false (Some k) rest f = absurd f.0
numbers_follow (n ∷ ns) [] false None rest f = absurd f
numbers_follow (n ∷ ns) (m ∷ ms) log until rest (e, f) =
    let r = numbers_follow ns ms log until rest f in
    let same : m ∷ ms ≡ n ∷ (ns ++ r.0) = cc (e, r.1) in
    (r.0, same, r.2)

-- no more numbers follow a run that is whole
none_more : (ns more : List ℕ) (log : Bool) (until : Option ℕ) (rest : List ℕ) → IsWholeRun ns rest → IsTrue (list_all is_medium (ns ++ more)) → length (ns ++ more) ≤ 99
    → FitsLine (map Number more ++ options log until) rest → FitsLine (options log until) rest
none_more ns [] log until rest w i l f = f
none_more ns (m ∷ more) log until rest (inl w) i l f = absurd (omega (arith, length-append ns (m ∷ more)))
none_more ns (m ∷ more) log until rest (inr w) i l f =
    let p = and_parts (list_all is_medium ns) (list_all is_medium (m ∷ more)) (sym (list_all-append is_medium ns (m ∷ more)) ∙ i) in
    absurd (w m (and_parts (is_medium m) (list_all is_medium more) p.1).0 f.0)

-- the second option stands after the first
options_after : (log : Bool) (rest after : List ℕ) (other : Bool) (until : Option ℕ) → HasLog log rest after → FitsLine (options other until) rest → FitsLine (until_part until) after
options_after true rest after true until h f = subst (λ (x : List ℕ). FitsLine (until_part until) x) (sym h.1) f.1
options_after true rest after false None h f = let e : codes "log" ≡ [] = sym h.0 ∙ first_nil rest f in absurd (cc)
options_after true rest after false (Some n) h f = let e : codes "log" ≡ codes "until" = sym h.0 ∙ f.0 in absurd (false≢true (ap is_log e)) where
  is_log : List ℕ → Bool
  is_log (b ∷ bytes) = nat_le 117 b
  is_log [] = true
options_after false rest after true until h f = absurd (h.0 f.0)
options_after false rest after false until h f = subst (λ (x : List ℕ). FitsLine (until_part until) x) (sym h.1) f

-- and back
options_before : (log : Bool) (rest after : List ℕ) (until : Option ℕ) → HasLog log rest after → FitsLine (until_part until) after → FitsLine (options log until) rest
options_before true rest after until h f = (h.0, subst (λ (x : List ℕ). FitsLine (until_part until) x) h.1 f)
options_before false rest after until h f = subst (λ (x : List ℕ). FitsLine (until_part until) x) h.1 f

-- no command recovers, where no options follow the media
pub no_options : (ns rest after : List ℕ) (log : Bool) → IsWholeRun ns rest → HasLog log rest after → ((until : Option ℕ) → IsTrue (is_until until) → FitsLine (until_part until) after → ⊥)
    → (command : Command) → IsTrue (is_in_range command) → Follows (Word (codes "recover") ∷ map Number ns) (parts_of command) rest → ⊥
no_options ns rest after log w h bad (Recover media other until) i f =
    let p = and_parts (list_all is_medium media.items && is_within 1 99 (length media.items)) (is_until until) i in
    let q = and_parts (list_all is_medium media.items) (is_within 1 99 (length media.items)) p.0 in
    let l = and_parts (nat_le 1 (length media.items)) (nat_le (length media.items) 99) q.1 in
    let g = numbers_follow ns media.items other until rest
    (subst (λ (parts : List Part). Follows (map Number ns) parts rest) (append_assoc (map Number media.items) (log_part other) (until_part until)) f.1) in
    bad until p.1
    (options_after log rest after other until h
    (none_more ns g.0 other until rest w (subst (λ (x : List ℕ). IsTrue (list_all is_medium x)) g.1 q.0)
    (subst (λ (x : List ℕ). length x ≤ 99) g.1 (leb-true (length media.items) 99 l.1)) g.2))
no_options ns rest after log w h bad command i f = absurd (other_form (Word (codes "recover") ∷ map Number ns) (parts_of command) rest refl f)

-- numbers follow themselves
follows_numbers : (ns : List ℕ) (parts : List Part) (rest : List ℕ) → FitsLine parts rest → Follows (map Number ns) (map Number ns ++ parts) rest
follows_numbers [] parts rest f = f
follows_numbers (n ∷ ns) parts rest f = (refl, follows_numbers ns parts rest f)

-- the parts of a recovery follow its media
pub follows_media : (ns : List ℕ) (log : Bool) (until : Option ℕ) (rest after : List ℕ) → HasLog log rest after → FitsLine (until_part until) after
    → Follows (map Number ns) (map Number ns ++ log_part log ++ until_part until) rest
follows_media ns log until rest after h f =
    subst (λ (parts : List Part). Follows (map Number ns) parts rest) (sym (append_assoc (map Number ns) (log_part log) (until_part until)))
    (follows_numbers ns (options log until) rest (options_before log rest after until h f))

-- the limits of a recovery
pub media_in_range : (ns : List ℕ) (until : Option ℕ) → IsTrue (list_all is_medium ns) → 0 < length ns → length ns ≤ 99 → IsTrue (is_until until)
    → IsTrue (list_all is_medium ns && is_within 1 99 (length ns) && is_until until)
media_in_range ns until m s l u =
    and_from (list_all is_medium ns && is_within 1 99 (length ns)) (is_until until)
    (and_from (list_all is_medium ns) (is_within 1 99 (length ns)) m
    (and_from (nat_le 1 (length ns)) (nat_le (length ns) 99) (le-leb 1 (length ns) s) (le-leb (length ns) 99 l)))
    u

-- one more number is read
pub AreNumbers-push : (ns : List ℕ) (n : ℕ) (rest left after : List ℕ) → AreNumbers ns rest left → number_of (first_text left) ≡ Some n → after ≡ rest_after left → AreNumbers (ns ++ n ∷ []) rest after
AreNumbers-push [] n rest left after a e r =
    (subst (λ (x : List ℕ). number_of (first_text x) ≡ Some n) a e, subst (λ (x : List ℕ). after ≡ rest_after x) a r)
AreNumbers-push (m ∷ ns) n rest left after (d, a) e r = (d, AreNumbers-push ns n (rest_after rest) left after a e r)

-- what is read past numbers is read before them
pub step_numbers : (front : List Part) (ns rest left : List ℕ) (result : Result Command LineFault) → AreNumbers ns rest left
    → IsRest (front ++ map Number ns) left result → IsRest front rest result
step_numbers front [] rest left result a r =
    subst (λ (x : List ℕ). IsRest front x result) a (subst (λ (parts : List Part). IsRest parts left result) (append-nil front) r)
step_numbers front (n ∷ ns) rest left result (e, a) r =
    step_number front n rest (rest_after rest) result e refl
    (step_numbers (front ++ Number n ∷ []) ns (rest_after rest) left result a
    (subst (λ (parts : List Part). IsRest parts left result) (sym (append_assoc front (Number n ∷ []) (map Number ns))) r))

-- some medium follows where a command names some
some_follow : (ms rest : List ℕ) (log : Bool) (until : Option ℕ) → IsTrue (list_all is_medium ms) → 0 < length ms → ((n : ℕ) → IsTrue (is_medium n) → number_of (first_text rest) ≢ Some n)
    → FitsLine (map Number ms ++ options log until) rest → ⊥
some_follow [] rest log until i s none f = omega arith
some_follow (m ∷ ms) rest log until i s none f = none m (and_parts (is_medium m) (list_all is_medium ms) i).0 f.0

-- no medium is there
pub no_media : (ns rest left : List ℕ) → ns ≡ [] → AreNumbers ns rest left → IsWholeRun ns left
    → (command : Command) → IsTrue (is_in_range command) → Follows (Word (codes "recover") ∷ []) (parts_of command) rest → ⊥
no_media (n ∷ ns) rest left e a w command i f = absurd (cc)
no_media [] rest left e a (inl w) command i f = absurd (omega (arith, w))
no_media [] rest left e a (inr none) (Recover media other until) i f =
    let p = and_parts (list_all is_medium media.items && is_within 1 99 (length media.items)) (is_until until) i in
    let q = and_parts (list_all is_medium media.items) (is_within 1 99 (length media.items)) p.0 in
    let l = and_parts (nat_le 1 (length media.items)) (nat_le (length media.items) 99) q.1 in
    some_follow media.items rest other until q.0 (leb-true 1 (length media.items) l.0)
    (subst (λ (x : List ℕ). (n : ℕ) → IsTrue (is_medium n) → number_of (first_text x) ≢ Some n) a none)
    (subst (λ (parts : List Part). FitsLine parts rest) (append_assoc (map Number media.items) (log_part other) (until_part until)) f.1)
no_media [] rest left e a (inr none) command i f = absurd (other_form (Word (codes "recover") ∷ []) (parts_of command) rest refl f)
