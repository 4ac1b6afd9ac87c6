-- How `clap` goes over words that are no flags, where a command has no subcommand.
--     walk_is, walk_fault_is      word by word, each goes to the next positional
--     walk_stopped      after the name of a subcommand all words are its own
use Rattle.std.proofs.Common.{◌≡◌, refl, sym, ap, ◌∙◌, ◌==◌, ◌&&◌, ℕ, Bool, true, false, not, List, [], ◌∷◌, ◌++◌, Option, Some, None, append_assoc, append-nil}
use Rattle.std.specs.Prelude.{fold, find}
use Rattle.std.specs.List.{list_all}
use Rattle.std.specs.Option.{option_map_or}
use Rattle.std.proofs.lemmas.Bool.{and_parts, not-true}
use Rattle.clap.specs.Kinds.{Kinds, or_else}
use Rattle.clap.specs.Walk.{Held, Names, Rule, Text, Walk, idle, arg_by_index, is_multiple, next_position, positional_held, to_positional, value, walked, word_met, subcommand_met}
use Rattle.clap.specs.Simple.{Shape}
use Rattle.clap.specs.Faults.{step_fault, turn_fault, walk_fault, word_fault}
use Rattle.mdb_model.specs.Script.{is_bad_word}

-- Two tests

-- Between two words

-- where the walk stands: so much is held, and this positional is next
abbrev pub at : Held → (position : ℕ) → Walk
at held position = record { held = held; waiting = idle; position = position; is_trailing = false; stopped = None }

abbrev pub is_plain_rule : Rule → Bool
is_plain_rule a = not (is_multiple a) && not a.trailing_var_arg

abbrev pub held_on : Option Rule → List Rule → Text → Held → Held
held_on None c word h = h
held_on (Some a) c word h = positional_held c a word h

abbrev pub position_on : Option Rule → ℕ → ℕ
position_on None position = position
position_on (Some a) position = next_position a position

abbrev pub held_after : List Rule → Held → ℕ → List Text → Held × ℕ
held_after c h position [] = (h, position)
held_after c h position (word ∷ words) =
    held_after c (held_on (arg_by_index c position) c word h) (position_on (arg_by_index c position) position) words

abbrev pub faults_after : Shape → Held → ℕ → List Text → Kinds
faults_after s h position [] = []
faults_after s h position (word ∷ words) =
    or_else (step_fault s position h value)
    (faults_after s (held_on (arg_by_index s.rules position) s.rules word h) (position_on (arg_by_index s.rules position) position) words)

-- One word

find_passes : {X : Type 0} (p q : X → Bool) (xs : List X) (x : X) → find p xs ≡ Some x → list_all q xs ≡ true → q x ≡ true
find_passes p q [] x found all = cc
find_passes {X} p q (y ∷ ys) x found all = by_test (p y) refl (λ later. find_passes p q ys x later (and_parts (q y) (list_all q ys) all).1) where
  by_test : (b : Bool) → p y ≡ b → (find p ys ≡ Some x → q x ≡ true) → q x ≡ true
  by_test true is later = let e : Some y ≡ Some x = rw is at found in let e' : y ≡ x = cc in ap q (sym e') ∙ (and_parts (q y) (list_all q ys) all).0
  by_test false is later = later (rw is at found)

pub word_is : (c : List Rule) (names : Names) (position : ℕ) (word : Text) (h : Held) → not (is_bad_word word) ≡ true → subcommand_met names idle word ≡ None
    → word_met c names false idle position word h ≡ (h, value)
word_is c names position [] h good none = cc
word_is c names position (x ∷ xs) h good none = let e : (x == 45) ≡ false = not-true (x == 45) good in rw (none, e, e) refl

pub word_no_fault : (s : Shape) (names : Names) (word : Text) (h : Held) → not (is_bad_word word) ≡ true → subcommand_met names idle word ≡ None → word_fault s names false idle word h ≡ []
word_no_fault s names [] h good none = cc
word_no_fault s names (x ∷ xs) h good none = let e : (x == 45) ≡ false = not-true (x == 45) good in rw (none, e, e) refl

to_next : (c : List Rule) (h : Held) (position : ℕ) (word : Text) (found : Option Rule) → ((a : Rule) → found ≡ Some a → is_plain_rule a ≡ true)
    → to_positional c found word (at h position) h ≡ at (held_on found c word h) (position_on found position)
to_next c h position word None plain = refl
to_next c h position word (Some a) plain =
    let both = and_parts (not (is_multiple a)) (not a.trailing_var_arg) (plain a refl) in
    let multiple : is_multiple a ≡ false = not-true (is_multiple a) both.0 in
    let trailing : a.trailing_var_arg ≡ false = not-true a.trailing_var_arg both.1 in
    rw (multiple, trailing) refl

step_is : (c : List Rule) (h : Held) (position : ℕ) (word : Text) → list_all is_plain_rule c ≡ true → not (is_bad_word word) ≡ true
    → walked c [] (at h position) word ≡ at (held_on (arg_by_index c position) c word h) (position_on (arg_by_index c position) position)
unfolding walked
step_is c h position word plain good = rw (word_is c [] position word h good refl)
    (to_next c h position word (arg_by_index c position) (λ a found. find_passes (λ r. option_map_or (λ k. k == position) r.index false) is_plain_rule c a found plain))

pub walk_is : (c : List Rule) (h : Held) (position : ℕ) (words : List Text) → list_all is_plain_rule c ≡ true → list_all (λ w. not (is_bad_word w)) words ≡ true
    → fold (walked c []) (at h position) words ≡ at (held_after c h position words).0 (held_after c h position words).1
walk_is c h position [] plain good = refl
walk_is c h position (word ∷ words) plain good =
    let both = and_parts (not (is_bad_word word)) (list_all (λ w. not (is_bad_word w)) words) good in
    ap (λ (w : Walk). fold (walked c []) w words) (step_is c h position word plain both.0)
    ∙ walk_is c (held_on (arg_by_index c position) c word h) (position_on (arg_by_index c position) position) words plain both.1

pub walk_fault_is : (s : Shape) (h : Held) (position : ℕ) (words : List Text) → list_all is_plain_rule s.rules ≡ true → list_all (λ w. not (is_bad_word w)) words ≡ true
    → walk_fault s [] (at h position) words ≡ faults_after s h position words
unfolding walk_fault
walk_fault_is s h position [] plain good = refl
walk_fault_is s h position (word ∷ words) plain good =
    let both = and_parts (not (is_bad_word word)) (list_all (λ w. not (is_bad_word w)) words) good in
    let turn : turn_fault s [] (at h position) word ≡ step_fault s position h value =
    rw (word_no_fault s [] word h both.0 refl, word_is s.rules [] position word h both.0 refl) refl in
    rw (turn, step_is s.rules h position word plain both.0)
    (ap (or_else (step_fault s position h value)) (walk_fault_is s (held_on (arg_by_index s.rules position) s.rules word h) (position_on (arg_by_index s.rules position) position) words plain both.1))

-- After the name of a subcommand

pub walk_stopped : (c : List Rule) (names : Names) (w : Walk) (name : Text) (before words : List Text)
    → fold (walked c names) (record w { stopped = Some (name, before) }) words ≡ record w { stopped = Some (name, before ++ words) }
unfolding walked
walk_stopped c names w name before [] = ap (λ (l : List Text). record w { stopped = Some (name, l) }) (sym (append-nil before))
walk_stopped c names w name before (word ∷ words) =
    walk_stopped c names w name (before ++ word ∷ []) words ∙ ap (λ (l : List Text). record w { stopped = Some (name, l) }) (append_assoc before (word ∷ []) words)
