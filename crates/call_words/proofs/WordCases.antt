-- `clap` finds no fault with the words exactly where they ask for something, but for the numbers.
--     clap_agrees      what it makes of them asks for what they ask for
--     asked_is, asked_none, asked_bad      what they ask for, where it finds no fault, where it does, and where a word is bad
use Rattle.std.proofs.Common.{◌≡◌, ◌≢◌, refl, sym, ap, ap₂, subst, ◌∙◌, ◌==◌, ◌&&◌, ◌<◌, ℕ, Bool, true, false, not, List, [], ◌∷◌, Option, Some, None, arith, length}
use Rattle.std.specs.Prelude.{codes, fold, is_some, if◌then◌else◌, nat_le, nat_lt, sum, ◌-◌, ◌^◌, suc}
use Rattle.std.specs.List.{list_all}
use Rattle.std.specs.Str.{bytes_eq}
use Rattle.std.proofs.lemmas.Slice.Eq.{bytes_eq-Decides}
use Rattle.clap.specs.Kinds.{Kinds, or_else}
use Rattle.clap.specs.Walk.{Row, Text, Walk, finished, idle, nothing_held, rows_after, settled, subcommand_met, value, walk_from, walked}
use Rattle.clap.specs.Simple.{App, Shape, built, entered, names_of, subcommand_of}
use Rattle.clap.specs.Faults.{check_fault, defaults_fault, entered_fault, fault_of, level_fault, settle_fault, step_fault, turn_fault, walk_fault}
use Rattle.clap.proofs.OnLiterals.{clap_on_literals}
use Rattle.clap.proofs.FaultLemmas.{stopped_fault}
use Rattle.std.proofs.lemmas.Bool.{eqb-true, and_parts}
use Rattle.std.proofs.lemmas.Bool.Decides.{nat_tests}
use Rattle.mdb_model.specs.Script.{Create, Load, asked_of, is_within, create_of, is_bad_word, load_of, number_of, numbers_of, same_word}
use Rattle.call_words.specs.Asked.{asked_by, but_load}
use Rattle.call_words.specs.Words.{clap_asks, command_line, request_in, with_front}
use Rattle.call_words.proofs.WordWalks.{faults_after, held_after, is_plain_rule, walk_fault_is, walk_is, walk_stopped, word_is, word_no_fault}

abbrev are_good : List Text → Bool
are_good words = list_all (λ w. not (is_bad_word w)) words

abbrev app : App
app = built command_line

abbrev first_shape : List Shape → Shape
first_shape [] = app.top
first_shape (s ∷ shapes) = s

abbrev second_shape : List Shape → Shape
second_shape [] = app.top
second_shape (s ∷ shapes) = first_shape shapes

abbrev create_leaf : Shape
create_leaf = first_shape app.subs

abbrev run_leaf : Shape
run_leaf = second_shape app.subs

-- The words of a subcommand

-- what is found wrong with them, and what is found
abbrev leaf_fault : Shape → List Text → Kinds
leaf_fault s words =
    let end = (held_after s.rules nothing_held 1 words).0 in
    or_else (faults_after s nothing_held 1 words)
    (or_else (settle_fault s.rules s.args_override_self end)
    (or_else (defaults_fault (settled s.rules end).rows s.rules) (check_fault s (finished s.rules end) false)))

abbrev leaf_rows : Shape → List Text → List Row
leaf_rows s words = finished s.rules (held_after s.rules nothing_held 1 words).0

level_is : (s : Shape) (words : List Text) → list_all is_plain_rule s.rules ≡ true → are_good words ≡ true → level_fault s [] nothing_held words false [] ≡ leaf_fault s words
level_is s words plain good =
    ap₂ (λ (w : Walk) (faults : Kinds). or_else faults (or_else (settle_fault s.rules s.args_override_self w.held)
    (or_else (defaults_fault (settled s.rules w.held).rows s.rules) (check_fault s (finished s.rules w.held) false))))
    (walk_is s.rules nothing_held 1 words plain good) (walk_fault_is s nothing_held 1 words plain good)

rows_is : (s : Shape) (words : List Text) → list_all is_plain_rule s.rules ≡ true → are_good words ≡ true → rows_after s.rules [] words ≡ leaf_rows s words
rows_is s words plain good = ap (λ (w : Walk). finished s.rules w.held) (walk_is s.rules nothing_held 1 words plain good)

-- After the name of a subcommand

or_else-none : (kinds : Kinds) → or_else kinds [] ≡ kinds
or_else-none [] = refl
or_else-none (k ∷ ks) = refl

-- what is found wrong with a whole line, by where the walk over it ends and what it finds wrong
abbrev line_fault : Walk → Kinds → Kinds
line_fault w faults =
    or_else faults (or_else (entered_fault app w.stopped) (or_else (settle_fault app.top.rules app.top.args_override_self w.held)
    (or_else (defaults_fault (settled app.top.rules w.held).rows app.top.rules) (check_fault app.top (finished app.top.rules w.held) (is_some (entered app w.stopped))))))

abbrev walk_over : List Text → Walk
walk_over words = fold (walked app.top.rules (names_of app)) (walk_from nothing_held) words

abbrev faults_over : List Text → Kinds
faults_over words = walk_fault app.top (names_of app) (walk_from nothing_held) words

abbrev stopped_at : Text → List Text → Walk
stopped_at name words = record (walk_from nothing_held) { stopped = Some (name, words) }

create_walk : (words : List Text) → walk_over (codes "create" ∷ words) ≡ stopped_at (codes "create") words
unfolding clap_on_literals
create_walk words = walk_stopped app.top.rules (names_of app) (walk_from nothing_held) (codes "create") [] words

run_walk : (words : List Text) → walk_over (codes "run" ∷ words) ≡ stopped_at (codes "run") words
unfolding clap_on_literals
run_walk words = walk_stopped app.top.rules (names_of app) (walk_from nothing_held) (codes "run") [] words

create_faults : (words : List Text) → faults_over (codes "create" ∷ words) ≡ []
unfolding clap_on_literals
create_faults words = stopped_fault app.top (names_of app) (walk_from nothing_held) (codes "create", []) words

run_faults : (words : List Text) → faults_over (codes "run" ∷ words) ≡ []
unfolding clap_on_literals
run_faults words = stopped_fault app.top (names_of app) (walk_from nothing_held) (codes "run", []) words

create_fault : (words : List Text) → are_good words ≡ true → fault_of command_line (codes "create" ∷ words) ≡ leaf_fault create_leaf words
unfolding clap_on_literals
create_fault words good =
    ap₂ line_fault (create_walk words) (create_faults words) ∙ or_else-none (level_fault create_leaf [] nothing_held words false []) ∙ level_is create_leaf words refl good

run_fault : (words : List Text) → are_good words ≡ true → fault_of command_line (codes "run" ∷ words) ≡ leaf_fault run_leaf words
unfolding clap_on_literals
run_fault words good =
    ap₂ line_fault (run_walk words) (run_faults words) ∙ or_else-none (level_fault run_leaf [] nothing_held words false []) ∙ level_is run_leaf words refl good

create_rows : (words : List Text) → are_good words ≡ true → subcommand_of command_line (codes "create" ∷ words) ≡ Some (codes "create", leaf_rows create_leaf words)
unfolding clap_on_literals
create_rows words good = ap (λ (w : Walk). entered app w.stopped) (create_walk words) ∙ ap (λ (rows : List Row). Some (codes "create", rows)) (rows_is create_leaf words refl good)

run_rows : (words : List Text) → are_good words ≡ true → subcommand_of command_line (codes "run" ∷ words) ≡ Some (codes "run", leaf_rows run_leaf words)
unfolding clap_on_literals
run_rows words good = ap (λ (w : Walk). entered app w.stopped) (run_walk words) ∙ ap (λ (rows : List Row). Some (codes "run", rows)) (rows_is run_leaf words refl good)

-- `run`

run_agrees : (words : List Text) → clap_asks (leaf_fault run_leaf words) (Some (codes "run", leaf_rows run_leaf words)) ≡ but_load (asked_of (codes "run" ∷ words))
unfolding clap_on_literals
run_agrees [] = refl
run_agrees (folder ∷ []) = refl
run_agrees (folder ∷ a ∷ words) = refl

-- `create`

create_stays : (folder : Text) (numbers : Option (List ℕ)) → create_of folder numbers ≡ but_load (create_of folder numbers)
create_stays folder None = refl
create_stays folder (Some []) = refl
create_stays folder (Some (birth ∷ [])) = refl
create_stays folder (Some (birth ∷ log_pages ∷ data_pages)) = by_test (is_within 1 (2 ^ 61 - 1) birth && is_within 4 65536 log_pages && is_within 1 8 (length data_pages)
    && list_all (nat_le 64) data_pages && is_within 512 65536 (sum data_pages)) where
      by_test : (within : Bool) → (if within then Some (Create folder birth log_pages data_pages) else None) ≡ but_load (if within then Some (Create folder birth log_pages data_pages) else None)
      by_test true = refl
      by_test false = refl

no_create : (folder : Text) (birth log_pages : ℕ) (data_pages : List ℕ) → is_within 1 8 (length data_pages) ≡ false → create_of folder (Some (birth ∷ log_pages ∷ data_pages)) ≡ None
no_create folder birth log_pages data_pages bad = rw (bad, third_false (is_within 1 (2 ^ 61 - 1) birth) (is_within 4 65536 log_pages)) refl where
  third_false : (a b : Bool) → (a && b && false) ≡ false
  third_false true true = refl
  third_false true false = refl
  third_false false b = refl

-- other counts than one to eight
not_so_many : (folder : Text) (birth log_pages : Option ℕ) (counts : Option (List ℕ)) → ((data_pages : List ℕ) → counts ≡ Some data_pages → is_within 1 8 (length data_pages) ≡ false)
    → create_of folder (with_front birth (with_front log_pages counts)) ≡ None
not_so_many folder None log_pages counts bad = refl
not_so_many folder (Some birth) None counts bad = refl
not_so_many folder (Some birth) (Some log_pages) None bad = refl
not_so_many folder (Some birth) (Some log_pages) (Some data_pages) bad = no_create folder birth log_pages data_pages (bad data_pages refl)

one_number : (folder : Text) (birth : Option ℕ) → create_of folder (with_front birth (Some [])) ≡ None
one_number folder None = refl
one_number folder (Some birth) = refl

front_length : (number : Option ℕ) (before after : Option (List ℕ)) (n : ℕ) → ((ns : List ℕ) → before ≡ Some ns → length ns ≡ n) → (ns : List ℕ) → with_front number before ≡ Some ns → length ns ≡ suc n
front_length None before after n short ns is = cc
front_length (Some number) None after n short ns is = cc
front_length (Some number) (Some rest) after n short ns is = let e : number ∷ rest ≡ ns = cc in ap length (sym e) ∙ ap suc (short rest refl)

as_many : (texts : List Text) (ns : List ℕ) → numbers_of texts ≡ Some ns → length ns ≡ length texts
as_many [] ns is = let e : [] ≡ ns = cc in ap length (sym e)
as_many (text ∷ texts) ns is = front_length (number_of text) (numbers_of texts) None (length texts) (as_many texts) ns is

over_eight : (n : ℕ) → 8 < n → is_within 1 8 n ≡ false
over_eight n big = grind (arith, nat_tests)

too_many : (folder : Text) (birth log_pages : Option ℕ) (counts : List Text) → 8 < length counts → create_of folder (with_front birth (with_front log_pages (numbers_of counts))) ≡ None
too_many folder birth log_pages counts big =
    not_so_many folder birth log_pages (numbers_of counts) (λ data_pages is. over_eight (length data_pages) (omega (arith, as_many counts data_pages is)))

create_agrees : (words : List Text) → clap_asks (leaf_fault create_leaf words) (Some (codes "create", leaf_rows create_leaf words)) ≡ but_load (asked_of (codes "create" ∷ words))
unfolding clap_on_literals
create_agrees [] = refl
create_agrees (folder ∷ []) = refl
create_agrees (folder ∷ birth ∷ []) = ap but_load (sym (one_number folder (number_of birth)))
create_agrees (folder ∷ birth ∷ log_pages ∷ []) = ap but_load (sym (not_so_many folder (number_of birth) (number_of log_pages) (Some []) (λ data_pages is. let e : [] ≡ data_pages = cc in subst (λ (l : List ℕ). is_within 1 8 (length l) ≡ false) e refl)))
create_agrees (folder ∷ birth ∷ log_pages ∷ a ∷ []) = create_stays folder (numbers_of (birth ∷ log_pages ∷ a ∷ []))
create_agrees (folder ∷ birth ∷ log_pages ∷ a ∷ b ∷ []) = create_stays folder (numbers_of (birth ∷ log_pages ∷ a ∷ b ∷ []))
create_agrees (folder ∷ birth ∷ log_pages ∷ a ∷ b ∷ c ∷ []) = create_stays folder (numbers_of (birth ∷ log_pages ∷ a ∷ b ∷ c ∷ []))
create_agrees (folder ∷ birth ∷ log_pages ∷ a ∷ b ∷ c ∷ d ∷ []) = create_stays folder (numbers_of (birth ∷ log_pages ∷ a ∷ b ∷ c ∷ d ∷ []))
create_agrees (folder ∷ birth ∷ log_pages ∷ a ∷ b ∷ c ∷ d ∷ e ∷ []) = create_stays folder (numbers_of (birth ∷ log_pages ∷ a ∷ b ∷ c ∷ d ∷ e ∷ []))
create_agrees (folder ∷ birth ∷ log_pages ∷ a ∷ b ∷ c ∷ d ∷ e ∷ f ∷ []) = create_stays folder (numbers_of (birth ∷ log_pages ∷ a ∷ b ∷ c ∷ d ∷ e ∷ f ∷ []))
create_agrees (folder ∷ birth ∷ log_pages ∷ a ∷ b ∷ c ∷ d ∷ e ∷ f ∷ g ∷ []) = create_stays folder (numbers_of (birth ∷ log_pages ∷ a ∷ b ∷ c ∷ d ∷ e ∷ f ∷ g ∷ []))
create_agrees (folder ∷ birth ∷ log_pages ∷ a ∷ b ∷ c ∷ d ∷ e ∷ f ∷ g ∷ h ∷ []) = create_stays folder (numbers_of (birth ∷ log_pages ∷ a ∷ b ∷ c ∷ d ∷ e ∷ f ∷ g ∷ h ∷ []))
create_agrees (folder ∷ birth ∷ log_pages ∷ a ∷ b ∷ c ∷ d ∷ e ∷ f ∷ g ∷ h ∷ i ∷ words) =
    ap but_load (sym (too_many folder (number_of birth) (number_of log_pages) (a ∷ b ∷ c ∷ d ∷ e ∷ f ∷ g ∷ h ∷ i ∷ words) (omega arith)))

-- Any other word in front

none_named : (word : Text) → bytes_eq (codes "create") word ≡ false → bytes_eq (codes "run") word ≡ false → subcommand_met (names_of app) idle word ≡ None
none_named word no_create no_run = rw (no_create, no_run) refl

other_fault : (word : Text) (words : List Text) → not (is_bad_word word) ≡ true → subcommand_met (names_of app) idle word ≡ None
    → (met : Option (Text × List Row)) → clap_asks (fault_of command_line (word ∷ words)) met ≡ None
unfolding clap_on_literals
other_fault word words good none met =
    let w = walk_from nothing_held in
    let turn : turn_fault app.top (names_of app) w word ≡ step_fault app.top 1 nothing_held value =
    rw (word_no_fault app.top (names_of app) word nothing_held good none, word_is app.top.rules (names_of app) 1 word nothing_held good none) refl in
    let rest = walk_fault app.top (names_of app) (walked app.top.rules (names_of app) w word) words in
    ap (λ (faults : Kinds). clap_asks (line_fault (walk_over (word ∷ words)) (or_else faults rest)) met) turn

no_load : (folder : Text) (numbers : Option (List ℕ)) → but_load (load_of folder numbers) ≡ None
no_load folder None = refl
no_load folder (Some []) = refl
no_load folder (Some (seed ∷ [])) = refl
no_load folder (Some (seed ∷ count ∷ [])) = by_test (nat_lt seed (2 ^ 32) && is_within 1 1000000 count) where
  by_test : (within : Bool) → but_load (if within then Some (Load seed count folder) else None) ≡ None
  by_test true = refl
  by_test false = refl
no_load folder (Some (seed ∷ count ∷ a ∷ more)) = refl

other_asks : (verb : Text) (words : List Text) → same_word verb (codes "create") ≡ false → same_word verb (codes "run") ≡ false → but_load (asked_of (verb ∷ words)) ≡ None
other_asks verb [] no_create no_run = refl
other_asks verb (a ∷ []) no_create no_run = rw no_run refl
other_asks verb (a ∷ b ∷ []) no_create no_run = rw no_create (by_test (same_word verb (codes "load"))) where
  by_test : (is : Bool) → but_load (if is then None else None) ≡ None
  by_test true = refl
  by_test false = refl
other_asks verb (a ∷ b ∷ c ∷ []) no_create no_run = rw no_create (by_test (same_word verb (codes "load"))) where
  by_test : (is : Bool) → but_load (if is then load_of c (numbers_of (a ∷ b ∷ [])) else None) ≡ None
  by_test true = no_load c (numbers_of (a ∷ b ∷ []))
  by_test false = refl
other_asks verb (a ∷ b ∷ c ∷ d ∷ words) no_create no_run = rw no_create (by_test (same_word verb (codes "load"))) where
  by_test : (is : Bool) → but_load (if is then None else None) ≡ None
  by_test true = refl
  by_test false = refl

same_is : (a b : Text) → same_word a b ≡ true → a ≡ b
same_is [] [] same = refl
same_is [] (y ∷ b) same = cc
same_is (x ∷ a) [] same = cc
same_is (x ∷ a) (y ∷ b) same =
    let both = and_parts (x == y) (same_word a b) same in
    ap₂ (λ (n : ℕ) (l : List ℕ). n ∷ l) (eqb-true x y both.0) (same_is a b both.1)

is_named : (name word : Text) → bytes_eq name word ≡ true → name ≡ word
is_named name word same = (bytes_eq-Decides name word).0 same

-- another word than a name is so in both ways of comparing
not_same : (name word : Text) → bytes_eq name name ≡ true → bytes_eq name word ≡ false → same_word word name ≡ false
not_same name word self other = by_test (same_word word name) refl where
  by_test : (b : Bool) → same_word word name ≡ b → b ≡ false
  by_test false is = refl
  by_test true is = let e : bytes_eq name word ≡ bytes_eq name name = ap (bytes_eq name) (same_is word name is) in cc

pub clap_agrees : (words : List Text) → are_good words ≡ true → clap_asks (fault_of command_line words) (subcommand_of command_line words) ≡ but_load (asked_of words)
unfolding clap_on_literals
clap_agrees [] good = refl
clap_agrees (verb ∷ words) good = by_create (bytes_eq (codes "create") verb) refl where
  both : (not (is_bad_word verb) ≡ true) × (are_good words ≡ true)
  both = and_parts (not (is_bad_word verb)) (are_good words) good

  Agrees : Text → Type 0
  Agrees name = clap_asks (fault_of command_line (name ∷ words)) (subcommand_of command_line (name ∷ words)) ≡ but_load (asked_of (name ∷ words))

  by_run : bytes_eq (codes "create") verb ≡ false → (b : Bool) → bytes_eq (codes "run") verb ≡ b → Agrees verb
  by_run no_create true is = subst Agrees (is_named (codes "run") verb is) (ap₂ clap_asks (run_fault words both.1) (run_rows words both.1) ∙ run_agrees words)
  by_run no_create false is = other_fault verb words both.0 (none_named verb no_create is) (subcommand_of command_line (verb ∷ words))
      ∙ sym (other_asks verb words (not_same (codes "create") verb refl no_create) (not_same (codes "run") verb refl is))

  by_create : (b : Bool) → bytes_eq (codes "create") verb ≡ b → Agrees verb
  by_create true is = subst Agrees (is_named (codes "create") verb is) (ap₂ clap_asks (create_fault words both.1) (create_rows words both.1) ∙ create_agrees words)
  by_create false is = by_run is (bytes_eq (codes "run") verb) refl

asked_good : (words : List Text) → are_good words ≡ true → asked_by words ≡ but_load (asked_of words)
asked_good words good = rw good refl

pub asked_is : (words : List Text) (met : Option (Text × List Row)) → are_good words ≡ true → fault_of command_line words ≡ [] → met ≡ subcommand_of command_line words → asked_by words ≡ request_in met
asked_is words met good none is = asked_good words good ∙ sym (clap_agrees words good) ∙ ap₂ clap_asks none (sym is)

pub asked_none : (words : List Text) → are_good words ≡ true → fault_of command_line words ≢ [] → asked_by words ≡ None
asked_none words good fault = asked_good words good ∙ sym (clap_agrees words good) ∙ by_fault (fault_of command_line words) fault where
  by_fault : (faults : Kinds) → faults ≢ [] → clap_asks faults (subcommand_of command_line words) ≡ None
  by_fault [] some = absurd (some refl)
  by_fault (k ∷ ks) some = refl

pub asked_bad : (words : List Text) → are_good words ≡ false → asked_by words ≡ None
asked_bad words bad = rw bad refl
