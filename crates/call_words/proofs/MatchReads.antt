-- What the words of matches are read as.
--     on_none, on_option      a result that is none; what follows from either
--     word_none, word_some      the word of an argument
--     met_is, not_run      the subcommand, which is `create` where it is not `run`
--     lacks_second, lacks_third, lacks_fourth, gains_four      four counts, one after another
use Rattle.std.proofs.Common.{◌≡◌, refl, sym, ap, subst, ◌∙◌, ℕ, List, ◌++◌, false, Option, Some, None, MatchOption}
use Rattle.std.specs.Prelude.{codes, option_map}
use Rattle.std.specs.Borrow.{Bor}
use Rattle.clap.specs.declared.parser.matches.Found.{Found}
use Rattle.clap.specs.Matches.{first_value}
use Rattle.clap.specs.Walk.{Text, first_of, rows_of}
use Rattle.clap.specs.Walk.{Row}
use Rattle.clap.specs.Matches.{found_of, subcommand_name_of}
use Rattle.clap.specs.Simple.{subcommand_rows_of}
use Rattle.clap.specs.declared.parser.matches.ArgMatches.{ArgMatches}
use Rattle.clap.specs.declared.parser.matches.ArgMatches.TheViews.{out-ArgMatches, out-SubCommand}
use Rattle.clap.proofs.WalkLemmas.{first_value-rows}
use Rattle.std.specs.Box.{box_value}
use Rattle.std.specs.Str.{bytes_eq}
use Rattle.mdb_model.specs.Script.{create_of}
use Rattle.call_words.specs.Words.{Gains, Lacks, folder_in, numbers_in, request_in}
use Rattle.call_words.proofs.Counts.{gains_on, lacks_behind, lacks_front}

pub on_none : {X : Type 0} (r : Option X) (A : Type 0) (B : X → Type 0) → r ≡ None → A → MatchOption r A B
on_none r A B is a = subst (λ o. MatchOption o A B) (sym is) a

pub on_option : {X : Type 0} (r : Option X) (A C : Type 0) (B D : X → Type 0) → (A → C) → ((x : X) → B x → D x) → MatchOption r A B → MatchOption r C D
on_option None A C B D f g m = f m
on_option (Some x) A C B D f g m = g x m

pub word_none : (f : Found) (name : Text) (r : Option (Bor (List ℕ))) → option_map (λ s. s.now) r ≡ first_value f name → r ≡ None → first_of name (rows_of f) ≡ None
word_none f name r got is = sym (first_value-rows f name) ∙ sym got ∙ ap (option_map (λ (s : Bor (List ℕ)). s.now)) is

pub word_some : (f : Found) (name : Text) (r : Option (Bor (List ℕ))) (word : Bor (List ℕ)) → option_map (λ s. s.now) r ≡ first_value f name → r ≡ Some word → first_of name (rows_of f) ≡ Some word.now
word_some f name r word got is = sym (first_value-rows f name) ∙ sym got ∙ ap (option_map (λ (s : Bor (List ℕ)). s.now)) is

both_met : {X : Type 0} (o : Option X) (f : X → Text) (g : X → List Row) (name : Text) (rows : List Row) → Some name ≡ option_map f o
    → Some rows ≡ option_map (λ (p : Text × List Row). p.1) (option_map {U = Text × List Row} (λ (x : X). (f x, g x)) o) → option_map {U = Text × List Row} (λ (x : X). (f x, g x)) o ≡ Some (name, rows)
both_met None f g name rows named found = cc
both_met (Some x) f g name rows named found = let a : f x ≡ name = cc in let b : g x ≡ rows = cc in rw (a, b) refl

pub met_is : (m : ArgMatches) (name : Text) (rows : List Row) → Some name ≡ subcommand_name_of m → Some rows ≡ option_map (λ (p : Text × List Row). p.1) (subcommand_rows_of m)
    → subcommand_rows_of m ≡ Some (name, rows)
met_is m name rows named found =
    both_met (out-ArgMatches m).subcommand (λ b. (out-SubCommand (box_value b)).name.now) (λ b. rows_of (found_of (out-SubCommand (box_value b)).matches)) name rows named found

pub not_run : (name : Text) (rows : List Row) → bytes_eq name (codes "run") ≡ false → request_in (Some (name, rows)) ≡ create_of (folder_in rows) (numbers_in rows)
not_run name rows other = rw other refl

pub lacks_second : (a b c : List Text) → Lacks b → Lacks (a ++ (b ++ c))
lacks_second a b c none = lacks_behind a (b ++ c) (lacks_front b c none)

pub lacks_third : (a b c d : List Text) → Lacks c → Lacks (a ++ (b ++ (c ++ d)))
lacks_third a b c d none = lacks_behind a (b ++ (c ++ d)) (lacks_second b c d none)

pub lacks_fourth : (a b c d : List Text) → Lacks d → Lacks (a ++ (b ++ (c ++ d)))
lacks_fourth a b c d none = lacks_behind a (b ++ (c ++ d)) (lacks_behind b (c ++ d) (lacks_behind c d none))

pub gains_four : (a b c d : List Text) (v0 v1 v2 v3 v4 : List ℕ) → Gains a v0 v1 → Gains b v1 v2 → Gains c v2 v3 → Gains d v3 v4 → Gains (a ++ (b ++ (c ++ d))) v0 v4
gains_four a b c d v0 v1 v2 v3 v4 first second third fourth =
    gains_on a (b ++ (c ++ d)) v0 v1 v4 first (gains_on b (c ++ d) v1 v2 v4 second (gains_on c d v2 v3 v4 third fourth))
