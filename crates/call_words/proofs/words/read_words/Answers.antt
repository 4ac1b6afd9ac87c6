use Rattle.std.proofs.Common.{◌∙◌, subst, sym, Option, map, not, ◌≡◌, Some, None}
use Rattle.std.specs.Option.{ok_or, MatchOption}
use Rattle.std.specs.Result.{MatchResult}
use Rattle.std.specs.String.{string_bytes}
use Rattle.std.proofs.lemmas.List.Folds.{list_all-map}
use Rattle.std.proofs.lemmas.Result.{err_from_is_err_and}
use Rattle.clap.specs.Words.{subcommand_rows_of}
use Rattle.mdb_model.specs.Script.{Asked as Request, is_bad_word}
use Rattle.call_words.specs.declared.asked.Asked.{Asked}
use Rattle.call_words.specs.declared.words.WordsFault.TheVariants.{Usage}
use Rattle.call_words.specs.Asked.{IsRequest}
use Rattle.call_words.proofs.WordCases.{asked_bad, asked_is, asked_none}
use Rattle.call_words.proofs.words.read_words.Goals as goal

pub returns-then-not-are_plain : goal.returns-then-not-are_plain
returns-then-not-are_plain c usage =
    asked_bad (map string_bytes c.args.words.now) (list_all-map (λ word. not (is_bad_word word)) string_bytes c.args.words.now ∙ sym c.are_plain.ensures ∙ c.if-not-are_plain.true)

-- what was asked, or words that break the rules
asked_or : (request read : Option Request) (found : Option Asked) → request ≡ read → MatchOption found (read ≡ None) (IsRequest read)
    → MatchResult (ok_or found Usage) (IsRequest request) (λ fault. fault ≡ Usage → request ≡ None)
asked_or request read None is none = λ usage. is ∙ none
asked_or request read (Some asked) is holds = subst (λ (r : Option Request). IsRequest r asked) (sym is) holds

pub returns : goal.returns
returns c =
    let words = map string_bytes c.args.words.now in
    let good = list_all-map (λ word. not (is_bad_word word)) string_bytes c.args.words.now ∙ sym c.are_plain.ensures ∙ c.if-not-are_plain.false in
    rw c.ok_or.ensures.value
    (asked_or _ _ c.read_asked.result (asked_is words (subcommand_rows_of c.in_ok-matches.matches) good c.in_ok-matches.ensures.0 c.in_ok-matches.ensures.1) c.read_asked.ensures)

pub returns-in_err-matches : goal.returns-in_err-matches
returns-in_err-matches c =
    let words = map string_bytes c.args.words.now in
    let good = list_all-map (λ word. not (is_bad_word word)) string_bytes c.args.words.now ∙ sym c.are_plain.ensures ∙ c.if-not-are_plain.false in
    let passed = err_from_is_err_and c.from_residual.result c.from_residual.ensures.1 in
    rw (passed.1, passed.2) (λ usage. asked_none words good (c.in_err-matches.ensures usage))
