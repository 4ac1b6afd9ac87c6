use Rattle.std.proofs.Common.{◌≡◌, ◌≢◌, ◌∙◌, ◌^◌, ◌<◌, ap, subst, sym, ℕ, Option, Some, MatchOption}
use Rattle.std.specs.Prelude.{option_and_then}
use Rattle.clap.specs.Words.{found_of, rows_of}
use Rattle.mdb_model.specs.Script.{number_of}
use Rattle.call_words.specs.Words.{number_in}
use Rattle.call_words.proofs.MatchReads.{on_none, word_none, word_some}
use Rattle.call_words.proofs.words.read_number.Goals as goal

pub returns-in_err-word : goal.returns-in_err-word
returns-in_err-word c =
    let none = ap (option_and_then number_of) (word_none (found_of c.args.matches.now) c.args.name.now c.get_str.result c.get_str.ensures c.in_err-word.was) in
    on_none c.from_residual.result ((n : ℕ) → n < 2 ^ 64 → number_in c.args.name.now (rows_of (found_of c.args.matches.now)) ≢ Some n) (λ n. number_in c.args.name.now (rows_of (found_of c.args.matches.now)) ≡ Some n) c.from_residual.ensures
    (λ n small is. let e = sym none ∙ is in cc)

pub returns : goal.returns
returns c =
    let e = ap (option_and_then number_of) (word_some (found_of c.args.matches.now) c.args.name.now c.get_str.result c.in_ok-word.word c.get_str.ensures c.in_ok-word.was)
    ∙ ap number_of (sym c.as_bytes.ensures.value) in
    subst (λ (o : Option ℕ). MatchOption c.number.result ((n : ℕ) → n < 2 ^ 64 → o ≢ Some n) (λ n. o ≡ Some n)) (sym e) c.number.ensures
