use Rattle.std.proofs.Common.{◌≡◌, ◌∙◌, inl, inr, sym, ap, subst, map}
use Rattle.std.specs.String.{string_bytes}
use Rattle.clap.specs.Words.{App, Kinds, IsAmong, kind_of, app_of, fault_of, is_simple, is_simple_and_free, subcommand_of}
use Rattle.call_words.specs.Words.{command_line as line_of_words}
use Rattle.call_words.proofs.WordLaws.{line_is_simple, line_is_free}
use Rattle.call_words.proofs.words.read_matches.Goals as goal

pub returns-in-Ok-try_get_matches_from : goal.returns-in-Ok-try_get_matches_from
returns-in-Ok-try_get_matches_from c =
    let words = map string_bytes c.args.words.now in
    let are : app_of c.in-Ok.command ≡ line_of_words = c.in-Ok.ensures in (
      ap (λ (a : App). fault_of a words) (sym are) ∙ c.in-Ok-try_get_matches_from.ensures.kinds (ap is_simple_and_free are ∙ line_is_free),
      (c.in-Ok-try_get_matches_from.ensures.matches (ap is_simple are ∙ line_is_simple)).1 ∙ ap (λ (a : App). subcommand_of a words) are,
    )

pub returns : goal.returns
returns c is none =
    let words = map string_bytes c.args.words.now in
    let are : app_of c.in-Ok.command ≡ line_of_words = c.in-Ok.ensures in
    elim (c.in-Err.ensures.kinds (ap is_simple_and_free are ∙ line_is_free)) [
      | inl starved ↦ c.in_default-kind.not-OutOfMemory (c.kind.ensures ∙ starved)
      | inr among ↦ subst (λ (ks : Kinds). IsAmong (kind_of c.in-Err.error) ks) (ap (λ (a : App). fault_of a words) are ∙ none) among
    ]
