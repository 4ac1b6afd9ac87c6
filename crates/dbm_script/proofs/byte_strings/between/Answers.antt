use Rattle.std.proofs.Common.{[], ◌∷◌, ◌++◌, Some, None}
use Rattle.std.proofs.lemmas.Bool.Decides.{Decides-eqb}
use Rattle.std.proofs.lemmas.Slice.Eq.{strip_prefix_is, strip_suffix_is}
use Rattle.dbm_script.proofs.Spelled.{between_cases}
use Rattle.dbm_script.proofs.byte_strings.between.Goals as goal

pub returns-in_default : goal.returns-in_default
returns-in_default c = λ inner e.
    strip_prefix_is Decides-eqb c.args.text.now c.args.front.now None c.in_default.ensures.cases (inner ++ 39 ∷ []) e

pub returns : goal.returns
returns c =
    between_cases c.args.text.now c.args.front.now c.in-Some.rest.now (39 ∷ []) c.strip_suffix.result
    (strip_prefix_is Decides-eqb c.args.text.now c.args.front.now (Some c.in-Some.rest) c.in-Some.ensures.cases)
    (strip_suffix_is Decides-eqb c.in-Some.rest.now (39 ∷ []) c.strip_suffix.result c.strip_suffix.ensures.cases)
