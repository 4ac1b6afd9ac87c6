use Rattle.std.proofs.Common.{refl, sym, ap, ◌∙◌}
use Rattle.mdb_model.specs.Script.{past_blanks}
use Rattle.dbm_script.proofs.Recovered.{no_until}
use Rattle.dbm_script.proofs.recovering.until_option.Goals as goal

pub returns-in_default : goal.returns-in_default
returns-in_default c = (
  refl,
  no_until c.args.rest.now c.cut.result.1.now (sym c.cut.ensures.text ∙ c.if-not-is_word.ensures) c.cut.ensures.rest (λ n i f. c.in_default.ensures.1 n i f.0),
)

pub returns-in_default-end : goal.returns-in_default-end
returns-in_default-end c = (
  refl,
  no_until c.args.rest.now c.cut.result.1.now (sym c.cut.ensures.text ∙ c.if-not-is_word.ensures) c.cut.ensures.rest
      (λ n i f. c.in_default-end.ensures.1 (ap past_blanks c.in-Ok.ensures.2 ∙ f.1)),
)
