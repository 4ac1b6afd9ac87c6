use Rattle.std.proofs.Common.{refl, sym, ◌∙◌, rules, tests, length}
use Rattle.std.proofs.lemmas.Bool.{le-leb}
use Rattle.std.proofs.lemmas.Iterator.{YieldsList-from_slice}
use Rattle.std.proofs.lemmas.Iterator.Search.{all_from_yields_List}
use Rattle.mdb_model.specs.Script.{is_plain}
use Rattle.dbm_script.proofs.byte_strings.quoted.Goals as goal

pub invariant_of-result : goal.invariant_of-result
invariant_of-result c =
    let all = all_from_yields_List is_plain _ _ c.all.result c.all.ensures.ran (YieldsList-from_slice c.args.text.now cc) (λ x b q k. search (rules, tests)) in
    (sym all ∙ c.if-not-all.false, c.if-text-gt1500.false)

pub returns : goal.returns
returns c =
    let all = all_from_yields_List is_plain _ _ c.all.result c.all.ensures.ran (YieldsList-from_slice c.args.text.now cc) (λ x b q k. search (rules, tests)) in
    (sym all ∙ c.if-not-all.false, refl, le-leb (length c.args.text.now) 1500 c.if-text-gt1500.false)
