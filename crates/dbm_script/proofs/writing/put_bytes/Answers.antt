use Rattle.std.proofs.Common.{List, ℕ, [], ◌∷◌, ◌++◌, sym, ap, ◌∙◌, rules, tests}
use Rattle.std.proofs.lemmas.Iterator.{YieldsList-from_slice}
use Rattle.std.proofs.lemmas.Iterator.Search.{all_from_yields_List}
use Rattle.mdb_model.specs.Script.{is_plain}
use Rattle.dbm_script.proofs.Printed.{shown_plain, three}
use Rattle.dbm_script.proofs.writing.put_bytes.Goals as goal

pub returns-clause-text : goal.returns-clause-text
returns-clause-text c =
    let bytes = c.args.bytes.now in
    let all = all_from_yields_List is_plain _ _ c.all.result c.all.ensures.ran (YieldsList-from_slice bytes cc) (λ x b q k. search (rules, tests)) in
    three c.args.into.now.items (39 ∷ []) bytes (39 ∷ []) c.put-2.new.into.items c.put-3.new.into.items c.put-4.new.into.items c.put-2.ensures c.put-3.ensures c.put-4.ensures
    ∙ ap (λ (t : List ℕ). c.args.into.now.items ++ t) (sym (shown_plain bytes (sym all ∙ c.if-not-all.false)))
