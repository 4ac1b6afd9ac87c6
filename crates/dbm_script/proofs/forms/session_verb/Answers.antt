use Rattle.std.proofs.Common.{[], ◌∷◌, codes, refl}
use Rattle.mdb_model.specs.Script.{Word, Number}
use Rattle.dbm_script.proofs.Fronts.{step_word}
use Rattle.dbm_script.proofs.forms.session_verb.Goals as goal

pub returns-then-is_word : goal.returns-then-is_word
returns-then-is_word c =
    step_word (Word (codes "s") ∷ Number c.args.session.0 ∷ []) (codes "get") c.cut.result.0.now c.args.rest.now c.cut.result.1.now c.get_row.result refl
    c.cut.ensures.text c.cut.ensures.rest c.if-is_word.ensures c.get_row.ensures

pub returns-then-is_word-2 : goal.returns-then-is_word-2
returns-then-is_word-2 c =
    step_word (Word (codes "s") ∷ Number c.args.session.0 ∷ []) (codes "put") c.cut.result.0.now c.args.rest.now c.cut.result.1.now c.put_row.result refl
    c.cut.ensures.text c.cut.ensures.rest c.if-is_word-2.ensures c.put_row.ensures

pub returns-then-is_word-3 : goal.returns-then-is_word-3
returns-then-is_word-3 c =
    step_word (Word (codes "s") ∷ Number c.args.session.0 ∷ []) (codes "del") c.cut.result.0.now c.args.rest.now c.cut.result.1.now c.del_row.result refl
    c.cut.ensures.text c.cut.ensures.rest c.if-is_word-3.ensures c.del_row.ensures

pub returns-then-is_word-4 : goal.returns-then-is_word-4
returns-then-is_word-4 c =
    step_word (Word (codes "s") ∷ Number c.args.session.0 ∷ []) (codes "scan") c.cut.result.0.now c.args.rest.now c.cut.result.1.now c.scan_table.result refl
    c.cut.ensures.text c.cut.ensures.rest c.if-is_word-4.ensures c.scan_table.ensures

pub returns-then-is_word-5 : goal.returns-then-is_word-5
returns-then-is_word-5 c =
    step_word (Word (codes "s") ∷ Number c.args.session.0 ∷ []) (codes "commit") c.cut.result.0.now c.args.rest.now c.cut.result.1.now c.last.result refl
    c.cut.ensures.text c.cut.ensures.rest c.if-is_word-5.ensures c.last.ensures

pub returns-then-is_word-6 : goal.returns-then-is_word-6
returns-then-is_word-6 c =
    step_word (Word (codes "s") ∷ Number c.args.session.0 ∷ []) (codes "rollback") c.cut.result.0.now c.args.rest.now c.cut.result.1.now c.last-then-is_word-6.result refl
    c.cut.ensures.text c.cut.ensures.rest c.if-is_word-6.ensures c.last-then-is_word-6.ensures
