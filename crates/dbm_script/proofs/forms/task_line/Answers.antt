use Rattle.std.proofs.Common.{[], ◌∷◌, codes, refl}
use Rattle.mdb_model.specs.Script.{Word}
use Rattle.dbm_script.proofs.Fronts.{step_word}
use Rattle.dbm_script.proofs.forms.task_line.Goals as goal

pub returns-then-is_word : goal.returns-then-is_word
returns-then-is_word c =
    step_word (Word (codes "task") ∷ []) (codes "savepoint") c.cut.result.0.now c.args.rest.now c.cut.result.1.now c.last.result refl
    c.cut.ensures.text c.cut.ensures.rest c.if-is_word.ensures c.last.ensures

pub returns-then-is_word-2 : goal.returns-then-is_word-2
returns-then-is_word-2 c =
    step_word (Word (codes "task") ∷ []) (codes "backup") c.cut.result.0.now c.args.rest.now c.cut.result.1.now c.task_backup.result refl
    c.cut.ensures.text c.cut.ensures.rest c.if-is_word-2.ensures c.task_backup.ensures
