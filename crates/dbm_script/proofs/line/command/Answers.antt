use Rattle.std.proofs.Common.{[], codes, refl}
use Rattle.dbm_script.proofs.Fronts.{step_word, step_single}
use Rattle.dbm_script.proofs.line.command.Goals as goal

pub returns-in-Some : goal.returns-in-Some
returns-in-Some c =
    step_single c.in-Some.command c.cut.result.0.now c.args.line.now c.cut.result.1.now c.last.result
    c.cut.ensures.text c.cut.ensures.rest c.in-Some.ensures.1 c.last.ensures

pub returns-then-is_word : goal.returns-then-is_word
returns-then-is_word c =
    step_word [] (codes "s") c.cut.result.0.now c.args.line.now c.cut.result.1.now c.session_line.result refl
    c.cut.ensures.text c.cut.ensures.rest c.if-is_word.ensures c.session_line.ensures

pub returns-then-is_word-2 : goal.returns-then-is_word-2
returns-then-is_word-2 c =
    step_word [] (codes "task") c.cut.result.0.now c.args.line.now c.cut.result.1.now c.task_line.result refl
    c.cut.ensures.text c.cut.ensures.rest c.if-is_word-2.ensures c.task_line.ensures

pub returns-then-is_word-3 : goal.returns-then-is_word-3
returns-then-is_word-3 c =
    step_word [] (codes "turn") c.cut.result.0.now c.args.line.now c.cut.result.1.now c.turn_line.result refl
    c.cut.ensures.text c.cut.ensures.rest c.if-is_word-3.ensures c.turn_line.ensures

pub returns-then-is_word-4 : goal.returns-then-is_word-4
returns-then-is_word-4 c =
    step_word [] (codes "medium_put") c.cut.result.0.now c.args.line.now c.cut.result.1.now c.medium_put.result refl
    c.cut.ensures.text c.cut.ensures.rest c.if-is_word-4.ensures c.medium_put.ensures

pub returns-then-is_word-5 : goal.returns-then-is_word-5
returns-then-is_word-5 c =
    step_word [] (codes "medium_delete") c.cut.result.0.now c.args.line.now c.cut.result.1.now c.medium_delete.result refl
    c.cut.ensures.text c.cut.ensures.rest c.if-is_word-5.ensures c.medium_delete.ensures

pub returns-then-is_word-6 : goal.returns-then-is_word-6
returns-then-is_word-6 c =
    step_word [] (codes "backup_start") c.cut.result.0.now c.args.line.now c.cut.result.1.now c.backup_start.result refl
    c.cut.ensures.text c.cut.ensures.rest c.if-is_word-6.ensures c.backup_start.ensures

pub returns-then-is_word-7 : goal.returns-then-is_word-7
returns-then-is_word-7 c =
    step_word [] (codes "recover") c.cut.result.0.now c.args.line.now c.cut.result.1.now c.recover.result refl
    c.cut.ensures.text c.cut.ensures.rest c.if-is_word-7.ensures c.recover.ensures

pub returns-then-is_word-8 : goal.returns-then-is_word-8
returns-then-is_word-8 c =
    step_word [] (codes "snapshot_drop") c.cut.result.0.now c.args.line.now c.cut.result.1.now c.snapshot_drop.result refl
    c.cut.ensures.text c.cut.ensures.rest c.if-is_word-8.ensures c.snapshot_drop.ensures

pub returns-then-is_word-9 : goal.returns-then-is_word-9
returns-then-is_word-9 c =
    step_word [] (codes "snapshot_revert") c.cut.result.0.now c.args.line.now c.cut.result.1.now c.snapshot_revert.result refl
    c.cut.ensures.text c.cut.ensures.rest c.if-is_word-9.ensures c.snapshot_revert.ensures
