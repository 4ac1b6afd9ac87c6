use Rattle.std.proofs.Common.{[], ◌∷◌, codes}
use Rattle.mdb_model.specs.Script.{Word, Number}
use Rattle.dbm_script.proofs.Fronts.{step_number, step_backup}
use Rattle.dbm_script.proofs.forms.backup_start.Goals as goal

pub returns : goal.returns
returns c =
    step_number (Word (codes "backup_start") ∷ []) c.in_ok-medium.medium c.args.rest.now c.in_ok-medium.rest.now c.last.result
    c.in_ok-medium.ensures.1 c.in_ok-medium.ensures.2
    (step_backup (Word (codes "backup_start") ∷ Number c.in_ok-medium.medium ∷ []) c.in_ok-kind.kind c.in_ok-medium.rest.now c.in_ok-kind.rest.now c.last.result
    c.in_ok-kind.ensures.0 c.in_ok-kind.ensures.1 c.last.ensures)
