use Rattle.std.proofs.Common.{[], ◌∷◌, codes}
use Rattle.mdb_model.specs.Script.{Word}
use Rattle.dbm_script.proofs.Fronts.{step_number}
use Rattle.dbm_script.proofs.forms.medium_delete.Goals as goal

pub returns : goal.returns
returns c =
    step_number (Word (codes "medium_delete") ∷ []) c.in_ok-medium.medium c.args.rest.now c.in_ok-medium.rest.now c.last.result
    c.in_ok-medium.ensures.1 c.in_ok-medium.ensures.2 c.last.ensures
