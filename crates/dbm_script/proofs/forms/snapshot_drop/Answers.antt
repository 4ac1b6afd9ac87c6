use Rattle.std.proofs.Common.{[], ◌∷◌, codes}
use Rattle.mdb_model.specs.Script.{Word}
use Rattle.dbm_script.proofs.Fronts.{step_number}
use Rattle.dbm_script.proofs.forms.snapshot_drop.Goals as goal

pub returns : goal.returns
returns c =
    step_number (Word (codes "snapshot_drop") ∷ []) c.in_ok-number.number c.args.rest.now c.in_ok-number.rest.now c.last.result
    c.in_ok-number.ensures.1 c.in_ok-number.ensures.2 c.last.ensures
