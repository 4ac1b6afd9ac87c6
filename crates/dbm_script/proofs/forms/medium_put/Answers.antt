use Rattle.std.proofs.Common.{[], ◌∷◌, codes}
use Rattle.mdb_model.specs.Script.{Word, Number}
use Rattle.dbm_script.proofs.Fronts.{step_number}
use Rattle.dbm_script.proofs.forms.medium_put.Goals as goal

pub returns : goal.returns
returns c =
    step_number (Word (codes "medium_put") ∷ []) c.in_ok-medium.medium c.args.rest.now c.in_ok-medium.rest.now c.last.result
    c.in_ok-medium.ensures.1 c.in_ok-medium.ensures.2
    (step_number (Word (codes "medium_put") ∷ Number c.in_ok-medium.medium ∷ []) c.in_ok-pages.pages c.in_ok-medium.rest.now c.in_ok-pages.rest.now c.last.result
    c.in_ok-pages.ensures.1 c.in_ok-pages.ensures.2 c.last.ensures)
