use Rattle.std.proofs.Common.{[], ◌∷◌, codes}
use Rattle.mdb_model.specs.Script.{Word}
use Rattle.dbm_script.proofs.Fronts.{step_number}
use Rattle.dbm_script.proofs.forms.session_line.Goals as goal

pub returns : goal.returns
returns c =
    step_number (Word (codes "s") ∷ []) c.in_ok-session.session.0 c.args.rest.now c.in_ok-session.rest.now c.session_verb.result
    c.in_ok-session.ensures.1 c.in_ok-session.ensures.2 c.session_verb.ensures
