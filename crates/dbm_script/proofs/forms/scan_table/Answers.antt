use Rattle.std.proofs.Common.{[], ◌∷◌, codes}
use Rattle.mdb_model.specs.Script.{Word, Number}
use Rattle.dbm_script.proofs.Fronts.{step_number}
use Rattle.dbm_script.proofs.forms.scan_table.Goals as goal

pub returns : goal.returns
returns c =
    step_number (Word (codes "s") ∷ Number c.args.session.0 ∷ Word (codes "scan") ∷ []) c.in_ok-table.table.0 c.args.rest.now c.in_ok-table.rest.now c.last.result
    c.in_ok-table.ensures.1 c.in_ok-table.ensures.2 c.last.ensures
