use Rattle.mdb_model.specs.Script.{parts_of}
use Rattle.dbm_script.proofs.Fronts.{follows_itself}
use Rattle.dbm_script.proofs.forms.last.Goals as goal

pub returns : goal.returns
returns c = (c.requires.0, follows_itself (parts_of c.args.command) c.args.rest.now c.in_ok-end.ensures)
