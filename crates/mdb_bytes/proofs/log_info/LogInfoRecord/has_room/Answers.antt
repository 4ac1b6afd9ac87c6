use Rattle.std.proofs.Common.{◌∙◌, ap}
use Rattle.mdb_bytes.specs.Fields.{fields_fit}
use Rattle.mdb_bytes.proofs.log_info.LogInfoRecord.has_room.Goals as goal

pub returns : goal.returns
returns c = c.parts_fit.ensures ∙ ap fields_fit c.parts.ensures
